-- The starts after all entries of a list are placed.
use Rattle.std.proofs.Common.{ℕ, ◌≡◌, ◌≤◌, List, length, map, Option, sym, ◌∙◌, ap, subst, arith}
use Rattle.std.proofs.lemmas.List.{length-map}
use Rattle.plan_sgs.specs.Problem.{Problem, count, duration, IsActive}
use Rattle.plan_sgs.specs.Serial.{unplaced, serial, serial_from, start_or_zero}
use Rattle.plan_sgs.specs.Rules.{places}
use Rattle.plan_sgs.specs.Placement.{IsTurnList, EndsBy, AllEndBy}
use Rattle.plan_sgs.proofs.Bounds.{IsBounded}
use Rattle.plan_sgs.proofs.SerialLemmas.{serial_active}
use Rattle.plan_sgs.proofs.PlaceLemmas.{all_end}

pub record AreMade (p : Problem) (list starts : List ℕ) : Type 0 where
  pub serial : starts ≡ serial p (places list)
  pub active : IsActive p starts
  pub ends : AllEndBy p starts 6020000

pub made : (p : Problem) (list starts : List ℕ) (first placed : List (Option ℕ)) → IsBounded p →
    IsTurnList p list → first ≡ unplaced (count p) → placed ≡ serial_from p first (places list) →
    EndsBy p placed 6020000 → starts ≡ map start_or_zero placed → AreMade p list starts
unfolding serial
made p list starts first placed bounded turns none all ends are =
    let whole : placed ≡ serial_from p (unplaced (count p)) (places list) = all ∙ ap (λ (xs : List (Option ℕ)). serial_from p xs (places list)) none in
    let is : starts ≡ serial p (places list) = are ∙ ap (map start_or_zero) whole in
    let active : IsActive p starts = subst (IsActive p) (sym is) (serial_active p (places list) bounded.inside bounded.fit turns.1) in
    let size : length starts ≡ length placed = ap (λ (xs : List ℕ). length xs) are ∙ length-map placed start_or_zero in
    record {
      serial = is;
      active = active;
      ends = subst (λ (xs : List ℕ). AllEndBy p xs 6020000) (sym are)
          (all_end p placed 6020000 (omega (arith, size, active.feasible.each_started)) ends (λ i.
          let short : duration p i ≤ 10000 = bounded.lasting i in omega (arith, short)));
    }
