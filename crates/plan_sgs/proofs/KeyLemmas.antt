-- Lists of keys, and the orders that are handed in.
use Rattle.std.proofs.Common.{ℕ, ◌≡◌, ◌+◌, ◌≤◌, ◌<◌, ◌↔◌, List, [], ◌∷◌, ◌++◌, length, get_or, sym, ◌∙◌, ap, subst, arith, inl, inr}
use Rattle.std.proofs.lemmas.List.{length_push, get_or_push, get_or_append_left}
use Rattle.std.proofs.lemmas.Bool.{cases_eq}
use Rattle.plan_sgs.specs.Problem.{Problem, LinksInside}
use Rattle.plan_sgs.specs.Rules.{IsNumberedList, places}
use Rattle.plan_sgs.specs.Placement.{IsTurnList}
use Rattle.plan_sgs.proofs.ListLemmas.{told_by_places, told_by_entries}

-- the list has what f gives of each number below n
pub record AreValues (f : ℕ → ℕ) (keys : List ℕ) (n : ℕ) : Type 0 where
  pub size : length keys ≡ n
  pub each : (h : ℕ) → h < n → get_or keys h 0 ≡ f h

pub values_push : (f : ℕ → ℕ) (keys after : List ℕ) (n v : ℕ) → AreValues f keys n → after ≡ keys ++ v ∷ [] → v ≡ f n → AreValues f after (n + 1)
values_push f keys after n v are pushed is = subst (λ (xs : List ℕ). AreValues f xs (n + 1)) (sym pushed) (record {
  size = length_push keys v ∙ ap (λ (k : ℕ). k + 1) are.size;
  each = λ h below. elim (cases_eq h n) [
    | inl same ↦ ap (λ (k : ℕ). get_or (keys ++ v ∷ []) k 0) same ∙ get_or_push keys v 0 n are.size ∙ is ∙ ap f (sym same)
    | inr other ↦ get_or_append_left keys (v ∷ []) 0 h (omega (arith, below, other, are.size)) ∙ are.each h (omega (arith, below, other))
  ];
})

-- a list that is valid entry by entry is valid as a whole, by numbers from 1 on
pub numbered_from : (p : Problem) (list : List ℕ) → IsTurnList p list → IsNumberedList p list
numbered_from p list (from_one, order) = (from_one, told_by_places p (places list) order)

pub turns_of : (p : Problem) (list : List ℕ) → LinksInside p → IsNumberedList p list → IsTurnList p list
turns_of p list inside (from_one, order) = (from_one, told_by_entries p (places list) inside order)

-- if keys and numbers have constant sums, the keys fall as the numbers rise
pub record MakeSum (most : ℕ) (totals keys : List ℕ) (n : ℕ) : Type 0 where
  pub size : length keys ≡ n
  pub each : (h : ℕ) → h < n → get_or keys h 0 + get_or totals h 0 ≡ most

pub sum_push : (most : ℕ) (totals keys after : List ℕ) (n v : ℕ) → MakeSum most totals keys n → after ≡ keys ++ v ∷ [] → v + get_or totals n 0 ≡ most → MakeSum most totals after (n + 1)
sum_push most totals keys after n v are pushed is = subst (λ (xs : List ℕ). MakeSum most totals xs (n + 1)) (sym pushed) (record {
  size = length_push keys v ∙ ap (λ (k : ℕ). k + 1) are.size;
  each = λ h below. elim (cases_eq h n) [
    | inl same ↦ omega (arith, is, get_or_push keys v 0 n are.size, ap (λ (k : ℕ). get_or (keys ++ v ∷ []) k 0) same, ap (λ (k : ℕ). get_or totals k 0) same)
    | inr other ↦ omega (arith, get_or_append_left keys (v ∷ []) 0 h (omega (arith, below, other, are.size)), are.each h (omega (arith, below, other)))
  ];
})

pub leaves_fall : (most : ℕ) (totals keys : List ℕ) (n : ℕ) → MakeSum most totals keys n → (i j : ℕ) → i < n → j < n → (get_or keys i 0 ≤ get_or keys j 0) ↔ (get_or totals j 0 ≤ get_or totals i 0)
leaves_fall most totals keys n are i j first second = (
  λ less. omega (arith, less, are.each i first, are.each j second),
  λ more. omega (arith, more, are.each i first, are.each j second),
)
