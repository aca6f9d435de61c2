-- Bounds of a scheduling problem from the limits of its project, and its links from the arcs of the
-- network.
use Rattle.std.proofs.Common.{ℕ, zero, suc, ◌≡◌, ◌+◌, ◌-◌, ◌≤◌, ◌<◌, ◌⊎◌, inl, inr, List, length, get_or, map, take, sum, Option, refl, sym, ◌∙◌, ap, subst, arith}
use Rattle.std.specs.List.{All}
use Rattle.std.proofs.lemmas.List.{length-map, get_or-map, get_or_past, take_more, take_all}
use Rattle.std.proofs.lemmas.List.Elements.{All-map, Contains-get_or}
use Rattle.std.proofs.lemmas.List.Sums.{sum_by_push}
use Rattle.std.proofs.lemmas.Bool.{cases_lt}
use Rattle.plan_net.specs.Network.{count_of, IsArc, IsActivity, lag_of}
use Rattle.plan_net.specs.Limits.{IsSound}
use Rattle.plan_net.proofs.RowLemmas.{arc_ends}
use Rattle.plan_net.proofs.LagLemmas.{lag_of-limit}
use Rattle.plan_sgs.specs.Problem.{Link, count, total}
use Rattle.plan_sgs.specs.Serial.{release, end_of}
use Rattle.plan_sgs.specs.Instances.{Planned, IsInstance, problem_of, link_of}
use Rattle.plan_sgs.proofs.Bounds.{IsBounded}
use Rattle.plan_sgs.proofs.PlacingLemmas.{release_above, release_least}

-- a fact of each arc's link is a fact of all links
pub links_from : (i : Planned) (P : Link → Type 0) → ((a b : ℕ) → IsArc i.project.network a b → P (link_of i.project.network (a, b))) → All P (problem_of i).links
unfolding problem_of
links_from i P each = All-map P (link_of i.project.network) i.project.network.arcs
    (λ k d within. each (get_or i.project.network.arcs k d).0 (get_or i.project.network.arcs k d).1
    (Contains-get_or i.project.network.arcs k d within))

-- a fact of all links is a fact of each arc's
pub link_at : (i : Planned) (P : Link → Type 0) → All P (problem_of i).links → (a b : ℕ) → IsArc i.project.network a b → P (link_of i.project.network (a, b))
unfolding problem_of
link_at i P all a b (k, within, is) =
    let here : get_or (map (link_of i.project.network) i.project.network.arcs) k (link_of i.project.network (a, b)) ≡ link_of i.project.network (a, b) =
    get_or-map (link_of i.project.network) i.project.network.arcs k (a, b) (link_of i.project.network (a, b)) within ∙ ap (link_of i.project.network) is in
    subst P here (all k (link_of i.project.network (a, b)) (omega (arith, within, length-map i.project.network.arcs (link_of i.project.network))))

-- the sum of all durations
total_take : (xs : List ℕ) (n : ℕ) → n ≤ length xs → total n (λ i. get_or xs i 0) ≡ sum (take n xs)
total_take xs zero within = refl
total_take xs (suc n) within =
    let next : n + 1 ≡ suc n = omega arith in
    let pushed : sum (take (suc n) xs) ≡ sum (take n xs) + get_or xs n 0 =
    ap (λ (k : ℕ). sum (take k xs)) (sym next) ∙ ap sum (take_more xs n 0 (omega (arith, within)))
    ∙ sum_by_push (λ y. y) (take n xs) (get_or xs n 0) in
    omega (arith, pushed, total_take xs n (omega (arith, within)))

pub bounded : (i : Planned) → IsInstance i → IsBounded (problem_of i)
unfolding problem_of
bounded i instance = record {
  inside = links_from i (λ a. (a.from < count (problem_of i)) × (a.to < count (problem_of i))) (λ a b arc.
      let ends = arc_ends i.project.network a b instance.project.network.limits arc in
      (omega (arith, ends.0), omega (arith, ends.1)));
  fit = instance.fit;
  rows = instance.project.rows;
  lags = links_from i (λ a. a.lag ≤ 10000) (λ a b arc. lag_of-limit i.project.network a b instance.project.network.limits.lags);
  lasting = λ h. elim (cases_lt h (count_of i.project.network)) [
    | inr past ↦ omega (arith, get_or_past i.project.network.durations h 0 past)
    | inl inside ↦
        let place : h + 1 - 1 ≡ h = omega arith in
        let limit : get_or i.project.network.durations (h + 1 - 1) 0 ≤ 10000 = (instance.project.network.limits.durations (h + 1) (omega arith, omega (arith, inside))).0 in
        omega (arith, limit, ap (λ (x : ℕ). get_or i.project.network.durations x 0) place)
  ];
  work =
      let size = instance.project.network.limits.size in
      let whole : take (count_of i.project.network) i.project.network.durations ≡ i.project.network.durations = take_all (count_of i.project.network) i.project.network.durations (omega arith) in
      let limit : sum (take (count_of i.project.network) i.project.network.durations) ≤ 1000000 =
      (instance.project.network.limits.durations (count_of i.project.network)
      (omega (arith, size.0), omega arith)).1 in
      omega (arith, limit, total_take i.project.network.durations (count_of i.project.network) (omega arith));
  few = instance.project.network.limits.size.1;
}

-- the least start that is at least each predecessor's end plus lag, and is one of these or 0, is
-- the release
pub release_is : (i : Planned) (placed : List (Option ℕ)) (j from : ℕ) → IsSound i.project.network →
    IsActivity i.project.network j → ((h : ℕ) → IsArc i.project.network h j →
    end_of (problem_of i) placed (h - 1) + lag_of i.project.network h j ≤ from)
    → (from ≡ 0) ⊎ ((h : ℕ) × IsArc i.project.network h j × (from ≡ end_of (problem_of i) placed (h - 1) + lag_of i.project.network h j)) → from ≡ release (problem_of i) placed (j - 1)
release_is i placed j from sound activity above reached = omega (arith, low, high reached) where
  low : release (problem_of i) placed (j - 1) ≤ from
  low = release_least (problem_of i) placed (j - 1) from (links_from i (λ a. a.to ≡ j - 1 → end_of (problem_of i) placed a.from + a.lag ≤ from) (λ a b arc to.
      let ends = arc_ends i.project.network a b sound.limits arc in
      let same : b ≡ j = omega (arith, to, ends.1, activity) in
      let arc' : IsArc i.project.network a j = subst (λ (x : ℕ). IsArc i.project.network a x) same arc in
      let lag : lag_of i.project.network a b ≡ lag_of i.project.network a j = ap (lag_of i.project.network a) same in
      omega (arith, above a arc', lag)))

  high : (from ≡ 0) ⊎ ((h : ℕ) × IsArc i.project.network h j × (from ≡ end_of (problem_of i) placed (h - 1) + lag_of i.project.network h j)) → from ≤ release (problem_of i) placed (j - 1)
  high (inl none) = omega (arith, none)
  high (inr (h, arc, is)) =
      let here : end_of (problem_of i) placed (h - 1) + lag_of i.project.network h j ≤ release (problem_of i) placed (j - 1) =
      link_at i (λ a. a.to ≡ j - 1 → end_of (problem_of i) placed a.from + a.lag ≤ release (problem_of i) placed (j - 1)) (release_above (problem_of i) placed (j - 1)) h j arc refl in
      omega (arith, is, here)
