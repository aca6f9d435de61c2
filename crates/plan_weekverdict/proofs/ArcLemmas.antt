-- Broken arcs: the first one among some, and that a plan has none.
use Rattle.std.proofs.Common.{◌≡◌, ℕ, ◌+◌, ◌≤◌, ◌<◌, ◌⊎◌, inl, inr, List, [], ◌∷◌, ◌++◌, Option, Some, None, Contains, length, get_or, take, refl, sym, ap, subst, arith}
use Rattle.std.specs.List.{All}
use Rattle.std.specs.Option.{IfSome, IfNone}
use Rattle.std.proofs.lemmas.Bool.{cases_lt}
use Rattle.std.proofs.lemmas.List.{take_more, take_all}
use Rattle.std.proofs.lemmas.List.Elements.{All-contains, Contains-get_or, Contains-append_left, Contains-push, Contains-push_cases}
use Rattle.plan_sgs.specs.Verdicts.{IsNoLater}
use Rattle.plan_kernel.specs.declared.input.Arc.{Arc}
use Rattle.plan_week.specs.declared.week.Week.{Week}
use Rattle.plan_week.specs.Weeks.{state_of, is_open, end_of, KeepsArc}
use Rattle.plan_weekverdict.specs.Verdicts.{BreaksArc, HasBrokenIn, HasBroken, HasNoBroken, IsFirstIn, IsFirstBroken, IsFoundAmong, IsEarlierPair}

-- kept arcs aren't broken
pub kept_none : (week : Week) (starts : List ℕ) → All (KeepsArc week starts) week.arcs.items → HasNoBroken week starts
kept_none week starts kept i j (arc, inside, breaks, to, from) =
    let keeps : KeepsArc week starts arc = All-contains (KeepsArc week starts) week.arcs.items arc kept inside in
    omega (arith, keeps breaks.0, breaks.1)

-- arcs that aren't broken are kept
pub none_kept : (week : Week) (starts : List ℕ) → HasNoBroken week starts → All (KeepsArc week starts) week.arcs.items
none_kept week starts none k d inside on =
    let arc = get_or week.arcs.items k d in
    elim (cases_lt (get_or starts arc.to 0) (end_of week starts arc.from + arc.lag)) [
      | inl early ↦ absurd (none arc.to arc.from (arc, Contains-get_or week.arcs.items k d inside, (on, early), refl, refl))
      | inr kept ↦ kept
    ]

-- the order of pairs
no_later_trans : (i j h k x y : ℕ) → IsNoLater i j h k → IsNoLater h k x y → IsNoLater i j x y
no_later_trans i j h k x y (inl a) (inl b) = inl (omega (arith, a, b))
no_later_trans i j h k x y (inl a) (inr b) = inl (omega (arith, a, b.0))
no_later_trans i j h k x y (inr a) (inl b) = inl (omega (arith, a.0, b))
no_later_trans i j h k x y (inr a) (inr b) = inr (omega (arith, a.0, b.0), omega (arith, a.1, b.1))

-- a broken arc among some and one more
broken_split : (week : Week) (starts : List ℕ) (arcs : List Arc) (arc : Arc) (i j : ℕ) → HasBrokenIn week starts (arcs ++ arc ∷ []) i j
    → HasBrokenIn week starts arcs i j ⊎ (BreaksArc week starts arc × (arc.to ≡ i) × (arc.from ≡ j))
broken_split week starts arcs arc i j (other, inside, breaks, to, from) = elim (Contains-push_cases arcs arc other inside) [
  | inl before ↦ inl (other, before, breaks, to, from)
  | inr same ↦ inr (subst (λ (a : Arc). BreaksArc week starts a × (a.to ≡ i) × (a.from ≡ j)) (sym same) (breaks, to, from))
]

broken_still : (week : Week) (starts : List ℕ) (arcs : List Arc) (arc : Arc) (i j : ℕ) → HasBrokenIn week starts arcs i j → HasBrokenIn week starts (arcs ++ arc ∷ []) i j
broken_still week starts arcs arc i j (other, inside, breaks, to, from) = (other, Contains-append_left arcs (arc ∷ []) other inside, breaks, to, from)

-- one arc more that isn't broken
pub found_kept : (week : Week) (starts : List ℕ) (arcs : List Arc) (arc : Arc) (found : Option (ℕ × ℕ)) → IsFoundAmong week starts arcs found → (BreaksArc week starts arc → ⊥)
    → IsFoundAmong week starts (arcs ++ arc ∷ []) found
found_kept week starts arcs arc None none keeps = λ i j has. elim (broken_split week starts arcs arc i j has) [
  | inl before ↦ none i j before
  | inr last ↦ keeps last.0
]
found_kept week starts arcs arc (Some first) found keeps = record {
  here = broken_still week starts arcs arc first.0 first.1 found.here;
  first = λ h k has. elim (broken_split week starts arcs arc h k has) [
    | inl before ↦ found.first h k before
    | inr last ↦ absurd (keeps last.0)
  ];
}

-- an order with the last arc
last_order : (i j : ℕ) (arc : Arc) (h k : ℕ) → IsNoLater i j arc.to arc.from → arc.to ≡ h → arc.from ≡ k → IsNoLater i j h k
last_order i j arc h k order to from =
    subst (λ (x : ℕ). IsNoLater i j x k) to (subst (λ (y : ℕ). IsNoLater i j arc.to y) from order)

itself : (arc : Arc) → IsNoLater arc.to arc.from arc.to arc.from
itself arc = inr (refl, omega arith)

-- one broken arc more that isn't before the first one
stays : (week : Week) (starts : List ℕ) (arcs : List Arc) (arc : Arc) (i j : ℕ) → IsFirstIn week starts arcs i j → IsNoLater i j arc.to arc.from
    → IsFirstIn week starts (arcs ++ arc ∷ []) i j
stays week starts arcs arc i j found order = record {
  here = broken_still week starts arcs arc i j found.here;
  first = λ h k has. elim (broken_split week starts arcs arc h k has) [
    | inl old ↦ found.first h k old
    | inr last ↦ last_order i j arc h k order last.1 last.2
  ];
}

-- one that is before it
replaced : (week : Week) (starts : List ℕ) (arcs : List Arc) (arc : Arc) (i j : ℕ) → IsFirstIn week starts arcs i j → BreaksArc week starts arc
    → IsNoLater arc.to arc.from i j → IsFirstIn week starts (arcs ++ arc ∷ []) arc.to arc.from
replaced week starts arcs arc i j found breaks order = record {
  here = (arc, Contains-push arcs arc, breaks, refl, refl);
  first = λ h k has. elim (broken_split week starts arcs arc h k has) [
    | inl old ↦ no_later_trans arc.to arc.from i j h k order (found.first h k old)
    | inr last ↦ last_order arc.to arc.from arc h k (itself arc) last.1 last.2
  ];
}

-- the only one
only : (week : Week) (starts : List ℕ) (arcs : List Arc) (arc : Arc) → ((i j : ℕ) → HasBrokenIn week starts arcs i j → ⊥) → BreaksArc week starts arc
    → IsFirstIn week starts (arcs ++ arc ∷ []) arc.to arc.from
only week starts arcs arc none breaks = record {
  here = (arc, Contains-push arcs arc, breaks, refl, refl);
  first = λ h k has. elim (broken_split week starts arcs arc h k has) [
    | inl old ↦ absurd (none h k old)
    | inr last ↦ last_order arc.to arc.from arc h k (itself arc) last.1 last.2
  ];
}

-- a result by its pair
by_pair : (week : Week) (starts : List ℕ) (arcs : List Arc) (pair result : ℕ × ℕ) → result ≡ pair → IsFirstIn week starts arcs pair.0 pair.1
    → IsFirstIn week starts arcs result.0 result.1
by_pair week starts arcs pair result is first = subst (λ (r : ℕ × ℕ). IsFirstIn week starts arcs r.0 r.1) (sym is) first

-- one broken arc more
pub found_more : (week : Week) (starts : List ℕ) (arcs : List Arc) (arc : Arc) (found : Option (ℕ × ℕ)) (result : ℕ × ℕ) → IsFoundAmong week starts arcs found → BreaksArc week starts arc
    → IsEarlierPair found (arc.to, arc.from) result → IsFoundAmong week starts (arcs ++ arc ∷ []) (Some result)
found_more week starts arcs arc None result none breaks is =
    by_pair week starts (arcs ++ arc ∷ []) (arc.to, arc.from) result is (only week starts arcs arc none breaks)
found_more week starts arcs arc (Some first) result found breaks is = elim (cases_lt first.0 arc.to) [
  | inl after ↦ by_pair week starts (arcs ++ arc ∷ []) first result (is.0 after) (stays week starts arcs arc first.0 first.1 found (inl after))
  | inr not_after ↦ elim (cases_lt arc.to first.0) [
    | inl before ↦ by_pair week starts (arcs ++ arc ∷ []) (arc.to, arc.from) result (is.1 before) (replaced week starts arcs arc first.0 first.1 found breaks (inl before))
    | inr not_before ↦
        let same : arc.to ≡ first.0 = omega (arith, not_after, not_before) in
        elim (cases_lt arc.from first.1) [
          | inl less ↦ by_pair week starts (arcs ++ arc ∷ []) (arc.to, arc.from) result (is.2 same less)
              (replaced week starts arcs arc first.0 first.1 found breaks (inr (same, omega (arith, less))))
          | inr most ↦ by_pair week starts (arcs ++ arc ∷ []) first result (is.3 same most) (stays week starts arcs arc first.0 first.1 found (inr (sym same, most)))
        ]
  ]
]

-- without an arc there is no broken one
pub found_first : (week : Week) (starts : List ℕ) → IsFoundAmong week starts [] None
found_first week starts i j (arc, inside, breaks, to, from) = omega (arith, inside.1)

-- the result of the search for the first broken arc
pub found_broken : (week : Week) (starts : List ℕ) (found : Option (ℕ × ℕ)) → IsFoundAmong week starts week.arcs.items found → IfSome found (λ pair. IsFirstBroken week starts pair.0 pair.1)
found_broken week starts None found = tt
found_broken week starts (Some pair) found = found

pub found_unbroken : (week : Week) (starts : List ℕ) (found : Option (ℕ × ℕ)) → IsFoundAmong week starts week.arcs.items found → IfNone found (HasNoBroken week starts)
found_unbroken week starts None found = found
found_unbroken week starts (Some pair) found = tt

-- the first broken arc of one arc more
pub found_step : (week : Week) (starts : List ℕ) (items arcs : List Arc) (i : ℕ) (d : Arc) (found result : Option (ℕ × ℕ)) → items ≡ arcs → i < length items
    → IsFoundAmong week starts (take i arcs) found
    → ((xs : List Arc) → IsFoundAmong week starts xs found → IsFoundAmong week starts (xs ++ get_or items i d ∷ []) result)
    → IsFoundAmong week starts (take (i + 1) arcs) result
found_step week starts items arcs i d found result same inside before step =
    subst (λ (xs : List Arc). IsFoundAmong week starts (take (i + 1) xs) result) same
    (subst (λ (xs : List Arc). IsFoundAmong week starts xs result) (sym (take_more items i d inside))
    (step (take i items) (subst (λ (xs : List Arc). IsFoundAmong week starts (take i xs) found) (sym same) before)))

-- the first broken arc of all arcs
pub found_all : (week : Week) (starts : List ℕ) (arcs : List Arc) (i : ℕ) (found : Option (ℕ × ℕ)) → length arcs ≤ i
    → IsFoundAmong week starts (take i arcs) found → IsFoundAmong week starts arcs found
found_all week starts arcs i found all found_so_far = subst (λ (xs : List Arc). IsFoundAmong week starts xs found) (take_all i arcs all) found_so_far
