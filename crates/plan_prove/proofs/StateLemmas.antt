-- The facts of a state with a side of a pair taken, and refutations of states by those of others.
use Rattle.std.proofs.Common.{◌≡◌, ℕ, Bool, Option, Some, None, ◌+◌, ◌-◌, ◌≤◌, ◌<◌, inl, inr, List, [], ◌∷◌, ◌++◌, length, get_or, ap, sym, ◌∙◌, refl, subst, arith}
use Rattle.std.specs.List.{All}
use Rattle.std.specs.Prelude.{IfNone}
use Rattle.std.proofs.lemmas.List.{get_or_default, get_or_append_left, get_or_at, length_push}
use Rattle.std.proofs.lemmas.List.Elements.{All-push}
use Rattle.plan_prove.specs.Graphs.{time_in, KeepsApart, IsKept, NoneIsBelow}
use Rattle.plan_prove.specs.States.{GoesBefore, NotBefore, StaysAway, RaisesEnd, IsKnown, StartsFrom, Leaves, Deduces, Follows, IsRaised, KeepsSide, Holds}
use Rattle.plan_prove.specs.States.{IsRefuted, IsRoot, IsWithSide, Covers, AreRefuted, AreFirstStates}
use Rattle.plan_prove.specs.declared.graph.Pair.{Pair}
use Rattle.plan_prove.specs.declared.graph.Graph.{Graph}
use Rattle.plan_prove.specs.declared.state.Side.{Side}
use Rattle.plan_prove.specs.declared.state.Side.TheVariants.{Open, First, Second}
use Rattle.plan_prove.specs.declared.state.End.{End}
use Rattle.plan_prove.specs.declared.state.End.TheVariants.{Start, Finish}
use Rattle.plan_prove.specs.declared.state.State.{State}
use Rattle.plan_prove.specs.declared.known.Known.{Known}

-- a pair keeps the side that the state has taken
pub side_kept : (g : Graph) (limit : ℕ) (state : State) (k : ℕ) (p : Pair) (side : Side) (starts : List ℕ) → k < length g.pairs.items → p ≡ get_or g.pairs.items k p
    → get_or state.sides.items k Open ≡ side → Holds g limit state starts → KeepsSide g starts p side
side_kept g limit state k p side starts below there is h =
    subst (λ (q : Pair). KeepsSide g starts q side) (sym there) (subst (λ (v : Side). KeepsSide g starts (get_or g.pairs.items k p) v) is (h.sides k p below))

-- a side that the starts keep may be taken
pub side_taken : (g : Graph) (limit : ℕ) (old new : State) (k : ℕ) (p : Pair) (side : Side) (starts : List ℕ) → k < length g.pairs.items → p ≡ get_or g.pairs.items k p
    → IsWithSide old new k side → KeepsSide g starts p side → Holds g limit old starts → Holds g limit new starts
side_taken g limit old new k p side starts below there is keeps h = record {
  kept = h.kept;
  heads = λ x. subst (λ (xs : List ℕ). get_or xs x 0 ≤ get_or starts x 0) (sym is.heads) (h.heads x);
  tails = λ x. subst (λ (xs : List ℕ). get_or starts x 0 + get_or g.times.items x 0 + get_or xs x 0 < limit) (sym is.tails) (h.tails x);
  sides = λ j q inside. elim (is.sides j) [
    | inl same ↦ subst (λ (v : Side). KeepsSide g starts (get_or g.pairs.items j q) v) (sym same) (h.sides j q inside)
    | inr (at, taken) ↦
        let pair : get_or g.pairs.items j q ≡ p = ap (λ i. get_or g.pairs.items i q) at ∙ get_or_default g.pairs.items k q p below ∙ sym there in
        subst (λ (v : Side). KeepsSide g starts (get_or g.pairs.items j q) v) (sym taken) (subst (λ (r : Pair). KeepsSide g starts r side) (sym pair) keeps)
  ];
}

-- if one step goes before another, the head of the other and the tail of the one may be raised
pub followed : (g : Graph) (limit : ℕ) (old new : State) (x y head tail : ℕ) → GoesBefore g limit old x y
    → head ≡ get_or old.heads.items x 0 + time_in g x → tail ≡ time_in g y + get_or old.tails.items y 0
    → IsRaised old.heads.items new.heads.items y head → IsRaised old.tails.items new.tails.items x tail → new.sides.items ≡ old.sides.items → Follows g limit old new
followed g limit old new x y head tail before head_is tail_is heads tails sides starts h =
    let order : get_or starts x 0 + time_in g x ≤ get_or starts y 0 = before starts h in
    record {
      kept = h.kept;
      heads = λ z. elim (heads z) [
        | inl less ↦ omega (arith, less, h.heads z)
        | inr (at, most) ↦ omega (arith, most, head_is, order, h.heads x, ap (λ i. get_or starts i 0) at)
      ];
      tails = λ z. elim (tails z) [
        | inl less ↦ omega (arith, less, h.tails z)
        | inr (at, most) ↦ omega (arith, most, tail_is, order, h.tails y, ap (λ i. get_or starts i 0) at, ap (λ i. time_in g i) at)
      ];
      sides = λ k p inside. subst (λ (vs : List Side). KeepsSide g starts (get_or g.pairs.items k p) (get_or vs k Open)) (sym sides) (h.sides k p inside);
    }

-- if a state that follows from another is refuted, so is the other
pub none_left : (g : Graph) (limit : ℕ) (old mid new : State) (answer : Option Bool) → answer ≡ None → Follows g limit old mid → IsRefuted g limit mid → Deduces g limit old new answer
none_left g limit old mid new answer none follows refuted =
    subst (λ (o : Option Bool). Deduces g limit old new o) (sym none) (λ starts h. refuted starts (follows starts h))

-- a deduction that refutes a state that follows from another refutes the other
pub none_after : (g : Graph) (limit : ℕ) (old mid new : State) (given answer : Option Bool) → given ≡ None →
    answer ≡ None → Follows g limit old mid → Deduces g limit mid new given → Deduces g limit old new answer
none_after g limit old mid new given answer was none follows deduces =
    let refuted : IsRefuted g limit mid = subst (λ (o : Option Bool). Deduces g limit mid new o) was deduces in
    none_left g limit old mid new answer none follows refuted

-- states that cover a state cover those from which it follows
pub cover_before : (g : Graph) (limit : ℕ) (new old : List State) (state later : State) → Follows g limit state later → Covers g limit new old later → Covers g limit new old state
cover_before g limit new old state later follows cover all = let h = cover all in (h.0, λ starts holds. h.1 starts (follows starts holds))

-- the same if it is stated for no leaf
pub leaf_before : {X : Type 0} (g : Graph) (limit : ℕ) (new old : List State) (state later : State) (leaf : Option X) → Follows g limit state later
    → IfNone leaf (Covers g limit new old later) → IfNone leaf (Covers g limit new old state)
leaf_before g limit new old state later None follows cover = cover_before g limit new old state later follows cover
leaf_before g limit new old state later (Some x) follows cover = tt

-- a fact that is stated for no leaf, if there is none
pub at_none : {X : Type 0} (leaf : Option X) (P : Type 0) → leaf ≡ None → IfNone leaf P → P
at_none leaf P none said = subst (λ o. IfNone o P) none said

-- waiting states are refuted if the rest of them and the states that cover the removed one are
-- refuted
pub cover_rest : (g : Graph) (limit : ℕ) (before rest new : List State) (state : State) → before ≡ rest ++ state ∷ [] → Covers g limit new rest state
    → AreRefuted g limit new → AreRefuted g limit before
cover_rest g limit before rest new state is cover all =
    let h = cover all in
    subst (λ (xs : List State). All (IsRefuted g limit) xs) (sym is) (All-push (IsRefuted g limit) rest state h.0 h.1)

-- no state waits
pub none_wait : (g : Graph) (limit : ℕ) (states : List State) → length states ≡ 0 → AreRefuted g limit states
none_wait g limit states none k d below = absurd (omega (arith, below, none))

-- if one side of a pair can't be kept, the other is kept
pub other_side : (g : Graph) (starts : List ℕ) (k : ℕ) (p : Pair) → k < length g.pairs.items → p ≡ get_or g.pairs.items k p → IsKept g starts → KeepsApart g starts p
other_side g starts k p below there kept = subst (λ (q : Pair). KeepsApart g starts q) (sym there) (kept.pairs k p below)

-- a state is refuted if both sides of a pair are
pub both_refuted : (g : Graph) (limit : ℕ) (state forth back : State) (k : ℕ) → k < length g.pairs.items → IsWithSide state forth k First → IsWithSide state back k Second
    → IsRefuted g limit forth → IsRefuted g limit back → IsRefuted g limit state
both_refuted g limit state forth back k below first second no_forth no_back starts h =
    let none : Pair = record { first = 0; second = 0 } in
    let p : Pair = get_or g.pairs.items k none in
    let there : p ≡ get_or g.pairs.items k p = get_or_default g.pairs.items k none p below in
    elim (other_side g starts k p below there h.kept) [
      | inl before ↦ no_forth starts (side_taken g limit state forth k p First starts below there first before h)
      | inr after ↦ no_back starts (side_taken g limit state back k p Second starts below there second after h)
    ]

-- a fact of all but the last of a list, and of the last
pub all_but_last : {X : Type 0} (P : X → Type 0) (xs ys : List X) (y : X) → ys ≡ xs ++ y ∷ [] → All P ys → All P xs × P y
all_but_last P xs ys y is all =
    let both : All P (xs ++ y ∷ []) = subst (λ zs. All P zs) is all in (
      λ k d below. subst P (get_or_append_left xs (y ∷ []) d k below) (both k d (omega (arith, below, length_push xs y))),
      subst P (get_or_at xs y [] y (length xs) refl) (both (length xs) y (omega (arith, length_push xs y))),
    )

-- two states that are refuted only with a third cover it
pub two_cover : (g : Graph) (limit : ℕ) (state one other : State) (old between new : List State) → between ≡ old ++ one ∷ [] → new ≡ between ++ other ∷ []
    → (IsRefuted g limit one → IsRefuted g limit other → IsRefuted g limit state) → Covers g limit new old state
two_cover g limit state one other old between new first second both all =
    let outer = all_but_last (IsRefuted g limit) between new other second all in
    let inner = all_but_last (IsRefuted g limit) old between one first outer.0 in
    (inner.0, both inner.1 outer.1)

-- if the root is refuted, no starts are below the limit
pub root_refuted : (g : Graph) (limit : ℕ) (root : State) → IsRoot root → IsRefuted g limit root → NoneIsBelow g limit
root_refuted g limit root is refuted starts kept below = refuted starts (record {
  kept = kept;
  heads = λ x. omega (arith, is.heads x);
  tails = λ x. omega (arith, is.tails x, below x);
  sides = λ k p inside. subst (λ (v : Side). KeepsSide g starts (get_or g.pairs.items k p) v) (sym (is.sides k)) tt;
})

-- only the root waits at first
pub root_waits : (g : Graph) (states : List State) (root : State) → states ≡ [] ++ root ∷ [] → IsRoot root → AreFirstStates g states
root_waits g states root is nothing limit all = root_refuted g limit root nothing (all_but_last (IsRefuted g limit) [] states root is all).1

-- the head of a step that starts there or later may be raised
pub head_raised : (g : Graph) (limit : ℕ) (old new : State) (x head : ℕ) → StartsFrom g limit old x head
    → IsRaised old.heads.items new.heads.items x head → new.tails.items ≡ old.tails.items → new.sides.items ≡ old.sides.items → Follows g limit old new
head_raised g limit old new x head late heads tails sides starts h = record {
  kept = h.kept;
  heads = λ z. elim (heads z) [
    | inl less ↦ omega (arith, less, h.heads z)
    | inr (at, most) ↦ omega (arith, most, late starts h, ap (λ i. get_or starts i 0) at)
  ];
  tails = λ z. subst (λ (xs : List ℕ). get_or starts z 0 + get_or g.times.items z 0 + get_or xs z 0 < limit) (sym tails) (h.tails z);
  sides = λ k p inside. subst (λ (vs : List Side). KeepsSide g starts (get_or g.pairs.items k p) (get_or vs k Open)) (sym sides) (h.sides k p inside);
}

-- and the tail of a step that leaves at least this much time
pub tail_raised : (g : Graph) (limit : ℕ) (old new : State) (x tail : ℕ) → Leaves g limit old x tail
    → IsRaised old.tails.items new.tails.items x tail → new.heads.items ≡ old.heads.items → new.sides.items ≡ old.sides.items → Follows g limit old new
tail_raised g limit old new x tail leaves tails heads sides starts h = record {
  kept = h.kept;
  heads = λ z. subst (λ (xs : List ℕ). get_or xs z 0 ≤ get_or starts z 0) (sym heads) (h.heads z);
  tails = λ z. elim (tails z) [
    | inl less ↦ omega (arith, less, h.tails z)
    | inr (at, most) ↦ omega (arith, most, leaves starts h, ap (λ i. get_or starts i 0) at, ap (λ i. time_in g i) at)
  ];
  sides = λ k p inside. subst (λ (vs : List Side). KeepsSide g starts (get_or g.pairs.items k p) (get_or vs k Open)) (sym sides) (h.sides k p inside);
}

-- the head or the tail of a step that stays that far away from an end may be raised
pub end_raised : (g : Graph) (limit : ℕ) (old new : State) (end : End) (x value : ℕ) → StaysAway g limit old end x value → RaisesEnd old new end x value → Follows g limit old new
end_raised g limit old new Start x value away rises = head_raised g limit old new x value away rises.raised rises.tails rises.sides
end_raised g limit old new Finish x value away rises = tail_raised g limit old new x value away rises.raised rises.heads rises.sides

-- no step stays away from an end by the limit or more
pub end_refuted : (g : Graph) (limit : ℕ) (state : State) (end : End) (x value : ℕ) → StaysAway g limit state end x value → limit ≤ value → IsRefuted g limit state
end_refuted g limit state Start x value away great starts h = absurd (omega (arith, great, away starts h, h.tails x))
end_refuted g limit state Finish x value away great starts h = absurd (omega (arith, great, away starts h))

-- if there is no room for one step before another, it doesn't go before it
pub no_room : (g : Graph) (limit : ℕ) (state : State) (x y : ℕ) (one other : Known) → IsKnown g state x one → IsKnown g state y other
    → limit - (one.head + one.time + (other.time + other.tail)) ≤ 0 → NotBefore g limit state x y
no_room g limit state x y one other is_one is_other none starts h before =
    absurd (omega (arith, none, before, is_one.head, is_one.time, is_other.time, is_other.tail, h.heads x, h.tails y))

-- if one step of a pair doesn't go before the other, the other goes before it
pub first_goes : (g : Graph) (limit : ℕ) (state : State) (k : ℕ) (p : Pair) → k < length g.pairs.items →
    p ≡ get_or g.pairs.items k p → NotBefore g limit state p.second p.first →
    GoesBefore g limit state p.first p.second
first_goes g limit state k p below there never starts h = elim (other_side g starts k p below there h.kept) [
  | inl before ↦ before
  | inr after ↦ absurd (never starts h after)
]

pub second_goes : (g : Graph) (limit : ℕ) (state : State) (k : ℕ) (p : Pair) → k < length g.pairs.items →
    p ≡ get_or g.pairs.items k p → NotBefore g limit state p.first p.second →
    GoesBefore g limit state p.second p.first
second_goes g limit state k p below there never starts h = elim (other_side g starts k p below there h.kept) [
  | inl before ↦ absurd (never starts h before)
  | inr after ↦ after
]

-- a side that all starts of a state keep may be taken after a deduction
pub side_follows : (g : Graph) (limit : ℕ) (old mid new : State) (k : ℕ) (p : Pair) (side : Side) → k < length g.pairs.items → p ≡ get_or g.pairs.items k p
    → ((starts : List ℕ) → Holds g limit old starts → KeepsSide g starts p side) → Follows g limit old mid → IsWithSide mid new k side → Follows g limit old new
side_follows g limit old mid new k p side below there keeps follows is starts h = side_taken g limit mid new k p side starts below there is (keeps starts h) (follows starts h)
