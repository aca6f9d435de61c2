-- Steps of one machine don't overlap, so their times are between the least head and the end by the
-- least tail.
use Rattle.std.proofs.Common.{◌≡◌, ◌∙◌, ℕ, suc, ◌+◌, ◌-◌, ◌≤◌, ◌<◌, ◌⊎◌, inl, inr, List, Vec, [], ◌∷◌, true, ◌&&◌, not, nat_le, nat_eq, length, get_or, Contains, refl, sym, subst, arith}
use Rattle.std.specs.List.{All, AllByRecursion, sum_by}
use Rattle.std.specs.declared.alloc.Global.{Global}
use Rattle.std.proofs.lemmas.List.Kept.{AllPairs-filter}
use Rattle.std.proofs.lemmas.List.Elements.{All-filter, All-contains_itself, recursion_from_All, filter_passes}
use Rattle.std.proofs.lemmas.List.Sums.{sum_by-cons}
use Rattle.std.proofs.lemmas.Bool.{cases_lt, leb-true, le-leb, not-true, not_from_false, eqb-true, eq-eqb, and_parts, and_from, false≢true, false_from_ne_true}
use Rattle.plan_shop.proofs.NumberLemmas.{InOrder, in_order_from}
use Rattle.plan_shop.proofs.Span.{IsClear, span}
use Rattle.plan_prove.specs.Graphs.{time_in, IsBefore, KeepsClique}
use Rattle.plan_prove.specs.States.{IsRefuted, StartsFrom, Leaves, StaysAway, is_other, others_from, others_of, Fill, IsBehind, IsAhead, GoesBeyond, IsClique}
use Rattle.plan_prove.specs.declared.graph.Graph.{Graph}
use Rattle.plan_prove.specs.declared.state.End.{End}
use Rattle.plan_prove.specs.declared.state.End.TheVariants.{Start, Finish}
use Rattle.plan_prove.specs.declared.state.State.{State}
use Rattle.plan_prove.specs.declared.edges.Others.{Others}

-- a step is one of the others
pub record IsOther (state : State) (others : Others) (x : ℕ) : Type 0 where
  pub another : x ≡ others.but → ⊥
  pub head : others.head ≤ get_or state.heads.items x 0
  pub tail : others.tail ≤ get_or state.tails.items x 0

pub other_parts : (state : State) (others : Others) (x : ℕ) → is_other state others x ≡ true → IsOther state others x
other_parts state others x passes =
    let unlike = not (nat_eq x others.but) in
    let late = nat_le others.head (get_or state.heads.items x 0) in
    let long = nat_le others.tail (get_or state.tails.items x 0) in
    let outer = and_parts (unlike && late) long passes in
    let inner = and_parts unlike late outer.0 in
    record {
      another = λ same. false≢true (sym (not-true (nat_eq x others.but) inner.0) ∙ eq-eqb x others.but same);
      head = leb-true others.head (get_or state.heads.items x 0) inner.1;
      tail = leb-true others.tail (get_or state.tails.items x 0) outer.1;
    }

pub other_from : (state : State) (others : Others) (x : ℕ) → IsOther state others x → is_other state others x ≡ true
other_from state others x is =
    let unlike = not (nat_eq x others.but) in
    let late = nat_le others.head (get_or state.heads.items x 0) in
    let long = nat_le others.tail (get_or state.tails.items x 0) in
    and_from (unlike && late) long
    (and_from unlike late (not_from_false (nat_eq x others.but) (false_from_ne_true (nat_eq x others.but) (λ same. is.another (eqb-true x others.but same))))
    (le-leb others.head (get_or state.heads.items x 0) is.head))
    (le-leb others.tail (get_or state.tails.items x 0) is.tail)

-- a fact of each of the others
pub each_other : (P : ℕ → Type 0) (state : State) (others : Others) (clique : Vec ℕ Global) →
    ((z : ℕ) → Contains clique.items z → is_other state others z ≡ true → P z) →
    All P (others_of state others clique.items)
each_other P state others clique each k d below =
    let zs = others_of state others clique.items in
    each (get_or zs k d)
    (All-filter (is_other state others) (Contains clique.items) clique.items (All-contains_itself clique.items) k d below)
    (filter_passes (is_other state others) clique.items k d below)

-- for two steps of a clique, one ends before the other starts
pub either_first : (g : Graph) (starts : List ℕ) (clique : Vec ℕ Global) (x y : ℕ) →
    KeepsClique g starts clique → Contains clique.items x → Contains clique.items y → (x ≡ y → ⊥) →
    IsBefore g starts x y ⊎ IsBefore g starts y x
either_first g starts clique x y kept in_x in_y unlike = elim (cases_lt x y) [
  | inl less ↦ kept.apart x y in_x in_y less
  | inr least ↦ elim (kept.apart y x in_y in_x (omega (arith, least, unlike))) [
    | inl before ↦ inr before
    | inr after ↦ inl after
  ]
]

-- the others of a clique don't overlap
others_in_order : (g : Graph) (state : State) (others : Others) (clique : Vec ℕ Global) (starts : List ℕ) → KeepsClique g starts clique
    → InOrder (IsClear (λ x. get_or starts x 0) (time_in g)) (others_of state others clique.items)
others_in_order g state others clique starts kept =
    in_order_from (IsClear (λ x. get_or starts x 0) (time_in g)) (Contains clique.items) kept.apart (others_of state others clique.items)
    (AllPairs-filter (λ x y. x < y) (is_other state others) clique.items kept.rising)
    (All-filter (is_other state others) (Contains clique.items) clique.items (All-contains_itself clique.items))

-- if the others and the left-out step all start late and end early, they don't fill the time
filled : (g : Graph) (limit start rest : ℕ) (state : State) (others : Others) (clique : Vec ℕ Global) (starts : List ℕ) → KeepsClique g starts clique → Contains clique.items others.but
    → Fill g limit state clique others start rest
    → start ≤ get_or starts others.but 0 → get_or starts others.but 0 + time_in g others.but + rest < limit
    → ((z : ℕ) → is_other state others z ≡ true → start ≤ get_or starts z 0)
    → ((z : ℕ) → is_other state others z ≡ true → get_or starts z 0 + time_in g z + rest < limit) → ⊥
filled g limit start rest state others clique starts kept there fill late early all_late all_early =
    let R = IsClear (λ x. get_or starts x 0) (time_in g) in
    let zs : List ℕ = others_of state others clique.items in
    let but : ℕ = others.but in
    let clear : All (R but) zs = each_other (R but) state others clique
    (λ z in_z passes. either_first g starts clique but z kept there in_z
    (λ same. (other_parts state others z passes).another (sym same))) in
    let order : InOrder R (but ∷ zs) = (recursion_from_All (R but) zs clear, others_in_order g state others clique starts kept) in
    let from : AllByRecursion (λ z. start ≤ get_or starts z 0) (but ∷ zs) =
    (late, recursion_from_All (λ z. start ≤ get_or starts z 0) zs (each_other (λ z. start ≤ get_or starts z 0) state others clique (λ z in_z passes. all_late z passes))) in
    let until : AllByRecursion (λ z. get_or starts z 0 + time_in g z ≤ limit - suc rest) (but ∷ zs) = (
      omega (arith, early),
      recursion_from_All (λ z. get_or starts z 0 + time_in g z ≤ limit - suc rest) zs
          (each_other (λ z. get_or starts z 0 + time_in g z ≤ limit - suc rest) state others clique (λ z in_z passes. omega (arith, all_early z passes))),
    ) in
    let all : start + sum_by (time_in g) (but ∷ zs) ≤ limit - suc rest =
    span (λ x. get_or starts x 0) (time_in g) start (limit - suc rest) (but ∷ zs) (omega (arith, late, early)) order from until in
    absurd (omega (arith, all, early, fill, sum_by-cons (time_in g) but zs))

-- a state is refuted if steps of a clique fill the time between their least head and their least
-- tail
pub fill_refutes : (g : Graph) (limit start rest : ℕ) (state : State) (others : Others) (clique : Vec ℕ Global) → IsClique g clique → Contains clique.items others.but
    → start ≤ others.head → start ≤ get_or state.heads.items others.but 0 → rest ≤ others.tail → rest ≤ get_or state.tails.items others.but 0
    → Fill g limit state clique others start rest → IsRefuted g limit state
fill_refutes g limit start rest state others clique is there low early short long fill starts h =
    filled g limit start rest state others clique starts (is starts h.kept) there fill
    (omega (arith, early, h.heads others.but)) (omega (arith, long, h.tails others.but))
    (λ z passes. omega (arith, low, (other_parts state others z passes).head, h.heads z))
    (λ z passes. omega (arith, short, (other_parts state others z passes).tail, h.tails z))

-- if they fill it up to the least tail of the others, none of the others is the last
pub fill_behind : (g : Graph) (limit start : ℕ) (state : State) (others : Others) (clique : Vec ℕ Global) → IsClique g clique → Contains clique.items others.but
    → start ≤ others.head → start ≤ get_or state.heads.items others.but 0 → Fill g limit state clique others start others.tail → IsBehind g limit state clique others
fill_behind g limit start state others clique is there low early fill x in_x other starts h =
    elim (either_first g starts clique x others.but (is starts h.kept) in_x there (other_parts state others x other).another) [
      | inl before ↦ before
      | inr after ↦ absurd (filled g limit start others.tail state others clique starts (is starts h.kept) there fill
          (omega (arith, early, h.heads others.but)) (omega (arith, after, (other_parts state others x other).tail, h.tails x))
          (λ z passes. omega (arith, low, (other_parts state others z passes).head, h.heads z))
          (λ z passes. omega (arith, (other_parts state others z passes).tail, h.tails z)))
    ]

-- if they fill it from the least head of the others on, none of the others is the first
pub fill_ahead : (g : Graph) (limit rest : ℕ) (state : State) (others : Others) (clique : Vec ℕ Global) → IsClique g clique → Contains clique.items others.but
    → rest ≤ others.tail → rest ≤ get_or state.tails.items others.but 0 → Fill g limit state clique others others.head rest → IsAhead g limit state clique others
fill_ahead g limit rest state others clique is there short long fill x in_x other starts h =
    elim (either_first g starts clique x others.but (is starts h.kept) in_x there (other_parts state others x other).another) [
      | inr before ↦ before
      | inl after ↦ absurd (filled g limit others.head rest state others clique starts (is starts h.kept) there fill
          (omega (arith, after, (other_parts state others x other).head, h.heads x)) (omega (arith, long, h.tails others.but))
          (λ z passes. omega (arith, (other_parts state others z passes).head, h.heads z))
          (λ z passes. omega (arith, short, (other_parts state others z passes).tail, h.tails z)))
    ]

-- steps that don't overlap, all between a start and an end, together last at most the time between
between : (g : Graph) (starts : List ℕ) (start end : ℕ) (zs : List ℕ) → InOrder (IsClear (λ x. get_or starts x 0) (time_in g)) zs → All (λ z. start ≤ get_or starts z 0) zs
    → All (λ z. get_or starts z 0 + time_in g z ≤ end) zs → 0 < sum_by (time_in g) zs → start + sum_by (time_in g) zs ≤ end
between g starts start end [] order late early some = absurd (omega (arith, some))
between g starts start end (z ∷ zs) order late early some =
    let first : start ≤ get_or starts z 0 = late 0 0 (omega arith) in
    let last : get_or starts z 0 + time_in g z ≤ end = early 0 0 (omega arith) in
    span (λ x. get_or starts x 0) (time_in g) start end (z ∷ zs) (omega (arith, first, last)) order
    (recursion_from_All (λ y. start ≤ get_or starts y 0) (z ∷ zs) late) (recursion_from_All (λ y. get_or starts y 0 + time_in g y ≤ end) (z ∷ zs) early)

-- others that start later and leave more are others too
other_of_more : (state : State) (others last : Others) (z : ℕ) → last.but ≡ others.but →
    others.head ≤ last.head → others.tail ≤ last.tail → is_other state last z ≡ true →
    is_other state others z ≡ true
other_of_more state others last z same later longer passes =
    let is : IsOther state last z = other_parts state last z passes in
    other_from state others z (record { another = λ e. is.another (omega (arith, e, same)); head = omega (arith, later, is.head); tail = omega (arith, longer, is.tail) })

-- a step that goes behind others starts when the last of them ends, or later
pub behind_starts : (g : Graph) (limit times value : ℕ) (state : State) (others last : Others) (clique : Vec ℕ Global) → IsClique g clique → IsBehind g limit state clique others
    → last.but ≡ others.but → others.head ≤ last.head → others.tail ≤ last.tail → times ≤ sum_by (time_in g) (others_of state last clique.items) → 0 < times
    → value ≤ last.head + times → StartsFrom g limit state others.but value
behind_starts g limit times value state others last clique is behind same later longer most some small starts h =
    let zs : List ℕ = others_of state last clique.items in
    let late : All (λ z. last.head ≤ get_or starts z 0) zs =
    each_other (λ z. last.head ≤ get_or starts z 0) state last clique (λ z in_z passes. omega (arith, (other_parts state last z passes).head, h.heads z)) in
    let early : All (λ z. get_or starts z 0 + time_in g z ≤ get_or starts others.but 0) zs =
    each_other (λ z. get_or starts z 0 + time_in g z ≤ get_or starts others.but 0) state last clique
    (λ z in_z passes. behind z in_z (other_of_more state others last z same later longer passes) starts h) in
    omega (arith, small, most, between g starts last.head (get_or starts others.but 0) zs (others_in_order g state last clique starts (is starts h.kept)) late early (omega (arith, most, some)))

-- a step that goes ahead of others leaves at least their time up to the limit
pub ahead_leaves : (g : Graph) (limit times value : ℕ) (state : State) (others last : Others) (clique : Vec ℕ Global) → IsClique g clique → IsAhead g limit state clique others
    → last.but ≡ others.but → others.head ≤ last.head → others.tail ≤ last.tail → times ≤ sum_by (time_in g) (others_of state last clique.items) → 0 < times
    → value ≤ last.tail + times → Leaves g limit state others.but value
ahead_leaves g limit times value state others last clique is ahead same later longer most some small starts h =
    let zs : List ℕ = others_of state last clique.items in
    let late : All (λ z. get_or starts others.but 0 + time_in g others.but ≤ get_or starts z 0) zs =
    each_other (λ z. get_or starts others.but 0 + time_in g others.but ≤ get_or starts z 0) state last clique
    (λ z in_z passes. ahead z in_z (other_of_more state others last z same later longer passes) starts h) in
    let early : All (λ z. get_or starts z 0 + time_in g z ≤ limit - suc last.tail) zs =
    each_other (λ z. get_or starts z 0 + time_in g z ≤ limit - suc last.tail) state last clique (λ z in_z passes. omega (arith, (other_parts state last z passes).tail, h.tails z)) in
    omega (
      arith,
      small,
      most,
      some,
      between g starts (get_or starts others.but 0 + time_in g others.but) (limit - suc last.tail) zs
          (others_in_order g state last clique starts (is starts h.kept)) late early
          (omega (arith, most, some)),
    )

-- behind others is beyond them from the start; ahead of others is beyond them from the finish
pub beyond_from_start : (g : Graph) (limit : ℕ) (state : State) (clique : Vec ℕ Global) (end : End)
    (others : Others) → end ≡ Start → IsBehind g limit state clique others →
    GoesBeyond g limit state clique end others
beyond_from_start g limit state clique end others is behind = subst (λ (e : End). GoesBeyond g limit state clique e others) (sym is) behind

pub beyond_from_finish : (g : Graph) (limit : ℕ) (state : State) (clique : Vec ℕ Global) (end : End)
    (others : Others) → end ≡ Finish → IsAhead g limit state clique others →
    GoesBeyond g limit state clique end others
beyond_from_finish g limit state clique end others is ahead = subst (λ (e : End). GoesBeyond g limit state clique e others) (sym is) ahead

-- a step that goes beyond others stays away from the end by at least their time
pub beyond_away : (g : Graph) (limit : ℕ) (end : End) (near far from but times value : ℕ) (state : State) (clique : Vec ℕ Global) → IsClique g clique
    → GoesBeyond g limit state clique end (others_from end near far but) → near ≤ from → times ≤ sum_by (time_in g) (others_of state (others_from end from far but) clique.items) → 0 < times
    → value ≤ from + times → StaysAway g limit state end but value
beyond_away g limit Start near far from but times value state clique is beyond later most some small =
    behind_starts g limit times value state (others_from Start near far but) (others_from Start from far but) clique is beyond refl later (omega arith) most some small
beyond_away g limit Finish near far from but times value state clique is beyond later most some small =
    ahead_leaves g limit times value state (others_from Finish near far but) (others_from Finish from far but) clique is beyond refl (omega arith) later most some small

-- those of a graph are cliques
pub clique_there : (g : Graph) (k : ℕ) (clique : Vec ℕ Global) → k < length g.cliques.items → clique ≡ get_or g.cliques.items k clique → IsClique g clique
clique_there g k clique below there starts kept = subst (λ (v : Vec ℕ Global). KeepsClique g starts v) (sym there) (kept.cliques k clique below)
