-- Lags beside arcs: their indices in the rows, and the effect of changing one.
use Rattle.std.proofs.Common.{ℕ, suc, zero, Bool, true, false, cond, nat_eq, ◌&&◌, ◌≡◌, ◌≢◌, ◌+◌, ◌-◌, ◌≤◌, ◌<◌, ◌⊎◌, inl, inr, List, [], ◌∷◌, length, get_or, set, map, take, drop, replicate, refl, sym, ◌∙◌, ap, subst, arith, Some, Vec, get_or-set_same}
use Rattle.std.specs.declared.alloc.Global.{Global}
use Rattle.std.specs.List.{Contains, All, slice_get}
use Rattle.std.specs.Vec.{with_item}
use Rattle.std.proofs.lemmas.List.{get_or-drop, get_or-map, length-map}
use Rattle.std.proofs.lemmas.List.Elements.{All-cons, All-head, All-tail, All-contains}
use Rattle.std.proofs.lemmas.Option.{slice_get-get_or}
use Rattle.std.proofs.lemmas.Bool.{cases_eq, cases_lt, cases_Bool, false≢true, eq-eqb, eqb-true}
use Rattle.plan_net.specs.Network.{Net, IsArc, joins, lag_beside, lags_with, lag_of, with_lag, unlagged}
use Rattle.plan_net.specs.Limits.{HasGoodLags}
use Rattle.plan_net.specs.declared.limits.TheConstants.{LONGEST_LAG}
use Rattle.plan_net.specs.Indexed.{row_at, beside, lag_in, net_of}
use Rattle.plan_net.specs.declared.arcs.Arcs.TheInside.{Inside}
use Rattle.plan_net.specs.Marks.{AreNoLags}
use Rattle.plan_net.proofs.MarkLemmas.{row_at-set_same, row_at-set_other, row_at-past}
use Rattle.plan_net.proofs.RowLemmas.{row_at-read}

-- the choice of a test on two equal numbers, and on two others
cond-same : {X : Type 0} (a b : ℕ) (x y : X) → a ≡ b → cond (nat_eq a b) x y ≡ x
cond-same a b x y same = ap (λ (t : Bool). cond t x y) (eq-eqb a b same)

cond-other : {X : Type 0} (a b : ℕ) (x y : X) → a ≢ b → cond (nat_eq a b) x y ≡ y
cond-other a b x y other = by_case (cases_Bool (nat_eq a b)) where
  by_case : (nat_eq a b ≡ true) ⊎ (nat_eq a b ≡ false) → cond (nat_eq a b) x y ≡ y
  by_case (inl is) = absurd (other (eqb-true a b is))
  by_case (inr isnt) = ap (λ (t : Bool). cond t x y) isnt

-- an arc joins only its own ends
joins-same : (arc : ℕ × ℕ) (i j : ℕ) → arc ≡ (i, j) → joins arc i j ≡ true
joins-same arc i j same =
    let from : nat_eq arc.0 i ≡ true = eq-eqb arc.0 i (ap (λ (a : ℕ × ℕ). a.0) same) in
    let to : nat_eq arc.1 j ≡ true = eq-eqb arc.1 j (ap (λ (a : ℕ × ℕ). a.1) same) in
    ap (λ (t : Bool). t && nat_eq arc.1 j) from ∙ to

joins-is : (arc : ℕ × ℕ) (i j : ℕ) → joins arc i j ≡ true → arc ≡ (i, j)
joins-is arc i j is = by_case (cases_eq arc.0 i) (cases_eq arc.1 j) where
  first : (a b : Bool) → (a && b) ≡ true → a ≡ true
  first true b both = refl
  first false b both = both

  second : (a b : Bool) → (a && b) ≡ true → b ≡ true
  second true b both = both
  second false b both = absurd (false≢true both)

  by_case : (arc.0 ≡ i) ⊎ (arc.0 ≡ i → ⊥) → (arc.1 ≡ j) ⊎ (arc.1 ≡ j → ⊥) → arc ≡ (i, j)
  by_case (inl from) (inl to) = ap (λ (x : ℕ). (x, arc.1)) from ∙ ap (λ (x : ℕ). (i, x)) to
  by_case (inl from) (inr other) = absurd (other (eqb-true arc.1 j (second (nat_eq arc.0 i) (nat_eq arc.1 j) is)))
  by_case (inr other) w = absurd (other (eqb-true arc.0 i (first (nat_eq arc.0 i) (nat_eq arc.1 j) is)))

joins-other : (arc : ℕ × ℕ) (i j : ℕ) → (arc ≡ (i, j) → ⊥) → joins arc i j ≡ false
joins-other arc i j other = by_case (cases_Bool (joins arc i j)) where
  by_case : (joins arc i j ≡ true) ⊎ (joins arc i j ≡ false) → joins arc i j ≡ false
  by_case (inl is) = absurd (other (joins-is arc i j is))
  by_case (inr isnt) = isnt

-- an element of a list is its head or in its tail
pub Contains-cons_cases : {X : Type 0} (x y : X) (xs : List X) → Contains (x ∷ xs) y → (x ≡ y) ⊎ Contains xs y
Contains-cons_cases x y xs (zero, within, is) = inl is
Contains-cons_cases x y xs (suc k, within, is) = inr (k, omega arith, is)

pub Contains-behind : {X : Type 0} (x y : X) (xs : List X) → Contains xs y → Contains (x ∷ xs) y
Contains-behind x y xs (k, within, is) = (suc k, omega arith, is)

pub Contains-front : {X : Type 0} (x : X) (xs : List X) → Contains (x ∷ xs) x
Contains-front x xs = (zero, omega arith, refl)

-- the lag beside an arc, if the lags are the values of a function of the arcs
pub lag_beside-map : (f : ℕ × ℕ → ℕ) (arcs : List (ℕ × ℕ)) (i j : ℕ) → Contains arcs (i, j) → lag_beside arcs (map f arcs) i j ≡ f (i, j)
lag_beside-map f [] i j has = absurd (empty has.1) where
  empty : {k : ℕ} → k < 0 → ⊥
  empty lower = omega arith
lag_beside-map f (arc ∷ arcs) i j has =
    elim (cases_Bool (joins arc i j)) [
      | inl is ↦ ap (λ (t : Bool). cond t (f arc) (lag_beside arcs (map f arcs) i j)) is ∙ ap f (joins-is arc i j is)
      | inr isnt ↦ elim (Contains-cons_cases arc (i, j) arcs has) [
        | inl same ↦ absurd (false≢true (sym isnt ∙ joins-same arc i j same))
        | inr behind ↦ ap (λ (t : Bool). cond t (f arc) (lag_beside arcs (map f arcs) i j)) isnt ∙ lag_beside-map f arcs i j behind
      ]
    ]

-- the lag beside a pair that isn't an arc is 0
pub lag_beside-none : (arcs : List (ℕ × ℕ)) (lags : List ℕ) (i j : ℕ) → (Contains arcs (i, j) → ⊥) → lag_beside arcs lags i j ≡ 0
lag_beside-none [] lags i j misses = refl
lag_beside-none (arc ∷ arcs) lags i j misses =
    let isnt : joins arc i j ≡ false = joins-other arc i j (λ same. misses (subst (Contains (arc ∷ arcs)) same (Contains-front arc arcs))) in
    ap (λ (t : Bool). cond t (get_or lags 0 0) (lag_beside arcs (drop 1 lags) i j)) isnt ∙ lag_beside-none arcs (drop 1 lags) i j (λ has. misses (Contains-behind arc (i, j) arcs has))

-- the number of lags stays the same
pub length-lags_with : (arcs : List (ℕ × ℕ)) (lags : List ℕ) (i j w : ℕ) → length (lags_with arcs lags i j w) ≡ length lags
length-lags_with arcs [] i j w = refl
length-lags_with [] (lag ∷ lags) i j w = refl
length-lags_with (arc ∷ arcs) (lag ∷ lags) i j w =
    elim (cases_Bool (joins arc i j)) [
      | inl is ↦ ap (λ (t : Bool). length (cond t (w ∷ lags) (lag ∷ lags_with arcs lags i j w))) is
      | inr isnt ↦ ap (λ (t : Bool). length (cond t (w ∷ lags) (lag ∷ lags_with arcs lags i j w))) isnt ∙ ap suc (length-lags_with arcs lags i j w)
    ]

-- a fact of each lag remains one if it is a fact of the new lag
pub All-lags_with : (P : ℕ → Type 0) (arcs : List (ℕ × ℕ)) (lags : List ℕ) (i j w : ℕ) → P w → All P lags → All P (lags_with arcs lags i j w)
All-lags_with P arcs [] i j w holds all = all
All-lags_with P [] (lag ∷ lags) i j w holds all = all
All-lags_with P (arc ∷ arcs) (lag ∷ lags) i j w holds all =
    elim (cases_Bool (joins arc i j)) [
      | inl is ↦ subst (λ (t : Bool). All P (cond t (w ∷ lags) (lag ∷ lags_with arcs lags i j w))) (sym is) (All-cons P w lags holds (All-tail P lag lags all))
      | inr isnt ↦ subst (λ (t : Bool). All P (cond t (w ∷ lags) (lag ∷ lags_with arcs lags i j w)))
          (sym isnt) (All-cons P lag (lags_with arcs lags i j w) (All-head P lag lags all)
          (All-lags_with P arcs lags i j w holds (All-tail P lag lags all)))
    ]

-- the lag that was set
pub lag_beside-with : (arcs : List (ℕ × ℕ)) (lags : List ℕ) (i j w : ℕ) → length lags ≡ length arcs → Contains arcs (i, j) → lag_beside arcs (lags_with arcs lags i j w) i j ≡ w
lag_beside-with [] lags i j w whole has = absurd (empty has.1) where
  empty : {k : ℕ} → k < 0 → ⊥
  empty lower = omega arith
lag_beside-with (arc ∷ arcs) [] i j w whole has = absurd (omega arith)
lag_beside-with (arc ∷ arcs) (lag ∷ lags) i j w whole has =
    elim (cases_Bool (joins arc i j)) [
      | inl is ↦ ap (λ (t : Bool). lag_beside (arc ∷ arcs) (cond t (w ∷ lags) (lag ∷ lags_with arcs lags i j w)) i j) is ∙ ap (λ (t : Bool). cond t w (lag_beside arcs lags i j)) is
      | inr isnt ↦ elim (Contains-cons_cases arc (i, j) arcs has) [
        | inl same ↦ absurd (false≢true (sym isnt ∙ joins-same arc i j same))
        | inr behind ↦
            ap (λ (t : Bool). lag_beside (arc ∷ arcs) (cond t (w ∷ lags) (lag ∷ lags_with arcs lags i j w)) i j) isnt
            ∙ ap (λ (t : Bool). cond t lag (lag_beside arcs (lags_with arcs lags i j w) i j)) isnt
            ∙ lag_beside-with arcs lags i j w (omega arith) behind
      ]
    ]

-- the lags beside all other arcs
pub lag_beside-with_other : (arcs : List (ℕ × ℕ)) (lags : List ℕ) (i j w h k : ℕ) → ((h ≡ i) × (k ≡ j) → ⊥) → lag_beside arcs (lags_with arcs lags i j w) h k ≡ lag_beside arcs lags h k
lag_beside-with_other [] [] i j w h k other = refl
lag_beside-with_other [] (lag ∷ lags) i j w h k other = refl
lag_beside-with_other (arc ∷ arcs) [] i j w h k other = refl
lag_beside-with_other (arc ∷ arcs) (lag ∷ lags) i j w h k other =
    elim (cases_Bool (joins arc i j)) [
      | inl is ↦
          let here : arc ≡ (i, j) = joins-is arc i j is in
          let isnt : joins arc h k ≡ false = joins-other arc h k (λ same. other (ap (λ (a : ℕ × ℕ). a.0) (sym same ∙ here), ap (λ (a : ℕ × ℕ). a.1) (sym same ∙ here))) in
          ap (λ (t : Bool). lag_beside (arc ∷ arcs) (cond t (w ∷ lags) (lag ∷ lags_with arcs lags i j w)) h k) is
          ∙ ap (λ (t : Bool). cond t w (lag_beside arcs lags h k)) isnt
          ∙ sym (ap (λ (t : Bool). cond t lag (lag_beside arcs lags h k)) isnt)
      | inr isnt ↦
          ap (λ (t : Bool). lag_beside (arc ∷ arcs) (cond t (w ∷ lags) (lag ∷ lags_with arcs lags i j w)) h k) isnt
          ∙ ap (λ (rest : ℕ). cond (joins arc h k) lag rest) (lag_beside-with_other arcs lags i j w h k other)
    ]

-- functions that agree on the elements give the same list
map-agree : (f g : ℕ × ℕ → ℕ) (arcs : List (ℕ × ℕ)) → ((arc : ℕ × ℕ) → Contains arcs arc → g arc ≡ f arc) → map g arcs ≡ map f arcs
map-agree f g [] agree = refl
map-agree f g (arc ∷ arcs) agree =
    ap (λ (x : ℕ). x ∷ map g arcs) (agree arc (Contains-front arc arcs)) ∙ ap (λ (xs : List ℕ). f arc ∷ xs) (map-agree f g arcs (λ a has. agree a (Contains-behind arc a arcs has)))

-- no arc occurs again after itself
AreApart : List (ℕ × ℕ) → Type 0
AreApart [] = Unit {0}
AreApart (arc ∷ arcs) = (Contains arcs arc → ⊥) × AreApart arcs

AreApart-from_new : (arcs : List (ℕ × ℕ)) → ((k : ℕ) → k < length arcs → (arc : ℕ × ℕ) → slice_get arcs k ≡ Some arc → Contains (take k arcs) arc → ⊥) → AreApart arcs
unfolding AreApart
AreApart-from_new [] new_arcs = tt
AreApart-from_new (arc ∷ arcs) new_arcs = (again, AreApart-from_new arcs (λ k within a at has. new_arcs (suc k) (omega arith) a at (Contains-behind arc a (take k arcs) has))) where
  again : Contains arcs arc → ⊥
  again (k, within, is) = new_arcs (suc k) (omega arith) arc (slice_get-get_or arcs k arc within ∙ ap (λ a. Some a) is) (Contains-front arc (take k arcs))

-- if two functions differ at one arc only, the lags of one are those of the other with one replaced
map-lags_with : (f g : ℕ × ℕ → ℕ) (arcs : List (ℕ × ℕ)) (i j w : ℕ) → g (i, j) ≡ w →
    ((arc : ℕ × ℕ) → Contains arcs arc → (arc ≡ (i, j) → ⊥) → g arc ≡ f arc) → AreApart arcs →
    map g arcs ≡ lags_with arcs (map f arcs) i j w
unfolding AreApart
map-lags_with f g [] i j w here agree apart = refl
map-lags_with f g (arc ∷ arcs) i j w here agree apart =
    elim (cases_Bool (joins arc i j)) [
      | inl is ↦
          let same : arc ≡ (i, j) = joins-is arc i j is in
          let rest : map g arcs ≡ map f arcs = map-agree f g arcs (λ a has. agree a (Contains-behind arc a arcs has) (λ again. apart.0 (subst (Contains arcs) (again ∙ sym same) has))) in
          ap (λ (x : ℕ). x ∷ map g arcs) (ap g same ∙ here) ∙ ap (λ (xs : List ℕ). w ∷ xs) rest
          ∙ sym (ap (λ (t : Bool). cond t (w ∷ map f arcs) (f arc ∷ lags_with arcs (map f arcs) i j w)) is)
      | inr isnt ↦
          let different : arc ≡ (i, j) → ⊥ = λ same. false≢true (sym isnt ∙ joins-same arc i j same) in
          ap (λ (x : ℕ). x ∷ map g arcs) (agree arc (Contains-front arc arcs) different)
          ∙ ap (λ (xs : List ℕ). f arc ∷ xs) (map-lags_with f g arcs i j w here (λ a has. agree a (Contains-behind arc a arcs has)) apart.1)
          ∙ sym (ap (λ (t : Bool). cond t (w ∷ map f arcs) (f arc ∷ lags_with arcs (map f arcs) i j w)) isnt)
    ]

-- the value beside the first i
pub beside-at : (js values : List ℕ) (k i : ℕ) → k < length js → get_or js k 0 ≡ i → ((m : ℕ) → m < k → get_or js m 0 ≢ i) → beside js values i ≡ get_or values k 0
beside-at [] values k i within is first = absurd (omega arith)
beside-at (j ∷ js) values zero i within is first = cond-same j i (get_or values 0 0) (beside js (drop 1 values) i) is
beside-at (j ∷ js) values (suc k) i within is first =
    let next : 1 + k ≡ suc k = omega arith in
    cond-other j i (get_or values 0 0) (beside js (drop 1 values) i) (first 0 (omega arith))
    ∙ beside-at js (drop 1 values) k i (omega arith) is (λ m lower. first (suc m) (omega arith))
    ∙ get_or-drop 1 values k 0
    ∙ ap (λ (x : ℕ). get_or values x 0) next

-- a change beside one number doesn't affect another
beside-set_other : (js values : List ℕ) (k h w : ℕ) → get_or js k 0 ≢ h → beside js (set values k w) h ≡ beside js values h
beside-set_other [] values k h w other = refl
beside-set_other (j ∷ js) [] k h w other = refl
beside-set_other (j ∷ js) (value ∷ values) zero h w other =
    cond-other j h w (beside js values h) other ∙ sym (cond-other j h value (beside js values h) other)
beside-set_other (j ∷ js) (value ∷ values) (suc k) h w other = ap (λ (rest : ℕ). cond (nat_eq j h) value rest) (beside-set_other js values k h w other)

-- the value beside i if all values are 0
beside-zeros : (js : List ℕ) (n i : ℕ) → beside js (replicate n 0) i ≡ 0
beside-zeros [] n i = refl
beside-zeros (j ∷ js) zero i = chosen (nat_eq j i) (beside js [] i) (beside-zeros js zero i) where
  chosen : (t : Bool) (x : ℕ) → x ≡ 0 → cond t 0 x ≡ 0
  chosen true x is = refl
  chosen false x is = is
beside-zeros (j ∷ js) (suc n) i = chosen (nat_eq j i) (beside js (replicate n 0) i) (beside-zeros js n i) where
  chosen : (t : Bool) (x : ℕ) → x ≡ 0 → cond t 0 x ≡ 0
  chosen true x is = refl
  chosen false x is = is

map-zeros : (f : ℕ × ℕ → ℕ) (arcs : List (ℕ × ℕ)) → ((arc : ℕ × ℕ) → f arc ≡ 0) → map f arcs ≡ replicate (length arcs) 0
map-zeros f [] zeros = refl
map-zeros f (arc ∷ arcs) zeros = ap (λ (x : ℕ). x ∷ map f arcs) (zeros arc) ∙ ap (λ (xs : List ℕ). 0 ∷ xs) (map-zeros f arcs zeros)

-- rows of zero lags give each arc the lag 0
pub lags-none : (preds lags : List (Vec ℕ Global)) (arcs : List (ℕ × ℕ)) → AreNoLags preds lags → map (lag_in preds lags) arcs ≡ replicate (length arcs) 0
lags-none preds lags arcs none = map-zeros (lag_in preds lags) arcs (λ arc. at arc (cases_lt (arc.1 - 1) (length lags))) where
  at : (arc : ℕ × ℕ) → (arc.1 - 1 < length lags) ⊎ (length lags ≤ arc.1 - 1) → lag_in preds lags arc ≡ 0
  at arc (inl within) =
      ap (λ (values : List ℕ). beside (row_at preds (arc.1 - 1)) values arc.0) (none.each (arc.1 - 1) within) ∙ beside-zeros (row_at preds (arc.1 - 1)) (length (row_at preds (arc.1 - 1))) arc.0
  at arc (inr past) =
      ap (λ (values : List ℕ). beside (row_at preds (arc.1 - 1)) values arc.0) (row_at-past lags (arc.1 - 1) past) ∙ beside-zeros (row_at preds (arc.1 - 1)) 0 arc.0

-- one lag in the rows is changed
pub lags-set : (preds lags : List (Vec ℕ Global)) (arcs : List (ℕ × ℕ)) (row place i w : ℕ)
    (before : Vec ℕ Global) → ((k : ℕ) → k < length arcs → (arc : ℕ × ℕ) → slice_get arcs k ≡ Some arc →
    Contains (take k arcs) arc → ⊥) → All (λ arc. 1 ≤ arc.1) arcs → row < length lags →
    before ≡ get_or lags row before → place < length (row_at preds row) → place < length before.items →
    get_or (row_at preds row) place 0 ≡ i → ((m : ℕ) → m < place → get_or (row_at preds row) m 0 ≢ i) →
    map (lag_in preds (set lags row (with_item before place w))) arcs ≡ lags_with arcs
    (map (lag_in preds lags) arcs) i (row + 1) w
lags-set preds lags arcs row place i w before new_arcs ends within is inside inside' here first =
    map-lags_with (lag_in preds lags) (lag_in preds (set lags row (with_item before place w))) arcs i
    (row + 1) w changed (λ arc has other. kept arc (ends_low arc has) other (cases_eq (arc.1 - 1) row))
    (AreApart-from_new arcs new_arcs) where
      ends_low : (arc : ℕ × ℕ) → Contains arcs arc → 1 ≤ arc.1
      ends_low arc has = All-contains (λ (a : ℕ × ℕ). 1 ≤ a.1) arcs arc ends has

      after : List (Vec ℕ Global)
      after = set lags row (with_item before place w)

      changed : lag_in preds (set lags row (with_item before place w)) (i, row + 1) ≡ w
      changed =
          let same : row + 1 - 1 ≡ row = omega arith in
          ap (λ (k : ℕ). beside (row_at preds k) (row_at (set lags row (with_item before place w)) k) i) same
          ∙ ap (λ (values : List ℕ). beside (row_at preds row) values i) (row_at-set_same lags row (with_item before place w) within)
          ∙ beside-at (row_at preds row) (set before.items place w) place i inside here first
          ∙ get_or-set_same before.items place w 0 inside'

      kept : (arc : ℕ × ℕ) → 1 ≤ arc.1 → (arc ≡ (i, row + 1) → ⊥) → (arc.1 - 1 ≡ row) ⊎ (arc.1 - 1 ≡ row → ⊥) → lag_in preds (set lags row (with_item before place w)) arc ≡ lag_in preds lags arc
      kept arc low other (inr apart) = ap (λ (values : List ℕ). beside (row_at preds (arc.1 - 1)) values arc.0) (row_at-set_other lags (arc.1 - 1) row (with_item before place w) apart)
      kept arc low other (inl same) =
          let to : arc.1 ≡ row + 1 = omega (arith, low, same) in
          let different : get_or (row_at preds row) place 0 ≢ arc.0 = λ from. other (ap (λ (x : ℕ). (x, arc.1)) (sym from ∙ here) ∙ ap (λ (x : ℕ). (i, x)) to) in
          ap (λ (k : ℕ). beside (row_at preds k) (row_at (set lags row (with_item before place w)) k) arc.0) same
          ∙ ap (λ (values : List ℕ). beside (row_at preds row) values arc.0) (row_at-set_same lags row (with_item before place w) within)
          ∙ beside-set_other (row_at preds row) before.items place arc.0 w different
          ∙ ap (λ (values : List ℕ). beside (row_at preds row) values arc.0) (sym (row_at-read lags row before within is))
          ∙ sym (ap (λ (k : ℕ). beside (row_at preds k) (row_at lags k) arc.0) same)

-- no lag is above the limit
lag_beside-limit : (arcs : List (ℕ × ℕ)) (lags : List ℕ) (most i j : ℕ) → All (λ w. w ≤ most) lags → lag_beside arcs lags i j ≤ most
lag_beside-limit [] lags most i j all = omega arith
lag_beside-limit (arc ∷ arcs) [] most i j all =
    elim (cases_Bool (joins arc i j)) [
      | inl is ↦ subst (λ (t : Bool). cond t 0 (lag_beside arcs [] i j) ≤ most) (sym is) (omega arith)
      | inr isnt ↦ subst (λ (t : Bool). cond t 0 (lag_beside arcs [] i j) ≤ most) (sym isnt) (lag_beside-limit arcs [] most i j all)
    ]
lag_beside-limit (arc ∷ arcs) (lag ∷ lags) most i j all =
    elim (cases_Bool (joins arc i j)) [
      | inl is ↦ subst (λ (t : Bool). cond t lag (lag_beside arcs lags i j) ≤ most) (sym is) (All-head (λ w. w ≤ most) lag lags all)
      | inr isnt ↦ subst (λ (t : Bool). cond t lag (lag_beside arcs lags i j) ≤ most) (sym isnt) (lag_beside-limit arcs lags most i j (All-tail (λ w. w ≤ most) lag lags all))
    ]

pub lag_of-limit : (net : Net) (i j : ℕ) → HasGoodLags net → lag_of net i j ≤ LONGEST_LAG
unfolding lag_of
lag_of-limit net i j good = lag_beside-limit net.arcs net.lags LONGEST_LAG i j good.1

-- an entry of a list of lags beside the predecessors of j
pub lag_in_place : (net : Net) (j : ℕ) (preds lags : List ℕ) (k : ℕ) →
    lags ≡ map (λ i. lag_of net i j) preds → k < length preds →
    (k < length lags) × (get_or lags k 0 ≡ lag_of net (get_or preds k 0) j)
lag_in_place net j preds lags k beside' within =
    let long : length lags ≡ length preds = ap length beside' ∙ length-map preds (λ i. lag_of net i j) in
    (omega (arith, long, within), ap (λ (values : List ℕ). get_or values k 0) beside' ∙ get_or-map (λ i. lag_of net i j) preds k 0 0 within)

-- the lag that was set, and the lags of all other arcs
pub lag_of-with_lag : (net : Net) (i j w : ℕ) → HasGoodLags net → IsArc net i j → lag_of (with_lag net i j w) i j ≡ w
unfolding lag_of
lag_of-with_lag net i j w good arc = lag_beside-with net.arcs net.lags i j w good.0 arc

pub lag_of-with_lag_other : (net : Net) (i j w h k : ℕ) → ((h ≡ i) × (k ≡ j) → ⊥) → lag_of (with_lag net i j w) h k ≡ lag_of net h k
unfolding lag_of
lag_of-with_lag_other net i j w h k other = lag_beside-with_other net.arcs net.lags i j w h k other

-- without lags each is 0
lag_beside-zeros : (arcs : List (ℕ × ℕ)) (n i j : ℕ) → lag_beside arcs (replicate n 0) i j ≡ 0
lag_beside-zeros [] n i j = refl
lag_beside-zeros (arc ∷ arcs) zero i j =
    elim (cases_Bool (joins arc i j)) [
      | inl is ↦ ap (λ (t : Bool). cond t 0 (lag_beside arcs [] i j)) is
      | inr isnt ↦ ap (λ (t : Bool). cond t 0 (lag_beside arcs [] i j)) isnt ∙ lag_beside-zeros arcs zero i j
    ]
lag_beside-zeros (arc ∷ arcs) (suc n) i j =
    elim (cases_Bool (joins arc i j)) [
      | inl is ↦ ap (λ (t : Bool). cond t 0 (lag_beside arcs (replicate n 0) i j)) is
      | inr isnt ↦ ap (λ (t : Bool). cond t 0 (lag_beside arcs (replicate n 0) i j)) isnt ∙ lag_beside-zeros arcs n i j
    ]

-- the lags of a network whose lags are the values of a function of its arcs
lags_by : (net : Net) (f : ℕ × ℕ → ℕ) → net.lags ≡ map f net.arcs → net.lags ≡ map (λ arc. lag_of net arc.0 arc.1) net.arcs
unfolding lag_of
lags_by net f by =
    let each : map (λ arc. lag_beside net.arcs net.lags arc.0 arc.1) net.arcs ≡ map f net.arcs =
    map-agree f (λ arc. lag_beside net.arcs net.lags arc.0 arc.1) net.arcs (λ arc has. ap (λ (lags : List ℕ). lag_beside net.arcs lags arc.0 arc.1) by ∙ lag_beside-map f net.arcs arc.0 arc.1 has) in
    by ∙ sym each

-- the lags beside the arcs are those that `lag_of` gives
pub lags_told : (a : Inside) (net : Net) → net_of a ≡ net → net.lags ≡ map (λ arc. lag_of net arc.0 arc.1) net.arcs
lags_told a net is = subst (λ (n : Net). n.lags ≡ map (λ arc. lag_of n arc.0 arc.1) n.arcs) is (lags_by (net_of a) (lag_in a.preds.items a.lags.items) refl)
