-- Decisions depend on values that are the same in two views that have the same rows.
use Rattle.std.proofs.Common.{◌≡◌, ℕ, zero, suc, ◌<◌, ◌≤◌, ◌⊎◌, inl, inr, Bool, true, false, ◌&&◌, List, [], ◌∷◌, ◌++◌, map, filter, length, Option, Some, None, refl, sym, ap, ◌∙◌, subst, arith}
use Rattle.std.specs.Prelude.{find, option_and_then, option_to_list, ◌==◌, nat_lt, IsPermutation, Contains, codes}
use Rattle.std.specs.List.{AllByRecursion}
use Rattle.std.specs.Ordering.{nat_cmp, is_lt, ordering_reverse}
use Rattle.std.specs.declared.cmp.Ordering.{Ordering}
use Rattle.std.specs.declared.cmp.Ordering.TheVariants.{Less, Equal, Greater}
use Rattle.std.specs.Cmp.Lexicographic.{slice_cmp, nat_list_cmp_total}
use Rattle.std.proofs.lemmas.Map.Text.{is_eq-slice_cmp}
use Rattle.std.specs.Ordering.{is_eq}
use Rattle.std.proofs.lemmas.Bool.{cases_Bool, both_ways, and_parts, and_from, eqb-true, eq-eqb, ltb-true, lt-ltb, le-ltb, cases_order, false_from_ne_true, or_cases, or_left, or_right}
use Rattle.std.proofs.lemmas.List.Sorted.{Contains-permutation, IsPermutation-sym}
use Rattle.plan_rows.specs.World.{Text, Published, Desk, Plan, Bind, Lag, same_text, is_code, is_desk, is_plan, is_bind, is_lag, code_in, plan_in}
use Rattle.plan_rows.specs.Views.{View, Agree, alone}
use Rattle.plan_rows.specs.Plans.{has_number, plan_number, plan_seen, lag_before, arc_of, lags_of, is_bound_at, code_at}
use Rattle.plan_desk.specs.JsonTexts.{code_text, codes_text, plan_text, plans_text, separated}
use Rattle.plan_rows.specs.Plans.{code_before, plan_before}
use Rattle.plan_rows.specs.Rules.{AllDiffer, IsThereAnd, IsOwned, IsBindRow, IsLagRow, IsWorld}
use Rattle.plan_rows.proofs.OwnerLemmas.{text_from_same, same_text_refl}
use Rattle.plan_rows.proofs.RuleLemmas.{differ_filter}
use Rattle.plan_desk.proofs.SameLemmas.{Has, AreSame, same_filter, find_same, all_has, found_there, filter_has}
use Rattle.plan_desk.proofs.SortLemmas.{Orders, in_order_same, length_same}

-- ---- from permutations to the same rows

has_at : {A : Type 0} (xs : List A) (x : A) → Contains xs x → Has xs x
has_at [] x (k, below, is) = absurd (omega (arith, below))
has_at (y ∷ ys) x (zero, below, is) = inl is
has_at (y ∷ ys) x (suc k, below, is) = inr (has_at ys x (k, omega (arith, below), is))

pub at_has : {A : Type 0} (xs : List A) (x : A) → Has xs x → Contains xs x
at_has [] x h = absurd h
at_has (y ∷ ys) x (inl is) = (0, omega arith, is)
at_has (y ∷ ys) x (inr h) = let rest = at_has ys x h in (suc rest.0, omega (arith, rest.1), rest.2)

pub same_from_permutation : {A : Type 0} (xs ys : List A) → IsPermutation xs ys → AreSame xs ys
same_from_permutation xs ys moved = record {
  there = λ x h. has_at ys x (Contains-permutation xs ys x moved (at_has xs x h));
  back = λ x h. has_at xs x (Contains-permutation ys xs x (IsPermutation-sym xs ys moved) (at_has ys x h));
}

-- two views have the same rows
pub record SameView (v u : View) : Type 0 where
  pub office : v.office ≡ u.office
  pub published : AreSame v.published u.published
  pub desk : v.desk ≡ u.desk
  pub plans : AreSame v.plans u.plans
  pub binds : AreSame v.binds u.binds
  pub lags : AreSame v.lags u.lags

pub same_from_agree : (v u : View) → Agree v u → SameView v u
same_from_agree v u a = record {
  office = a.office;
  published = same_from_permutation v.published u.published a.published;
  desk = a.desk;
  plans = same_from_permutation v.plans u.plans a.plans;
  binds = same_from_permutation v.binds u.binds a.binds;
  lags = same_from_permutation v.lags u.lags a.lags;
}

-- ---- the rows of a view are of one desk

of_desk : (t : Text) (o : Option Desk) (P : Desk → Type 0) → IsThereAnd (find (is_desk t) (option_to_list o)) P → (row : Desk) × (o ≡ Some row) × (t ≡ row.desk)
of_desk t None P h = absurd h
of_desk t (Some row) P h = by_name (cases_Bool (is_desk t row))
  where
    by_name : (is_desk t row ≡ true) ⊎ (is_desk t row ≡ false) → (other : Desk) × (Some row ≡ Some other) × (t ≡ other.desk)
    by_name (inl e) = (row, refl, sym (text_from_same row.desk t e))
    by_name (inr e) = absurd (grind (arith, e, h))

one_desk : (o : Option Desk) (s t : Text) → (row : Desk) × (o ≡ Some row) × (s ≡ row.desk) → (row : Desk) × (o ≡ Some row) × (t ≡ row.desk) → s ≡ t
one_desk o s t (a, is_a, e) (b, is_b, f) = let same : a ≡ b = grind (arith, is_a, is_b) in e ∙ ap (λ r. r.desk) same ∙ sym f

plan_desk : (v : View) → IsWorld (alone v) → (x : Plan) → Has v.plans x → (row : Desk) × (v.desk ≡ Some row) × (x.desk ≡ row.desk)
plan_desk v k x h = of_desk x.desk v.desk (λ desk. x.n < desk.next) (all_has (IsOwned (alone v)) v.plans x k.owned h)

found_desk : (v : View) → IsWorld (alone v) → (t : Text) (n : ℕ) (P : Plan → Type 0) → IsThereAnd (plan_in (alone v) t n) P → (row : Desk) × (v.desk ≡ Some row) × (t ≡ row.desk)
found_desk v k t n P h = by_plan (plan_in (alone v) t n) refl h
  where
    by_plan : (o : Option Plan) → plan_in (alone v) t n ≡ o → IsThereAnd o P → (row : Desk) × (v.desk ≡ Some row) × (t ≡ row.desk)
    by_plan None e there = absurd there
    by_plan (Some x) e there =
        let found = found_there (is_plan t n) v.plans x e in
        let own = plan_desk v k x found.0 in
        (own.0, own.1, sym (text_from_same x.desk t (and_parts (same_text x.desk t) (x.n == n) found.1).0) ∙ own.2)

-- rows that differ by one test differ by another one that this difference implies
module _ {A : Type 0} where
  differ_weaker : (alike other : A → A → Bool) (xs : List A) → ((x y : A) → Has xs x → Has xs y → alike x y ≡ false → other x y ≡ false)
      → AllDiffer alike xs → AllDiffer other xs
  differ_weaker alike other [] weaker apart = tt
  differ_weaker alike other (x ∷ xs) weaker apart =
      (each xs (λ y h. weaker x y (inl refl) (inr h)) apart.0, differ_weaker alike other xs (λ y z h l. weaker y z (inr h) (inr l)) apart.1)
    where
      each : (ys : List A) → ((y : A) → Has ys y → alike x y ≡ false → other x y ≡ false) → AllByRecursion (λ y. alike x y ≡ false) ys → AllByRecursion (λ y. other x y ≡ false) ys
      each [] go none = tt
      each (y ∷ ys) go none = (go y (inl refl) none.0, each ys (λ z h. go z (inr h)) none.1)

abbrev pub same_number : Plan → Plan → Bool
same_number a b = b.n == a.n

abbrev same_place : Bind → Bind → Bool
same_place a b = (b.n == a.n) && (b.place == a.place)

abbrev same_arc : Lag → Lag → Bool
same_arc a b = (b.source == a.source) && (b.target == a.target)

-- the plans of a view differ by their numbers
pub numbers_differ : (v : View) → IsWorld (alone v) → AllDiffer same_number v.plans
numbers_differ v k = differ_weaker (λ a b. is_plan a.desk a.n b) same_number v.plans weaker k.plans_differ
  where
    weaker : (x y : Plan) → Has v.plans x → Has v.plans y → is_plan x.desk x.n y ≡ false → same_number x y ≡ false
    weaker x y h l e =
        let desk : y.desk ≡ x.desk = one_desk v.desk y.desk x.desk (plan_desk v k y l) (plan_desk v k x h) in
        false_from_ne_true (same_number x y)
        (λ same. both_ways (is_plan x.desk x.n y) e
        (and_from (same_text y.desk x.desk) (y.n == x.n) (subst (λ t. same_text y.desk t ≡ true) desk (same_text_refl y.desk)) same))

bind_desk : (v : View) → IsWorld (alone v) → (x : Bind) → Has v.binds x → (row : Desk) × (v.desk ≡ Some row) × (x.desk ≡ row.desk)
bind_desk v k x h = found_desk v k x.desk x.n _ (all_has (IsBindRow (alone v)) v.binds x k.bound h)

lag_desk : (v : View) → IsWorld (alone v) → (x : Lag) → Has v.lags x → (row : Desk) × (v.desk ≡ Some row) × (x.desk ≡ row.desk)
lag_desk v k x h = found_desk v k x.desk x.n _ (all_has (IsLagRow (alone v)) v.lags x k.lagged h)

places_differ : (v : View) → IsWorld (alone v) → AllDiffer same_place v.binds
places_differ v k = differ_weaker (λ a b. is_bind a.desk a.n a.place b) same_place v.binds weaker k.binds_differ
  where
    weaker : (x y : Bind) → Has v.binds x → Has v.binds y → is_bind x.desk x.n x.place y ≡ false → same_place x y ≡ false
    weaker x y h l e =
        let desk : y.desk ≡ x.desk = one_desk v.desk y.desk x.desk (bind_desk v k y l) (bind_desk v k x h) in
        let same : same_text y.desk x.desk ≡ true = subst (λ t. same_text y.desk t ≡ true) desk (same_text_refl y.desk) in
        grind (arith, e, same, cases_Bool (y.n == x.n), cases_Bool (y.place == x.place))

-- the lags of one plan differ by their arcs
arcs_differ : (v : View) (n : ℕ) → IsWorld (alone v) → AllDiffer same_arc (filter (λ row. row.n == n) v.lags)
arcs_differ v n k = differ_weaker (λ a b. is_lag a.desk a.n a.source a.target b) same_arc (filter (λ row. row.n == n) v.lags) weaker
    (differ_filter (λ a b. is_lag a.desk a.n a.source a.target b) (λ row. row.n == n) v.lags k.lags_differ)
  where
    weaker : (x y : Lag) → Has (filter (λ row. row.n == n) v.lags) x → Has (filter (λ row. row.n == n) v.lags) y
        → is_lag x.desk x.n x.source x.target y ≡ false → same_arc x y ≡ false
    weaker x y h l e =
        let at_x = filter_has (λ row. row.n == n) v.lags x h in
        let at_y = filter_has (λ row. row.n == n) v.lags y l in
        let desk : y.desk ≡ x.desk = one_desk v.desk y.desk x.desk (lag_desk v k y at_y.0) (lag_desk v k x at_x.0) in
        let same : same_text y.desk x.desk ≡ true = subst (λ t. same_text y.desk t ≡ true) desk (same_text_refl y.desk) in
        let number : (y.n == x.n) ≡ true = eq-eqb y.n x.n (eqb-true y.n n at_y.1 ∙ sym (eqb-true x.n n at_x.1)) in
        grind (arith, e, same, number, cases_Bool (y.source == x.source), cases_Bool (y.target == x.target))

-- ---- orders

number_orders : Orders same_number plan_before
number_orders = record {
  itself = λ x. eq-eqb x.n x.n refl;
  either = λ x y e. by_order x y e (cases_order x.n y.n);
  once = λ x y e. le-ltb y.n x.n (below x y e);
  chain = λ x y z e f. lt-ltb x.n z.n (longer x y z (ltb-true x.n y.n e) (ltb-true y.n z.n f));
}
  where
    by_order : (x y : Plan) → same_number x y ≡ false → (x.n ≡ y.n) ⊎ ((x.n < y.n) ⊎ (y.n < x.n)) → (plan_before x y ≡ true) ⊎ (plan_before y x ≡ true)
    by_order x y e (inl same) = absurd (both_ways (same_number x y) e (eq-eqb y.n x.n (sym same)))
    by_order x y e (inr (inl less)) = inl (lt-ltb x.n y.n less)
    by_order x y e (inr (inr more)) = inr (lt-ltb y.n x.n more)

    below : (x y : Plan) → plan_before x y ≡ true → x.n ≤ y.n
    below x y e = let less = ltb-true x.n y.n e in omega (arith, less)

    longer : (x y z : Plan) → x.n < y.n → y.n < z.n → x.n < z.n
    longer x y z e f = omega (arith, e, f)

-- lags are ordered by the first activity of the arc, then by the second one
is_lag_before : (x y : Lag) → lag_before x y ≡ true → (x.source < y.source) ⊎ ((x.source ≡ y.source) × (x.target < y.target))
is_lag_before x y e = by_first (or_cases (nat_lt x.source y.source) ((x.source == y.source) && nat_lt x.target y.target) e)
  where
    by_first : (nat_lt x.source y.source ≡ true) ⊎ (((x.source == y.source) && nat_lt x.target y.target) ≡ true)
        → (x.source < y.source) ⊎ ((x.source ≡ y.source) × (x.target < y.target))
    by_first (inl less) = inl (ltb-true x.source y.source less)
    by_first (inr both) =
        let parts = and_parts (x.source == y.source) (nat_lt x.target y.target) both in
        inr (eqb-true x.source y.source parts.0, ltb-true x.target y.target parts.1)

lag_is_before : (x y : Lag) → (x.source < y.source) ⊎ ((x.source ≡ y.source) × (x.target < y.target)) → lag_before x y ≡ true
lag_is_before x y (inl less) = or_left (nat_lt x.source y.source) ((x.source == y.source) && nat_lt x.target y.target) (lt-ltb x.source y.source less)
lag_is_before x y (inr (same, less)) =
    or_right (nat_lt x.source y.source) ((x.source == y.source) && nat_lt x.target y.target)
    (and_from (x.source == y.source) (nat_lt x.target y.target) (eq-eqb x.source y.source same) (lt-ltb x.target y.target less))

arc_orders : Orders same_arc lag_before
arc_orders = record {
  itself = λ x. and_from (x.source == x.source) (x.target == x.target) (eq-eqb x.source x.source refl) (eq-eqb x.target x.target refl);
  either = λ x y e. by_source x y e (cases_order x.source y.source) (cases_order x.target y.target);
  once = λ x y e. false_from_ne_true (lag_before y x) (λ f. never x y (is_lag_before x y e) (is_lag_before y x f));
  chain = λ x y z e f. lag_is_before x z (longer x y z (is_lag_before x y e) (is_lag_before y z f));
}
  where
    by_source : (x y : Lag) → same_arc x y ≡ false → (x.source ≡ y.source) ⊎ ((x.source < y.source) ⊎ (y.source < x.source))
        → (x.target ≡ y.target) ⊎ ((x.target < y.target) ⊎ (y.target < x.target)) → (lag_before x y ≡ true) ⊎ (lag_before y x ≡ true)
    by_source x y e (inr (inl less)) other = inl (lag_is_before x y (inl less))
    by_source x y e (inr (inr more)) other = inr (lag_is_before y x (inl more))
    by_source x y e (inl same) (inr (inl less)) = inl (lag_is_before x y (inr (same, less)))
    by_source x y e (inl same) (inr (inr more)) = inr (lag_is_before y x (inr (sym same, more)))
    by_source x y e (inl same) (inl also) =
        absurd (both_ways (same_arc x y) e (and_from (y.source == x.source) (y.target == x.target) (eq-eqb y.source x.source (sym same)) (eq-eqb y.target x.target (sym also))))

    never : (x y : Lag) → (x.source < y.source) ⊎ ((x.source ≡ y.source) × (x.target < y.target)) → (y.source < x.source) ⊎ ((y.source ≡ x.source) × (y.target < x.target)) → ⊥
    never x y (inl a) (inl b) = omega (arith, a, b)
    never x y (inl a) (inr (b, c)) = omega (arith, a, b)
    never x y (inr (a, c)) (inl b) = omega (arith, a, b)
    never x y (inr (a, c)) (inr (b, d)) = omega (arith, c, d)

    longer : (x y z : Lag) → (x.source < y.source) ⊎ ((x.source ≡ y.source) × (x.target < y.target)) → (y.source < z.source) ⊎ ((y.source ≡ z.source) × (y.target < z.target))
        → (x.source < z.source) ⊎ ((x.source ≡ z.source) × (x.target < z.target))
    longer x y z (inl a) (inl b) = inl (omega (arith, a, b))
    longer x y z (inl a) (inr (b, c)) = inl (omega (arith, a, b))
    longer x y z (inr (a, c)) (inl b) = inl (omega (arith, a, b))
    longer x y z (inr (a, c)) (inr (b, d)) = inr (a ∙ b, omega (arith, c, d))

abbrev same_code : Published → Published → Bool
same_code a b = same_text a.code b.code

code_orders : Orders same_code code_before
code_orders = record {
  itself = λ x. same_text_refl x.code;
  either = λ x y e. by_order x y e (slice_cmp nat_cmp x.code y.code) refl;
  once = λ x y e. later x y (is_less (slice_cmp nat_cmp x.code y.code) e);
  chain = λ x y z e f. ap is_lt (nat_list_cmp_total.trans x.code y.code z.code (is_less (slice_cmp nat_cmp x.code y.code) e) (is_less (slice_cmp nat_cmp y.code z.code) f));
}
  where
    is_less : (o : Ordering) → is_lt o ≡ true → o ≡ Less
    is_less Less e = refl
    is_less Equal e = absurd (both_ways false refl e)
    is_less Greater e = absurd (both_ways false refl e)

    later : (x y : Published) → slice_cmp nat_cmp x.code y.code ≡ Less → code_before y x ≡ false
    later x y e = ap is_lt (nat_list_cmp_total.antisymm y.code x.code ∙ ap ordering_reverse e)

    by_order : (x y : Published) → same_code x y ≡ false → (o : Ordering) → slice_cmp nat_cmp x.code y.code ≡ o → (code_before x y ≡ true) ⊎ (code_before y x ≡ true)
    by_order x y e Less is = inl (ap is_lt is)
    by_order x y e Equal is = absurd (both_ways (same_code x y) e (sym (is_eq-slice_cmp x.code y.code) ∙ ap is_eq is))
    by_order x y e Greater is = inr (ap is_lt (nat_list_cmp_total.antisymm y.code x.code ∙ ap ordering_reverse is))

-- ---- the values that decisions depend on

pub record LooksAlike (v u : View) : Type 0 where
  pub office : v.office ≡ u.office
  pub desk : v.desk ≡ u.desk
  pub seen : (n : Text) → plan_seen v n ≡ plan_seen u n
  pub code : (text : Text) → code_in v.published text ≡ code_in u.published text
  pub bound : (n place : ℕ) → code_at v n place ≡ code_at u n place
  pub lags : (n : ℕ) → lags_of v n ≡ lags_of u n
  pub codes : codes_text v.published ≡ codes_text u.published
  pub plans : plans_text v.plans ≡ plans_text u.plans
  pub count : length v.plans ≡ length u.plans

pub looks_alike : (v u : View) → IsWorld (alone v) → IsWorld (alone u) → SameView v u → LooksAlike v u
looks_alike v u k l same = record {
  office = same.office;
  desk = same.desk;
  seen = λ n. ap_numbers (plan_number n);
  code = code_same;
  bound = λ n place. ap (option_and_then (λ row. code_in v.published row.code)) (bind_same n place) ∙ at_code (find (is_bound_at n place) u.binds);
  lags = λ n. ap (map arc_of) (in_order_same arc_orders (filter (λ row. row.n == n) v.lags) (filter (λ row. row.n == n) u.lags)
      (same_filter (λ row. row.n == n) v.lags u.lags same.lags) (arcs_differ v n k) (arcs_differ u n l));
  codes = ap (λ rows. codes_listed rows) (in_order_same code_orders v.published u.published same.published k.codes_differ l.codes_differ);
  plans = ap (λ rows. plans_listed rows) (in_order_same number_orders v.plans u.plans same.plans (numbers_differ v k) (numbers_differ u l));
  count = length_same number_orders v.plans u.plans same.plans (numbers_differ v k) (numbers_differ u l);
}
  where
    codes_listed : List Published → Text
    codes_listed rows = codes "{\"capacities\":[" ++ separated (map (λ row. code_text row.code row.kind row.capacity) rows) ++ codes "]}"

    plans_listed : List Plan → Text
    plans_listed rows = codes "{\"plans\":[" ++ separated (map (λ row. plan_text row.n row.kind) rows) ++ codes "]}"

    code_same : (text : Text) → code_in v.published text ≡ code_in u.published text
    code_same text = find_same same_code (is_code text)
        (λ x y a b. subst (λ t. same_text x.code t ≡ true) (sym (text_from_same y.code text b)) a) v.published u.published same.published k.codes_differ l.codes_differ

    plan_same : (n : ℕ) → find (has_number n) v.plans ≡ find (has_number n) u.plans
    plan_same n = find_same same_number (has_number n) (λ x y a b. eq-eqb y.n x.n (eqb-true y.n n b ∙ sym (eqb-true x.n n a)))
        v.plans u.plans same.plans (numbers_differ v k) (numbers_differ u l)

    ap_numbers : (o : Option ℕ) → option_and_then (λ n. find (has_number n) v.plans) o ≡ option_and_then (λ n. find (has_number n) u.plans) o
    ap_numbers None = refl
    ap_numbers (Some n) = plan_same n

    bind_same : (n place : ℕ) → find (is_bound_at n place) v.binds ≡ find (is_bound_at n place) u.binds
    bind_same n place = find_same same_place (is_bound_at n place) both v.binds u.binds same.binds (places_differ v k) (places_differ u l)
      where
        both : (x y : Bind) → is_bound_at n place x ≡ true → is_bound_at n place y ≡ true → same_place x y ≡ true
        both x y a b =
            let at_x = and_parts (x.n == n) (x.place == place) a in
            let at_y = and_parts (y.n == n) (y.place == place) b in
            and_from (y.n == x.n) (y.place == x.place) (eq-eqb y.n x.n (eqb-true y.n n at_y.0 ∙ sym (eqb-true x.n n at_x.0)))
            (eq-eqb y.place x.place (eqb-true y.place place at_y.1 ∙ sym (eqb-true x.place place at_x.1)))

    at_code : (o : Option Bind) → option_and_then (λ row. code_in v.published row.code) o ≡ option_and_then (λ row. code_in u.published row.code) o
    at_code None = refl
    at_code (Some row) = code_same row.code
