-- The text of an office's rows that a hasher received, step by step.
use Rattle.std.proofs.Common.{◌≡◌, ◌⊎◌, inl, inr, ℕ, suc, ◌+◌, ◌<◌, take, get_or, Bool, true, false, ◌==◌, List, [], ◌∷◌, ◌++◌, length, map, find, Option, Some}
use Rattle.std.proofs.Common.{None, Ok, refl, sym, ap, ap₂, subst, ◌∙◌, arith, cond, string_bytes}
use Rattle.std.specs.List.{flat_map, AllByRecursion}
use Rattle.std.proofs.lemmas.Bool.{and_parts, both_ways, cases_Bool, cond-true, cond-false}
use Rattle.std.proofs.lemmas.Bool.Decides.{nat_tests}
use Rattle.std.proofs.lemmas.List.{append_assoc, append-nil, length-map}
use Rattle.std.proofs.lemmas.Grind.{flat_map-append}
use Rattle.std.proofs.Math.Seq.{take-suc}
use Rattle.std.proofs.lemmas.Slice.Eq.{bytes_eq-Decides}
use Rattle.sha2.specs.declared.Sha256.{Sha256}
use Rattle.sha2.specs.Hashers.{Holds256}
use Rattle.sha2.specs.Sha256.{sha256}
use Rattle.plan_rows.specs.declared.rows.PlanRow.{PlanRow}
use Rattle.plan_rows.specs.World.{Text, Plan, World, same_text, is_plan, plan_in}
use Rattle.plan_rows.specs.Views.{view}
use Rattle.plan_rows.specs.Plans.{put_in_order, in_order, code_before, has_number}
use Rattle.plan_rows.specs.Rules.{AllDiffer, IsWorld}
use Rattle.plan_rows.specs.Books.{Shelf, Matches, IsPlanAnswer, published_in}
use Rattle.plan_rows.specs.Tables.{desk_kept, bind_kept, lag_kept}
use Rattle.plan_rows.proofs.RuleLemmas.{found_has}
use Rattle.plan_desk.proofs.DecidingLemmas.{quiet_self, quiet_then}
use Rattle.plan_rows.specs.declared.keyed_rows.PlanKey.{PlanKey}
use Rattle.plan_rows.specs.declared.keyed_rows.RowsByKey.{RowsByKey}
use Rattle.plan_rows.specs.KeyedRows.{AreRowsByKey, desk_before, plan_key_before, bind_key_before, lag_key_before, key_of, key_in}
use Rattle.plan_rows.proofs.ReadLemmas.{found_in_view}
use Rattle.plan_summary.specs.declared.summary.Summary.{Summary}
use Rattle.plan_summary.specs.RowTexts.{office_line, code_line, desk_line, plan_line, bind_line, lag_line, codes_text, desks_text, plans_text, binds_text, lags_text, rows_text, IsSummary}
use Rattle.plan_summary.specs.Digests.{Takes, Looks, plan_of, line_of_plan, line_at, lines_at, desk_lines, plan_lines, IsDigestOf, IsSummaryBy}

-- one text, and then another
pub takes_then : (a b c : Sha256) (s t : Text) → Takes a b s → Takes b c t → Takes a c (s ++ t)
takes_then a b c s t one two m holds = subst (Holds256 c) (append_assoc m s t) (two (m ++ s) (one m holds))

-- nothing yet
pub takes_none : (a : Sha256) → Takes a a []
takes_none a m holds = subst (Holds256 a) (sym (append-nil m)) holds

module _ {B : Type 0} (shelf : Shelf B) where
  -- nothing was read
  pub looks_here : {X : Type 0} (Is : World → X → Type 0) (a : B) (x : X) → ((w : World) → Is w x) → Looks shelf a a Is (Ok x)
  looks_here Is a x is = record { quiet = quiet_self shelf a; found = λ h s. (s, is (shelf.world a)) }

  -- a result is found, and then another one
  pub looks_then : {X Y Z : Type 0} (Is : World → X → Type 0) (And : World → Y → Type 0) (Both : World → Z → Type 0) (a b c : B) (x : X) (y : Y) (z : Z)
      → Looks shelf a b Is (Ok x) → Looks shelf b c And (Ok y) → ((w : World) → Is w x → And w y → Both w z) → Looks shelf a c Both (Ok z)
  looks_then Is And Both a b c x y z one two both = record {
    quiet = quiet_then shelf a b c one.quiet two.quiet;
    found = λ h s.
        let first = one.found (two.quiet.honesty h) s in
        let rest = two.found h first.0 in
        (rest.0, both (shelf.world a) first.1 (subst (λ w. And w y) (one.quiet.same (two.quiet.honesty h) first.0) rest.1));
  }

  -- a fact that follows from the one that was found
  pub looks_as : {X Y : Type 0} (Is : World → X → Type 0) (Other : World → Y → Type 0) (a b : B) (x : X) (y : Y)
      → Looks shelf a b Is (Ok x) → ((w : World) → Is w x → Other w y) → Looks shelf a b Other (Ok y)
  looks_as Is Other a b x y one other = record {
    quiet = one.quiet;
    found = λ h s. let first = one.found h s in (first.0, other (shelf.world a) first.1);
  }

-- ---- the lines of rows

-- the line of one row more
pub lines_next : {A : Type 0} (f : A → Text) (xs : List A) (k : ℕ) (x : A) (t : Text) → k < length xs → get_or xs k x ≡ x → t ≡ f x
    → flat_map f (take k xs) ++ t ≡ flat_map f (take (k + 1) xs)
lines_next f xs k x t small at is =
    let next : k + 1 ≡ suc k = omega arith in
    ap (λ z. flat_map f (take k xs) ++ z) (is ∙ sym (append-nil (f x)))
    ∙ sym (flat_map-append f (take k xs) (x ∷ []))
    ∙ ap (flat_map f) (ap (λ y. take k xs ++ y ∷ []) (sym at) ∙ sym (take-suc xs k x small) ∙ ap (λ (m : ℕ). take m xs) (sym next))

flat : {A C : Type 0} (f : C → Text) (g : A → C) (xs : List A) → flat_map (λ x. f (g x)) xs ≡ flat_map f (map g xs)
flat f g [] = refl
flat f g (x ∷ xs) = ap (λ more. f (g x) ++ more) (flat f g xs)

-- each plan is found by its key
AtTheirKeys : World → List Plan → Type 0
AtTheirKeys w plans = AllByRecursion (λ plan. plan_in w plan.desk plan.n ≡ Some plan) plans

flat_found : (w : World) (plans : List Plan) → AtTheirKeys w plans → flat_map (λ plan. line_at w (key_of plan)) plans ≡ flat_map plan_line plans
unfolding AtTheirKeys
flat_found w [] all = refl
flat_found w (plan ∷ plans) all = ap₂ ◌++◌ (ap line_of_plan all.0) (flat_found w plans all.1)

-- a plan has its own key
is_plan_itself : (p : Plan) → is_plan p.desk p.n p ≡ true
is_plan_itself p = rw ((bytes_eq-Decides p.desk p.desk).1 refl) same
  where
    same : (p.n == p.n) ≡ true
    same = grind (arith, nat_tests)

-- a plan that differs from another doesn't have its key
is_plan_turned : (p q : Plan) → is_plan p.desk p.n q ≡ false → is_plan q.desk q.n p ≡ false
is_plan_turned p q none = go (cases_Bool (is_plan q.desk q.n p))
  where
    go : (is_plan q.desk q.n p ≡ true) ⊎ (is_plan q.desk q.n p ≡ false) → is_plan q.desk q.n p ≡ false
    go (inr differs) = differs
    go (inl same) =
        let parts = and_parts (same_text p.desk q.desk) (p.n == q.n) same in
        let desk : p.desk ≡ q.desk = (bytes_eq-Decides p.desk q.desk).0 parts.0 in
        let number : p.n ≡ q.n = let it = parts.1 in grind (arith, nat_tests) in
        let is : is_plan p.desk p.n q ≡ true = subst (λ d. is_plan d p.n q ≡ true) (sym desk) (subst (λ n. is_plan q.desk n q ≡ true) (sym number) (is_plan_itself q)) in
        absurd (both_ways (is_plan p.desk p.n q) none is)

-- a row that differs from every earlier one is found by its key
found_at : (plans : List Plan) → AllDiffer (λ a b. is_plan a.desk a.n b) plans → AllByRecursion (λ plan. find (is_plan plan.desk plan.n) plans ≡ Some plan) plans
found_at [] apart = tt
found_at (p ∷ ps) apart = (first, later ps apart.0 (found_at ps apart.1))
  where
    first : find (is_plan p.desk p.n) (p ∷ ps) ≡ Some p
    first = cond-true (is_plan p.desk p.n p) (Some p) (find (is_plan p.desk p.n) ps) (is_plan_itself p)

    later : (qs : List Plan) → AllByRecursion (λ q. is_plan p.desk p.n q ≡ false) qs → AllByRecursion (λ q. find (is_plan q.desk q.n) ps ≡ Some q) qs
        → AllByRecursion (λ q. find (is_plan q.desk q.n) (p ∷ ps) ≡ Some q) qs
    later [] none all = tt
    later (q ∷ qs) none all =
        (cond-false (is_plan q.desk q.n p) (Some p) (find (is_plan q.desk q.n) ps) (is_plan_turned p q none.0) ∙ all.0, later qs none.1 all.1)

-- ---- rows in order

all_put : {A : Type 0} (P : A → Type 0) (before : A → A → Bool) (x : A) (ys : List A) → P x → AllByRecursion P ys → AllByRecursion P (put_in_order before x ys)
all_put P before x [] h all = (h, tt)
all_put P before x (y ∷ ys) h all =
    elim (before y x) as (λ b. AllByRecursion P (cond b (y ∷ put_in_order before x ys) (x ∷ y ∷ ys))) [ true ↦ (all.0, all_put P before x ys h all.1) | false ↦ (h, all) ]

all_in_order : {A : Type 0} (P : A → Type 0) (before : A → A → Bool) (xs : List A) → AllByRecursion P xs → AllByRecursion P (in_order before xs)
all_in_order P before [] all = tt
all_in_order P before (x ∷ xs) all = all_put P before x (in_order before xs) all.0 (all_in_order P before xs all.1)

length-put : {A : Type 0} (before : A → A → Bool) (x : A) (ys : List A) → length (put_in_order before x ys) ≡ suc (length ys)
length-put before x [] = refl
length-put before x (y ∷ ys) =
    elim (before y x) as (λ b. length (cond b (y ∷ put_in_order before x ys) (x ∷ y ∷ ys)) ≡ suc (suc (length ys))) [ true ↦ ap suc (length-put before x ys) | false ↦ refl ]

length-in_order : {A : Type 0} (before : A → A → Bool) (xs : List A) → length (in_order before xs) ≡ length xs
length-in_order before [] = refl
length-in_order before (x ∷ xs) = length-put before x (in_order before xs) ∙ ap suc (length-in_order before xs)

-- ---- all rows

all_unit : (xs : List Plan) → AllByRecursion (λ _. Unit {0}) xs
all_unit [] = tt
all_unit (x ∷ xs) = (tt, all_unit xs)

-- the line of the plan that a book returns for a key
pub line_there : (w : World) (key : PlanKey) (row : PlanRow) (desk : Text) → desk ≡ string_bytes key.desk →
    Matches (IsPlanAnswer (view desk w)) (find (has_number key.n) (view desk w).plans) (Some row)
    → line_at w (key_in key) ≡ plan_line (plan_of key row)
line_there w key row desk is_its h =
    go (plan_in w (string_bytes key.desk) key.n) refl (subst (λ o. Matches (IsPlanAnswer (view (string_bytes key.desk) w)) o (Some row)) (sym (found_in_view w (string_bytes key.desk) key.n))
    (subst (λ d. Matches (IsPlanAnswer (view d w)) (find (has_number key.n) (view d w).plans) (Some row)) is_its h))
  where
    go : (o : Option Plan) → plan_in w (string_bytes key.desk) key.n ≡ o → Matches (IsPlanAnswer (view (string_bytes key.desk) w)) o (Some row) → line_at w (key_in key) ≡ plan_line (plan_of key row)
    go None is h = absurd h
    go (Some plan) is h =
        let own = found_has (λ _. Unit {0}) (is_plan (string_bytes key.desk) key.n) w.plans plan is (all_unit w.plans) in
        let parts = and_parts (same_text plan.desk (string_bytes key.desk)) (plan.n == key.n) own.1 in
        let number : plan.n ≡ key.n = let it = parts.1 in grind (arith, nat_tests) in
        ap line_of_plan is
        ∙ ap plan_line (λ i. record {
          desk = (bytes_eq-Decides plan.desk (string_bytes key.desk)).0 parts.0 i;
          n = number i;
          kind = sym h.kind i;
          name = sym h.name i;
          body = sym h.body i;
          start = sym h.start i;
          days = sym h.days i;
        })

module _ (w : World) (rows : RowsByKey) (are : AreRowsByKey w rows) where
  codes_are : flat_map (λ row. code_line (published_in row)) rows.published.items ≡ codes_text w
  codes_are = flat code_line published_in rows.published.items ∙ ap (flat_map code_line) are.desk_tables.published_are

  desks_are : flat_map (λ row. desk_line (desk_kept row)) rows.desks.items ≡ desks_text w
  desks_are = flat desk_line desk_kept rows.desks.items ∙ ap (flat_map desk_line) are.desk_tables.desks_are

  plans_are : IsWorld w → lines_at w rows.plans.items ≡ plans_text w
  unfolding AtTheirKeys
  plans_are rules =
      flat (line_at w) key_in rows.plans.items ∙ ap (flat_map (line_at w)) are.plan_tables.plans_are ∙ sym (flat (line_at w) key_of (in_order plan_key_before w.plans))
      ∙ flat_found w (in_order plan_key_before w.plans) (all_in_order (λ plan. plan_in w plan.desk plan.n ≡ Some plan) plan_key_before w.plans (found_at w.plans rules.plans_differ))

  binds_are : flat_map (λ row. bind_line (bind_kept row)) rows.binds.items ≡ binds_text w
  binds_are = flat bind_line bind_kept rows.binds.items ∙ ap (flat_map bind_line) are.plan_tables.binds_are

  lags_are : flat_map (λ row. lag_line (lag_kept row)) rows.lags.items ≡ lags_text w
  lags_are = flat lag_line lag_kept rows.lags.items ∙ ap (flat_map lag_line) are.plan_tables.lags_are

  all_are : IsWorld w → (desk_lines rows ++ lines_at w rows.plans.items) ++ plan_lines rows ≡ rows_text w
  all_are rules =
      ap₂ ◌++◌ (ap₂ ◌++◌ (ap₂ ◌++◌ (ap₂ ◌++◌ (ap office_line are.desk_tables.office_is) codes_are) desks_are) (plans_are rules)) (ap₂ ◌++◌ binds_are lags_are)

  counted : {A C : Type 0} (kept : A → C) (before : C → C → Bool) (xs : List A) (all : List C) → map kept xs ≡ in_order before all → length xs ≡ length all
  counted kept before xs all is = sym (length-map xs kept) ∙ ap length is ∙ length-in_order before all

  keys_counted : length rows.plans.items ≡ length w.plans
  keys_counted =
      sym (length-map rows.plans.items key_in) ∙ ap length are.plan_tables.plans_are ∙ length-map (in_order plan_key_before w.plans) key_of ∙ length-in_order plan_key_before w.plans

  -- the summary of the rows that were listed is that of the office
  pub summed : (digest : List ℕ) (summary : Summary) → IsWorld w → IsDigestOf rows w digest → IsSummaryBy rows digest summary → IsSummary w summary
  summed digest summary rules is by = record {
    desks = by.desks ∙ counted desk_kept desk_before rows.desks.items w.desks are.desk_tables.desks_are;
    published = by.published ∙ counted published_in code_before rows.published.items w.published are.desk_tables.published_are;
    plans = by.plans ∙ keys_counted;
    binds = by.binds ∙ counted bind_kept bind_key_before rows.binds.items w.binds are.plan_tables.binds_are;
    lags = by.lags ∙ counted lag_kept lag_key_before rows.lags.items w.lags are.plan_tables.lags_are;
    digest = by.digest_is ∙ is ∙ ap sha256 (all_are rules);
  }
