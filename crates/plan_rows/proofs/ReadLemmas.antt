-- The rows that a desk sees, found by one test of the whole key.
use Rattle.std.proofs.Common.{◌≡◌, ℕ, Bool, true, List, [], ◌∷◌, map, filter, Some, None, refl, sym, ap, ◌∙◌, arith}
use Rattle.std.specs.Prelude.{◌&&◌, ◌==◌, ◌<◌, nat_le, find, string_bytes, Option, IfSome}
use Rattle.std.proofs.lemmas.Bool.{cases_Bool, and_parts, leb-true}
use Rattle.plan_rows.specs.declared.rows.PlanRow.{PlanRow}
use Rattle.plan_rows.specs.World.{Text, Desk, Plan, World, desk_in, plan_in, is_desk, is_plan_of, is_bind_by, is_bind_of, is_lag_by, is_lag_of}
use Rattle.plan_rows.specs.Views.{view}
use Rattle.plan_rows.specs.Plans.{in_order, bind_before, place_of, lag_before, arc_of, places_of, lags_of, has_number}
use Rattle.plan_rows.specs.Names.{is_name, is_digest, is_from_to}
use Rattle.plan_rows.specs.Rules.{IsWorld, is_desk_row}
use Rattle.plan_rows.proofs.RuleLemmas.{found_has}
use Rattle.plan_rows.specs.Books.{bind_in, lag_in, IsPlanAnswer}

module _ {A : Type 0} (p q : A → Bool) where
  -- two filters as one
  pub filter_both : (xs : List A) → filter q (filter p xs) ≡ filter (λ x. p x && q x) xs
  filter_both [] = refl
  filter_both (x ∷ xs) = grind (arith, cases_Bool (p x), cases_Bool (q x), filter_both xs)

  -- a filter and a search as one search
  pub find_both : (xs : List A) → find q (filter p xs) ≡ find (λ x. p x && q x) xs
  find_both [] = refl
  find_both (x ∷ xs) = grind (arith, cases_Bool (p x), cases_Bool (q x), find_both xs)

-- the answer for a plan, from its parts
pub record IsCopy (w : World) (desk : Text) (n : ℕ) (row : Plan) (answer : PlanRow) : Type 0 where
  pub number : row.n ≡ n
  pub kind : answer.kind ≡ row.kind
  pub name : string_bytes answer.name ≡ row.name
  pub body : answer.body.items ≡ row.body
  pub start : string_bytes answer.start ≡ row.start
  pub days : string_bytes answer.days ≡ row.days
  pub binds_are : map bind_in answer.binds.items ≡ map place_of (in_order bind_before (filter (is_bind_of desk n) w.binds))
  pub lags_are : map lag_in answer.lags.items ≡ map arc_of (in_order lag_before (filter (is_lag_of desk n) w.lags))

-- an answer with these parts is the expected one
pub copy_answers : (w : World) (desk : Text) (n : ℕ) (row : Plan) (answer : PlanRow) → IsCopy w desk n row answer → IsPlanAnswer (view desk w) row answer
copy_answers w desk n row answer copy = record {
  kind = copy.kind;
  name = copy.name;
  body = copy.body;
  start = copy.start;
  days = copy.days;
  binds_are = copy.binds_are
      ∙ ap (λ rows. map place_of (in_order bind_before rows)) (sym (filter_both (is_bind_by desk) (λ b. b.n == n) w.binds))
      ∙ ap (places_of (view desk w)) (sym copy.number);
  lags_are = copy.lags_are
      ∙ ap (λ rows. map arc_of (in_order lag_before rows)) (sym (filter_both (is_lag_by desk) (λ l. l.n == n) w.lags))
      ∙ ap (lags_of (view desk w)) (sym copy.number);
}

-- the next number of a desk is at most 1,000,001
pub next_is_low : (desk : Text) (w : World) → IsWorld w → IfSome (desk_in w desk) (λ row. row.next < 1000002)
next_is_low desk w k = at_found (desk_in w desk) refl
  where
    at_found : (o : Option Desk) → desk_in w desk ≡ o → IfSome o (λ row. row.next < 1000002)
    at_found None e = tt
    at_found (Some row) e =
        let rule = (found_has (λ row. is_desk_row row ≡ true) (is_desk desk) w.desks row e k.desks).0 in
        let parts = and_parts (is_name row.desk) (is_digest row.digest && is_from_to 1 1000001 row.next) rule in
        let bounds = and_parts (nat_le 1 row.next) (nat_le row.next 1000001) (and_parts (is_digest row.digest) (is_from_to 1 1000001 row.next) parts.1).1 in
        omega (arith, leb-true row.next 1000001 bounds.1)

-- a plan is found among those of its desk
pub found_in_view : (w : World) (desk : Text) (n : ℕ) → plan_in w desk n ≡ find (has_number n) (view desk w).plans
found_in_view w desk n = sym (find_both (is_plan_of desk) (has_number n) w.plans)
