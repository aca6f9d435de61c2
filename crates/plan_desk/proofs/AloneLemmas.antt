-- An office that has the rows of one desk alone keeps the rules of rows.
use Rattle.std.proofs.Common.{◌≡◌, ℕ, ◌≤◌, ◌<◌, Bool, true, List, [], ◌∷◌, filter, length, Option, Some, None, refl, sym, subst, arith}
use Rattle.std.specs.Prelude.{find, option_to_list, ◌==◌}
use Rattle.std.specs.List.{AllByRecursion}
use Rattle.std.proofs.lemmas.Bool.{and_parts}
use Rattle.plan_rows.specs.World.{Text, Desk, Plan, World, same_text, is_desk, is_plan_of, is_bind_by, is_lag_by, is_plan, is_bind, is_lag, desk_in, plan_in}
use Rattle.plan_rows.specs.Views.{view, alone}
use Rattle.plan_rows.specs.Rules.{AllDiffer, IsThereAnd, is_desk_row, IsPlanRow, IsBindRow, IsLagRow, IsOwned}
use Rattle.plan_desk.specs.Laws.{AloneKeepsRules}
use Rattle.plan_rows.proofs.RowLemmas.{find_again}
use Rattle.plan_rows.proofs.OwnerLemmas.{text_from_same}
use Rattle.plan_desk.proofs.KeepLemmas.{HasBound, HasLag}
use Rattle.plan_rows.proofs.RuleLemmas.{all_filter, differ_filter, found_has, find_kept, length_fewer}

-- a fact about each row holds for the row that is found
all_of_found : (P : Desk → Type 0) (d : Text) (xs : List Desk) → AllByRecursion P xs → AllByRecursion P (option_to_list (find (is_desk d) xs))
all_of_found P d xs all = by_row (find (is_desk d) xs) refl
  where
    by_row : (o : Option Desk) → find (is_desk d) xs ≡ o → AllByRecursion P (option_to_list o)
    by_row None e = tt
    by_row (Some row) e = ((found_has P (is_desk d) xs row e all).0, tt)

one_differs : (alike : Desk → Desk → Bool) (o : Option Desk) → AllDiffer alike (option_to_list o)
one_differs alike None = tt
one_differs alike (Some row) = (tt, tt)

-- a desk's plan is found among its plans alone
plan_still : (d : Text) (w : World) (t : Text) (n : ℕ) → same_text t d ≡ true → plan_in (alone (view d w)) t n ≡ plan_in w t n
plan_still d w t n own = find_kept (is_plan t n) (is_plan_of d) mine w.plans
  where
    mine : (x : Plan) → is_plan t n x ≡ true → is_plan_of d x ≡ true
    mine x is =
        let at : x.desk ≡ t = text_from_same x.desk t (and_parts (is_plan_of t x) (x.n == n) is).0 in
        subst (λ name. same_text name d ≡ true) (sym at) own

pub alone_keeps_rules : AloneKeepsRules
unfolding AloneKeepsRules
alone_keeps_rules = λ d w k. record {
  office = k.office;
  published = k.published;
  desks = all_of_found (λ row. is_desk_row row ≡ true) d w.desks k.desks;
  plans = all_filter IsPlanRow IsPlanRow (is_plan_of d) (λ x in_ h. h) w.plans k.plans;
  codes_differ = k.codes_differ;
  desks_differ = one_differs (λ a b. same_text a.desk b.desk) (desk_in w d);
  plans_differ = differ_filter (λ a b. is_plan a.desk a.n b) (is_plan_of d) w.plans k.plans_differ;
  binds_differ = differ_filter (λ a b. is_bind a.desk a.n a.place b) (is_bind_by d) w.binds k.binds_differ;
  lags_differ = differ_filter (λ a b. is_lag a.desk a.n a.source a.target b) (is_lag_by d) w.lags k.lags_differ;
  few = all_of_found (λ row. length (filter (is_plan_of row.desk) (filter (is_plan_of d) w.plans)) ≤ 100) d w.desks (fewer d w w.desks k.few);
  owned = all_filter (IsOwned w) (IsOwned (alone (view d w))) (is_plan_of d) (λ x in_ h. owned_still d w x in_ h) w.plans k.owned;
  bound = all_filter (IsBindRow w) (IsBindRow (alone (view d w))) (is_bind_by d)
      (λ x in_ h. subst (λ o. IsThereAnd o (HasBound w x)) (sym (plan_still d w x.desk x.n in_)) h) w.binds k.bound;
  lagged = all_filter (IsLagRow w) (IsLagRow (alone (view d w))) (is_lag_by d)
      (λ x in_ h. subst (λ o. IsThereAnd o (HasLag x)) (sym (plan_still d w x.desk x.n in_)) h) w.lags k.lagged;
}
  where
    fewer : (d : Text) (w : World) (rows : List Desk) → AllByRecursion (λ row. length (filter (is_plan_of row.desk) w.plans) ≤ 100) rows
        → AllByRecursion (λ row. length (filter (is_plan_of row.desk) (filter (is_plan_of d) w.plans)) ≤ 100) rows
    fewer d w [] all = tt
    fewer d w (row ∷ rows) all =
        let few = all.0 in
        let less = length_fewer (is_plan_of row.desk) (is_plan_of d) w.plans in
        (omega (arith, few, less), fewer d w rows all.1)

    owned_still : (d : Text) (w : World) (x : Plan) → is_plan_of d x ≡ true → IsOwned w x → IsOwned (alone (view d w)) x
    owned_still d w x own h =
        let at : x.desk ≡ d = text_from_same x.desk d own in
        subst (λ t. IsThereAnd (find (is_desk t) (option_to_list (desk_in w d))) (λ desk. x.n < desk.next)) (sym at)
        (subst (λ o. IsThereAnd o (λ desk. x.n < desk.next)) (sym (find_again (is_desk d) w.desks))
        (subst (λ t. IsThereAnd (desk_in w t) (λ desk. x.n < desk.next)) at h))
