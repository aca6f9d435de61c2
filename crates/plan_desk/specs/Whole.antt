-- The rules of rows, recovered from the fact that they are known to hold: a book keeps that fact.
use Rattle.std.specs.Prelude.{◌≡◌, ℕ, ◌<◌, ◌≤◌, true, [], length, filter}
use Rattle.std.proofs.Common.{refl}
use Rattle.std.proofs.Math.Logic.{∥∥₁_elim, ∥∥₁_map}
use Rattle.std.proofs.Props.{props}
use Rattle.plan_rows.specs.declared.kinds.PlanKind.{PlanKind}
use Rattle.plan_rows.specs.declared.kinds.PlanKind.TheVariants as kinds
use Rattle.plan_rows.specs.World.{Text, Plan, Bind, Lag, World, same_text, same_kind, takes, is_plan_of, is_plan, is_bind, is_lag, plan_in, code_in, desk_in}
use Rattle.plan_net.specs.Limits.{longest_lag}
use Rattle.plan_rows.specs.Plans.{is_place}
use Rattle.plan_rows.specs.Plans.{has_arc}
use Rattle.plan_rows.specs.Names.{is_from_to, is_digest}
use Rattle.plan_rows.specs.Rules.{greatest_number, most_plans, IsWorld, IsPlanRow, IsBindRow, IsLagRow, IsOwned, HasName, is_published_row, is_desk_row}
use Rattle.plan_desk.specs.Recovery.{Recovers, single, equal, each, pair, there, differ, project, places, has_calendar}

has_name : (kind : PlanKind) (name : Text) → Recovers (HasName kind name)
has_name kinds.Project name t = single (empty name) t
  where
    empty : (text : Text) → IsProp (text ≡ [])
    empty text = hlevel props
has_name kinds.Shop name t = tt

plan_row : (row : Plan) → Recovers (IsPlanRow row)
plan_row row t = record {
  number = equal (is_from_to 1 greatest_number row.n) true (∥∥₁_map t (λ r. r.number));
  name = has_name row.kind row.name (∥∥₁_map t (λ r. r.name));
  reads = let found = places row.kind row.name row.body (λ _. Unit {0}) (λ _ _. tt) (∥∥₁_map t
      (λ r. (r.reads.0, r.reads.1, tt))) in (found.0, found.1);
  calendar = has_calendar row.start row.days (∥∥₁_map t (λ r. r.calendar));
}

bind_row : (w : World) (row : Bind) → Recovers (IsBindRow w row)
bind_row w row =
    there (λ plan. pair (places plan.kind plan.name plan.body
    (λ count. is_place plan.kind count row.place ≡ true)
    (λ count. equal (is_place plan.kind count row.place) true))
    (there (λ code. equal (same_kind code.kind (takes plan.kind)) true) (code_in w.published row.code))) (plan_in w row.desk row.n)

is_project : (kind : PlanKind) → Recovers (kind ≡ kinds.Project)
is_project kinds.Project t = refl
is_project kinds.Shop t = absurd (∥∥₁_elim t (λ x y. absurd x) never)
  where
    never : kinds.Shop ≡ kinds.Project → ⊥
    never e = cc

lag_row : (w : World) (row : Lag) → Recovers (IsLagRow w row)
lag_row w row =
    there (λ plan t. (
      is_project plan.kind (∥∥₁_map t (λ h. h.0)),
      project plan.body (λ p. has_arc p.network row.source row.target ≡ true)
          (λ p. equal (has_arc p.network row.source row.target) true) (∥∥₁_map t (λ h. h.1)),
      equal (is_from_to 1 longest_lag row.lag) true (∥∥₁_map t (λ h. h.2)),
    )) (plan_in w row.desk row.n)

owned : (w : World) (row : Plan) → Recovers (IsOwned w row)
owned w row = there (λ desk. single (less row.n desk.next)) (desk_in w row.desk)
  where
    less : (a b : ℕ) → IsProp (a < b)
    less a b = hlevel props

at_most : (a b : ℕ) → IsProp (a ≤ b)
at_most a b = hlevel props

-- the evidence for the rules of rows, if they are known to hold
pub whole_of : (w : World) → Recovers (IsWorld w)
whole_of w t = record {
  office = equal (is_digest w.office) true (∥∥₁_map t (λ k. k.office));
  published = each (λ row. equal (is_published_row row) true) w.published (∥∥₁_map t
      (λ k. k.published));
  desks = each (λ row. equal (is_desk_row row) true) w.desks (∥∥₁_map t (λ k. k.desks));
  plans = each plan_row w.plans (∥∥₁_map t (λ k. k.plans));
  codes_differ = differ (λ a b. same_text a.code b.code) w.published (∥∥₁_map t
      (λ k. k.codes_differ));
  desks_differ = differ (λ a b. same_text a.desk b.desk) w.desks (∥∥₁_map t (λ k. k.desks_differ));
  plans_differ = differ (λ a b. is_plan a.desk a.n b) w.plans (∥∥₁_map t (λ k. k.plans_differ));
  binds_differ = differ (λ a b. is_bind a.desk a.n a.place b) w.binds (∥∥₁_map t
      (λ k. k.binds_differ));
  lags_differ = differ (λ a b. is_lag a.desk a.n a.source a.target b) w.lags (∥∥₁_map t
      (λ k. k.lags_differ));
  few = each (λ row. single (at_most (length (filter (is_plan_of row.desk) w.plans)) most_plans)) w.desks
      (∥∥₁_map t (λ k. k.few));
  owned = each (owned w) w.plans (∥∥₁_map t (λ k. k.owned));
  bound = each (bind_row w) w.binds (∥∥₁_map t (λ k. k.bound));
  lagged = each (lag_row w) w.lags (∥∥₁_map t (λ k. k.lagged));
}
