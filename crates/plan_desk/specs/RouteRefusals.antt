-- The refusals of the routes, as functions or relations of values (docs/definitions.md, "Desks").
-- If several apply, the first one in their order is the answer.
use Rattle.std.specs.Prelude.{◌≡◌, ◌⊎◌, ◌+◌, ◌≤◌, ◌<◌, ℕ, if◌then◌else◌, Option, Some, None}
use Rattle.plan_psplib.specs.Project.{Project, SaysProject}
use Rattle.plan_orlib.specs.Shop as docs
use Rattle.plan_orlib.specs.Says.{Says}
use Rattle.plan_gantt.specs.FirstFaults.{TellsFirstFailing, TellsFirstShopFault}
use Rattle.plan_rows.specs.declared.kinds.Kind.{Kind}
use Rattle.plan_rows.specs.declared.kinds.PlanKind.{PlanKind}
use Rattle.plan_rows.specs.declared.kinds.PlanKind.TheVariants as kinds
use Rattle.plan_rows.specs.World.{Text, same_kind}
use Rattle.plan_desk.specs.Calls.{Reply}
use Rattle.plan_desk.specs.Bodies.{LagBody}
use Rattle.plan_rows.specs.Plans.{has_arc}
use Rattle.plan_rows.specs.Rules.{greatest_number, most_plans}
use Rattle.plan_desk.specs.Refusals.{bad_body, unpublished, kind_differs, other_kind, many_plans, numbers_spent, bad_file}

-- a file spells a project, or a shop by the name of an instance
abbrev pub IsRead : PlanKind → Text → Text → Type 0
IsRead kinds.Project name body = (p : Project) × SaysProject body p
IsRead kinds.Shop name body = (shop : docs.Shop) × Says name body shop

-- a line gives the first check that a file fails
abbrev pub TellsFileFault : PlanKind → Text → Text → Text → Type 0
TellsFileFault kinds.Project name body = TellsFirstFailing body
TellsFileFault kinds.Shop name body = TellsFirstShopFault name body

-- a file is read, or refused with the first check that it fails
abbrev pub IsFileRefusal : PlanKind → Text → Text → Option Reply → Type 0
IsFileRefusal kind name body None = IsRead kind name body
IsFileRefusal kind name body (Some reply) =
    (line : Text) × TellsFileFault kind name body line × (reply ≡ bad_file line)

-- The refusal of an import, if there is one, by the number of plans of the desk and its next
-- number. The desk is full, else its numbers are spent, else the file fails a check.
abbrev pub IsImportRefusal : ℕ → ℕ → PlanKind → Text → Text → Option Reply → Type 0
IsImportRefusal held next kind name body refusal =
    ((most_plans ≤ held) × (refusal ≡ Some many_plans))
    ⊎ (((held < most_plans) × (greatest_number + 1 ≤ next) × (refusal ≡ Some numbers_spent))
    ⊎ ((held < most_plans) × (next < greatest_number + 1) × IsFileRefusal kind name body refusal))

-- the refusal of a bind, by the kind of the published code and the kind of code that the plan takes
abbrev pub bind_refusal_of : Option Kind → Kind → Option Reply
bind_refusal_of None takes = Some unpublished
bind_refusal_of (Some kind) takes = if same_kind kind takes then None else Some kind_differs

-- the refusal of a lag, by its body and the project of the plan: None for a shop
abbrev pub lag_refusal_of : LagBody → Option Project → Option Reply
lag_refusal_of b None = Some other_kind
lag_refusal_of b (Some p) =
    if has_arc p.network b.from b.to then None else Some bad_body
