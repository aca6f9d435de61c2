-- The contents of the file of a plan (docs/definitions.md, "Books").
use Rattle.std.specs.Prelude.{◌≡◌, ℕ, Option, Some, None, string_bytes}
use Rattle.plan_psplib.specs.Project.{Project, SaysProject}
use Rattle.plan_orlib.specs.Says.{Says}
use Rattle.plan_gantt.specs.FirstFaults.{TellsFirstFailing, TellsFirstShopFault}
use Rattle.plan_rows.specs.declared.kinds.PlanKind.{PlanKind}
use Rattle.plan_rows.specs.declared.kinds.PlanKind.TheVariants as kinds
use Rattle.plan_rows.specs.declared.rows.PlanRow.{PlanRow}
use Rattle.plan_rows.specs.World.{Text}
use Rattle.plan_rows.specs.Views.{View}
use Rattle.plan_desk.specs.Outcomes.{Outcome}
use Rattle.plan_rows.specs.Plans.{HasPlaces}
use Rattle.plan_desk.specs.PlanRoutes.{Imports}

-- the plan of a row has this number of places
abbrev pub RowHasPlaces : PlanRow → ℕ → Type 0
RowHasPlaces row count = HasPlaces row.kind (string_bytes row.name) row.body.items count

-- the project in the file of a row: None for a shop
abbrev pub IsProjectOfRow : PlanRow → Option Project → Type 0
IsProjectOfRow row None = row.kind ≡ kinds.Shop
IsProjectOfRow row (Some p) = (row.kind ≡ kinds.Project) × SaysProject row.body.items p

-- a file is stored by its kind: as a project, or as the shop of an instance
abbrev pub ImportsFile : PlanKind → View → Text → Text → Outcome
ImportsFile kinds.Project v name body =
    Imports v kinds.Project name body (TellsFirstFailing body) (SaysProject body)
ImportsFile kinds.Shop v name body =
    Imports v kinds.Shop name body (TellsFirstShopFault name body) (Says name body)
