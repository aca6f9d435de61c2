-- How a command writes a file that the command line names (docs/logs.md, "The file LOG").
use Rattle.std.specs.Prelude.{◌≡◌, ◌≢◌, ℕ, List, Contains, codes}
use Rattle.plan_orders.specs.declared.outputs.FileId.{FileId}
use Rattle.plan_orders.specs.declared.outputs.Found.{Found}
use Rattle.plan_orders.specs.declared.outputs.Found.TheVariants as found
use Rattle.plan_orders.specs.declared.outputs.Way.{Way}
use Rattle.plan_orders.specs.declared.outputs.Way.TheVariants as way

-- the output is a regular file, one of these
abbrev pub IsFileAmong : List FileId → Found → Type 0
IsFileAmong files (found.Regular file) = Contains files file
IsFileAmong files other = ⊥

-- nothing else is lost if the output is written: it isn't standard output, which `-` names, nor a
-- regular file that the command reads or that its standard output or standard error writes
pub record MayWrite (name : List ℕ) (output : Found) (inputs streams : List FileId) : Type 0 where
  pub named : name ≢ codes "-"
  pub no_input : ¬ (IsFileAmong inputs output)
  pub no_stream : ¬ (IsFileAmong streams output)

-- what a file beside the output can replace: a regular file, or no file
abbrev pub IsReplaceable : Found → Type 0
IsReplaceable found.Nothing = Unit
IsReplaceable (found.Regular file) = Unit
IsReplaceable other = ⊥

-- the way to write the output with this name
abbrev pub IsWayFor : List ℕ → Found → List FileId → List FileId → Way → Type 0
IsWayFor name output inputs streams way.RefuseDash = name ≡ codes "-"
IsWayFor name output inputs streams way.RefuseInput =
    (name ≢ codes "-") × IsFileAmong inputs output
IsWayFor name output inputs streams way.RefuseStream =
    (name ≢ codes "-") × (¬ (IsFileAmong inputs output)) × IsFileAmong streams output
IsWayFor name output inputs streams way.RefuseFolder =
    MayWrite name output inputs streams × (output ≡ found.Folder)
IsWayFor name output inputs streams way.RefuseLink =
    MayWrite name output inputs streams × (output ≡ found.BrokenLink)
IsWayFor name output inputs streams way.Straight =
    MayWrite name output inputs streams × (output ≡ found.Device)
IsWayFor name output inputs streams way.Beside =
    MayWrite name output inputs streams × IsReplaceable output
