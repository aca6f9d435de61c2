-- The texts and lines of tasks on files that are read with the options of a list
-- (docs/definitions.md, "Runs").
use Rattle.std.specs.Prelude.{ℕ, List, [], Option, map}
use Rattle.plan_table.specs.Overrides.{Override, override_of}
use Rattle.plan_spreadsheet.specs.declared.options.Options.{Options}
use Rattle.plan_documents.specs.ListOptions.{OfPrepared, RefusesOfPrepared}
use Rattle.plan_cli.specs.Tasks.{RefusesRead, ShowsRead}
use Rattle.plan_cli.specs.declared.tasks.Rows.{Rows}
use Rattle.plan_cli.specs.declared.tasks.Task.{Task}
use Rattle.plan_cli.specs.declared.tasks.Task.TheVariants as task

-- the capacities with which a task reads a list
abbrev pub list_given : Task → List Override
list_given (task.Import given) = map override_of given.now
list_given _ = []

-- the texts that a task writes for what it reads of a file; without options it reads the file
abbrev pub ShowsPrepared : Option Options → Rows → Task → List ℕ → List ℕ → Type 0
ShowsPrepared o rows t file text =
    OfPrepared o (list_given t) file (λ list. ShowsRead rows t list text)

-- the lines with which a task refuses a file, or what it reads of it
abbrev pub RefusesPrepared : Option Options → Task → List ℕ → List ℕ → Type 0
RefusesPrepared o t file line = RefusesOfPrepared o (list_given t) (RefusesRead t) file line
