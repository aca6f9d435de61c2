-- The subject of an error and its likely cause (docs/definitions.md, "Runs").
use Rattle.std.specs.Prelude.{ℕ, Bool, true, false, ◌&&◌, if◌then◌else◌, List, Option, None}
use Rattle.std.specs.Prelude.{bytes_eq, codes}
use denote.Ref.{Bor}
use Rattle.plan_errors.specs.Codes.{cause_of}
use Rattle.plan_errors.specs.declared.codes.Code.{Code}
use Rattle.plan_errors.specs.declared.codes.Code.TheVariants as code
use Rattle.plan_errors.specs.declared.context.Contents.{Contents}
use Rattle.plan_errors.specs.declared.context.Contents.TheVariants as contents
use Rattle.plan_errors.specs.declared.context.Context.{Context}
use Rattle.plan_errors.specs.declared.context.About.{About}
use Rattle.plan_errors.specs.declared.context.About.TheVariants as subject

-- the argument of a command that is a subject, or none if the command has no such argument
abbrev pub argument_of : Context → About → Option (Bor (List ℕ))
argument_of context subject.Plan = context.file
argument_of context subject.List = context.file
argument_of context subject.Starts = context.starts
argument_of context subject.StartsA = context.starts_a
argument_of context subject.StartsB = context.starts_b
argument_of context subject.Holidays = context.holidays
argument_of context subject.Rule = context.rule
argument_of context subject.Limit = context.limit
argument_of context subject.FirstDate = context.first_date
argument_of context subject.Weekdays = context.weekdays
argument_of context subject.Capacity = context.capacity
argument_of context subject.Office = context.office
argument_of context subject.Log = context.log
argument_of context subject.Other = None

-- whether a subject is a file
abbrev pub is_file : About → Bool
is_file subject.Rule = false
is_file subject.Limit = false
is_file subject.FirstDate = false
is_file subject.Weekdays = false
is_file subject.Capacity = false
is_file subject.Other = false
is_file _ = true

-- an argument as hints print it: a file with the name `-` is standard input
abbrev pub shown_as : About → List ℕ → List ℕ
shown_as about argument =
    if is_file about && bytes_eq argument (codes "-") then codes "standard input" else argument

-- the likely cause of an error of a project or a job shop whose file has these contents
abbrev pub plan_cause : Contents → Code → List ℕ
plan_cause contents.ActivityList code = codes "this is a list of activities; plan import converts it"
plan_cause contents.OrderList code = codes "this is a list of orders; plan import --shop converts it"
plan_cause contents.Unknown code = cause_of code

-- the likely cause of an error of a list with these contents
abbrev pub list_cause : Contents → Code → List ℕ
list_cause contents.ActivityList code.NoDurations =
    codes "this is a list of activities; leave out --shop"
list_cause _ code = cause_of code

-- the likely cause of an error of starts
abbrev pub starts_cause : Code → List ℕ
starts_cause code.MissingHead = codes "the columns aren't those of a table of start times"
starts_cause code = cause_of code

-- the likely cause of an error about a subject, in a file with these contents
abbrev pub cause_in : Contents → About → Code → List ℕ
cause_in contents subject.Plan code = plan_cause contents code
cause_in contents subject.List code = list_cause contents code
cause_in contents subject.Starts code = starts_cause code
cause_in contents subject.StartsA code = starts_cause code
cause_in contents subject.StartsB code = starts_cause code
cause_in contents _ code = cause_of code
