-- The form in which the error of a command on files is printed (docs/errors.md).
use Rattle.plan_cli.specs.declared.tasks.Rows.{Rows}
use Rattle.plan_cli.specs.declared.tasks.Rows.TheVariants as row
use Rattle.plan_formats.specs.declared.format.Format.TheVariants as format
use Rattle.plan_program.specs.declared.errors.FileFault.{FileFault}
use Rattle.plan_program.specs.declared.errors.FileFault.TheVariants as fault
use Rattle.plan_program.specs.declared.errors.Form.{Form}
use Rattle.plan_program.specs.declared.errors.Form.TheVariants as form

-- a JSON object if the rows are JSON, else this form
abbrev pub form_in : Rows → Form → Form
form_in (row.In format.Json) other = form.Json
form_in rows other = other

-- the error of a name that can't be that of a log is one of the command line; a log's line names
-- its cause
abbrev pub form_of : FileFault → Rows → Form
form_of (fault.Usage text) rows = form.Usage
form_of (fault.Log error) rows = form_in rows form.Bare
form_of (fault.Task error) rows = form_in rows form.Hinted
