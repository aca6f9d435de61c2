-- Files of lists with dates, with the options of lists.
use Rattle.std.proofs.Common.{ℕ, List}
use Rattle.plan_documents.proofs.ErrorLemmas.{refuses_as}
use Rattle.plan_documents.specs.ListOptions.{TellsOptions}
use Rattle.plan_errors.specs.declared.fault.CliFault.{CliFault}
use Rattle.plan_errors.specs.Output.{Refuses}
use Rattle.plan_spreadsheet.specs.declared.options.Options as declared
use Rattle.plan_spreadsheet.specs.declared.prepared.OptionsFault.{OptionsFault}
use Rattle.plan_spreadsheet.specs.OptionedLists as lists
use Rattle.plan_spreadsheet.specs.Options.{options_of}
use Rattle.plan_weekfile.specs.Files.{TellsNoFile}

-- options make no list of a file
pub no_file : (o : declared.Options) (file : List ℕ) (fault : OptionsFault) (e : CliFault)
    → lists.IsNotOptioned (options_of o) file fault → Refuses (TellsOptions (options_of o) fault) e → Refuses (TellsNoFile o file) e
no_file o file fault e refused told =
    refuses_as (TellsOptions (options_of o) fault) (TellsNoFile o file) e (λ line tells. (fault, refused, tells)) told
