use Rattle.sqlite_disk.specs.contracts.start.UnknownStart.TheImpl as unknown
use Rattle.sqlite.specs.Files.{over_files}
use Rattle.plan_serve.proofs.CauseLemmas.{tables_at_name}
use Rattle.plan_serve.proofs.files.check_office_on_file.Goals as goal

pub returns-clause-tables : goal.returns-clause-tables
returns-clause-tables g c = tables_at_name unknown.ghosts over_files c.metadata.result c.check_office_from.result.0 c.check_office_from.ensures.tables
