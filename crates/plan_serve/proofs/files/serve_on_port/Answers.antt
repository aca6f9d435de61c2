use Rattle.sqlite_disk.specs.contracts.start.UnknownStart.TheImpl as unknown
use Rattle.sqlite.specs.Files.{over_files}
use Rattle.plan_serve.proofs.CauseLemmas.{tables_at_name}
use Rattle.plan_serve.proofs.files.serve_on_port.Goals as goal

pub returns-clause-tables : goal.returns-clause-tables
returns-clause-tables c = tables_at_name unknown.ghosts over_files c.metadata-looked.result c.serve_from.result.0 c.serve_from.ensures.tables
