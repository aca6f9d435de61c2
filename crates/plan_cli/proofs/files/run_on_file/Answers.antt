use Rattle.plan_cli.proofs.InputLemmas.{unknown_file}
use Rattle.plan_cli.proofs.files.run_on_file.Goals as goal

pub returns-clause-does : goal.returns-clause-does
returns-clause-does g c = unknown_file c.args.options c.args.task c.args.rows _ _ _ c.run_with_options.result c.run_with_options.ensures.does
