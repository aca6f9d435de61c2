use Rattle.plan_cli.proofs.InputLemmas.{unknown_texts}
use Rattle.plan_cli.proofs.files.run_on_files.Goals as goal

pub returns-clause-does : goal.returns-clause-does
returns-clause-does g c = unknown_texts _ c.args.options c.args.task c.args.rows c.args.texts.now _ _ _ c.run_on_texts.result c.run_on_texts.ensures.does
