use Rattle.std.proofs.Common.{sym, subst, List, ℕ}
use Rattle.plan_cli.specs.Tasks.{IsTextOf}
use Rattle.plan_cli.specs.Views.{view_of}
use Rattle.plan_cli.proofs.ViewTextLemmas.{view_text}
use Rattle.plan_cli.proofs.tasks.text_of.Goals as goal

pub returns-clause-made : goal.returns-clause-made
returns-clause-made g c =
    subst (λ (text : List ℕ). IsTextOf c.args.task c.args.file.now text) (sym c.in_ok-plain_text.ensures)
    (view_text c.args.task c.args.file.now (view_of c.in_ok-view.view) c.in_ok-view.ensures.made)
