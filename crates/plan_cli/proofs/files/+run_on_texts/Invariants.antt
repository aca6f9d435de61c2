use Rattle.std.proofs.Common.{length}
use Rattle.plan_cli.proofs.files.+run_on_texts.Given as goal

-- one text fewer is left at each call
abbrev pub decreases-run_on_texts : goal.decreases-run_on_texts
decreases-run_on_texts g l = length l.texts.now
