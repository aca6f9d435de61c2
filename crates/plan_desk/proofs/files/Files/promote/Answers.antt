use Rattle.plan_desk.proofs.KeptLemmas.{promoted_are_kept, promoted_moves, missing_unmoved}
use Rattle.plan_desk.proofs.files.Files.promote.Goals as goal

pub invariant_of-self : goal.invariant_of-self
invariant_of-self c = rw c.promote.ensures.entries (promoted_are_kept c.self.inside.kept c.self.inside.bytes c.self.invariant c.args.key.now)

pub returns-clause-found : goal.returns-clause-found
returns-clause-found c =
    rw (← c.self.view_is) (rw c.promote.ensures.entries (rw c.promote.ensures.value (promoted_moves c.args.key.now c.self.inside.kept.entries)))

pub returns-clause-missing : goal.returns-clause-missing
returns-clause-missing c =
    rw (← c.self.view_is) (rw c.promote.ensures.entries (rw c.promote.ensures.value (missing_unmoved c.args.key.now c.self.inside.kept.entries)))
