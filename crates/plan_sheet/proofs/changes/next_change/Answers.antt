use Rattle.std.proofs.Common.{◌<◌, ◌≤◌, sym, subst}
use Rattle.plan_sheet.proofs.ChangeLemmas.{change_later, change_most, change_quiet}
use Rattle.plan_sheet.proofs.changes.next_change.Goals as goal

pub returns-clause-later : goal.returns-clause-later
returns-clause-later c =
    subst (λ n. c.args.t < n) (sym c.change_after.ensures) (change_later c.args.uses.now c.args.t c.args.makespan c.requires)

pub returns-clause-most : goal.returns-clause-most
returns-clause-most c =
    subst (λ n. n ≤ c.args.makespan) (sym c.change_after.ensures) (change_most c.args.uses.now c.args.t c.args.makespan)

pub returns-clause-quiet : goal.returns-clause-quiet
returns-clause-quiet c = λ u late before.
    change_quiet c.args.uses.now c.args.t c.args.makespan u late (subst (λ n. u < n) c.change_after.ensures before)
