use Rattle.std.proofs.Common.{◌∙◌, sym}
use Rattle.plan_kernel.proofs.InputLemmas.{count_is}
use Rattle.plan_kernel.proofs.PlanLemmas.{fits_everywhere}
use Rattle.plan_kernel.proofs.feasible.fits_always.Goals as goal

pub returns-clause-yes : goal.returns-clause-yes
returns-clause-yes c holds =
    let input = c.args.input.now in
    fits_everywhere input c.args.starts.now (c.requires ∙ sym (count_is input)) (c.fits_at_starts.ensures.yes c.if-not-fits_at_starts.false)
    (c.fits_at_absences.ensures.yes holds)
