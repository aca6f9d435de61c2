use Rattle.std.proofs.Common.{ℕ, subst, sym}
use Rattle.plan_net.specs.Successors.{AreRows, rows_in}
use Rattle.plan_psplib.specs.Requests.{requests_of}
use Rattle.plan_psplib.proofs.AmountsLemmas.{requests_spelled}
use Rattle.plan_psplib.proofs.sm.document.sections_of.Goals as goal

pub returns-clause-rows : goal.returns-clause-rows
returns-clause-rows c =
    let spelled = requests_spelled c.in_ok-sizes.sizes.jobs c.in_ok-sizes.sizes.resources c.in_ok-words-2.words (requests_of c.in_ok-requests.requests) c.in_ok-requests.ensures in
    subst (λ (n : ℕ). AreRows n (rows_in c.in_ok-rows.rows.items)) (sym spelled.durations_count) c.in_ok-rows.ensures.rows
