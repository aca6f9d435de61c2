use Rattle.std.proofs.Common.{inl, inr, rules, arith}
use Rattle.plan_views.proofs.MomentLemmas.{some_hidden}
use Rattle.plan_views.proofs.moments.moments_of.Goals as goal

pub returns-in_err-first-clause-beyond : goal.returns-in_err-first-clause-beyond
returns-in_err-first-clause-beyond c is =
    some_hidden c.args.calendar.now c.args.style.now c.args.start c.args.duration (omega (arith, c.if-duration-eq0.false))
    (inl (c.begin_text.ensures.beyond (search rules)))

pub returns-in_err-last-clause-beyond : goal.returns-in_err-last-clause-beyond
returns-in_err-last-clause-beyond c is =
    some_hidden c.args.calendar.now c.args.style.now c.args.start c.args.duration (omega (arith, c.if-duration-eq0.false))
    (inr (c.end_text.ensures.beyond (search rules)))
