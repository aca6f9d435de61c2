use Rattle.plan_holidays.proofs.EntryLemmas.{no_span}
use Rattle.plan_holidays.proofs.entries.span_of.Goals as goal

pub returns-in-None-clause-none : goal.returns-in-None-clause-none
returns-in-None-clause-none c = no_span c.args.entry.now c.range_in.result c.in-None.ensures.none c.range_in.ensures.none
