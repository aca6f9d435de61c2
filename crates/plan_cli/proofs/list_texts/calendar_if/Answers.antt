use Rattle.std.proofs.Common.{refl}
use Rattle.plan_cli.proofs.list_texts.calendar_if.Goals as goal

pub returns-in_ok-calendar_of-in-Some-clause-made : goal.returns-in_ok-calendar_of-in-Some-clause-made
returns-in_ok-calendar_of-in-Some-clause-made c = rw c.in-Some.is (c.in_ok-calendar_of-in-Some.field-0, c.in_ok-calendar_of-in-Some.ensures.made, refl)
