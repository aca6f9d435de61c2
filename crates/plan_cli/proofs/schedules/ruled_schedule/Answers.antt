use Rattle.std.proofs.Common.{refl}
use Rattle.plan_cli.proofs.schedules.ruled_schedule.Goals as goal

pub returns-clause-made : goal.returns-clause-made
returns-clause-made c =
    record { starts = c.in_ok-schedule.ensures.starts; showable = c.in_ok-schedule.ensures.showable; bound = refl }
