use Rattle.std.proofs.Common.{length, sym}
use Rattle.std.proofs.Math.Seq.{take-length}
use Rattle.plan_desk.proofs.plan_files.hold.Goals as goal

pub returns-in_default-clause-dropped : goal.returns-in_default-clause-dropped
returns-in_default-clause-dropped c = (length c.args.files.now, sym (take-length c.args.files.now))
