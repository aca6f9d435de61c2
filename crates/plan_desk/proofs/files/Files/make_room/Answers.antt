use Rattle.std.proofs.Common.{length, sym}
use Rattle.std.proofs.Math.Seq.{take-length}
use Rattle.plan_desk.proofs.files.Files.make_room.Goals as goal

pub loop-self-init : goal.loop-self-init
loop-self-init c = (length c.args.self.now, sym (take-length c.args.self.now))
