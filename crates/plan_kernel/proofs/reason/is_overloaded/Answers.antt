use Rattle.std.proofs.Common.{◌+◌, ◌*◌, ◌-◌, ◌<◌, arith}
use Rattle.std.proofs.lemmas.Bool.{ltb-true}
use Rattle.plan_sgs.specs.Problem.{capacity}
use Rattle.plan_kernel.specs.Inputs.{problem_of}
use Rattle.plan_kernel.proofs.InputLemmas.{resources_are}
use Rattle.plan_kernel.proofs.reason.is_overloaded.Goals as goal

pub returns-then-are_members : goal.returns-then-are_members
returns-then-are_members c more =
    let input = c.args.input.now in
    let room = c.saturating_mul-room.result in
    let taken = c.saturating_add-taken.result in
    let above : room < taken = ltb-true room taken more in
    let whole : capacity (problem_of input) c.args.resource * (c.args.until - c.args.from) < c.energy.result + c.absent-missing.result =
    rw c.capacity.ensures at (let h : c.capacity.result * (c.args.until - c.args.from) < c.energy.result + c.absent-missing.result =
    omega (arith, above, c.saturating_mul-room.ensures, c.saturating_add-taken.ensures) in h) in
    record {
      window = c.if-from-until.false;
      limit = c.if-until-gt-LIMIT.false;
      resource = omega (arith, c.if-resource-len.false, c.len.ensures, resources_are input);
      each = c.are_members.ensures c.if-are_members.true;
      more = omega (arith, whole, c.energy.ensures, c.absent-missing.ensures);
    }
