use Rattle.std.proofs.Common.{◌++◌, ◌∷◌, [], length-append, ap, arith}
use Rattle.plan_holidays.specs.HolidayText.{lines}
use Rattle.plan_holidays.specs.Rest.{rest_lines, rest_size}
use Rattle.plan_holidays.proofs.NamedLemmas.{next_read, more_read}
use Rattle.plan_holidays.proofs.holidays.days_in.Goals as goal

pub overflow_add-number : goal.overflow_add-number
overflow_add-number c = omega (arith, c.loop-rest.invariant.fits, ap rest_size c.in-Some.is)

pub loop-rest-preserved : goal.loop-rest-preserved
loop-rest-preserved c =
    let before = c.loop-rest.invariant.before in
    let line = c.cut_line.result.0.now in
    let read = next_read (lines c.args.text.now) before c.loop-rest.rest c.in-Some.left line c.cut_line.result.1 c.loop-rest.days.items c.in-Some.is c.cut_line.ensures.lines c.loop-rest.invariant.read in
    record {
      before = before ++ line ∷ [];
      read = more_read (lines c.args.text.now) before line (rest_lines c.cut_line.result.1) c.loop-rest.days.items c.add_line.new.days.items read c.in_ok-add_line.ensures.ok;
      counted = omega (arith, c.loop-rest.invariant.counted, length-append before (line ∷ []));
      fits = omega (arith, c.loop-rest.invariant.fits, ap rest_size c.in-Some.is, c.cut_line.ensures.shorter);
    }
