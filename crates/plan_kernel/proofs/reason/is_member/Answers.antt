use Rattle.std.proofs.Common.{◌∙◌, ap, sym, ◌-◌, arith}
use Rattle.std.proofs.lemmas.Bool.{leb-true, both_ways}
use Rattle.plan_kernel.specs.Literals.{at}
use Rattle.plan_kernel.proofs.InputLemmas.{duration_is}
use Rattle.plan_kernel.proofs.reason.is_member.Goals as goal
use Rattle.plan_kernel.proofs.reason.is_member.Goals.{then-is_activity, else-is_activity}

pub returns-then-member-at : goal.returns-then-member-at
returns-then-member-at c small =
    let m = c.args.member in
    elim c.if-is_activity.branch [
      | then-is_activity w ↦ record {
        activity = c.is_activity.ensures w.if-is_activity.true;
        lasts = omega (
          arith,
          leb-true m.time w.at.result
              (sym w.value-is ∙ c.if-member-at.true),
          w.at.ensures,
          ap
              (λ xs. at xs m.activity) w.deref.ensures.value,
          duration_is c.args.input.now m.activity,
        );
        inside = omega (arith, leb-true m.time (c.args.until - c.args.from) small, c.requires);
      }
      | else-is_activity w ↦ absurd (both_ways c.if-is_activity.value (w.value-is ∙ w.if-is_activity.false) c.if-member-at.true)
    ]
