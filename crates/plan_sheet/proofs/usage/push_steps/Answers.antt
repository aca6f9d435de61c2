use Rattle.std.proofs.Common.{string_bytes, ap, ◌++◌, ◌∙◌, flat_map, arith}
use Rattle.std.specs.List.{range_with_len}
use Rattle.plan_sheet.specs.Usage.{step_at}
use Rattle.plan_sheet.proofs.ChangeLemmas.{next_after, quiet_step}
use Rattle.plan_sheet.proofs.usage.push_steps.Goals as goal

pub loop-t-preserved : goal.loop-t-preserved
loop-t-preserved c =
    let a = c.args in
    let t = c.loop-t.t in
    let next = c.next_change-t.ensures in
    let step = step_at a.span a.days.now a.per_day a.capacity a.uses.now in
    record {
      within = next.most;
      written = next_after step (string_bytes a.text.now) _ _ t c.next_change-t.result next.later
          (λ u late early. quiet_step a.span a.days.now a.per_day a.capacity a.uses.now t u late (next.quiet u late early))
          c.loop-t.invariant.written c.in_ok-push_step_at.ensures;
    }

pub returns : goal.returns
returns c =
    let a = c.args in
    let step = step_at a.span a.days.now a.per_day a.capacity a.uses.now in
    c.loop-t.invariant.written
    ∙ ap (λ n. string_bytes a.text.now ++ flat_map step (range_with_len 0 n)) (omega (arith, c.loop-t.invariant.within, c.loop-t-test.false))
