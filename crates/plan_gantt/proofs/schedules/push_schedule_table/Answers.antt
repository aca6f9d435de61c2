use Rattle.std.proofs.Common.{◌≡◌, ℕ, ◌++◌, ◌∙◌, ap, subst, arith}
use Rattle.std.specs.String.{string_bytes}
use Rattle.std.proofs.lemmas.List.{append_assoc}
use Rattle.std.proofs.lemmas.Result.{on_ok_weaker}
use Rattle.plan_net.specs.Network.{count_of}
use Rattle.plan_gantt.specs.Column.{lines_from}
use Rattle.plan_gantt.specs.ScheduleTable.{schedule_heading, schedule_line, makespan_line}
use Rattle.plan_gantt.proofs.ColumnLemmas.{next_line}
use Rattle.plan_gantt.proofs.schedules.push_schedule_table.Goals as goal

pub loop-k-preserved : goal.loop-k-preserved
loop-k-preserved c = next_line (string_bytes c.push_str.new.self) (schedule_line c.args.network.now c.args.starts.now) c.loop-k.k _ _ c.loop-k.invariant c.in_ok-push_line.ensures

pub returns : goal.returns
returns c =
    let before = string_bytes c.args.text.now in
    let lines = lines_from (schedule_line c.args.network.now c.args.starts.now) 1 (count_of c.args.network.now) in
    let whole : c.loop-k.k ≡ count_of c.args.network.now = omega arith in
    let so_far : string_bytes c.loop-k.text ≡ (before ++ schedule_heading) ++ lines =
    subst (λ (n : ℕ). string_bytes c.loop-k.text ≡ string_bytes c.push_str.new.self ++ lines_from (schedule_line c.args.network.now c.args.starts.now) 1 n) whole c.loop-k.invariant
    ∙ ap (λ bytes. bytes ++ lines) c.in_ok-push_str.ensures.bytes in
    on_ok_weaker c.push_makespan.result (λ last.
    last ∙ ap (λ bytes. bytes ++ makespan_line c.args.makespan) so_far
    ∙ append_assoc (before ++ schedule_heading) lines (makespan_line c.args.makespan) ∙ append_assoc before schedule_heading (lines ++ makespan_line c.args.makespan)) c.push_makespan.ensures
