use Rattle.std.proofs.Common.{◌≤◌, List, sym, subst, arith}
use Rattle.std.specs.Prelude.{All}
use Rattle.std.proofs.lemmas.List.Elements.{All-push}
use Rattle.plan_report.specs.declared.sheet.Entry as declared
use Rattle.plan_report.specs.StartsText.{step_entry}
use Rattle.plan_report.proofs.EntryLemmas.{entries_more, step_is}
use Rattle.plan_report.proofs.starts.step_entries.Goals as goal

pub loop-x-preserved : goal.loop-x-preserved
loop-x-preserved c =
    let s = c.args.shop.now in
    let x = c.loop-x.x in
    let pushed = c.in_ok-push.ensures.items in
    let is = step_is s x c.machines-machines.result c.step-step.result c.in_ok-keys.keys.items c.absence_of.result c.machines-machines.ensures.value c.step-step.ensures.value c.in_ok-keys.ensures.items c.absence_of.ensures in
    record {
      made = entries_more (step_entry s) 0 x x c.loop-x.entries.items c.push.new.self.items _ (omega arith) c.loop-x.invariant.made pushed is;
      short = subst (λ (xs : List declared.Entry). All (λ entry. entry.duration ≤ 10000) xs) (sym pushed)
          (All-push (λ (entry : declared.Entry). entry.duration ≤ 10000) c.loop-x.entries.items _ c.loop-x.invariant.short c.step-step.ensures.short);
    }
