use Rattle.std.proofs.Common.{◌≤◌, ◌+◌, List, sym, subst, arith}
use Rattle.std.specs.Prelude.{All}
use Rattle.std.proofs.lemmas.List.Elements.{All-push}
use Rattle.plan_report.specs.declared.sheet.Entry as declared
use Rattle.plan_report.specs.StartsText.{activity_entry}
use Rattle.plan_report.proofs.EntryLemmas.{activity_is, entries_more}
use Rattle.plan_report.proofs.starts.activity_entries.Goals as goal

pub loop-k-preserved : goal.loop-k-preserved
loop-k-preserved c =
    let net = c.args.network.now in
    let k = c.loop-k.k in
    let pushed = c.in_ok-push.ensures.items in
    let is = activity_is net (k + 1) c.duration-duration.result c.in_ok-keys.keys.items c.in_ok-keys.ensures.items c.duration-duration.ensures.value in
    record {
      made = entries_more (activity_entry net) 1 k (k + 1) c.loop-k.entries.items c.push.new.self.items _ (omega arith) c.loop-k.invariant.made pushed is;
      short = subst (λ (xs : List declared.Entry). All (λ entry. entry.duration ≤ 10000) xs) (sym pushed)
          (All-push (λ (entry : declared.Entry). entry.duration ≤ 10000) c.loop-k.entries.items _ c.loop-k.invariant.short c.duration-duration.ensures.limit);
    }
