use Rattle.std.proofs.Common.{◌≤◌, List, map, sym, subst}
use Rattle.std.specs.Prelude.{All}
use Rattle.std.proofs.lemmas.List.Elements.{All-push}
use Rattle.plan_table.specs.Names.{name_of}
use Rattle.plan_report.specs.declared.sheet.IdEntry as declared
use Rattle.plan_report.specs.IdSheets.{id_entry}
use Rattle.plan_report.proofs.IdSheetLemmas.{ids_more}
use Rattle.plan_report.proofs.id_sheets.row_entries.Goals as goal

pub loop-j-preserved : goal.loop-j-preserved
loop-j-preserved c =
    let net = c.args.network.now in
    let ids = map name_of c.args.ids.now in
    let pushed = c.in_ok-push.ensures.items in
    record {
      made = ids_more (id_entry ids net) c.loop-j.j c.loop-j.entries.items c.push.new.self.items _ c.loop-j.auto.j c.loop-j.invariant.made pushed c.in_ok-entry.ensures.entry;
      short = subst (λ (xs : List declared.IdEntry). All (λ entry. entry.entry.duration ≤ 10000) xs) (sym pushed)
          (All-push (λ (entry : declared.IdEntry). entry.entry.duration ≤ 10000) c.loop-j.entries.items _ c.loop-j.invariant.short c.in_ok-entry.ensures.short);
    }
