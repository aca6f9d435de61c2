use Rattle.std.proofs.Common.{◌≡◌, ◌+◌, ℕ, get_or, map, sym, ap, ◌∙◌}
use Rattle.plan_report.specs.declared.sheet.IdEntry as declared
use Rattle.plan_report.specs.Sheet.{id_entry_of}
use Rattle.plan_report.specs.IdRows.{durations_of}
use Rattle.plan_report.proofs.IdSheetLemmas.{duration_at}
use Rattle.plan_report.proofs.id_rows.end_at.Goals as goal

pub returns-then-k-entries : goal.returns-then-k-entries
returns-then-k-entries c =
    let entries = c.args.entries.now in
    let k = c.args.k in
    let entry = c.index-entries-k.result in
    let lasts : get_or (durations_of (map id_entry_of entries)) k 0 ≡ entry.entry.duration = duration_at entries k entry c.if-k-entries.true c.index-entries-k.is in
    let same = ap (λ (e : declared.IdEntry). e.entry.duration) c.index-entries-k.is in
    ap (λ (d : ℕ). get_or c.args.starts.now k 0 + d) (sym same ∙ sym lasts)
