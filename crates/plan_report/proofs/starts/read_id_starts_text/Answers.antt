use Rattle.std.proofs.Common.{IfOk, IfErr, length, map, sym, ◌∙◌, ap, subst}
use Rattle.std.proofs.lemmas.Result.{IfOk-weaker}
use Rattle.std.proofs.lemmas.List.FromFn.{length-map-range_with_len}
use Rattle.plan_net.specs.Network.{count_of}
use Rattle.plan_psplib.specs.Tokens.{Fails}
use Rattle.plan_report.specs.IdSheets.{id_sheet}
use Rattle.plan_report.specs.Sheet.{Sheet, sheet_of}
use Rattle.plan_report.specs.StartsText.{SaysStarts, activity_entry, starts_in}
use Rattle.plan_table.specs.Names.{name_of}
use Rattle.plan_report.proofs.IdLemmas.{IsWhole}
use Rattle.plan_report.proofs.IdSheetLemmas.{id_sheet_whole}
use Rattle.plan_report.proofs.TextLemmas.{said_of, only_of, refused_of, whole_of, early_of}
use Rattle.plan_report.proofs.starts.read_id_starts_text.Goals as goal

pub returns-clause-said : goal.returns-clause-said
returns-clause-said c =
    let text = c.args.text.now in
    subst (λ (s : Sheet). IfOk c.read_starts.result (λ starts. SaysStarts s text starts.items)) c.in_ok-sheet.ensures.sheet
    (said_of c.read_starts.result (sheet_of c.in_ok-sheet.sheet) text c.read_starts.ensures)

pub returns-clause-only : goal.returns-clause-only
returns-clause-only c = λ starts says.
    let text = c.args.text.now in
    only_of c.read_starts.result (sheet_of c.in_ok-sheet.sheet) text c.read_starts.ensures starts
    (subst (λ (s : Sheet). SaysStarts s text starts) (sym c.in_ok-sheet.ensures.sheet) says)

pub returns-clause-refused : goal.returns-clause-refused
returns-clause-refused c =
    let text = c.args.text.now in
    subst (λ (s : Sheet). IfErr c.read_starts.result (λ e. Fails e (starts_in s text))) c.in_ok-sheet.ensures.sheet
    (refused_of c.read_starts.result (sheet_of c.in_ok-sheet.sheet) text c.read_starts.ensures)

pub returns-clause-whole : goal.returns-clause-whole
unfolding id_sheet
returns-clause-whole c =
    let net = c.args.network.now in
    IfOk-weaker c.read_starts.result _ _
    (λ starts whole. whole ∙ ap (λ (s : Sheet). length s.entries) c.in_ok-sheet.ensures.sheet ∙ length-map-range_with_len (activity_entry net) 1 (count_of net))
    (whole_of c.read_starts.result (sheet_of c.in_ok-sheet.sheet) c.args.text.now (subst IsWhole (sym c.in_ok-sheet.ensures.sheet) (id_sheet_whole (map name_of c.args.ids.now) net)) c.read_starts.ensures)

pub returns-clause-in_time : goal.returns-clause-in_time
returns-clause-in_time c = early_of c.read_starts.result (sheet_of c.in_ok-sheet.sheet) c.args.text.now c.read_starts.ensures
