use Rattle.std.proofs.Common.{◌≡◌, ◌+◌, ◌-◌, ◌++◌, List, ℕ, [], ◌∷◌, Result, Ok, map, take, drop, length, sym, ap, ◌∙◌, subst, arith}
use Rattle.std.proofs.lemmas.List.{drop-drop, drop-map, drop_more, length-drop, take_all}
use Rattle.plan_psplib.specs.declared.text.fault.Fault.{Fault}
use Rattle.plan_report.specs.declared.sheet.Entry as declared
use Rattle.plan_report.specs.declared.sheet.Row as declared_row
use Rattle.plan_report.specs.Sheet.{Entry, Row, entry_of, row_of, next_start, starts_after}
use Rattle.plan_report.proofs.SheetLemmas.{starts_go}
use Rattle.plan_report.proofs.sheet.starts_after.Goals as goal

pub loop-entry-preserved : goal.loop-entry-preserved
loop-entry-preserved c =
    let i = c.loop-entry.entry-index in
    let at = c.loop-entry.at in
    let read = c.in_ok-start.read in
    let rows = c.args.rows.now in
    let entries = c.args.entries.now in
    let entry = c.entry-item.result in
    let start = c.in_ok-start.start in
    let line = c.in_ok-start.row_line in
    let cut : take (length rows - at) (drop at rows) ≡ drop at rows = take_all (length rows - at) (drop at rows) (omega (arith, length-drop at rows)) in
    let others : List Row = drop read (map row_of (drop at rows)) in
    let behind : List Entry = map entry_of (drop (i + 1) entries) in
    let whole : Result (List ℕ × List Row) Fault = starts_after [] c.args.last 0 (map entry_of entries) (map row_of rows) in
    let same : others ≡ map row_of (drop (at + read) rows) = drop-map row_of read (drop at rows) ∙ ap (map row_of) (drop-drop read at rows) in
    let more : map entry_of (drop i entries) ≡ entry_of entry ∷ behind =
    ap (map entry_of) (drop_more entries i entry c.loop-entry-test.true) ∙ ap (λ (e : declared.Entry). entry_of e ∷ behind) (sym c.entry-item.is) in
    let all : starts_after c.loop-entry.starts.items c.loop-entry.line c.loop-entry.end (entry_of entry ∷ behind) (map row_of (drop at rows)) ≡ whole =
    subst (λ (es : List Entry). starts_after c.loop-entry.starts.items c.loop-entry.line c.loop-entry.end es (map row_of (drop at rows)) ≡ whole) more
    c.loop-entry.invariant.left in
    let next : starts_after (c.loop-entry.starts.items ++ start ∷ []) line (start + entry.duration) behind others ≡ whole =
    starts_go c.loop-entry.starts.items c.loop-entry.line c.loop-entry.end (entry_of entry) behind (map row_of (drop at rows)) others start line whole
    (subst (λ (rs : List declared_row.Row). next_start c.loop-entry.line c.loop-entry.end (entry_of entry) (map row_of rs) ≡ Ok (start, line, drop read (map row_of rs))) cut
    c.in_ok-start.ensures.read) all in
    record {
      left = ap (λ (items : List ℕ). starts_after items line (start + entry.duration) behind (map row_of (drop (at + read) rows))) c.in_ok-push.ensures.items
          ∙ ap (λ (rs : List Row). starts_after (c.loop-entry.starts.items ++ start ∷ []) line (start + entry.duration) behind rs) (sym same) ∙ next;
      within = omega (arith, c.in_ok-start.ensures.within, ap (λ (rs : List declared_row.Row). length rs) cut, length-drop at rows, c.loop-entry.invariant.within);
    }
