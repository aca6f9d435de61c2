use Rattle.std.proofs.Common.{◌≡◌, map, ap, ◌∙◌}
use Rattle.std.proofs.lemmas.Result.{IfOk-weaker}
use Rattle.plan_table.specs.Csv.{machine_of, row_of, rows_at_end}
use Rattle.plan_table.specs.Kinds.{first_cells, header_cells}
use Rattle.plan_table.proofs.KindLemmas.{header_is}
use Rattle.plan_table.proofs.records.read_header_rows.Goals as goal

pub returns : goal.returns
returns c =
    let m = machine_of c.in_ok-machine.machine in
    let text = c.args.text.now in
    IfOk-weaker c.into_rows.result (λ rows. map row_of rows.items ≡ rows_at_end m) (λ rows. first_cells (map row_of rows.items) ≡ header_cells text)
    (λ rows are. ap first_cells are ∙ header_is text c.without_mark-text.result.now c.header_line.result.now c.delimiter_of.result m
    c.without_mark-text.ensures c.header_line.ensures c.delimiter_of.ensures c.in_ok-machine.ensures) c.into_rows.ensures
