use Rattle.std.proofs.Common.{rules, ◌≡◌, ◌++◌, ◌≤◌, ◌<◌, ◌*◌, List, length, map, refl, subst, arith}
use Rattle.std.proofs.lemmas.Option.{slice_get_read}
use Rattle.plan_table.specs.Names.{name_of}
use Rattle.plan_formats.specs.Tables.{cells_of, rows_of}
use Rattle.plan_formats.specs.declared.cell.Cell as declared
use Rattle.plan_cli.specs.OrderTables as spec
use Rattle.plan_cli.proofs.OrderTableLemmas.{all_rows, all_steps, rows_more}
use Rattle.plan_cli.proofs.order_tables.timed_rows.Goals as goal

pub returns-in_default : goal.returns-in_default
returns-in_default c =
    let a = c.args in
    let past : length a.rows.now ≤ c.loop-x.x = search rules in
    all_rows (map name_of a.names.now) a.shop.now.steps a.rows.now c.loop-x.x (rows_of c.loop-x.made.items) _ past c.loop-x.invariant

pub loop-x-preserved : goal.loop-x-preserved
loop-x-preserved c =
    let a = c.args in
    let names = map name_of a.names.now in
    let step = c.step.result in
    let inside : c.loop-x.x < length a.rows.now = search rules in
    let there = slice_get_read a.rows.now (length a.rows.now) c.loop-x.x c.in-Some.row.now refl inside c.in-Some.ensures.lookup.1 in
    let old = rows_of c.loop-x.made.items in
    let pushed = subst (λ (cells : List declared.Cell). rows_of c.push_timed.new.made.items ≡ old ++ spec.timed_row names step (cells_of cells))
    c.deref.ensures.value c.in_ok-push_timed.ensures in
    rows_more names a.shop.now.steps a.rows.now c.loop-x.x step c.in-Some.row.now old (rows_of c.push_timed.new.made.items) _
    c.step.ensures.value there pushed c.loop-x.invariant

pub returns : goal.returns
returns c =
    let a = c.args in
    let whole : length a.shop.now.steps ≡ c.jobs.result * c.machines-machines.result =
    rw (c.jobs.ensures.value, c.machines-machines.ensures.value) c.jobs.ensures.shop.shop.all_steps in
    let past : length a.shop.now.steps ≤ c.loop-x.x = omega (arith, whole, c.loop-x-test.false) in
    all_steps (map name_of a.names.now) a.shop.now.steps a.rows.now c.loop-x.x (rows_of c.loop-x.made.items) _ past c.loop-x.invariant
