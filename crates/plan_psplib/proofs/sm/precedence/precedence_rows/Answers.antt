use Rattle.std.proofs.Common.{ℕ, ◌≡◌, ◌∙◌, ◌+◌, ◌++◌, ◌∷◌, [], ap, length, subst, sym, arith, List, Vec}
use Rattle.std.proofs.lemmas.List.{length-map, length_push}
use Rattle.std.proofs.lemmas.Result.{err_from_is_err_and}
use Rattle.std.specs.List.{AllByRecursion}
use Rattle.std.specs.declared.alloc.Global.{Global}
use Rattle.plan_net.specs.Successors.{IsRow, arcs_of_rows, rows_in}
use Rattle.plan_psplib.proofs.ArcsLemmas.{row_is_row}
use Rattle.plan_psplib.proofs.RowLemmas.{rows_go_on, rows_fail, rows_done, rows_behind, each_push}
use Rattle.plan_psplib.proofs.sm.precedence.precedence_rows.Goals as goal

pub returns-in_err-row-clause-exact : goal.returns-in_err-row-clause-exact
returns-in_err-row-clause-exact c =
    let error = err_from_is_err_and c.from_residual-in_err-row.result c.from_residual-in_err-row.ensures.1 in
    rw (error.1, error.2) (rows_fail c.args.jobs c.in_err-row.field-0.0 c.args.jobs c.loop-done.done _
    (arcs_of_rows 1 (rows_in c.loop-done.rows.items)) c.loop-done.words _ c.loop-done-test.true
    c.in_err-row.ensures.exact c.loop-done.invariant.reads)

pub loop-done-preserved : goal.loop-done-preserved
loop-done-preserved c =
    let n = c.args.jobs in
    let done = c.loop-done.done in
    let lists = c.loop-done.rows.items in
    let row = c.in_ok-row.row in
    let pushed : c.push.new.self.items ≡ lists ++ row ∷ [] = c.in_ok-push.ensures.items in
    let front = arcs_of_rows 1 (rows_in lists) in
    let behind = rows_go_on n n done (done + 1) front c.loop-done.words row.items c.precedence_row.new.words _ c.loop-done-test.true c.in_ok-row.ensures.exact c.loop-done.invariant.reads in
    record {
      reads = rw pushed (rows_behind n done lists row c.precedence_row.new.words _ _ c.loop-done.invariant.whole behind);
      whole = ap length pushed ∙ length_push lists row ∙ ap (λ (k : ℕ). k + 1) c.loop-done.invariant.whole;
      each = subst (λ (ls : List (Vec ℕ Global)). AllByRecursion (IsRow n) (rows_in ls)) (sym pushed)
          (each_push n lists row c.loop-done.invariant.each
          (row_is_row n (done + 1) c.loop-done.words c.precedence_row.new.words row.items
          c.in_ok-row.ensures.exact));
      below = c.in_ok-row.ensures.below;
      room = c.in_ok-row.ensures.room;
    }

pub returns-clause-exact : goal.returns-clause-exact
returns-clause-exact c = rows_done c.args.jobs c.args.jobs c.loop-done.done _ (arcs_of_rows 1 (rows_in c.loop-done.rows.items)) c.loop-done.words _ c.loop-done-test.false c.loop-done.invariant.reads

pub returns-clause-rows : goal.returns-clause-rows
returns-clause-rows c = record {
  whole = length-map c.loop-done.rows.items (λ list. list.items) ∙ c.loop-done.invariant.whole ∙ omega (arith, c.loop-done-test.false, c.loop-done.auto.done-end);
  each = c.loop-done.invariant.each;
}
