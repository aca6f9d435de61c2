use Rattle.std.proofs.Common.{ℕ, Bool, false, ◌≡◌, ◌<◌, List, length, replicate, arith, subst, sym, ap, ◌∙◌, Vec}
use Rattle.std.specs.declared.alloc.Global.{Global}
use Rattle.std.proofs.lemmas.List.{length_push, length-replicate}
use Rattle.plan_net.specs.Marks.{HasNoMark}
use Rattle.plan_net.specs.Indexed.{row_at}
use Rattle.plan_net.proofs.MarkLemmas.{rows_push, HasNoMark-push}
use Rattle.plan_net.proofs.tables.no_marks.Goals as goal

pub loop-preserved : goal.loop-preserved
loop-preserved c =
    let row = c.in_ok-vec.field-0 in
    let pushed = c.in_ok-push.ensures.items in
    let is : row.items ≡ replicate c.args.count false = c.in_ok-vec.ensures.items_if_clones_equal (λ y e. e) in
    record {
      rows = omega (arith, ap length pushed, length_push c.loop.marks.items row, c.loop.invariant.rows);
      columns = subst (λ (xs : List (Vec Bool Global)). (k : ℕ) → k < length xs → length (row_at xs k) ≡ c.args.count) (sym {A = List (Vec Bool Global)} pushed)
          (rows_push (λ k items. length items ≡ c.args.count) c.loop.marks.items row c.loop.invariant.columns (ap length is ∙ length-replicate c.args.count false));
      empty = subst HasNoMark (sym {A = List (Vec Bool Global)} pushed) (HasNoMark-push c.loop.marks.items row c.args.count is c.loop.invariant.empty);
    }

pub returns-clause-square : goal.returns-clause-square
returns-clause-square c =
    let whole : length c.loop.marks.items ≡ c.args.count = omega arith in
    record { rows = whole; columns = λ k within. c.loop.invariant.columns k (omega arith) }
