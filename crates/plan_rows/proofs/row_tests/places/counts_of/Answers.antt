use Rattle.std.proofs.Common.{◌≡◌, ◌∙◌, sym, ap, arith, drop, length, subst, string_bytes}
use Rattle.std.specs.Prelude.{unwrap_or, filter}
use Rattle.plan_rows.specs.RowTests.{AreCounts}
use Rattle.plan_rows.specs.World.{same_text}
use Rattle.plan_rows.proofs.LookupLemmas.{count_low, counted_more}
use Rattle.plan_rows.proofs.row_tests.places.counts_of.Goals as goal

pub overflow_add-count : goal.overflow_add-count
overflow_add-count c =
    let is : c.unwrap_or-count.result ≡ length (filter (λ row. same_text (string_bytes row.desk) c.as_str-desk.result.now) (drop c.loop-i.i c.args.rows.now)) =
    c.unwrap_or-count.ensures ∙ ap (λ o. unwrap_or o 0) (c.copied.ensures ∙ c.get.ensures.value) ∙ c.loop-i.invariant c.as_str-desk.result in
    let low = count_low (λ row. same_text (string_bytes row.desk) c.as_str-desk.result.now) c.args.rows.now c.loop-i.i c.unwrap_or-count.result (omega arith) (omega arith) is in
    omega (arith, low)

pub loop-i-preserved : goal.loop-i-preserved
loop-i-preserved c =
    counted_more c.args.rows.now c.loop-i.i c.index-rows-i.result c.as_str-desk.result c.unwrap_or-count.result c.loop-i.counts c.insert.new.self
    (omega arith) (omega arith) c.index-rows-i.is (c.as_str-desk.ensures.value ∙ ap (λ r. string_bytes r.desk) (sym c.index-rows-i.is))
    (c.unwrap_or-count.ensures ∙ ap (λ o. unwrap_or o 0) (c.copied.ensures ∙ c.get.ensures.value) ∙ c.loop-i.invariant c.as_str-desk.result)
    c.in_ok-insert.ensures.updates.0 c.loop-i.invariant

pub returns : goal.returns
returns c =
    let none : c.loop-i.i ≡ 0 = omega arith in
    subst (λ n. AreCounts c.loop-i.counts (drop n c.args.rows.now)) none c.loop-i.invariant
