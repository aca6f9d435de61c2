use Rattle.std.proofs.Common.{◌≤◌, ◌∙◌, sym, subst}
use Rattle.std.specs.Prelude.{nat_le, string_bytes}
use Rattle.std.proofs.lemmas.Bool.{both_ways}
use Rattle.plan_rows.proofs.RowTestLemmas.{tells_same}
use Rattle.plan_rows.proofs.TestedLemmas.{tells_most}
use Rattle.plan_rows.proofs.ReviewLemmas.{seen_count}
use Rattle.plan_rows.proofs.row_tests.tested.DeskRecordTested.is_good.Goals as goal

pub returns : goal.returns
returns c = λ known are.
    let count = (rw c.as_str.ensures.value at (c.count_plans.ensures c.args._beside.now c.args._plans.now c.requires.places))
    ∙ seen_count (string_bytes c.args.self.now.desk) known c.args._plans.now are in
    tells_same (λ low. (sym c.is_desk_row.ensures ∙ c.if-not-is_desk_row.false, subst (λ n. n ≤ 100) count low)) (λ desk. subst (λ n. n ≤ 100) (sym count) desk.1)
    (nat_le c.count_plans.result 100) (tells_most c.count_plans.result 100)

pub returns-then-not-is_desk_row : goal.returns-then-not-is_desk_row
returns-then-not-is_desk_row c = λ known are good. both_ways _ (sym c.is_desk_row.ensures ∙ c.if-not-is_desk_row.true) good.0
