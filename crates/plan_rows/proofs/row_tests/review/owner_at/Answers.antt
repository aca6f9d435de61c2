use Rattle.std.proofs.Common.{◌∙◌, ap}
use Rattle.std.specs.List.{position}
use Rattle.plan_rows.specs.RowTests.{same_key}
use Rattle.plan_rows.specs.PlanReview.{owner_key_of}
use Rattle.plan_rows.proofs.row_tests.review.owner_at.Goals as goal

pub returns : goal.returns
returns c = λ lags are. c.copied.ensures ∙ c.get.ensures.value ∙ are (c.as_str.result, c.args.row.now.n, 0, 0)
    ∙ ap (λ t. position (λ row. same_key (t, c.args.row.now.n, 0, 0) (owner_key_of row)) lags) c.as_str.ensures.value
