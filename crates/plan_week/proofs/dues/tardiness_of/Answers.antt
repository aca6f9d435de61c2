use Rattle.std.proofs.Common.{◌≡◌, ◌∙◌, ℕ, Option, ap, arith}
use Rattle.plan_week.specs.Tardiness.{wish_of, date_or, due_of}
use Rattle.plan_week.proofs.dues.tardiness_of.Goals as goal

pub returns : goal.returns
returns c =
    let week = c.args.week.now in
    let due : c.date_or-due.result ≡ due_of week c.args.activity =
    c.date_or-due.ensures ∙ ap (λ (w : Option ℕ). date_or c.latest_due.result w) c.wish_of.ensures
    ∙ ap (λ (x : ℕ). date_or x (wish_of week c.args.activity)) c.latest_due.ensures in
    omega (arith, due, c.at.ensures, c.rest_of.ensures, c.saturating_sub.ensures)
