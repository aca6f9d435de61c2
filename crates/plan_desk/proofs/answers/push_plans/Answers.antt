use Rattle.std.proofs.Common.{◌++◌, ap, ◌∙◌}
use Rattle.std.specs.String.{string_bytes}
use Rattle.std.proofs.lemmas.List.{take_all, get_or_default}
use Rattle.plan_desk.specs.Answers.{text_of_entry, texts_of_entries}
use Rattle.plan_desk.proofs.AnswerLemmas.{next_text}
use Rattle.plan_desk.proofs.answers.push_plans.Goals as goal

pub loop-i-preserved : goal.loop-i-preserved
loop-i-preserved c =
    next_text text_of_entry c.args.rows.now c.loop-i.i _ _ _ _ _ c.loop-i-test.true
    (get_or_default c.args.rows.now c.loop-i.i _ _ c.loop-i-test.true) c.loop-i.invariant
    c.in_ok-push_comma.ensures c.in_ok-push_plan.ensures

pub returns : goal.returns
returns c = c.loop-i.invariant ∙ ap (λ l. string_bytes c.args.text.now ++ texts_of_entries l) (take_all c.loop-i.i c.args.rows.now c.loop-i-test.false)
