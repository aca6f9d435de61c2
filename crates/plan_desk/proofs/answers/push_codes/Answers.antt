use Rattle.std.proofs.Common.{◌++◌, ap, ◌∙◌}
use Rattle.std.specs.String.{string_bytes}
use Rattle.std.proofs.lemmas.List.{take_all}
use Rattle.plan_desk.specs.JsonTexts.{code_text}
use Rattle.plan_desk.specs.Answers.{text_of_code, texts_of_codes}
use Rattle.plan_desk.proofs.AnswerLemmas.{next_text}
use Rattle.plan_desk.proofs.answers.push_codes.Goals as goal

pub loop-i-preserved : goal.loop-i-preserved
loop-i-preserved c = next_text text_of_code c.args.rows.now c.loop-i.i c.index-rows-i.result _ _ _ _ c.loop-i-test.true c.index-rows-i.is c.loop-i.invariant c.in_ok-push_comma.ensures
    (c.in_ok-push_code.ensures ∙ ap (λ t. string_bytes c.push_comma.new.text ++ code_text t c.index-rows-i.result.kind c.index-rows-i.result.capacity) c.as_str.ensures.value)

pub returns : goal.returns
returns c = c.loop-i.invariant ∙ ap (λ l. string_bytes c.args.text.now ++ texts_of_codes l) (take_all c.loop-i.i c.args.rows.now c.loop-i-test.false)
