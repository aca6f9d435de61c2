use Rattle.std.proofs.Common.{refl, sym, ◌∙◌}
use Rattle.plan_http.proofs.ResponseLemmas.{front_parts, next}
use Rattle.plan_http.proofs.response.front_lines.Goals as goal

pub returns-clause-lines : goal.returns-clause-lines
returns-clause-lines c =
    let at_1 = next _ _ _ _ _ c.push.ensures.text c.new-line.ensures refl in
    let at_2 = next _ _ _ _ _ c.push-2.ensures.text at_1 c.format.ensures.text in
    let at_3 = next _ _ _ _ _ c.push-3.ensures.text at_2 refl in
    let at_4 = next _ _ _ _ _ c.push-4.ensures.text at_3 c.phrase.ensures.text in
    let at_5 = next _ _ _ _ _ c.push-5.ensures.text at_4 refl in
    let at_6 = next _ _ _ _ _ c.push-6.ensures.text at_5 refl in
    let at_7 = next _ _ _ _ _ c.push-7.ensures.text at_6 c.media_type.ensures.text in
    let at_8 = next _ _ _ _ _ c.push-8.ensures.text at_7 refl in
    let at_9 = next _ _ _ _ _ c.push-9.ensures.text at_8 refl in
    let at_10 = next _ _ _ _ _ c.push-10.ensures.text at_9 c.format-2.ensures.text in
    let at_11 = next _ _ _ _ _ c.push-11.ensures.text at_10 refl in
    at_11 ∙ sym (front_parts c.args.status c.args.kind c.args.count)
