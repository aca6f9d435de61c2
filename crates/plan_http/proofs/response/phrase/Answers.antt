use Rattle.std.proofs.Common.{◌∙◌, ◌≤◌, ap, sym, refl, subst, length}
use Rattle.plan_http.specs.Responses.{phrase}
use Rattle.plan_http.proofs.PhraseLemmas.{phrase_is, phrase_none, phrase_short}
use Rattle.plan_http.proofs.response.phrase.Goals as goal

pub returns-in-Ok-clause-text : goal.returns-in-Ok-clause-text
returns-in-Ok-clause-text c =
    ap (λ text. text.now) c.unwrap_or.ensures
    ∙ phrase_is c.in-Ok.status c.canonical_reason.result _ c.canonical_reason.ensures.value refl ∙ ap phrase c.in-Ok.ensures.1

pub returns-in-Ok-clause-short : goal.returns-in-Ok-clause-short
returns-in-Ok-clause-short c = subst (λ text. length text ≤ 31) (sym (returns-in-Ok-clause-text c)) (phrase_short c.args.status)

pub returns-in-Err-clause-text : goal.returns-in-Err-clause-text
returns-in-Err-clause-text c = sym (phrase_none c.args.status c.in-Err.ensures)
