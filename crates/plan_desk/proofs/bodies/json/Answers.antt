use Rattle.std.proofs.Common.{rules, ◌≡◌, ◌⊎◌, inl, inr, true, false, None, List, ℕ, sym, ◌∙◌}
use Rattle.std.specs.Str.{is_utf8, IsUtf8}
use Rattle.std.proofs.lemmas.Bool.{cases_Bool, cond-true, cond-false}
use Rattle.std.proofs.lemmas.Str.{IsUtf8-from_is_utf8, is_utf8-from_IsUtf8}
use Rattle.serde_json.specs.Read.{read}
use Rattle.plan_desk.specs.Bodies.{json}
use Rattle.plan_desk.proofs.bodies.json.Goals as goal

-- bytes that aren't UTF-8 aren't JSON
unread : (body : List ℕ) → (IsUtf8 body → read body ≡ None) → None ≡ json body
unread body none = by_text (cases_Bool (is_utf8 body))
  where
    by_text : (is_utf8 body ≡ true) ⊎ (is_utf8 body ≡ false) → None ≡ json body
    by_text (inl e) = sym (cond-true (is_utf8 body) (read body) None e ∙ none (IsUtf8-from_is_utf8 body e))
    by_text (inr e) = sym (cond-false (is_utf8 body) (read body) None e)

pub returns-in-Ok : goal.returns-in-Ok
returns-in-Ok c =
    let body = c.args.body.now in
    let ok = c.in-Ok.ensures.ok in
    sym (cond-true (is_utf8 body) (read body) None (is_utf8-from_IsUtf8 body ok.0) ∙ ok.1)

pub returns-else-is_memory : goal.returns-else-is_memory
returns-else-is_memory c = unread c.args.body.now (λ text. c.in-Err.ensures.err (λ memory. search (rules, memory, c.if-is_memory.ensures)) text)
