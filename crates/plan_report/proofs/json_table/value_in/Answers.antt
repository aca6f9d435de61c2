use Rattle.std.proofs.Common.{rules, ◌≡◌, ◌⊎◌, inl, inr, true, false, None, List, ℕ, sym, ◌∙◌}
use Rattle.std.specs.Str.{is_utf8, IsUtf8}
use Rattle.std.proofs.lemmas.Bool.{cases_Bool, cond-true, cond-false}
use Rattle.std.proofs.lemmas.Str.{IsUtf8-from_is_utf8, is_utf8-from_IsUtf8}
use Rattle.serde_json.specs.Read.{read}
use Rattle.plan_report.specs.JsonTable.{value_in}
use Rattle.plan_report.proofs.json_table.value_in.Goals as goal

-- bytes that aren't UTF-8 aren't JSON
unread : (text : List ℕ) → (IsUtf8 text → read text ≡ None) → None ≡ value_in text
unread text none = by_text (cases_Bool (is_utf8 text))
  where
    by_text : (is_utf8 text ≡ true) ⊎ (is_utf8 text ≡ false) → None ≡ value_in text
    by_text (inl e) = sym (cond-true (is_utf8 text) (read text) None e ∙ none (IsUtf8-from_is_utf8 text e))
    by_text (inr e) = sym (cond-false (is_utf8 text) (read text) None e)

pub returns-in-Ok : goal.returns-in-Ok
returns-in-Ok c =
    let text = c.args.text.now in
    let ok = c.in-Ok.ensures.ok in
    sym (cond-true (is_utf8 text) (read text) None (is_utf8-from_IsUtf8 text ok.0) ∙ ok.1)

pub returns-else-is_memory : goal.returns-else-is_memory
returns-else-is_memory c = unread c.args.text.now (λ text. c.in-Err.ensures.err (λ memory. search (rules, memory, c.if-is_memory.ensures)) text)
