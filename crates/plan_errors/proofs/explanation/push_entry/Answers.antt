use Rattle.std.proofs.Common.{◌≡◌, ℕ, List, Result, ap, ◌∙◌, subst}
use Rattle.std.specs.Prelude.{OnOk, ◌++◌, string_bytes}
use Rattle.plan_errors.specs.Codes.{ended}
use Rattle.plan_errors.proofs.EntryLemmas.{entry_pushed}
use Rattle.plan_errors.proofs.explanation.push_entry.Goals as goal

pub returns : goal.returns
returns c =
    entry_pushed c.args.code _ _ _ _ c.push_ended-3.result
    (c.in_ok-push_ended.ensures ∙ ap (λ (line : List ℕ). string_bytes c.args.text.now ++ ended line) c.form.ensures)
    (c.in_ok-push_ended-2.ensures ∙ ap (λ (line : List ℕ). string_bytes c.push_ended.new.text ++ ended line) c.meaning.ensures)
    (subst (λ (line : List ℕ). OnOk c.push_ended-3.result (string_bytes c.push_ended-3.new.text ≡ string_bytes c.push_ended-2.new.text ++ ended line))
    c.remedy.ensures c.push_ended-3.ensures)
