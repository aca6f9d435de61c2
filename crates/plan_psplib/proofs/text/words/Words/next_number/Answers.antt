use Rattle.std.proofs.Common.{◌<◌, ℕ, List, drop, sym, subst, arith}
use Rattle.plan_psplib.specs.Lines.{words}
use Rattle.plan_psplib.specs.Numbers.{BeginsWithNumber}
use Rattle.plan_psplib.proofs.NumberLemmas.{digits_first}
use Rattle.plan_psplib.proofs.text.words.Words.next_number.Goals as goal

pub returns : goal.returns
returns c =
    let rest = c.self.inside.rest.now in
    let text = c.from_word-text.result.now in
    let count = c.leading_digits-count.result.0 in
    let value = c.leading_digits-count.result.1 in
    let digits = c.leading_digits-count.ensures in
    let some : 0 < count = omega arith in
    let first : BeginsWithNumber (words rest) value (words (drop count text)) =
    digits_first rest text count value c.from_word-text.ensures some digits.short digits.within digits.digits digits.value c.in_ok-rest.ensures.blank in
    subst (λ (ws : List (List ℕ)). BeginsWithNumber ws value (words c.in_ok-rest.rest.now)) c.self.view_is
    (subst (BeginsWithNumber (words rest) value) (sym c.in_ok-rest.ensures.rest) first)
