use Rattle.std.proofs.Common.{◌≡◌, true, false, sym, ◌∙◌, subst, arith}
use Rattle.plan_calendar.specs.CalendarText.{IsMarksText}
use Rattle.plan_calendar.proofs.TextLemmas.{digits_of, one_of, marks_of, ones_of}
use Rattle.plan_calendar.proofs.marks.week_marks.Goals as goal

pub returns-then-not-are_mark_digits-clause-none : goal.returns-then-not-are_mark_digits-clause-none
returns-then-not-are_mark_digits-clause-none c marks spells =
    let bytes = c.as_bytes-bytes.result.now in
    let same : IsMarksText bytes marks = subst (λ text. IsMarksText text marks) (sym c.as_bytes-bytes.ensures.value) spells in
    let other = c.are_mark_digits.ensures.other c.if-not-are_mark_digits.true in
    other.2 (digits_of bytes marks same other.0 other.1)

pub returns-then-not-contains-clause-none : goal.returns-then-not-contains-clause-none
returns-then-not-contains-clause-none c marks spells =
    let bytes = c.as_bytes-bytes.result.now in
    let same : IsMarksText bytes marks = subst (λ text. IsMarksText text marks) (sym c.as_bytes-bytes.ensures.value) spells in
    let both : false ≡ true = sym c.if-not-contains.true ∙ c.contains.ensures.value ∙ one_of bytes marks same in
    grind (arith, both)

pub returns-clause-some : goal.returns-clause-some
returns-clause-some c =
    let bytes = c.as_bytes-bytes.result.now in
    subst (λ text. IsMarksText text (ones_of bytes)) c.as_bytes-bytes.ensures.value
    (marks_of bytes c.if-bytes-ne7.false c.if-not-are_mark_digits.ensures.all (sym c.contains.ensures.value ∙ c.if-not-contains.false))
