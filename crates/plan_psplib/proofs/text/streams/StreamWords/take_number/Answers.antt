use Rattle.std.proofs.Common.{◌≡◌, ◌++◌, ◌∙◌, List, Ok, ap, subst}
use Rattle.plan_psplib.specs.Streams.{LineWord, Stream, words_at, words_of, rows}
use Rattle.plan_psplib.specs.Tokens.{number_at}
use Rattle.plan_psplib.proofs.NumberLemmas.{number_of_line}
use Rattle.plan_psplib.proofs.text.streams.StreamWords.take_number.Goals as goal

pub returns : goal.returns
returns g c =
    let last = c.self.inside.last in
    let line = c.open_row.new.line in
    let value = c.in_ok-value.value in
    let more = words_of (rows g.L.Layout.takes g.L.Layout.ends c.open_row.new.lines) in
    let with_last : List LineWord → Stream = λ words. record { last = last; words = words } in
    subst (λ (s : Stream). number_at s ≡ Ok (record { value = value; line = line }, record { last = line; words = words_at line c.next_number.new.self ++ more }))
    (ap with_last c.open_row.ensures ∙ c.self.view_is)
    (number_of_line last line value c.open_row.new.words c.next_number.new.self more c.in_ok-value.ensures)
