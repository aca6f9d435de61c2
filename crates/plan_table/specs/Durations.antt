-- Durations as planners write them: a number, and perhaps a word for days behind it.
use Rattle.std.specs.Prelude.{ℕ, ◌==◌, ◌||◌, Bool, if◌then◌else◌, List, [], ◌∷◌, ◌++◌, Option, Some, None, Result, codes, drop, length, not, take}
use Rattle.std.specs.List.{list_any, position}
use Rattle.plan_psplib.specs.Lines.{trim}
use Rattle.plan_psplib.specs.Numbers.{is_digit, number}
use Rattle.plan_psplib.specs.Sections.{begins_with}
use Rattle.plan_table.specs.declared.fault.TableCode.TheVariants as code
use Rattle.plan_table.specs.Reading.{Fault}
use Rattle.plan_table.specs.Cells.{amount_in, same_name}

-- words for days in English, German, French and Spanish; í is written as its UTF-8 bytes
abbrev pub day_words : List (List ℕ)
day_words =
    codes "d"
    ∷ codes "day"
    ∷ codes "days"
    ∷ codes "tag"
    ∷ codes "tage"
    ∷ codes "jour"
    ∷ codes "jours"
    ∷ (codes "d" ++ 0xC3 ∷ 0xAD ∷ codes "a")
    ∷ (codes "d" ++ 0xC3 ∷ 0xAD ∷ codes "as")
    ∷ []

-- a word for days or nothing, without regard to ASCII case
abbrev pub is_unit : List ℕ → Bool
is_unit text = length text == 0 || list_any (λ word. same_name word text) day_words

-- a text without a fraction of zero at its front
abbrev pub without_zero : List ℕ → List ℕ
without_zero text = if begins_with text (codes ",0") || begins_with text (codes ".0") then drop 2 text else text

-- what follows the digits of a duration: perhaps a fraction of zero, blanks, and perhaps a word for days
abbrev pub is_behind_digits : List ℕ → Bool
is_behind_digits text = is_unit (trim (without_zero text))

-- where the digits at the front of a cell end, if something follows them
abbrev pub digits_end : List ℕ → Option ℕ
digits_end cell = position (λ byte. not (is_digit byte)) cell

abbrev pub days_at : Option ℕ → List ℕ → Option ℕ
days_at None cell = number cell
days_at (Some end) cell = if is_behind_digits (drop end cell) then number (take end cell) else None

-- the days in a cell, if it is a duration
unfoldable pub days_in : List ℕ → Option ℕ
days_in cell = days_at (digits_end cell) cell

-- the duration in a cell; if it isn't one, the fault names the cell
unfoldable pub duration : ℕ → List ℕ → Result ℕ Fault
duration line cell = amount_in (days_in cell) code.BadDuration line cell
