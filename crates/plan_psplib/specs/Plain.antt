-- A text that is short enough and contains no zero byte: the first two checks of each reader
-- (docs/definitions.md, "Files").
use Rattle.std.specs.Prelude.{ℕ, ◌+◌, ◌==◌, Bool, List, take, Option, Some, None, Result, Ok, length, nat_le, count_by}
use Rattle.std.specs.List.{position}
use Rattle.std.specs.Option.{option_map}
use Rattle.plan_psplib.specs.declared.text.fault.FileCode.TheVariants as code
use Rattle.plan_psplib.specs.declared.text.fault.Fault.{Fault}
use Rattle.plan_psplib.specs.Lines.{is_line_feed}
use Rattle.plan_psplib.specs.Tokens.{◌>>=◌, fault, check}

-- the most bytes of a text
abbrev pub longest_text : ℕ
longest_text = 1048576

abbrev pub is_zero : ℕ → Bool
is_zero byte = byte == 0

-- the line of the first zero byte: one more than the line feeds before it
abbrev pub zero_line : List ℕ → Option ℕ
zero_line text = option_map (λ i. count_by is_line_feed (take i text) + 1) (position is_zero text)

abbrev pub no_zero : Option ℕ → Result (Unit {0}) Fault
no_zero None = Ok tt
no_zero (Some line) = fault code.NotText line

-- a text is short enough and has no zero byte
unfoldable pub plain : List ℕ → Result (Unit {0}) Fault
plain text = do
  short ← check (nat_le (length text) longest_text) code.TooLong 0
  no_zero (zero_line text)
