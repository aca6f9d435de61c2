-- The lines that are left of a text of holidays.
use Rattle.std.specs.Prelude.{ℕ, ◌+◌, List, [], Option, Some, None, length}
use denote.Ref.{Bor}
use Rattle.plan_holidays.specs.HolidayText.{lines}

-- the lines of the text that is left, or none
abbrev pub rest_lines : Option (Bor (List ℕ)) → List (List ℕ)
rest_lines None = []
rest_lines (Some text) = lines text.now

-- its length with one more for its last line, or 0
abbrev pub rest_size : Option (Bor (List ℕ)) → ℕ
rest_size None = 0
rest_size (Some text) = length text.now + 1
