-- Units: durations and lags as decimal numbers, in units of so many thousandths of a day.
use Rattle.std.specs.Prelude.{ℕ, ◌+◌, ◌*◌, ◌/◌, ◌%◌, ◌==◌, ◌&&◌, ◌||◌, Bool, if◌then◌else◌, List, [], ◌∷◌, ◌++◌, Option, Some, None, codes, drop, length, nat_le, not, take}
use Rattle.std.specs.Fmt as fmt
use Rattle.std.specs.List.{position}
use Rattle.plan_psplib.specs.Lines.{trim}
use Rattle.plan_psplib.specs.Numbers.{is_digit, number}
use Rattle.plan_psplib.specs.Sections.{begins_with}
use Rattle.plan_table.specs.Durations.{digits_end, is_unit}

-- a text begins with a point or a comma
abbrev pub is_pointed : List ℕ → Bool
is_pointed text = begins_with text (codes ".") || begins_with text (codes ",")

-- the thousandths that a number of so many digits behind a point is
abbrev pub thousandths : ℕ → ℕ → ℕ
thousandths count n = if count == 1 then n * 100 else if count == 2 then n * 10 else n

-- a number up to a limit
abbrev pub small : ℕ → Option ℕ → Option ℕ
small limit None = None
small limit (Some n) = if nat_le n limit then Some n else None

-- the greatest whole number
abbrev pub greatest : ℕ
greatest = 1000000

abbrev pub whole : Option ℕ → Option ℕ
whole None = None
whole (Some n) = Some (n * 1000)

-- a number and the number of so many digits behind its point, in thousandths
abbrev pub joined : ℕ → Option ℕ → Option ℕ → Option ℕ
joined count None digits = None
joined count (Some n) None = None
joined count (Some n) (Some digits) = Some (n * 1000 + thousandths count digits)

-- the same, if there are at most so many digits
abbrev pub joined_if : ℕ → List ℕ → List ℕ → Option ℕ
joined_if most front digits =
    if nat_le (length digits) most
    then joined (length digits) (small greatest (number front)) (small 999 (number digits)) else None

abbrev pub decimal_at : ℕ → Option ℕ → List ℕ → Option ℕ
decimal_at most None text = whole (small greatest (number text))
decimal_at most (Some end) text =
    if is_pointed (drop end text) then joined_if most (take end text) (drop 1 (drop end text)) else None

-- the thousandths of a decimal number below 1,000,001, with at most so many digits behind its point
-- or comma
abbrev pub decimal : ℕ → List ℕ → Option ℕ
decimal most text = decimal_at most (digits_end text) text

-- the place behind the number at the front of a cell, if something follows it
abbrev pub number_end : List ℕ → Option ℕ
number_end cell =
    position (λ byte. not (is_digit byte) && not (byte == 44) && not (byte == 46)) cell

abbrev pub value_at : Option ℕ → List ℕ → Option ℕ
value_at None cell = decimal 2 cell
value_at (Some end) cell =
    if is_unit (trim (drop end cell)) then decimal 2 (take end cell) else None

-- the thousandths in a cell: a number with at most two digits behind its point, and perhaps a word
-- for days. With three digits it could be one of thousands
unfoldable pub value : List ℕ → Option ℕ
value cell = value_at (number_end cell) cell

-- so many thousandths in units; a cell that isn't a whole number of them becomes one that is no
-- duration
abbrev pub counted : ℕ → List ℕ → ℕ → List ℕ
counted unit cell n = if n % unit == 0 then fmt.decimal (n / unit) else cell ++ codes "/unit"

abbrev pub counted_if : ℕ → List ℕ → Option ℕ → List ℕ
counted_if unit cell None = cell
counted_if unit cell (Some n) = counted unit cell n

-- a cell in units; one that is no number stays
unfoldable pub in_units : ℕ → List ℕ → List ℕ
in_units unit cell = counted_if unit cell (value cell)
