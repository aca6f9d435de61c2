-- Weekdays in words: names and ranges of names between commas, such as mon-fri or mon,wed,fri
-- (docs/definitions.md, "Texts"). A weekday is its number, Monday 0.
use Rattle.std.specs.Prelude.{ℕ, ◌+◌, ◌-◌, ◌%◌, ◌==◌, Bool, false, true, if◌then◌else◌, List, [], ◌∷◌, map, take, drop, Option, Some, None, codes, bytes_eq, nat_le}
use Rattle.std.specs.List.{list_any, list_all, position, slice_split}
use Rattle.plan_calendar.specs.CalendarText.{mark_digit}
use Rattle.plan_holidays.specs.declared.weekdays.Weekdays.{Weekdays}

abbrev pub is_comma : ℕ → Bool
is_comma byte = byte == 44

abbrev pub is_hyphen : ℕ → Bool
is_hyphen byte = byte == 45

-- the weekday with this name
abbrev pub weekday_named : List ℕ → Option ℕ
weekday_named name =
    if bytes_eq name (codes "mon") then Some 0 else (
    if bytes_eq name (codes "tue") then Some 1 else (
    if bytes_eq name (codes "wed") then Some 2 else (
    if bytes_eq name (codes "thu") then Some 3 else (
    if bytes_eq name (codes "fri") then Some 4 else (
    if bytes_eq name (codes "sat") then Some 5 else (
    if bytes_eq name (codes "sun") then Some 6 else None))))))

-- the range from one weekday to another
abbrev pub from_to : Option ℕ → Option ℕ → Option Weekdays
from_to None last = None
from_to (Some first) None = None
from_to (Some first) (Some last) = Some (record { first = first; last = last })

-- the range of an item whose first hyphen is there: its ends are around the hyphen; without a
-- hyphen, the item is one weekday
abbrev pub range_at : List ℕ → Option ℕ → Option Weekdays
range_at item None = from_to (weekday_named item) (weekday_named item)
range_at item (Some end) = from_to (weekday_named (take end item)) (weekday_named (drop (end + 1) item))

-- the range of weekdays that an item names
abbrev pub range_of : List ℕ → Option Weekdays
range_of item = range_at item (position is_hyphen item)

-- a range names a weekday: it isn't after the last one, counted from the first one on; Monday
-- follows Sunday
abbrev pub is_within : ℕ → Weekdays → Bool
is_within day range = nat_le ((day + 7 - range.first) % 7) ((range.last + 7 - range.first) % 7)

-- an item is a weekday or a range
abbrev pub is_range : Option Weekdays → Bool
is_range None = false
is_range (Some range) = true

-- an item names a weekday
abbrev pub range_has : ℕ → Option Weekdays → Bool
range_has day None = false
range_has day (Some range) = is_within day range

abbrev pub item_has : ℕ → List ℕ → Bool
item_has day item = range_has day (range_of item)

-- the items of a text, between its commas
abbrev pub items_of : List ℕ → List (List ℕ)
items_of text = slice_split is_comma text

-- each item of a text is a weekday or a range
abbrev pub are_words : List ℕ → Bool
are_words text = list_all (λ item. is_range (range_of item)) (items_of text)

-- an item of a text names a weekday
abbrev pub is_named : List ℕ → ℕ → Bool
is_named text day = list_any (item_has day) (items_of text)

-- the marks of the weekdays that a text names
abbrev pub marks_of : List ℕ → List Bool
marks_of text =
    is_named text 0 ∷ is_named text 1 ∷ is_named text 2 ∷ is_named text 3 ∷ is_named text 4
    ∷ is_named text 5 ∷ is_named text 6 ∷ []

-- the digits of the marks that a text names in words; any other text is itself
abbrev pub digits_of : List ℕ → List ℕ
digits_of text = if are_words text then map mark_digit (marks_of text) else text
