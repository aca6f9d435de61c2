-- The marks of an axis as SVG (docs/definitions.md, "Sheets"): one definition for each element.
use Rattle.std.specs.Prelude.{ℕ, ◌*◌, if◌then◌else◌, nat_lt, List, [], ◌++◌, length, codes}
use Rattle.std.specs.List.{flat_map, range_with_len}
use Rattle.std.specs.Fmt.{decimal}
use Rattle.jiff_core.specs.declared.civil.date.Date.{Date}
use Rattle.plan_sheet.specs.Axis.{axis_from, axis_to, day_count, has_label, mark_count, shade_count, starts_week, tick_distance}
use Rattle.plan_sheet.specs.DayLabels.{axis_label}
use Rattle.plan_sheet.specs.Place.{place}

-- the line of a mark at a place, of this height, and the start of its label
unfoldable pub tick_head : ℕ → ℕ → List ℕ
tick_head height x =
    codes "<path class=\"tick\" d=\"M" ++ decimal x ++ codes " 19v" ++ decimal height ++ codes "\"/><text x=\"" ++ decimal x
    ++ codes "\" y=\"14\" dx=\"3\">"

-- a mark at a place: its line, and its label
unfoldable pub tick : ℕ → ℕ → List ℕ → List ℕ
tick height x label = tick_head height x ++ label ++ codes "</text>\n"

-- mark k of an axis without days: k times the distance of the marks
abbrev pub unit_tick : ℕ → ℕ → ℕ → List ℕ
unit_tick span height k = tick height (place span (k * tick_distance span)) (decimal (k * tick_distance span))

-- the marks of an axis without days
abbrev pub unit_ticks : ℕ → ℕ → List ℕ
unit_ticks span height = flat_map (unit_tick span height) (range_with_len 0 (mark_count span))

-- the area of this height between two places
unfoldable pub area : ℕ → ℕ → ℕ → List ℕ
area height from to =
    codes "M" ++ decimal from ++ codes " 19H" ++ decimal to ++ codes "v" ++ decimal height ++ codes "H" ++ decimal from ++ codes "z"

-- the days without work before that of instant t
abbrev pub gap_at : ℕ → List Date → ℕ → ℕ → List ℕ
gap_at span days height t =
    if nat_lt (axis_to days t) (axis_from days t)
    then area height (place span (axis_to days t)) (place span (axis_from days t)) else []

-- the days without work, as one path
unfoldable pub gaps : ℕ → List Date → ℕ → List ℕ
gaps span days height =
    codes "<path class=\"off\" d=\"" ++ flat_map (gap_at span days height) (range_with_len 0 (shade_count days)) ++ codes "\"/>\n"

-- the mark of a week at a place
unfoldable pub week_mark : ℕ → List ℕ
week_mark x = codes "M" ++ decimal x ++ codes " 15v4"

-- the mark of the week that begins at instant t, if one does
abbrev pub week_at : ℕ → List Date → ℕ → List ℕ
week_at span days t = if starts_week days t then week_mark (place span (axis_from days t)) else []

-- the marks of weeks, as one path
unfoldable pub weeks : ℕ → List Date → List ℕ
weeks span days =
    codes "<path class=\"week\" d=\"" ++ flat_map (week_at span days) (range_with_len 0 (shade_count days)) ++ codes "\"/>\n"

-- the mark of instant t with its day, if it has a label
abbrev pub day_tick : ℕ → List Date → ℕ → ℕ → List ℕ
day_tick span days height t =
    if has_label span days t then tick height (place span (axis_from days t)) (axis_label span days t) else []

abbrev pub day_ticks : ℕ → List Date → ℕ → List ℕ
day_ticks span days height = flat_map (day_tick span days height) (range_with_len 0 (day_count days))

-- the marks of an axis with days
unfoldable pub day_marks : ℕ → List Date → ℕ → List ℕ
day_marks span days height = gaps span days height ++ weeks span days ++ day_ticks span days height

-- the marks of an axis, of this height
unfoldable pub marks : ℕ → List Date → ℕ → List ℕ
marks span days height = if nat_lt (length days) 1 then unit_ticks span height else day_marks span days height
