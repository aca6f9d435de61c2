-- The date table of a network (docs/definitions.md, "Texts").
use Rattle.std.specs.Prelude.{◌≡◌, ℕ, Bool, List, [], ◌∷◌, ◌++◌, if◌then◌else◌, ◌==◌, codes}
use Rattle.std.specs.Fmt.{decimal}
use Rattle.plan_net.specs.Network.{Net, count_of, duration_of}
use Rattle.plan_cpm.specs.Dates.{DateTable, AreDates, early_start_of, early_finish_of, late_start_of, late_finish_of, total_float_of, free_float_of}
use Rattle.plan_gantt.specs.Column.{number_column, number_columns, lines_from}

-- the heading
abbrev pub date_heading : List ℕ
date_heading = codes " act       d      ES      EF      LS      LF      TF      FF\n"

-- the duration, the dates and the floats of activity j
abbrev pub dates_of : Net → DateTable → ℕ → List ℕ
dates_of net dates j = duration_of net j ∷ early_start_of dates j ∷ early_finish_of dates j ∷ late_start_of dates j
    ∷ late_finish_of dates j ∷ total_float_of dates j ∷ free_float_of dates j ∷ []

-- the end of a line, with a star if the activity is critical
abbrev pub line_end : Bool → List ℕ
line_end critical = if critical then codes " *\n" else codes "\n"

-- the line of activity j, which is critical if its total float is 0
unfoldable pub date_line : Net → DateTable → ℕ → List ℕ
date_line net dates j = number_column 4 j ++ number_columns (dates_of net dates j) ++ line_end (total_float_of dates j == 0)

-- the last line: T and the project duration
abbrev pub duration_line : ℕ → List ℕ
duration_line duration = codes "T " ++ decimal duration ++ codes "\n"

-- the date table: its heading, a line for each activity from 1 on, and the duration
abbrev pub date_table_text : Net → DateTable → List ℕ
date_table_text net dates = date_heading ++ lines_from (date_line net dates) 1 (count_of net) ++ duration_line dates.duration

-- a text is the date table of a network
abbrev pub IsDateText : Net → List ℕ → Type 0
IsDateText net text = (dates : DateTable) × AreDates net dates × (text ≡ date_table_text net dates)
