-- The table of a schedule (docs/definitions.md, "Texts").
use Rattle.std.specs.Prelude.{ℕ, ◌+◌, ◌-◌, List, [], ◌∷◌, ◌++◌, slice_index, codes}
use Rattle.std.specs.Fmt.{decimal}
use Rattle.plan_net.specs.Network.{Net, count_of, duration_of}
use Rattle.plan_gantt.specs.Column.{number_row, lines_from}

-- the heading
abbrev pub schedule_heading : List ℕ
schedule_heading = codes " act       d   start     end\n"

-- the start of activity j
abbrev pub start_of : List ℕ → ℕ → ℕ
start_of starts j = slice_index starts (j - 1)

-- the line of activity j: its number, its duration, its start and its end
unfoldable pub schedule_line : Net → List ℕ → ℕ → List ℕ
schedule_line net starts j = number_row j (duration_of net j ∷ start_of starts j ∷ (start_of starts j + duration_of net j) ∷ [])

-- the last line: the makespan
abbrev pub makespan_line : ℕ → List ℕ
makespan_line makespan = codes "makespan " ++ decimal makespan ++ codes "\n"

-- the schedule table: its heading, a line for each activity from 1 on, and the makespan
abbrev pub schedule_table_text : Net → List ℕ → ℕ → List ℕ
schedule_table_text net starts makespan =
    schedule_heading ++ lines_from (schedule_line net starts) 1 (count_of net) ++ makespan_line makespan
