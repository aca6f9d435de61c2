-- Gantt charts (docs/definitions.md, "Texts"; Gantt 1910, Clark 1922): a line of cells for each
-- activity or machine, with the same number of instants in each cell.
use Rattle.std.specs.Prelude.{ℕ, ◌+◌, ◌*◌, Bool, ◌&&◌, List, ◌++◌, if◌then◌else◌, nat_le, nat_lt, codes}
use Rattle.std.specs.List.{list_any, range_with_len, flat_map}
use Rattle.std.specs.Int.{div_ceil}
use Rattle.std.specs.Fmt.{decimal}
use Rattle.plan_gantt.specs.Column.{number_column, lines_from}
use Rattle.plan_gantt.specs.declared.interval.Interval.{Interval}

-- the interval covers the instant
abbrev pub covers : Interval → ℕ → Bool
covers v t = nat_le v.start t && nat_lt t (v.start + v.duration)

-- one of the intervals covers the instant
abbrev pub is_occupied : List Interval → ℕ → Bool
is_occupied intervals t = list_any (λ v. covers v t) intervals

-- the number of instants in a cell: 1 for makespans up to 60, else the least for which 60 cells
-- suffice
abbrev pub chart_unit : ℕ → ℕ
chart_unit makespan = if nat_le makespan 60 then 1 else div_ceil makespan 60

-- the number of cells in a line: the least that cover all instants before the makespan
abbrev pub chart_cells : ℕ → ℕ
chart_cells makespan = div_ceil makespan (chart_unit makespan)

-- some instant of the cell is occupied
unfoldable pub is_marked : ℕ → List Interval → ℕ → Bool
is_marked unit intervals cell = list_any (λ t. is_occupied intervals t) (range_with_len (cell * unit) unit)

-- a cell: # if some instant of it is occupied, else a point
unfoldable pub cell_text : ℕ → List Interval → ℕ → List ℕ
cell_text unit intervals cell = if is_marked unit intervals cell then codes "#" else codes "."

-- the first `count` cells of a line
abbrev pub cell_texts : ℕ → List Interval → ℕ → List ℕ
cell_texts unit intervals count = flat_map (cell_text unit intervals) (range_with_len 0 count)

-- a line of a chart: the number, a space, and the cells between bars
unfoldable pub chart_line : ℕ → ℕ → List Interval → List ℕ
chart_line makespan number intervals =
    number_column 4 number ++ codes " |" ++ cell_texts (chart_unit makespan) intervals (chart_cells makespan) ++ codes "|\n"

-- the first line: the number of instants in a cell
abbrev pub unit_line : ℕ → List ℕ
unit_line makespan = codes "unit " ++ decimal (chart_unit makespan) ++ codes "\n"

-- a chart of `count` lines, numbered from `first`, each with the intervals of its number
abbrev pub chart_text : ℕ → (ℕ → List Interval) → ℕ → ℕ → List ℕ
chart_text makespan intervals first count =
    unit_line makespan ++ lines_from (λ number. chart_line makespan number (intervals number)) first count
