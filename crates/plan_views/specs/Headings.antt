-- The columns of tables (docs/definitions.md, "Tables and charts"). The activity and the job have 4
-- places, numbers have 8, and dates 12.
use Rattle.std.specs.Prelude.{ℕ, List, codes}
use Rattle.plan_formats.specs.Columns.{Column}
use Rattle.plan_formats.specs.declared.column.Layout.TheVariants as layout

-- a column that is aligned right
abbrev pub right_column : List ℕ → List ℕ → ℕ → Column
right_column heading word places =
    record { heading = heading; word = word; layout = layout.Right places }

abbrev pub activity_column : Column
activity_column = right_column (codes "act") (codes "activity") 4

abbrev pub job_column : Column
job_column = right_column (codes "job") (codes "job") 4

abbrev pub step_column : Column
step_column = right_column (codes "step") (codes "step") 8

abbrev pub machine_column : Column
machine_column = right_column (codes "mach") (codes "machine") 8

abbrev pub duration_column : Column
duration_column = right_column (codes "d") (codes "duration") 8

abbrev pub start_column : Column
start_column = right_column (codes "start") (codes "start") 8

abbrev pub end_column : Column
end_column = right_column (codes "end") (codes "end") 8

-- the marks of critical activities
abbrev pub mark_column : Column
mark_column =
    record { heading = codes "critical"; word = codes "critical"; layout = layout.Mark }

-- the only column of a table of whole lines
abbrev pub line_column : List ℕ → Column
line_column word = record { heading = word; word = word; layout = layout.Line }
