-- The table of a job shop's schedule (docs/definitions.md, "Texts"). Steps have flat numbers from
-- 0; jobs and the steps of a job are shown by their numbers from 1, machines from 0.
use Rattle.std.specs.Prelude.{ℕ, ◌+◌, ◌/◌, ◌%◌, List, [], ◌∷◌, ◌++◌, get_or, slice_index, codes}
use Rattle.plan_shop.specs.Shop.{JobShop, count_steps, idle, job_of, place_of}
use Rattle.plan_orlib.specs.declared.steps.Step.{Step}
use Rattle.plan_gantt.specs.Column.{number_row, lines_from}
use Rattle.plan_gantt.specs.ScheduleTable.{makespan_line}

-- the heading
abbrev pub shop_heading : List ℕ
shop_heading = codes " job    step    mach       d   start     end\n"

-- the number of a step's job, and that of the step in it
abbrev pub job_number : JobShop → ℕ → ℕ
job_number s x = job_of s x + 1

abbrev pub step_number : JobShop → ℕ → ℕ
step_number s x = place_of s x + 1

-- the line of step x, by the number of machines: its job, its number in the job, its machine, its
-- time, its start and its end
abbrev pub step_line : ℕ → ℕ → Step → ℕ → List ℕ
step_line machines x step start =
    number_row (x / machines + 1) ((x % machines + 1) ∷ step.machine ∷ step.time ∷ start ∷ (start + step.time) ∷ [])

-- the line of a step by its flat number
unfoldable pub shop_line : JobShop → List ℕ → ℕ → List ℕ
shop_line s starts x = step_line s.machines x (get_or s.steps x idle) (slice_index starts x)

-- the table: its heading, a line for each step in flat order, and the makespan
abbrev pub shop_table_text : JobShop → List ℕ → ℕ → List ℕ
shop_table_text s starts makespan = shop_heading ++ lines_from (shop_line s starts) 0 (count_steps s) ++ makespan_line makespan
