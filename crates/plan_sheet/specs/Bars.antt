-- The bars of a chart (docs/definitions.md, "Sheets").
use Rattle.std.specs.Prelude.{ℕ, ◌+◌, ◌-◌, Bool, if◌then◌else◌, List, fold, max, slice_index}
use Rattle.plan_net.specs.Network.{Net, duration_of}
use Rattle.plan_shop.specs.Shop.{JobShop, machine_of, time_of}
use Rattle.plan_gantt.specs.ShopTable.{job_number, step_number}
use Rattle.plan_sheet.specs.declared.bars.Bar.{Bar}

-- the bar of activity j, in the line of its number
abbrev pub activity_bar : Net → List ℕ → ℕ → Bar
activity_bar net starts j =
    record {
      line = j;
      inside = 0;
      number = j;
      step = 0;
      machine = 0;
      from = slice_index starts (j - 1);
      to = slice_index starts (j - 1) + duration_of net j;
    }

-- the bar of a step by its flat number, in the line of its job or of its machine
abbrev pub step_bar : JobShop → List ℕ → Bool → ℕ → Bar
step_bar s starts by_job x =
    record {
      line = if by_job then job_number s x else machine_of s x;
      inside = if by_job then machine_of s x else job_number s x;
      number = job_number s x;
      step = step_number s x;
      machine = machine_of s x;
      from = slice_index starts x;
      to = slice_index starts x + time_of s x;
    }

-- the greatest end of bars
abbrev pub greatest_end : List Bar → ℕ
greatest_end bars = fold (λ most bar. max most bar.to) 0 bars
