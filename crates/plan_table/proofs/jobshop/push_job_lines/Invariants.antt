use Rattle.std.proofs.Common.{◌≡◌, ◌++◌, map, take}
use Rattle.std.specs.String.{string_bytes}
use Rattle.plan_table.specs.Numbered.{numbered}
use Rattle.plan_table.specs.ShopText.{job_line}
use Rattle.plan_table.proofs.jobshop.push_job_lines.Given as goal

-- behind the text stand the lines of the orders so far
abbrev pub invariant-loop-k : goal.invariant-loop-k
invariant-loop-k l = string_bytes l.text ≡ string_bytes l.fn.text ++ numbered (λ k _. job_line l.table k) 0 (map string_bytes (take l.k l.orders))
