use Rattle.std.proofs.Common.{◌≡◌, ◌-◌, []}
use Rattle.plan_report.specs.StartNumbers.{starts_at}
use Rattle.plan_report.proofs.start_numbers.next_starts.Given as goal

-- the starts that are left, read after those so far, are the whole result
abbrev pub invariant-loop : goal.invariant-loop
invariant-loop l = starts_at (l.count - l.counter) l.starts.items l.tokens ≡ starts_at l.count [] l.fn.tokens
