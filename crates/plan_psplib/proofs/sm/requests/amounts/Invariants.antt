use Rattle.std.proofs.Common.{◌≡◌, ◌-◌, []}
use Rattle.plan_psplib.specs.Requests.{amounts_at}
use Rattle.plan_psplib.proofs.sm.requests.amounts.Given as goal

-- reading the rest after the amounts so far gives the total result
abbrev pub invariant-loop : goal.invariant-loop
invariant-loop l = amounts_at (l.count - l.counter) l.amounts.items l.words ≡ amounts_at l.count [] l.fn.words
