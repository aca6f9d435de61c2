use Rattle.std.proofs.Common.{◌≡◌, length}
use Rattle.plan_kernel.specs.Clauses.{AreFacts}
use Rattle.plan_kernel.proofs.facts.raise_windows.Given as goal

-- the facts hold
abbrev pub invariant-loop-window : goal.invariant-loop-window
invariant-loop-window l = record {
  facts : AreFacts l.input l.upper l.facts.items;
  size : length l.facts.items ≡ length l.initial.facts.items;
}
