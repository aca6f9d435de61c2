use Rattle.std.proofs.Common.{◌≡◌, ◌==◌, drop}
use Rattle.std.specs.List.{list_all}
use Rattle.plan_documents.proofs.waits.are_zero.Given as goal

-- the needs that are left decide
abbrev pub invariant-loop-need : goal.invariant-loop-need
invariant-loop-need l = list_all (λ need. need == 0) (drop l.need-index l.needs) ≡ list_all (λ need. need == 0) l.needs
