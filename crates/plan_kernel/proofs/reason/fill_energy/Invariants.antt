use Rattle.std.proofs.Common.{ℕ, List, take}
use Rattle.std.specs.List.{All}
use Rattle.plan_kernel.specs.declared.literal.TheConstants.{LIMIT}
use Rattle.plan_kernel.specs.Clauses.{IsShorter}
use Rattle.plan_kernel.specs.Literals.{Fails}
use Rattle.plan_kernel.specs.Reasons.{IsWithin}
use Rattle.plan_kernel.proofs.reason.fill_energy.Given as goal

-- where all literals so far fail the members so far are in the window
abbrev pub invariant-loop-member : goal.invariant-loop-member
invariant-loop-member l =
    (starts : List ℕ) → IsShorter l.input LIMIT starts → All (Fails l.input starts) l.clause.items → All (IsWithin l.input l.from l.until starts) (take l.member-index l.members)
