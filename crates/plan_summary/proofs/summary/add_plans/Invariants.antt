use Rattle.std.specs.Prelude.{take, Ok}
use Rattle.plan_summary.specs.Digests.{Takes, Looks, lines_at}
use Rattle.plan_summary.proofs.summary.add_plans.Given as goal

-- the lines of the plans so far
abbrev pub invariant-loop-key : goal.invariant-loop-key
invariant-loop-key g l =
    Looks g.B.Book.shelf l.fn.book l.book (λ w. λ (_ : Unit {0}). Takes l.fn.hasher l.hasher (lines_at w (take l.key-index l.fn.keys))) (Ok tt)
