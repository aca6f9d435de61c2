-- Searches that can be continued (docs/definitions.md, "Solutions").
use Rattle.plan_sgs.specs.Problem.{Problem}
use Rattle.plan_kernel.specs.Plans.{IsPlain}
use Rattle.plan_solve.specs.declared.sessions.Session.{Session}

-- the clauses and facts of a search are those of a problem
abbrev pub IsSessionOf : Problem → Session → Type 0
IsSessionOf p session = IsPlain session.search.prover.kernel.known.input p
