-- The marks of the jobs that a row has named.
use Rattle.std.proofs.Common.{◌≡◌, ◌<◌, ◌+◌, ℕ, List, [], get_or, length, arith}
use Rattle.std.proofs.lemmas.Bool.{ne_eqb}
use Rattle.plan_psplib.specs.Precedence.{AreBelow, AreMarks}

-- marks below the number of a row are no marks of the row
pub AreMarks-nil : (row : ℕ) (marks : List ℕ) → AreBelow row marks → AreMarks row marks []
AreMarks-nil row marks below job within = ne_eqb (get_or marks job 0) row (λ e. omega (arith, e, below job within))

-- marks below n are below n + 1
pub AreBelow-more : (n : ℕ) (marks : List ℕ) → AreBelow n marks → AreBelow (n + 1) marks
AreBelow-more n marks below job within = omega (arith, below job within)
