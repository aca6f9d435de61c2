use Rattle.std.proofs.Common.{ℕ, ◌<◌}
use Rattle.plan_weekverdict.specs.declared.verdict.Miss.{Miss}
use Rattle.plan_weekverdict.specs.Verdicts.{MissesAt}
use Rattle.plan_weekverdict.proofs.dates.first_miss.Given as goal

-- no activity so far misses its dates
abbrev pub invariant-loop-place : goal.invariant-loop-place
invariant-loop-place l = (i : ℕ) → i < l.place → (miss : Miss) → MissesAt l.week l.starts i miss → ⊥
