use Rattle.std.proofs.Common.{◌≡◌, ◌<◌, ℕ}
use Rattle.std.specs.Prelude.{slice_index}
use Rattle.plan_copies.specs.declared.choice.TheConstants.{FORM}
use Rattle.plan_copies.specs.Choice.{form_of}
use Rattle.plan_copies.proofs.choice.is_time.Given as goal

-- the bytes so far have the form
abbrev pub invariant-loop-i : goal.invariant-loop-i
invariant-loop-i l = (k : ℕ) → k < l.i → form_of (slice_index l.bytes k) ≡ slice_index FORM.now k
