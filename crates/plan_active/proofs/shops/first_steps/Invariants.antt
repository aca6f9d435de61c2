use Rattle.std.proofs.Common.{◌≡◌, ◌<◌, ◌*◌, ℕ, length}
use Rattle.std.specs.Prelude.{slice_index}
use Rattle.plan_active.proofs.shops.first_steps.Given as goal

-- the first steps of the jobs so far
abbrev pub invariant-loop-job : goal.invariant-loop-job
invariant-loop-job l = record {
  size : length l.next.items ≡ l.job;
  each : (j : ℕ) → j < l.job → slice_index l.next.items j ≡ j * l.shop.machines;
}
