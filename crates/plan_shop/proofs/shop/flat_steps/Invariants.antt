-- The steps of the jobs so far.
use Rattle.std.proofs.Common.{◌≡◌, take}
use Rattle.plan_shop.specs.Docs.{flat_steps}
use Rattle.plan_shop.proofs.shop.flat_steps.Given as goal

abbrev pub invariant-loop-place : goal.invariant-loop-place
invariant-loop-place l = l.steps.items ≡ flat_steps (take l.place l.doc.jobs)
