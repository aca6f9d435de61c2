use Rattle.std.proofs.Common.{◌≡◌, max, min, arith}
use Rattle.plan_kernel.proofs.EnergyLemmas.{absence_takes}
use Rattle.plan_kernel.proofs.reason.taken.Goals as goal

pub returns : goal.returns
returns c =
    let a = c.args.absence in
    let first : c.max-first.result ≡ max a.from c.args.from = grind (arith, c.max-first.ensures) in
    let behind : c.min-behind.result ≡ min a.until c.args.until = grind (arith, c.min-behind.ensures) in
    omega (
      arith,
      c.saturating_mul.ensures,
      absence_takes a c.args.resource c.args.from c.args.until c.max-first.result c.min-behind.result (omega (arith, c.if-absence-resource.false))
          (omega (arith, first)) (omega (arith, first)) (omega (arith, c.if-behind-first.false)) (omega (arith, behind)) (omega (arith, behind)),
    )
