use Rattle.std.proofs.Common.{◌≡◌, ◌≢◌, ◌∙◌, List, ◌+◌, ◌/◌, ℕ, suc, Vec, ap, subst, arith}
use Rattle.std.specs.declared.alloc.Global.{Global}
use Rattle.std.proofs.lemmas.Bool.{eq-eqb, ne_eqb}
use Rattle.plan_sgs.specs.Problem.{Link}
use Rattle.plan_shop.specs.Shop.{step_link}
use Rattle.plan_kernel.specs.declared.input.Arc.{Arc}
use Rattle.plan_kernel.specs.Inputs.{link_of}
use Rattle.plan_kernel.proofs.ShopLemmas.{arcs_followed, arcs_alone}
use Rattle.plan_kernel.proofs.shop.arcs_of.Goals as goal
use Rattle.plan_kernel.proofs.shop.arcs_of.Goals.{then-x-machines+in_ok-push, else-x-machines}

pub loop-x-preserved : goal.loop-x-preserved
loop-x-preserved c =
    let s = c.args.shop.now in
    let x : ℕ = c.loop-x.x in
    let m : ℕ = c.machines-machines.result in
    let next : x + 1 ≡ suc x = omega arith in
    let items : Vec Arc Global → List Arc = λ v. v.items in
    let arc : Arc = record { from = x; to = x + 1; lag = 0 } in
    let link : link_of arc ≡ step_link x = let l : ℕ → Link = λ y. record { from = x; to = y; lag = 0 } in ap l next in
    elim c.if-x-machines.branch [
      | then-x-machines+in_ok-push w ↦
          let same : suc x / s.machines ≡ x / s.machines =
          subst (λ (k : ℕ). suc x / k ≡ x / k) c.machines-machines.ensures.value (subst (λ (y : ℕ). y / m ≡ x / m) next w.if-x-machines.true) in
          arcs_followed s x c.loop-x.arcs.items c.if-x-machines.arcs.items arc c.loop-x.invariant (eq-eqb (suc x / s.machines) (x / s.machines) same) link
          (ap items w.arcs-is ∙ w.in_ok-push.ensures.items)
      | else-x-machines w ↦
          let apart : suc x / s.machines ≢ x / s.machines =
          subst (λ (k : ℕ). suc x / k ≢ x / k) c.machines-machines.ensures.value (subst (λ (y : ℕ). y / m ≢ x / m) next w.if-x-machines.false) in
          rw (ap items w.arcs-is) (arcs_alone s x c.loop-x.arcs.items c.loop-x.invariant (ne_eqb (suc x / s.machines) (x / s.machines) apart))
    ]
