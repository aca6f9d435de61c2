use Rattle.std.proofs.Common.{◌≡◌, ℕ, ◌<◌, ap, refl, sym, add-one, arith}
use Rattle.std.proofs.lemmas.Bool.{lt-ltb, le-ltb}
use Rattle.plan_sgs.specs.Problem.{greatest_below}
use Rattle.plan_sgs.proofs.TotalLemmas.{greatest_above}
use Rattle.plan_shop.specs.Bound.{bound_of_pending, pending}
use Rattle.plan_shop.specs.Trees.{Standing, placed}
use Rattle.plan_shop.proofs.HeldLemmas.{held}
use Rattle.plan_shop.proofs.PendingLemmas.{machine_bound-is, gathered-none}
use Rattle.plan_shop.proofs.tree.ShopTree.machines_end_before.Goals as goal

pub gather_all-requires : goal.gather_all-requires
gather_all-requires c =
    let h = held _ _ _ _ _ _ _ _ c.self.view_is c.self.invariant.kept in
    gathered-none c.args.self.now _ h.small refl

pub loop-machine-preserved : goal.loop-machine-preserved
loop-machine-preserved c =
    let h = held _ _ _ _ _ _ _ _ c.self.view_is c.self.invariant.kept in
    let machines = ap (λ (v : Standing). v.shop.machines) c.self.view_is in
    let value = machine_bound-is c.args.self.now c.gather_all.new.pending h.small.shop c.gather_all.ensures c.loop-machine.machine c.machine_bound-bound.result
    (omega (arith, machines, c.machines-machines.ensures.value, c.loop-machine-test.true)) c.machine_bound-bound.ensures in
    rw add-one (omega (arith, c.loop-machine.invariant, value, c.if-bound-limit.false))

pub returns-then-bound-limit : goal.returns-then-bound-limit
returns-then-bound-limit c =
    let h = held _ _ _ _ _ _ _ _ c.self.view_is c.self.invariant.kept in
    let s = c.args.self.now.shop in
    let xs = placed c.args.self.now in
    let f : ℕ → ℕ = λ m. bound_of_pending s xs (pending s xs m) in
    let machines = ap (λ (v : Standing). v.shop.machines) c.self.view_is in
    let inside : c.loop-machine.machine < c.args.self.now.shop.machines = omega (arith, machines, c.machines-machines.ensures.value, c.loop-machine-test.true) in
    let value = machine_bound-is c.args.self.now c.gather_all.new.pending h.small.shop c.gather_all.ensures c.loop-machine.machine c.machine_bound-bound.result
    inside c.machine_bound-bound.ensures in
    let most = greatest_above s.machines f c.loop-machine.machine inside in
    sym (le-ltb (greatest_below s.machines f) c.args.limit (omega (arith, most, value, c.if-bound-limit.true)))

pub returns : goal.returns
returns c =
    let s = c.args.self.now.shop in
    let xs = placed c.args.self.now in
    let f : ℕ → ℕ = λ m. bound_of_pending s xs (pending s xs m) in
    let machines = ap (λ (v : Standing). v.shop.machines) c.self.view_is in
    let all : c.loop-machine.machine ≡ c.args.self.now.shop.machines = omega (arith, machines, c.machines-machines.ensures.value, c.loop-machine-test.false, c.loop-machine.auto.machine-end) in
    sym (lt-ltb (greatest_below s.machines f) c.args.limit (omega (arith, ap (λ (n : ℕ). greatest_below n f) all, c.loop-machine.invariant)))
