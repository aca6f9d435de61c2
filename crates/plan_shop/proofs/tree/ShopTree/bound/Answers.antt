use Rattle.std.proofs.Common.{◌≡◌, ◌∙◌, ℕ, ap, refl, max, add-one, arith}
use Rattle.plan_sgs.specs.Problem.{greatest_below}
use Rattle.plan_shop.specs.Bound.{bound_of, job_bound, bound_of_pending, pending}
use Rattle.plan_shop.specs.Trees.{Standing, placed}
use Rattle.plan_shop.proofs.HeldLemmas.{held}
use Rattle.plan_shop.proofs.PendingLemmas.{machine_bound-is, gathered-none}
use Rattle.plan_shop.proofs.tree.ShopTree.bound.Goals as goal

pub gather_all-requires : goal.gather_all-requires
gather_all-requires c =
    let h = held _ _ _ _ _ _ _ _ c.self.view_is c.self.invariant.kept in
    gathered-none c.args.self.now _ h.small refl

pub loop-machine-preserved : goal.loop-machine-preserved
loop-machine-preserved c =
    let h = held _ _ _ _ _ _ _ _ c.self.view_is c.self.invariant.kept in
    let machines = ap (λ (v : Standing). v.shop.machines) c.self.view_is in
    let value = machine_bound-is c.args.self.now c.gather_all.new.pending h.small.shop c.gather_all.ensures c.loop-machine.machine c.machine_bound.result
    (omega (arith, machines, c.machines-machines.ensures.value, c.loop-machine-test.true)) c.machine_bound.ensures in
    rw add-one (omega (arith, c.max-greatest.ensures, c.loop-machine.invariant, value))

pub returns : goal.returns
unfolding bound_of
returns c =
    let machines = ap (λ (v : Standing). v.shop.machines) c.self.view_is in
    let all : c.loop-machine.machine ≡ c.args.self.now.shop.machines = omega (arith, machines, c.machines-machines.ensures.value, c.loop-machine-test.false, c.loop-machine.auto.machine-end) in
    c.loop-machine.invariant ∙ ap (λ (n : ℕ). max (greatest_below c.args.self.now.shop.jobs (job_bound c.args.self.now.shop (placed c.args.self.now)))
    (greatest_below n (λ m. bound_of_pending c.args.self.now.shop (placed c.args.self.now) (pending c.args.self.now.shop (placed c.args.self.now) m)))) all
