use Rattle.std.proofs.Common.{◌≡◌, ◌+◌, ◌-◌, ◌*◌, ◌<◌, ◌∙◌, ℕ, List, ap, sym, arith}
use Rattle.plan_orlib.specs.declared.steps.Step.{Step}
use Rattle.plan_shop.specs.Words.{Placed, next_step}
use Rattle.plan_shop.specs.Shop.{idle, machine_of}
use Rattle.plan_shop.specs.Trees.{word_of}
use Rattle.plan_shop.specs.Laws.{placed_in}
use Rattle.plan_shop.proofs.TailLemmas.{step-is}
use Rattle.plan_shop.proofs.TurnLemmas.{popped, pop-read, undone, popped-word}
use Rattle.plan_shop.proofs.tree.ShopTree.pop.Goals as goal

pub overflow_sub-place : goal.overflow_sub-place
overflow_sub-place c =
    let p = popped c.self.inside.shop.now c.self.inside.tails.items c.self.inside.done.items
    c.self.inside.ends.items c.self.inside.free.items c.self.inside.starts.items c.pop.new.self.items
    c.self.inside.turns.items c.in-Some.turn c.in-Some.ensures.items c.self.invariant.kept in
    p.first

pub index-requires : goal.index-requires
index-requires c =
    let p = popped c.self.inside.shop.now c.self.inside.tails.items c.self.inside.done.items
    c.self.inside.ends.items c.self.inside.free.items c.self.inside.starts.items c.pop.new.self.items
    c.self.inside.turns.items c.in-Some.turn c.in-Some.ensures.items c.self.invariant.kept in
    let job = p.job in
    let size = p.kept.done_size in
    let len = c.self.inside.done.ok in
    omega (arith, job, size, len)

pub overflow_sub-done : goal.overflow_sub-done
overflow_sub-done c =
    let p = popped c.self.inside.shop.now c.self.inside.tails.items c.self.inside.done.items
    c.self.inside.ends.items c.self.inside.free.items c.self.inside.starts.items c.pop.new.self.items
    c.self.inside.turns.items c.in-Some.turn c.in-Some.ensures.items c.self.invariant.kept in
    let r = pop-read c.self.inside.shop.now c.self.inside.done.items c.self.inside.ends.items
    c.self.inside.free.items c.self.inside.starts.items c.pop.new.self.items c.in-Some.turn p
    c.index.result.now c.index.ensures in
    omega (arith, r)

pub overflow_mul-place : goal.overflow_mul-place
overflow_mul-place c =
    let p = popped c.self.inside.shop.now c.self.inside.tails.items c.self.inside.done.items
    c.self.inside.ends.items c.self.inside.free.items c.self.inside.starts.items c.pop.new.self.items
    c.self.inside.turns.items c.in-Some.turn c.in-Some.ensures.items c.self.invariant.kept in
    let r = pop-read c.self.inside.shop.now c.self.inside.done.items c.self.inside.ends.items
    c.self.inside.free.items c.self.inside.starts.items c.pop.new.self.items c.in-Some.turn p
    c.index.result.now c.index.ensures in
    let xs : List Placed = placed_in c.self.inside.shop.now (word_of c.pop.new.self.items) in
    let j : ℕ = c.in-Some.turn.letter - 1 in
    let number : (c.in-Some.turn.letter - 1) * c.machines.result + (c.index.result.now - 1) ≡ next_step c.self.inside.shop.now xs j =
    omega (arith, ap (λ n. j * n) c.machines.ensures.value, r) in
    let few = p.few in
    let inside = p.inside in
    omega (arith, number, few, inside)

pub overflow_add-place : goal.overflow_add-place
overflow_add-place c =
    let p = popped c.self.inside.shop.now c.self.inside.tails.items c.self.inside.done.items
    c.self.inside.ends.items c.self.inside.free.items c.self.inside.starts.items c.pop.new.self.items
    c.self.inside.turns.items c.in-Some.turn c.in-Some.ensures.items c.self.invariant.kept in
    let r = pop-read c.self.inside.shop.now c.self.inside.done.items c.self.inside.ends.items
    c.self.inside.free.items c.self.inside.starts.items c.pop.new.self.items c.in-Some.turn p
    c.index.result.now c.index.ensures in
    let xs : List Placed = placed_in c.self.inside.shop.now (word_of c.pop.new.self.items) in
    let j : ℕ = c.in-Some.turn.letter - 1 in
    let number : (c.in-Some.turn.letter - 1) * c.machines.result + (c.index.result.now - 1) ≡ next_step c.self.inside.shop.now xs j =
    omega (arith, ap (λ n. j * n) c.machines.ensures.value, r) in
    let few = p.few in
    let inside = p.inside in
    omega (arith, number, few, inside)

pub step-step-requires : goal.step-step-requires
step-step-requires c =
    let p = popped c.self.inside.shop.now c.self.inside.tails.items c.self.inside.done.items
    c.self.inside.ends.items c.self.inside.free.items c.self.inside.starts.items c.pop.new.self.items
    c.self.inside.turns.items c.in-Some.turn c.in-Some.ensures.items c.self.invariant.kept in
    let r = pop-read c.self.inside.shop.now c.self.inside.done.items c.self.inside.ends.items
    c.self.inside.free.items c.self.inside.starts.items c.pop.new.self.items c.in-Some.turn p
    c.index.result.now c.index.ensures in
    let xs : List Placed = placed_in c.self.inside.shop.now (word_of c.pop.new.self.items) in
    let j : ℕ = c.in-Some.turn.letter - 1 in
    let number : (c.in-Some.turn.letter - 1) * c.machines.result + (c.index.result.now - 1) ≡ next_step c.self.inside.shop.now xs j =
    omega (arith, ap (λ n. j * n) c.machines.ensures.value, r) in
    let few = p.few in
    let inside = p.inside in
    omega (arith, number, few, inside)

pub index_mut-requires : goal.index_mut-requires
index_mut-requires c =
    let p = popped c.self.inside.shop.now c.self.inside.tails.items c.self.inside.done.items
    c.self.inside.ends.items c.self.inside.free.items c.self.inside.starts.items c.pop.new.self.items
    c.self.inside.turns.items c.in-Some.turn c.in-Some.ensures.items c.self.invariant.kept in
    let job = p.job in
    let size = p.kept.done_size in
    let len = c.self.inside.done.ok in
    omega (arith, job, size, len)

pub index_mut-requires-2 : goal.index_mut-requires-2
index_mut-requires-2 c =
    let p = popped c.self.inside.shop.now c.self.inside.tails.items c.self.inside.done.items
    c.self.inside.ends.items c.self.inside.free.items c.self.inside.starts.items c.pop.new.self.items
    c.self.inside.turns.items c.in-Some.turn c.in-Some.ensures.items c.self.invariant.kept in
    let job = p.job in
    let size = p.kept.ends_size in
    let len = c.self.inside.ends.ok in
    omega (arith, job, size, len)

pub index_mut-requires-3 : goal.index_mut-requires-3
index_mut-requires-3 c =
    let p = popped c.self.inside.shop.now c.self.inside.tails.items c.self.inside.done.items
    c.self.inside.ends.items c.self.inside.free.items c.self.inside.starts.items c.pop.new.self.items
    c.self.inside.turns.items c.in-Some.turn c.in-Some.ensures.items c.self.invariant.kept in
    let r = pop-read c.self.inside.shop.now c.self.inside.done.items c.self.inside.ends.items
    c.self.inside.free.items c.self.inside.starts.items c.pop.new.self.items c.in-Some.turn p
    c.index.result.now c.index.ensures in
    let xs : List Placed = placed_in c.self.inside.shop.now (word_of c.pop.new.self.items) in
    let j : ℕ = c.in-Some.turn.letter - 1 in
    let number : (c.in-Some.turn.letter - 1) * c.machines.result + (c.index.result.now - 1) ≡ next_step c.self.inside.shop.now xs j =
    omega (arith, ap (λ n. j * n) c.machines.ensures.value, r) in
    let step = step-is c.self.inside.shop.now _ c.step-step.result c.step-step.ensures.value in
    let machine : c.step-step.result.machine ≡ machine_of c.self.inside.shop.now (next_step c.self.inside.shop.now xs j) =
    sym (ap (λ (w : Step). w.machine) step) ∙ ap (machine_of c.self.inside.shop.now) number in
    let on : c.step-step.result.machine < c.self.inside.shop.now.machines =
    omega (arith, machine, c.self.invariant.kept.small.shop.on_machines (next_step c.self.inside.shop.now xs j) idle p.inside) in
    let size = p.kept.free_size in
    let len = c.self.inside.free.ok in
    omega (arith, on, size, len)

pub invariant_of-self-2 : goal.invariant_of-self-2
invariant_of-self-2 c =
    let p = popped c.self.inside.shop.now c.self.inside.tails.items c.self.inside.done.items
    c.self.inside.ends.items c.self.inside.free.items c.self.inside.starts.items c.pop.new.self.items
    c.self.inside.turns.items c.in-Some.turn c.in-Some.ensures.items c.self.invariant.kept in
    let r = pop-read c.self.inside.shop.now c.self.inside.done.items c.self.inside.ends.items
    c.self.inside.free.items c.self.inside.starts.items c.pop.new.self.items c.in-Some.turn p
    c.index.result.now c.index.ensures in
    let xs : List Placed = placed_in c.self.inside.shop.now (word_of c.pop.new.self.items) in
    let j : ℕ = c.in-Some.turn.letter - 1 in
    let number : (c.in-Some.turn.letter - 1) * c.machines.result + (c.index.result.now - 1) ≡ next_step c.self.inside.shop.now xs j =
    omega (arith, ap (λ n. j * n) c.machines.ensures.value, r) in
    let step = step-is c.self.inside.shop.now _ c.step-step.result c.step-step.ensures.value in
    let machine : c.step-step.result.machine ≡ machine_of c.self.inside.shop.now (next_step c.self.inside.shop.now xs j) =
    sym (ap (λ (w : Step). w.machine) step) ∙ ap (machine_of c.self.inside.shop.now) number in
    let on : c.step-step.result.machine < c.self.inside.shop.now.machines =
    omega (arith, machine, c.self.invariant.kept.small.shop.on_machines (next_step c.self.inside.shop.now xs j) idle p.inside) in
    let kept = undone c.self.inside.shop.now c.self.inside.tails.items c.self.inside.done.items
    c.self.inside.ends.items c.self.inside.free.items c.self.inside.starts.items c.pop.new.self.items
    c.in-Some.turn c.self.inside.turns.items c.self.invariant.kept p
    (c.index.result.now - 1) c.step-step.result.machine (omega (arith, r)) machine on in
    record { kept = kept; room = omega (arith, c.self.invariant.room, c.in-Some.ensures.capacity) }

pub returns-clause-word : goal.returns-clause-word
returns-clause-word c = popped-word c.self.inside.shop.now c.pop.new.self.items c.self.inside.turns.items c.in-Some.turn c.args.self.now c.self.view_is c.in-Some.ensures.items
