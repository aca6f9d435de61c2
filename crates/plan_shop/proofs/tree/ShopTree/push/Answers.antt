use Rattle.std.proofs.Common.{◌+◌, ◌-◌, ◌∙◌, ℕ, ap, cond, arith}
use Rattle.std.specs.Prelude.{nat_lt}
use Rattle.plan_shop.specs.declared.tree.Turn.{Turn}
use Rattle.plan_shop.proofs.HeldLemmas.{held, done-read, end-read, free-read}
use Rattle.plan_shop.proofs.TurnLemmas.{IsPush, pushable, pushed}
use Rattle.plan_shop.proofs.RoomLemmas.{turns-room}
use Rattle.plan_shop.proofs.tree.ShopTree.push.Goals as goal

pub overflow_sub-place : goal.overflow_sub-place
overflow_sub-place c = (pushable _ _ c.args.job c.requires).first

pub next_number-i-requires-clause-job : goal.next_number-i-requires-clause-job
next_number-i-requires-clause-job c = (pushable _ _ c.args.job c.requires).job

pub next_number-i-requires-clause-next : goal.next_number-i-requires-clause-next
next_number-i-requires-clause-next c = (pushable _ _ c.args.job c.requires).has

pub next_step-step-requires-clause-next : goal.next_step-step-requires-clause-next
next_step-step-requires-clause-next c = (pushable _ _ c.args.job c.requires).has

pub ready-start-requires-clause-next : goal.ready-start-requires-clause-next
ready-start-requires-clause-next c = (pushable _ _ c.args.job c.requires).has

pub overflow_add-index_mut : goal.overflow_add-index_mut
overflow_add-index_mut c =
    let h = held _ _ _ _ _ _ _ _ c.self.view_is c.self.invariant.kept in
    let l = pushable _ _ c.args.job c.requires in
    let r = done-read _ _ _ _ _ _ h (c.args.job - 1) c.index_mut.result.now l.job c.index_mut.ensures.value in
    let next = l.next in
    let few = h.small.few_machines in
    omega (arith, r, next, few)

pub invariant_of-self-2 : goal.invariant_of-self-2
invariant_of-self-2 c =
    let h = held _ _ _ _ _ _ _ _ c.self.view_is c.self.invariant.kept in
    let l = pushable _ _ c.args.job c.requires in
    let done = done-read _ _ _ _ _ _ h (c.args.job - 1) c.index_mut.result.now l.job c.index_mut.ensures.value in
    let end = end-read _ _ _ _ _ _ h (c.args.job - 1) c.index.result.now l.job c.index.ensures in
    let free = free-read _ _ _ _ _ _ h c.next_step-step.result.machine c.index-free.result.now c.next_step-step.ensures.on c.index-free.ensures in
    let turn : Turn = record { letter = c.args.job; end = c.index.result.now; free = c.index-free.result.now } in
    let facts : IsPush c.args.self.now turn (c.index_mut.result.now + 1)
    (c.ready-start.result + c.next_step-step.result.time) c.next_step-step.result.machine
    c.free_after.result c.next_number-i.result c.ready-start.result = record {
      follows = c.requires;
      turn_end = end;
      turn_free = free;
      done = omega (arith, done);
      end = omega (arith, c.ready-start.ensures.value, c.next_step-step.ensures.time);
      machine = c.next_step-step.ensures.machine;
      free = c.free_after.ensures ∙ ap (λ (n : ℕ). cond (nat_lt 0 n) (c.ready-start.result + c.next_step-step.result.time) c.index-free.result.now) c.next_step-step.ensures.time;
      step = c.next_number-i.ensures.value;
      start = c.ready-start.ensures.value;
      on = c.next_step-step.ensures.on;
      inside = c.next_number-i.ensures.step;
    } in
    let kept = pushed c.self.inside.shop.now c.self.inside.tails.items c.self.inside.done.items
    c.self.inside.ends.items c.self.inside.free.items c.self.inside.starts.items c.self.inside.turns.items
    c.push.new.self.items turn
    (c.index_mut.result.now + 1) (c.ready-start.result + c.next_step-step.result.time) c.next_step-step.result.machine c.free_after.result c.next_number-i.result c.ready-start.result
    c.args.self.now c.self.view_is c.self.invariant.kept facts c.in_ok-push.ensures.items in
    record { kept = kept; room = omega (arith, c.self.invariant.room, c.in_ok-push.ensures.capacity) }

pub returns-in_err-push-clause-succeeds : goal.returns-in_err-push-clause-succeeds
returns-in_err-push-clause-succeeds c =
    let room = turns-room _ _ _ _ _ _ _ _ c.args.self.now c.self.view_is c.self.invariant c.args.job c.requires in
    absurd (omega (arith, room, c.in_err-push.ensures.full, c.self.inside.turns.ok))
