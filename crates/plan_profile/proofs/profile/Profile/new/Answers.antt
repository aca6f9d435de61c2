-- The one row is zeros.
use Rattle.std.proofs.Common.{◌≡◌, length, replicate, ap, ◌∙◌, arith}
use Rattle.std.proofs.lemmas.List.{length-replicate}
use Rattle.plan_profile.specs.InUse.{in_use, capacities}
use Rattle.plan_profile.specs.Steps.{lists, amount}
use Rattle.plan_profile.proofs.ChangeLemmas.{zero_lists, zero_amounts, zero_steps, none_change}
use Rattle.plan_profile.proofs.profile.Profile.new.Goals as goal

pub invariant_of-result-clause-wide : goal.invariant_of-result-clause-wide
unfolding in_use capacities
invariant_of-result-clause-wide c =
    let zeros = c.in_ok-rows.ensures.zeros ∙ ap (λ xs. replicate (length xs) 0) c.deref.ensures.value in
    let size = ap length c.new.ensures.items in
    let all : length c.in_ok-rows.rows.items ≡ length c.args.caps.items = ap length zeros ∙ length-replicate (length c.args.caps.items) 0 in
    rw size (omega arith)

pub invariant_of-result-clause-steps : goal.invariant_of-result-clause-steps
unfolding in_use capacities
invariant_of-result-clause-steps c =
    let zeros = c.in_ok-rows.ensures.zeros ∙ ap (λ xs. replicate (length xs) 0) c.deref.ensures.value in
    rw (c.new.ensures.items, zeros, zero_lists (length c.args.caps.items)) (zero_steps (length c.args.caps.items))

pub invariant_of-result-clause-true_changes : goal.invariant_of-result-clause-true_changes
unfolding in_use capacities
invariant_of-result-clause-true_changes c = none_change c.new.result.items (amount c.new.result.items (lists (length c.args.caps.items) c.new.result.items c.in_ok-rows.rows.items)) c.new.ensures.items

pub invariant_of-result-clause-ended : goal.invariant_of-result-clause-ended
unfolding in_use capacities
invariant_of-result-clause-ended c =
    let zeros = c.in_ok-rows.ensures.zeros ∙ ap (λ xs. replicate (length xs) 0) c.deref.ensures.value in
    λ t k late. rw (c.new.ensures.items, zeros, zero_lists (length c.args.caps.items)) (zero_amounts (length c.args.caps.items) t k)

pub invariant_of-result-clause-small : goal.invariant_of-result-clause-small
unfolding in_use capacities
invariant_of-result-clause-small c = rw c.deref.ensures.value at c.in_ok-rows.ensures.small

pub returns-clause-none : goal.returns-clause-none
unfolding in_use capacities
returns-clause-none c =
    let zeros = c.in_ok-rows.ensures.zeros ∙ ap (λ xs. replicate (length xs) 0) c.deref.ensures.value in
    λ t k. rw (c.new.ensures.items, zeros, zero_lists (length c.args.caps.items)) (zero_amounts (length c.args.caps.items) t k)
