use Rattle.std.proofs.Common.{◌≡◌, ◌-◌, ℕ, Option, get_or, subst, arith}
use Rattle.std.specs.Prelude.{option_map, unwrap_or}
use denote.Ref.{Bor}
use Rattle.plan_documents.proofs.DetailLemmas.{first_activity, need_is, capacity_is}
use Rattle.plan_documents.proofs.details.amounts.Goals as goal

pub needs-requires : goal.needs-requires
needs-requires c = first_activity c.args.project.now c.args.capacities.now c.args.activity c.args.resource c.requires

pub returns-clause-need : goal.returns-clause-need
returns-clause-need c =
    let k = c.saturating_sub-k.result in
    let item : c.in_ok-need.field-0.now ≡ get_or c.needs.result.now k 0 =
    subst (λ (o : Option (Bor ℕ)). unwrap_or (option_map (λ x. x.now) o) 0 ≡ get_or c.needs.result.now k 0) c.in_ok-need.was (c.get.ensures.lookup.4 (omega arith) 0) in
    let place : k ≡ c.args.resource - 1 = omega (arith, c.saturating_sub-k.ensures) in
    need_is c.args.project.now c.args.capacities.now c.needs.result.now c.args.activity c.args.resource k _
    c.needs.ensures.row item place

pub returns-clause-capacity : goal.returns-clause-capacity
returns-clause-capacity c =
    let k = c.saturating_sub-k.result in
    let item : c.in_ok-capacity.field-0.now ≡ get_or c.args.capacities.now k 0 =
    subst (λ (o : Option (Bor ℕ)). unwrap_or (option_map (λ x. x.now) o) 0 ≡ get_or c.args.capacities.now k 0) c.in_ok-capacity.was (c.get-2.ensures.lookup.4 (omega arith) 0) in
    let place : k ≡ c.args.resource - 1 = omega (arith, c.saturating_sub-k.ensures) in
    capacity_is c.args.project.now c.args.capacities.now c.args.resource k _ item place
