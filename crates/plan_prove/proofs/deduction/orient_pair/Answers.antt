use Rattle.std.proofs.Common.{◌≤◌, refl, subst}
use Rattle.plan_prove.specs.States.{NotBefore}
use Rattle.plan_prove.specs.declared.state.Side.TheVariants.{First, Second}
use Rattle.plan_prove.specs.declared.state.State.{State}
use Rattle.plan_prove.proofs.StateLemmas.{no_room, first_goes, second_goes, side_follows}
use Rattle.plan_prove.proofs.deduction.orient_pair.Goals as goal

pub returns-in_ok-follow-in-true-false : goal.returns-in_ok-follow-in-true-false
returns-in_ok-follow-in-true-false c =
    let g = c.args.graph.now in
    let limit = c.args.limit in
    let old = c.args.state.now in
    let mid = c.follow.new.state in
    let new : State = record { heads = mid.heads; tails = mid.tails; sides = c.take_side.new.sides; last = mid.last } in
    let p = c.index.result.now in
    let never : NotBefore g limit old p.second p.first =
    no_room g limit old p.second p.first c.known_of-other.result c.known_of-one.result c.known_of-other.ensures c.known_of-one.ensures
    (subst (λ n. n ≤ 0) c.room-back.ensures c.in-true-false.is-1) in
    side_follows g limit old mid new c.args.place p First c.requires c.index.ensures (first_goes g limit old c.args.place p c.requires c.index.ensures never) c.in_ok-follow-in-true-false.ensures
    (record { heads = refl; tails = refl; sides = c.take_side.ensures })

pub returns-in_ok-follow-in-false-true : goal.returns-in_ok-follow-in-false-true
returns-in_ok-follow-in-false-true c =
    let g = c.args.graph.now in
    let limit = c.args.limit in
    let old = c.args.state.now in
    let mid = c.follow-in-false-true.new.state in
    let new : State = record { heads = mid.heads; tails = mid.tails; sides = c.take_side-in-false-true.new.sides; last = mid.last } in
    let p = c.index.result.now in
    let never : NotBefore g limit old p.first p.second =
    no_room g limit old p.first p.second c.known_of-one.result c.known_of-other.result c.known_of-one.ensures c.known_of-other.ensures
    (subst (λ n. n ≤ 0) c.room-forth.ensures c.in-false-true.is-0) in
    side_follows g limit old mid new c.args.place p Second c.requires c.index.ensures (second_goes g limit old c.args.place p c.requires c.index.ensures never) c.in_ok-follow-in-false-true.ensures
    (record { heads = refl; tails = refl; sides = c.take_side-in-false-true.ensures })
