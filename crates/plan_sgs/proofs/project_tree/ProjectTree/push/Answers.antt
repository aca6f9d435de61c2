-- One more turn: the letter is placed, and the turn's values are the greater ones of the old and
-- the new.
use Rattle.std.proofs.Common.{ℕ, ◌≡◌, ◌+◌, ◌-◌, List, length, Option, ◌++◌, [], ◌∷◌, refl, sym, ap, subst, ◌∙◌, arith}
use Rattle.plan_net.specs.Network.{Net, IsArc, count_of, duration_of}
use Rattle.plan_sgs.specs.Problem.{duration}
use Rattle.plan_sgs.specs.Serial.{earliest}
use Rattle.plan_sgs.specs.Instances.{problem_of}
use Rattle.plan_sgs.specs.Eligibility.{Lowers}
use Rattle.plan_sgs.specs.ProjectTrees.{Standing, word_of, IsTurn, AreProfiles}
use Rattle.plan_sgs.specs.declared.project_tree.Turn.{Turn}
use Rattle.plan_sgs.proofs.PlaceLemmas.{duration_place}
use Rattle.plan_sgs.proofs.ProjectTurnLemmas.{tree_facts, can_place, may_inside, tail_at, next_turn, tree_push}
use Rattle.plan_sgs.proofs.ProjectWaitLemmas.{letter_waits}
use Rattle.plan_sgs.proofs.project_tree.ProjectTree.push.Goals as goal

pub overflow_sub-place : goal.overflow_sub-place
overflow_sub-place c =
    let can = can_place c.args.self.now c.self.inside.placed.items c.args.activity (tree_facts _ _ _ _ _ _ _ c.self.view_is c.self.invariant) c.requires in
    can.activity.0

pub duration-duration-requires : goal.duration-duration-requires
duration-duration-requires c =
    let can = can_place c.args.self.now c.self.inside.placed.items c.args.activity (tree_facts _ _ _ _ _ _ _ c.self.view_is c.self.invariant) c.requires in
    (can.activity.0, omega (arith, can.activity.1, ap (λ (v : Standing). count_of v.instance.project.network) c.self.view_is, ap (λ (n : Net). count_of n) c.network.ensures.network))

pub index-tail-requires : goal.index-tail-requires
index-tail-requires c =
    let can = can_place c.args.self.now c.self.inside.placed.items c.args.activity (tree_facts _ _ _ _ _ _ _ c.self.view_is c.self.invariant) c.requires in
    omega (arith, can.activity, c.self.invariant.tails_are.whole, c.self.inside.tails.ok.0, ap (λ (v : Standing). count_of v.instance.project.network) c.self.view_is)

pub overflow_add-start-2 : goal.overflow_add-start-2
overflow_add-start-2 c =
    let facts = tree_facts _ _ _ _ _ _ _ c.self.view_is c.self.invariant in
    let can = can_place c.args.self.now c.self.inside.placed.items c.args.activity facts c.requires in
    let tail = tail_at c.args.self.now c.self.inside.instance.now c.self.inside.tails.items c.self.view_is
    c.self.invariant.tails_are c.args.activity c.index-tail.result.now facts can c.index-tail.ensures in
    omega (arith, tail.1, c.in_ok-start.ensures.in_time)

pub index_mut-requires : goal.index_mut-requires
index_mut-requires c =
    let can = can_place c.args.self.now c.self.inside.placed.items c.args.activity (tree_facts _ _ _ _ _ _ _ c.self.view_is c.self.invariant) c.requires in
    omega (arith, can.inside, c.self.inside.placed.ok.0)

pub lower_each-requires-clause-activity : goal.lower_each-requires-clause-activity
lower_each-requires-clause-activity c =
    let can = can_place c.args.self.now c.self.inside.placed.items c.args.activity (tree_facts _ _ _ _ _ _ _ c.self.view_is c.self.invariant) c.requires in
    (can.activity.0, omega (arith, can.activity.1, ap (λ (v : Standing). count_of v.instance.project.network) c.self.view_is, ap (λ (n : Net). count_of n) c.network-2.ensures.network))

pub lower_each-requires-clause-waiting : goal.lower_each-requires-clause-waiting
lower_each-requires-clause-waiting c h arc =
    letter_waits c.self.inside.instance.now (word_of c.self.inside.turns.items) c.args.activity c.self.inside.waits.items c.self.invariant.instance.project.network c.self.invariant.waits_are
    (may_inside c.self.inside.instance.now (word_of c.self.inside.turns.items) c.args.self.now c.args.activity c.self.view_is c.requires) h
    (subst (λ (n : Net). IsArc n c.args.activity h) c.network-2.ensures.network arc)

pub invariant_of-self-2 : goal.invariant_of-self-2
invariant_of-self-2 c =
    let facts = tree_facts _ _ _ _ _ _ _ c.self.view_is c.self.invariant in
    let can = can_place c.args.self.now c.self.inside.placed.items c.args.activity facts c.requires in
    let tail = tail_at c.args.self.now c.self.inside.instance.now c.self.inside.tails.items c.self.view_is
    c.self.invariant.tails_are c.args.activity c.index-tail.result.now facts can c.index-tail.ensures in
    let lasts : c.duration-duration.result ≡ duration (problem_of c.args.self.now.instance) (c.args.activity - 1) =
    c.duration-duration.ensures.value ∙ ap (λ (n : Net). duration_of n c.args.activity) c.network.ensures.network
    ∙ ap (λ (v : Standing). duration_of v.instance.project.network c.args.activity) c.self.view_is ∙ duration_place c.args.self.now.instance c.args.activity can.activity in
    let inside : c.in_ok-start.start ≡ earliest (problem_of c.self.inside.instance.now) c.self.inside.placed.items (c.args.activity - 1) =
    c.in_ok-start.ensures.start ∙ ap (λ (xs : List (Option ℕ)). earliest (problem_of c.self.inside.instance.now) xs (c.args.activity - 1)) c.deref.ensures.value in
    let start : c.in_ok-start.start ≡ earliest (problem_of c.args.self.now.instance) c.self.inside.placed.items (c.args.activity - 1) =
    inside ∙ ap (λ (v : Standing). earliest (problem_of v.instance) c.self.inside.placed.items (c.args.activity - 1)) c.self.view_is in
    let turn : IsTurn c.args.self.now.instance (c.args.self.now.word ++ c.args.activity ∷ []) (record { letter = c.args.activity; end = c.max.result; reach = c.max-2.result }) =
    next_turn c.args.self.now c.self.inside.placed.items c.args.activity c.in_ok-start.start c.max.result c.max-2.result facts can start
    (omega (arith, c.max.ensures, c.end-end.ensures.value, lasts)) (omega (arith, c.max-2.ensures, c.reach-reach.ensures, tail.0)) in
    let here : IsTurn c.self.inside.instance.now (word_of c.self.inside.turns.items ++ c.args.activity ∷ []) (record { letter = c.args.activity; end = c.max.result; reach = c.max-2.result }) =
    subst (λ (x : Standing). IsTurn x.instance (x.word ++ c.args.activity ∷ []) (record { letter = c.args.activity; end = c.max.result; reach = c.max-2.result })) (sym c.self.view_is) turn in
    let are : AreProfiles c.self.inside.instance.now (word_of c.self.inside.turns.items) c.start_of.new.profiles.items =
    subst (λ (xs : List Turn). AreProfiles c.self.inside.instance.now (word_of xs) c.start_of.new.profiles.items) c.deref-2.ensures.value c.in_ok-start.ensures.profiles in
    tree_push c.self.inside.instance.now c.self.inside.tails.items c.self.inside.least
    c.self.inside.placed.items c.self.inside.profiles.items c.start_of.new.profiles.items
    c.self.inside.turns.items c.push.new.self.items
    (record { letter = c.args.activity; end = c.max.result; reach = c.max-2.result }) c.args.activity c.in_ok-start.start c.self.inside.waits.items c.lower_each.new.waits.items c.self.invariant
    (may_inside c.self.inside.instance.now (word_of c.self.inside.turns.items) c.args.self.now c.args.activity c.self.view_is c.requires) are
    (c.in_ok-start.ensures.made ∙ ap (λ (xs : List Turn). length xs + 1) c.deref-2.ensures.value) c.in_ok-push.ensures.items refl
    (inside ∙ ap (λ (xs : List (Option ℕ)). earliest (problem_of c.self.inside.instance.now) xs (c.args.activity - 1)) c.self.invariant.placed_are) here
    (subst (λ (n : Net). Lowers n c.args.activity c.self.inside.waits.items c.lower_each.new.waits.items) c.network-2.ensures.network c.lower_each.ensures)
