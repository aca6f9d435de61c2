-- One more entry at each turn.
use Rattle.std.proofs.Common.{ℕ, Bool, false, ◌≡◌, List, get_or, replicate, sym, ◌∙◌, ap, subst, arith, rules}
use Rattle.std.proofs.lemmas.Bool.{false≢true, iff_false}
use Rattle.plan_net.specs.Network.{Net, count_of}
use Rattle.plan_sgs.specs.Eligibility.{CanCome}
use Rattle.plan_sgs.proofs.TakingLemmas.{taken_at_first, taken_one_more, comes_in_turn, all_taken, other_length}
use Rattle.plan_sgs.proofs.lists.is_list.Goals as goal

pub returns-then-list-len : goal.returns-then-list-len
returns-then-list-len c =
    let size : c.len.result ≡ count_of c.args.instance.now.project.network = c.len.ensures.count ∙ ap count_of c.network-network.ensures.network in
    (λ wrong. absurd (false≢true wrong), λ list. absurd (other_length c.args.instance.now c.args.list.now (λ same. c.if-list-len.true (omega (arith, same, size))) list))

pub returns-then-not-can_come : goal.returns-then-not-can_come
returns-then-not-can_come c = (
  λ wrong. absurd (false≢true wrong),
  λ list.
      let comes = comes_in_turn c.args.instance.now c.args.list.now c.loop-j.j-index c.loop-j.taken.items
      c.network-network.ensures.instance.project.network c.loop-j.invariant c.loop-j-test.true list in
      let by_marks = subst (λ (xs : List Bool). CanCome c.args.instance.now.project.network xs (get_or c.args.list.now c.loop-j.j-index 0)) (sym c.deref.ensures.value) comes in
      let by_net = subst (λ (n : Net). CanCome n c.deref.result.now (get_or c.args.list.now c.loop-j.j-index 0)) (sym c.network-network.ensures.network) by_marks in
      absurd (iff_false c.can_come.ensures c.if-not-can_come.true by_net),
)

pub loop-j-init : goal.loop-j-init
loop-j-init c =
    let none : c.in_ok-taken.taken.items ≡ replicate c.len-2.result false = c.in_ok-taken.ensures.items_if_clones_equal (λ y same. same) in
    let size : c.len-2.result ≡ count_of c.args.instance.now.project.network = c.len-2.ensures.count ∙ ap count_of c.network-network.ensures.network in
    taken_at_first c.args.instance.now c.args.list.now c.in_ok-taken.taken.items (none ∙ ap (λ (n : ℕ). replicate n false) size)

pub loop-j-preserved : goal.loop-j-preserved
loop-j-preserved c =
    let comes = c.can_come.ensures.0 c.if-not-can_come.false in
    let by_net = subst (λ (n : Net). CanCome n c.deref.result.now (get_or c.args.list.now c.loop-j.j-index 0)) c.network-network.ensures.network comes in
    let by_marks = subst (λ (xs : List Bool). CanCome c.args.instance.now.project.network xs (get_or c.args.list.now c.loop-j.j-index 0)) c.deref.ensures.value by_net in
    taken_one_more c.args.instance.now c.args.list.now c.loop-j.j-index c.loop-j.taken.items c.network-network.ensures.instance.project.network c.loop-j.invariant c.loop-j-test.true by_marks

pub returns : goal.returns
returns c =
    let size : c.len.result ≡ count_of c.args.instance.now.project.network = c.len.ensures.count ∙ ap count_of c.network-network.ensures.network in
    let list = all_taken c.args.instance.now c.args.list.now c.loop-j.j-index c.loop-j.taken.items (omega (arith, size, c.if-list-len.false)) (omega (arith, c.loop-j-test.false)) c.loop-j.invariant in
    (λ _. list, λ _. search rules)
