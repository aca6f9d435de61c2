-- One activity more at each turn.
use Rattle.std.proofs.Common.{ℕ, suc, [], ◌∷◌, ◌++◌, ◌≡◌, map, append-nil, add-one, sym, ap, ◌∙◌, Vec, Global, arith}
use Rattle.plan_sgs.specs.Rules.{places, eligible}
use Rattle.plan_sgs.specs.Instances.{problem_of}
use Rattle.plan_sgs.specs.ProjectWords.{depth_of, letters_after}
use Rattle.plan_sgs.proofs.ProjectTurnLemmas.{tree_facts}
use Rattle.plan_sgs.proofs.ProjectReadLemmas.{letters_yes, letters_no}
use Rattle.plan_sgs.proofs.project_tree.ProjectTree.letters.Goals as goal
use Rattle.plan_sgs.proofs.project_tree.ProjectTree.letters.Goals.{then-may_follow+in_ok-push, else-may_follow}

pub loop-i-init : goal.loop-i-init
loop-i-init c = sym (append-nil c.args.list.now.items)

pub overflow_cast-i : goal.overflow_cast-i
overflow_cast-i c =
    let facts = tree_facts _ _ _ _ _ _ _ c.self.view_is c.self.invariant in
    omega (arith, facts.few, c.loop-i-test.true, c.len-i-end.ensures, c.self.inside.placed.ok.0)

pub overflow_add-i : goal.overflow_add-i
overflow_add-i c =
    let facts = tree_facts _ _ _ _ _ _ _ c.self.view_is c.self.invariant in
    omega (arith, facts.few, c.loop-i-test.true, c.len-i-end.ensures, c.self.inside.placed.ok.0)

pub may_follow-requires : goal.may_follow-requires
may_follow-requires c =
    let facts = tree_facts _ _ _ _ _ _ _ c.self.view_is c.self.invariant in
    omega (arith, facts.size, c.loop-i-test.true, c.len-i-end.ensures, c.self.inside.placed.ok.0)

pub loop-i-preserved : goal.loop-i-preserved
loop-i-preserved c =
    let p = problem_of c.args.self.now.instance in
    let taken = places c.args.self.now.word in
    rw add-one (elim c.if-may_follow.branch [
      | then-may_follow+in_ok-push w ↦
          let list : c.if-may_follow.list.items ≡ c.loop-i.list.items ++ suc c.loop-i.i ∷ [] =
          ap (λ (v : Vec ℕ Global). v.items) w.list-is ∙ w.in_ok-push.ensures.items ∙ ap (λ (n : ℕ). c.loop-i.list.items ++ n ∷ []) (add-one c.loop-i.i) in
          letters_yes p taken c.loop-i.i c.args.list.now.items c.loop-i.list.items c.if-may_follow.list.items c.loop-i.invariant (sym w.if-may_follow.ensures) list
      | else-may_follow w ↦
          ap (λ (v : Vec ℕ Global). v.items) w.list-is ∙ letters_no p taken c.loop-i.i c.args.list.now.items c.loop-i.list.items c.loop-i.invariant (sym w.if-may_follow.ensures)
    ])

pub returns : goal.returns
unfolding letters_after
returns c =
    let facts = tree_facts _ _ _ _ _ _ _ c.self.view_is c.self.invariant in
    let all : c.loop-i.i ≡ depth_of c.args.self.now.instance = omega (arith, facts.size, c.len-i-end.ensures, c.self.inside.placed.ok.0, c.loop-i-test.false, c.loop-i.auto.i-end) in
    c.loop-i.invariant ∙ ap (λ (n : ℕ). c.args.list.now.items ++ map suc (eligible (problem_of c.args.self.now.instance) (places c.args.self.now.word) n)) all
