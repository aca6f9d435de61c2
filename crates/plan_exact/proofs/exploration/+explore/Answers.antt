use Rattle.std.proofs.Common.{◌<◌, ◌∙◌, sym, rules}
use Rattle.std.proofs.lemmas.Bool.{ltb-true}
use Rattle.plan_exact.specs.Explored.{standing_of}
use Rattle.plan_exact.proofs.StepLemmas.{explored_step, pushed}
use Rattle.plan_exact.proofs.exploration.+explore.Goals as goal

pub explore-returns-in_ok-explore_children-clause-ok :
    goal.explore-returns-in_ok-explore_children-clause-ok
explore-returns-in_ok-explore_children-clause-ok g t c =
    let tree = g.B.Branching.tree c.args.tree.now in
    let word = g.B.Branching.word c.args.tree.now in
    let under : tree.bound word < c.args.progress.now.value = ltb-true (tree.bound word) c.args.progress.now.value (sym c.is_open-open.ensures ∙ c.if-open.true) in
    explored_step tree (g.met.B.Branching.words_are_finite c.args.tree.now c.known.ensures) word c.requires.word
    (standing_of c.args.progress.now) (standing_of c.visit.new.progress) (standing_of c.explore_children.new.progress)
    c.requires.left under c.in_ok-visit.ensures.ok c.in_ok-explore_children.ensures.ok

pub explore_child-explore-below-requires : goal.explore_child-explore-below-requires
explore_child-explore-below-requires g t c κs within = (
  search rules,
  (
    search rules,
    (
      search rules,
      (
        search rules,
        pushed (g.B.Branching.tree c.args.tree.now) (g.B.Branching.tree c.push-2.new.self) (g.B.Branching.word c.args.tree.now) (g.B.Branching.word c.push-2.new.self) c.args.letter
            c.push-2.ensures.tree c.in_ok-push-2.ensures.ok c.requires.word c.requires.letter,
      ),
    ),
  ),
)
