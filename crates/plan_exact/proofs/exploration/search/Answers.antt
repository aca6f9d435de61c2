use Rattle.std.proofs.Common.{◌∙◌, ap}
use Rattle.plan_exact.specs.Words.{WordTree}
use Rattle.plan_exact.specs.Laws.{KeepsLaws}
use Rattle.plan_exact.specs.Explored.{outcome_so_far, standing_of}
use Rattle.plan_exact.proofs.StandingLemmas.{outcome_some, outcome_none}
use Rattle.plan_exact.proofs.exploration.search.Goals.{then-budget-ne0+in_ok-explore, else-budget-ne0}
use Rattle.plan_exact.proofs.exploration.search.Goals as goal

pub returns-clause-answer : goal.returns-clause-answer
returns-clause-answer g c =
    let tree : WordTree = g.B.Branching.tree c.args.tree.now in
    let laws = g.met.B.Branching in
    let keeps : KeepsLaws tree = record {
      rise = laws.letters_rise c.args.tree.now c.known.ensures;
      finite = laws.words_are_finite c.args.tree.now c.known.ensures;
      bounded = laws.bound_holds c.args.tree.now c.known.ensures;
    } in
    c.answer.ensures
    ∙ elim c.if-budget-ne0.branch [
      | then-budget-ne0+in_ok-explore w ↦
          ap (λ p. outcome_so_far (standing_of p)) w.progress-is
          ∙ outcome_some tree c.args.initial c.args.budget keeps w.if-budget-ne0.true (g.B.Branching.word c.args.tree.now) c.requires (standing_of w.explore.new.progress) w.in_ok-explore.ensures.ok
      | else-budget-ne0 w ↦
          ap (λ p. outcome_so_far (standing_of p)) w.progress-is
          ∙ outcome_none tree c.args.initial c.args.budget keeps w.if-budget-ne0.false
    ]
