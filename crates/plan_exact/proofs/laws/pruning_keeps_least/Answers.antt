use Rattle.std.proofs.Common.{[], ◌∙◌, ap}
use Rattle.plan_exact.specs.Words.{words}
use Rattle.plan_exact.specs.Visited.{initial_found, best}
use Rattle.plan_exact.specs.Laws.{PruningKeepsLeast}
use Rattle.plan_exact.proofs.VisitLemmas.{best_visit, visited_is}
use Rattle.plan_exact.proofs.laws.pruning_keeps_least.Goals as goal

pub returns : goal.returns
unfolding PruningKeepsLeast words
returns c = λ t initial k. ap (best t (initial_found initial)) (visited_is t initial k) ∙ best_visit t k.bounded t.depth [] (initial_found initial) tt
