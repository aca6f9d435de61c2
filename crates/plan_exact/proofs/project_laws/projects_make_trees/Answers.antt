use Rattle.plan_exact.proofs.ProjectTreeLemmas.{tree_has_words, project_trees_keep_laws}
use Rattle.plan_exact.proofs.project_laws.projects_make_trees.Goals as goal

pub returns-clause-words : goal.returns-clause-words
returns-clause-words c = tree_has_words

pub returns-clause-laws : goal.returns-clause-laws
returns-clause-laws c = project_trees_keep_laws
