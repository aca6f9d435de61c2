use Rattle.plan_shop.proofs.FullWords.{full_is_feasible, full_is_active}
use Rattle.plan_shop.proofs.WordsReach.{active_is_spelled}
use Rattle.plan_shop.proofs.laws.full_words_are_active.Goals as goal

pub returns-clause-feasible : goal.returns-clause-feasible
returns-clause-feasible c = full_is_feasible

pub returns-clause-active : goal.returns-clause-active
returns-clause-active c = full_is_active

pub returns-clause-all_active : goal.returns-clause-all_active
returns-clause-all_active c = active_is_spelled
