use Rattle.plan_shop.proofs.WordCount.{rules_choose, spt_chooses, mwkr_chooses, fcfs_chooses, rule_is_full, rule_is_active}
use Rattle.plan_shop.proofs.laws.rules_make_full_words.Goals as goal

pub returns-clause-first : goal.returns-clause-first
returns-clause-first c = rules_choose

pub returns-clause-member : goal.returns-clause-member
returns-clause-member c = λ s. (spt_chooses s, mwkr_chooses s, fcfs_chooses s)

pub returns-clause-full : goal.returns-clause-full
returns-clause-full c = rule_is_full

pub returns-clause-active : goal.returns-clause-active
returns-clause-active c = rule_is_active
