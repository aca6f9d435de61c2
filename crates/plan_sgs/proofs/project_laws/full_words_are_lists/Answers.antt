-- The full words are the activity lists.
use Rattle.plan_sgs.proofs.FullWordLemmas.{full_words_are_lists, full_is_active, rule_word_is_full}
use Rattle.plan_sgs.proofs.project_laws.full_words_are_lists.Goals as goal

pub returns-clause-lists : goal.returns-clause-lists
returns-clause-lists c = full_words_are_lists

pub returns-clause-active : goal.returns-clause-active
returns-clause-active c = full_is_active

pub returns-clause-rules : goal.returns-clause-rules
returns-clause-rules c = rule_word_is_full
