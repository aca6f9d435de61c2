use Rattle.plan_sgs.specs.Laws.{RuleTakesFirst}
use Rattle.plan_sgs.specs.Rules.{rule_list}
use Rattle.plan_sgs.proofs.ListLemmas.{told_by_places}
use Rattle.plan_sgs.proofs.RuleLemmas.{rule_list_is}
use Rattle.plan_sgs.proofs.LawLemmas.{rule_entry_first}
use Rattle.plan_sgs.proofs.laws.rule_takes_first.Goals as goal

pub returns : goal.returns
unfolding RuleTakesFirst
returns c = λ p rank key inside ranked. (told_by_places p (rule_list p key) (rule_list_is p rank key inside ranked), rule_entry_first p rank key inside ranked)
