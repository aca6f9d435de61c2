use Rattle.std.proofs.Common.{get_or}
use Rattle.plan_sgs.specs.Laws.{ByStartsIsNoLonger, by_starts}
use Rattle.plan_sgs.proofs.ListLemmas.{told_by_places}
use Rattle.plan_sgs.proofs.RuleLemmas.{rule_list_is}
use Rattle.plan_sgs.proofs.LawLemmas.{by_starts_rises, by_starts_least}
use Rattle.plan_sgs.proofs.laws.by_starts_is_no_longer.Goals as goal

pub returns : goal.returns
unfolding ByStartsIsNoLonger
returns c = λ p rank starts inside fit ranked feasible. (
  told_by_places p (by_starts p starts) (rule_list_is p rank (λ i. get_or starts i 0) inside ranked),
  by_starts_rises p rank starts inside ranked feasible,
  by_starts_least p rank starts inside fit ranked feasible,
)
