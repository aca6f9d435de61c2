use Rattle.plan_shop.proofs.WordCount.{letters_rise}
use Rattle.plan_shop.proofs.CompetitorLemmas.{letters_are_these}
use Rattle.plan_shop.proofs.laws.letters_compete.Goals as goal

pub returns-clause-these : goal.returns-clause-these
returns-clause-these c = letters_are_these

pub returns-clause-rising : goal.returns-clause-rising
returns-clause-rising c = letters_rise
