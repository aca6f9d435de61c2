use Rattle.plan_active.proofs.GuideLemmas.{IsGuided}
use Rattle.plan_active.proofs.shops.active_shop_schedule.Given as goal

-- the word so far follows the ranks
abbrev pub invariant-loop-turn : goal.invariant-loop-turn
invariant-loop-turn l = IsGuided l.shop l.starts l.tree l._turn l.next.items
