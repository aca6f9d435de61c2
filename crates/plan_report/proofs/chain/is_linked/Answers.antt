use Rattle.std.proofs.Common.{inl, inr}
use Rattle.std.proofs.lemmas.Bool.{both_ways}
use Rattle.plan_report.proofs.chain.is_linked.Goals as goal

pub returns : goal.returns
returns c = (
  λ yes. inr (c.takes_over.ensures.0 yes),
  λ linked. elim linked [
    | inl tight ↦ absurd (both_ways c.is_tight.result c.if-is_tight.false (c.is_tight.ensures.1 tight))
    | inr over ↦ c.takes_over.ensures.1 over
  ],
)
