use Rattle.plan_prove.proofs.StateLemmas.{two_cover, both_refuted}
use Rattle.plan_prove.proofs.refutation.split.Goals as goal

pub returns-in_ok-push-2 : goal.returns-in_ok-push-2
returns-in_ok-push-2 c =
    two_cover c.args.graph.now c.args.limit c.args.state c.in_ok-back.back c.with_side-forth.result c.args.waiting.now.items c.push.new.self.items c.push-then-choice.new.self.items
    c.in_ok-push.ensures.items c.in_ok-push-2.ensures.items
    (λ no_back no_forth. both_refuted c.args.graph.now c.args.limit c.args.state c.with_side-forth.result
    c.in_ok-back.back c.args.choice.place c.requires c.with_side-forth.ensures c.in_ok-back.ensures
    no_forth no_back)

pub returns-in_ok-push-4 : goal.returns-in_ok-push-4
returns-in_ok-push-4 c =
    two_cover c.args.graph.now c.args.limit c.args.state c.with_side-forth.result c.in_ok-back.back c.args.waiting.now.items c.push-else-choice.new.self.items c.push-else-choice-2.new.self.items
    c.in_ok-push-3.ensures.items c.in_ok-push-4.ensures.items
    (λ no_forth no_back. both_refuted c.args.graph.now c.args.limit c.args.state c.with_side-forth.result
    c.in_ok-back.back c.args.choice.place c.requires c.with_side-forth.ensures c.in_ok-back.ensures
    no_forth no_back)
