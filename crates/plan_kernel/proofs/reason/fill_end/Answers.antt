use Rattle.std.proofs.Common.{◌∙◌, ℕ, List, ap, arith}
use Rattle.plan_kernel.specs.Literals.{at, Fails}
use Rattle.plan_kernel.proofs.ReasonLemmas.{fails_last, end_follows}
use Rattle.plan_kernel.proofs.reason.fill_end.Goals as goal

pub returns : goal.returns
returns c _ starts short fail =
    let input = c.args.input.now in
    let last = fails_last (Fails input starts) c.push.new.self.items c.push-2.new.self.items c.at_least.result c.in_ok-push-2.ensures.items fail in
    let first = fails_last (Fails input starts) c.clear.new.self.items c.push.new.self.items c.below.result c.in_ok-push.ensures.items last.1 in
    let lasts = c.at.ensures ∙ ap (λ (xs : List ℕ). at xs c.args.activity) c.deref.ensures.value in
    let tail = c.at-tail.ensures ∙ ap (λ (xs : List ℕ). at xs c.args.activity) c.deref-2.ensures.value in
    end_follows input starts c.args.activity c.len-count.result c.args.value c.at.result c.saturating_add-reach.result short
    (c.is_activity.ensures c.if-not-is_activity.false) (omega (arith, c.len-count.ensures)) lasts
    (omega (arith, c.saturating_add-reach.ensures, c.saturating_add-end.ensures, tail))
    (rw c.below.ensures at first.0) (rw c.at_least.ensures at last.0)
