use Rattle.std.proofs.Common.{◌∙◌, ◌+◌, ◌≤◌, ℕ, List, ap, arith}
use Rattle.plan_sgs.specs.Problem.{duration}
use Rattle.plan_kernel.specs.Inputs.{problem_of}
use Rattle.plan_kernel.specs.Literals.{at, Fails}
use Rattle.plan_kernel.proofs.InputLemmas.{duration_is}
use Rattle.plan_kernel.proofs.ReasonLemmas.{fails_last, after_follows}
use Rattle.plan_kernel.proofs.reason.fill_after.Goals as goal

pub returns : goal.returns
returns c _ starts short fail =
    let input = c.args.input.now in
    let o = c.in-Some.o in
    let third = fails_last (Fails input starts) c.push-2.new.self.items c.push-3.new.self.items c.at_least-2.result c.in_ok-push-3.ensures.items fail in
    let second = fails_last (Fails input starts) c.push.new.self.items c.push-2.new.self.items c.below.result c.in_ok-push-2.ensures.items third.1 in
    let first = fails_last (Fails input starts) c.clear.new.self.items c.push.new.self.items c.at_least.result c.in_ok-push.ensures.items second.1 in
    let lasts = c.at.ensures ∙ ap (λ (xs : List ℕ). at xs o.second) c.deref.ensures.value in
    let most : c.saturating_add-end.result ≤ c.args.value + duration (problem_of input) o.second = omega (arith, c.saturating_add-end.ensures, lasts, duration_is input o.second) in
    after_follows input starts o c.args.value c.saturating_add-end.result short c.in-Some.ensures
    (c.is_activity.ensures c.if-not-is_activity.false) (c.is_activity-else-not-is_activity.ensures c.if-not-is_activity-2.false) (c.are_apart.ensures c.if-not-are_apart.false) most
    (rw c.at_least.ensures at first.0) (rw c.below.ensures at second.0) (rw c.at_least-2.ensures at third.0)
