use Rattle.std.proofs.Common.{◌∙◌, ℕ, List, ap}
use Rattle.std.proofs.lemmas.Bool.{both_ways}
use Rattle.plan_kernel.specs.Literals.{at}
use Rattle.plan_kernel.proofs.ConflictLemmas.{resolved}
use Rattle.plan_kernel.proofs.conflict.resolve.Goals as goal
use Rattle.plan_kernel.proofs.conflict.resolve.Goals.{then-conflict, else-conflict}

pub returns-clause-holds : goal.returns-clause-holds
returns-clause-holds c =
    let known = c.args.known.now in
    let old = c.args.conflict.now.values.items in
    elim c.if-conflict.branch [
      | then-conflict w ↦ rw (w.conflict-is, w.conflict2-is) (record {
        holds = c.requires.holds;
        apart = λ added. resolved known.input known.upper c.args.half c.at-value.result known.facts.items old c.clear_half.new.values.items w.add_reason-conflict.new.conflict.values.items
            c.requires.holds.limit c.requires.holds.facts (c.requires.apart w.if-conflict.true)
            (c.at-value.ensures ∙ ap (λ (xs : List ℕ). at xs c.args.half) c.deref.ensures.value) c.clear_half.ensures.others w.add_reason-conflict.ensures.raised
            (w.add_reason-conflict.ensures.added added);
        listed = w.add_reason-conflict.ensures.listed;
      })
      | else-conflict w ↦ rw (w.conflict-is, w.conflict2-is) (record {
        holds = c.requires.holds;
        apart = λ yes. absurd (both_ways _ w.if-conflict.false yes);
        listed = c.clear_half.ensures.listed;
      })
    ]
