use Rattle.std.proofs.Common.{rules, arith, ◌<◌, ◌≤◌, ◌≡◌, length, false, string_bytes}
use Rattle.plan_copies.specs.Choice.{is_later}
use Rattle.plan_copies.proofs.ChoiceLemmas.{all_done, all_more}
use Rattle.plan_copies.proofs.choice.later_of.Goals as goal

pub loop-entry-preserved : goal.loop-entry-preserved
loop-entry-preserved c =
    let step = c.loop-entry in
    let inside : step.entry-index < length c.args.names.now = search rules in
    let passed : is_later c.args.prefix.now c.args.new.now (string_bytes c.entry-item.result) ≡ false = search rules in
    all_more string_bytes c.args.names.now step.entry-index c.entry-item.result inside c.entry-item.is
    (λ name. is_later c.args.prefix.now c.args.new.now name ≡ false) step.invariant passed

pub returns-clause-none : goal.returns-clause-none
returns-clause-none c =
    let done : length c.args.names.now ≤ c.loop-entry.entry-index = search rules in
    all_done string_bytes (λ name. is_later c.args.prefix.now c.args.new.now name ≡ false) c.args.names.now
    c.loop-entry.entry-index done c.loop-entry.invariant
