use Rattle.std.proofs.Common.{◌<◌, length, refl, arith}
use Rattle.plan_kernel.proofs.FactLemmas.{earliest_holds, latest_kept}
use Rattle.plan_kernel.proofs.facts.raise_window.Goals as goal

pub returns-clause-facts : goal.returns-clause-facts
returns-clause-facts c =
    let input = c.args.input.now in
    let w = c.args.window in
    let inside : w.activity < length input.durations.items = omega (arith, c.if-place-len.false, c.len.ensures) in
    let first = earliest_holds input c.args.upper w.activity w.earliest w c.args.facts.now.items c.raise.new.facts.items
    inside c.requires.window refl (omega arith) c.requires.facts c.raise.ensures.most in
    latest_kept input c.args.upper w.activity c.saturating_sub.result w c.raise.new.facts.items c.raise-2.new.facts.items
    inside c.requires.window refl (omega (arith, c.saturating_sub.ensures)) first c.raise-2.ensures.most
