use Rattle.std.proofs.Common.{◌∙◌, ◌++◌, ◌*◌, drop, ap, sym, arith}
use Rattle.std.proofs.lemmas.List.{append-nil, length-drop}
use Rattle.plan_encoding.proofs.Utf16Lemmas.{units_of-few, units_of-step}
use Rattle.plan_encoding.proofs.utf16.units.Goals as goal

pub loop-i-init : goal.loop-i-init
loop-i-init c = rw c.in_ok-units.ensures.items

pub loop-i-preserved : goal.loop-i-preserved
loop-i-preserved c =
    rw (c.in_ok-push.ensures.items, c.unit.ensures)
    (units_of-step c.args.order c.args.bytes.now c.loop-i.units.items c.loop-i.i (omega (arith, c.loop-i-test.true)) c.loop-i.invariant)

pub returns : goal.returns
returns c =
    sym (append-nil _)
    ∙ ap (λ t. c.loop-i.units.items ++ t)
    (sym (units_of-few c.args.order (drop (c.loop-i.i * 2) c.args.bytes.now) (omega (arith, length-drop (c.loop-i.i * 2) c.args.bytes.now, c.loop-i-test.false))))
    ∙ c.loop-i.invariant
