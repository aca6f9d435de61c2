use Rattle.std.proofs.Common.{rules, arith, refl, true≢false, sym, true, false, ◌<◌, ◌≡◌, length}
use Rattle.plan_copies.specs.declared.choice.TheConstants.{FORM}
use Rattle.plan_copies.proofs.ChoiceLemmas.{form_at, same_forms}
use Rattle.plan_copies.proofs.choice.is_time.Goals as goal

pub returns-then-form_of-i : goal.returns-then-form_of-i
returns-then-form_of-i c =
    let inside : c.loop-i.i < length c.args.bytes.now = search rules in
    (λ h. absurd (true≢false (sym h)), λ e. grind (arith, form_at c.args.bytes.now FORM.now c.loop-i.i inside e))

pub returns : goal.returns
returns c =
    let long : length c.args.bytes.now ≡ length FORM.now = search rules in
    (λ _. same_forms c.args.bytes.now FORM.now long (λ k l. c.loop-i.invariant k (search rules)), λ _. refl)
