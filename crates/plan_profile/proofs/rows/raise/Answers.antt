-- Each step raises the row at the index.
use Rattle.std.proofs.Common.{◌≡◌, ◌≤◌, ◌+◌, ◌-◌, ◌*◌, length, ◌∙◌, arith}
use Rattle.std.proofs.lemmas.Nat.{row_fits}
use Rattle.plan_profile.specs.Steps.{row_at}
use Rattle.plan_profile.proofs.FlatLemmas.{length-row_at, get_or-row_at}
use Rattle.plan_profile.proofs.RowLemmas.{raised_more, with_row}
use Rattle.plan_profile.proofs.rows.raise.Goals as goal

pub loop-i-preserved : goal.loop-i-preserved
loop-i-preserved c =
    let w = length c.args.needs.now in
    let ends = row_fits c.loop-i.i w c.args.to w c.loop-i-test.true (omega arith) in
    let fits : c.loop-i.i * w + w ≤ length c.loop-i.rows = omega (arith, c.requires.within, c.loop-i.auto.rows) in
    let row = row_at w c.loop-i.rows c.loop-i.i in
    let size : length row ≡ w = length-row_at w c.loop-i.rows c.loop-i.i fits in
    let part : c.loop-i.i * w + w - c.loop-i.i * w ≡ w = omega arith in
    let with = rw part at c.add_needs.ensures in
    let wide : length c.add_needs.new.row ≡ w = with.even ∙ size in
    let put = with_row c.loop-i.rows c.loop-i.i w c.add_needs.new.row wide fits in
    rw part (raised_more c.args.rows.now c.args.from c.loop-i.i c.args.needs.now c.loop-i.rows row c.add_needs.new.row _
    c.loop-i.auto.i size c.loop-i.invariant (λ k below. get_or-row_at w c.loop-i.rows c.loop-i.i k below) with put)
