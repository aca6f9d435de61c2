use Rattle.std.proofs.Common.{ap, ◌-◌, arith}
use Rattle.std.specs.Str.Iter.{chars_rest}
use Rattle.std.proofs.lemmas.Str.{IsUtf8-past_char}
use Rattle.plan_sheet.proofs.CutLemmas.{fits_step, fits_stop, fits_end}
use Rattle.plan_sheet.proofs.cuts.fits.Goals as goal

pub loop-c-preserved : goal.loop-c-preserved
loop-c-preserved c =
    let held = c.loop-c.invariant in
    let parts = c.in-Some.ensures.steps.0 in (
      IsUtf8-past_char _ _ c.in-Some.c held.0 parts,
      fits_step _ _ c.loop-c.left _ c.in-Some.c _ held.0 parts
          (λ less. omega (arith, less, c.if-left-columns.false, c.columns_of-columns.ensures))
          (ap (λ n. c.loop-c.left - n) c.columns_of-columns.ensures) held.1,
    )

pub returns-then-left-columns : goal.returns-then-left-columns
returns-then-left-columns c =
    fits_stop _ _ c.loop-c.left c.in-Some.c _ c.loop-c.invariant.0 c.in-Some.ensures.steps.0
    (omega (arith, c.if-left-columns.true, c.columns_of-columns.ensures)) c.loop-c.invariant.1

pub returns : goal.returns
returns c =
    fits_end (chars_rest c.loop-c.c-iterator) c.loop-c.left _ c.in-None.ensures.steps.0.0 c.loop-c.invariant.1
