use Rattle.std.proofs.Common.{◌++◌, chars, string_bytes}
use Rattle.std.specs.Str.Iter.{chars_rest}
use Rattle.std.proofs.lemmas.Str.{IsUtf8-past_char}
use Rattle.plan_sheet.specs.Ics.{folded}
use Rattle.plan_sheet.proofs.FoldLemmas.{fold_step, fold_end}
use Rattle.plan_sheet.proofs.ics.push_chars.Goals as goal

pub loop-c-preserved : goal.loop-c-preserved
loop-c-preserved c =
    let held = c.loop-c.invariant in
    let parts = c.in-Some.ensures.steps.0 in (
      IsUtf8-past_char _ _ c.in-Some.c held.0 parts,
      c.in_ok-used.ensures.limit,
      fold_step (string_bytes c.loop-c.text) _ _ _ c.loop-c.used _ c.in-Some.c (string_bytes c.args.text.now ++ folded 0 (chars c.args.line.now))
          held.0 parts c.in_ok-used.ensures.text c.in_ok-used.ensures.used held.2,
    )

pub returns : goal.returns
returns c =
    fold_end (string_bytes c.loop-c.text) (chars_rest c.loop-c.c-iterator) (string_bytes c.args.text.now ++ folded 0 (chars c.args.line.now))
    c.loop-c.used c.in-None.ensures.steps.0.0 c.loop-c.invariant.2
