use Rattle.std.proofs.Common.{◌≡◌, ◌++◌, string_bytes, encode_utf8, ap, ◌-◌, arith, rules}
use Rattle.std.specs.Str.Iter.{chars_rest}
use Rattle.std.proofs.lemmas.Str.{IsUtf8-past_char}
use Rattle.plan_sheet.proofs.CutLemmas.{front_step, front_stop, front_end}
use Rattle.plan_sheet.proofs.cuts.front_of.Goals as goal

pub loop-c-preserved : goal.loop-c-preserved
loop-c-preserved c =
    let held = c.loop-c.invariant in
    let parts = c.in-Some.ensures.steps.0 in
    let step : string_bytes c.push.new.self ≡ string_bytes c.loop-c.front ++ encode_utf8 c.in-Some.c = search rules in (
      IsUtf8-past_char _ _ c.in-Some.c held.0 parts,
      front_step (string_bytes c.loop-c.front) (string_bytes c.push.new.self) _ _ c.loop-c.left _ c.in-Some.c _ held.0 parts
          (λ less. omega (arith, less, c.if-left-columns.false, c.columns_of-columns.ensures))
          (ap (λ n. c.loop-c.left - n) c.columns_of-columns.ensures) step held.1,
    )

pub returns-then-left-columns : goal.returns-then-left-columns
returns-then-left-columns c =
    front_stop (string_bytes c.loop-c.front) _ _ c.loop-c.left c.in-Some.c _ c.loop-c.invariant.0 c.in-Some.ensures.steps.0
    (omega (arith, c.if-left-columns.true, c.columns_of-columns.ensures)) c.loop-c.invariant.1

pub returns : goal.returns
returns c =
    front_end (string_bytes c.loop-c.front) (chars_rest c.loop-c.c-iterator) c.loop-c.left _ c.in-None.ensures.steps.0.0 c.loop-c.invariant.1
