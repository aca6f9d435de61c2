use Rattle.std.proofs.Common.{rules, tests}
use Rattle.std.proofs.lemmas.Iterator.Search.{any_from_yields_List}
use Rattle.std.proofs.lemmas.Iterator.Splits.{YieldsList-from_slice_split}
use Rattle.plan_holidays.specs.WeekdayText.{is_comma, item_has}
use Rattle.plan_holidays.proofs.weekdays.is_named.Goals as goal

pub returns : goal.returns
returns c =
    any_from_yields_List (item_has c.args.day) _ _ _ c.any.ensures.ran
    (YieldsList-from_slice_split _ is_comma c.args.text.now c.split.ensures.rest c.split.ensures.done c.split.ensures.closure (λ x r q k. search (rules, tests)))
    (λ x b q k. search (rules, tests))
