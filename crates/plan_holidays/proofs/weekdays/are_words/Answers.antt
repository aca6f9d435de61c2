use Rattle.std.proofs.Common.{rules, tests}
use Rattle.std.proofs.lemmas.Iterator.Search.{all_from_yields_List}
use Rattle.std.proofs.lemmas.Iterator.Splits.{YieldsList-from_slice_split}
use Rattle.plan_holidays.specs.WeekdayText.{is_comma, is_range, range_of}
use Rattle.plan_holidays.proofs.weekdays.are_words.Goals as goal

pub returns : goal.returns
returns c =
    all_from_yields_List (λ item. is_range (range_of item)) _ _ _ c.all.ensures.ran
    (YieldsList-from_slice_split _ is_comma c.args.text.now c.split.ensures.rest c.split.ensures.done c.split.ensures.closure (λ x r q k. search (rules, tests)))
    (λ x b q k. search (rules, tests))
