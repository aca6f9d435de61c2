use Rattle.std.proofs.Common.{◌<◌, inl, inr, Err, get_or, arith}
use Rattle.std.proofs.lemmas.List.Sorted.{searched}
use Rattle.std.proofs.lemmas.Bool.{cases_lt}
use Rattle.plan_net.proofs.RisingLemmas.{rising_at_most, place_in}
use Rattle.plan_net.proofs.tables.place_in_row.Goals as goal

pub returns-in-Err-clause-none : goal.returns-in-Err-clause-none
returns-in-Err-clause-none c has =
    let row = c.args.row.now in
    let missed = searched row c.args.i (Err c.in-Err.field-0) c.in-Err.ensures.position (rising_at_most row c.requires) in
    let place = place_in row c.args.i has in
    elim (cases_lt place.0 c.in-Err.field-0) [
      | inl lower ↦ let less : get_or row place.0 0 < c.args.i = missed.1 place.0 lower in absurd (omega (arith, less, place.2))
      | inr higher ↦ let more : c.args.i < get_or row place.0 0 = missed.2 place.0 higher place.1 in absurd (omega (arith, more, place.2))
    ]
