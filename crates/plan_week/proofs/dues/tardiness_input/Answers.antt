use Rattle.plan_week.proofs.TardinessLemmas.{has_tardiness}
use Rattle.plan_week.proofs.dues.tardiness_input.Goals as goal

pub returns : goal.returns
returns c =
    let numbers = c.in_ok-input.ensures.numbers in
    has_tardiness c.args.week.now _
    (record {
      durations = numbers.durations;
      arcs = numbers.arcs;
      needs = numbers.needs;
      capacities = numbers.capacities;
      windows = numbers.windows;
      absences = numbers.absences;
    }) c.in_ok-tails.ensures
