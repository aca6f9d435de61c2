use Rattle.std.proofs.Common.{rules, ◌∙◌, ◌<◌, length, map}
use Rattle.plan_table.specs.Names.{name_of}
use Rattle.std.proofs.lemmas.List.{length-set}
use Rattle.plan_documents.proofs.CapacityLemmas.{replaced_more}
use Rattle.plan_documents.proofs.capacities.replaced.Goals as goal

pub loop-capacity-preserved : goal.loop-capacity-preserved
loop-capacity-preserved c =
    let step = c.loop-capacity in
    let inside : c.in-Some.k < length step.list.items = search rules in
    record {
      replaced = replaced_more (map name_of c.args.names.now) c.args.given.now step.capacity-index _ c.in-Some.k c.args.capacities.now step.list.items
          (search rules) step.invariant.replaced inside (search rules);
      same = length-set _ _ _ ∙ step.invariant.same;
    }
