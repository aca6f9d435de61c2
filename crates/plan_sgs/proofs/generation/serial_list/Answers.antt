-- An order defined entry by entry is one defined as a whole.
use Rattle.std.proofs.lemmas.Bool.{iff_false}
use Rattle.plan_sgs.specs.Instances.{problem_of}
use Rattle.plan_sgs.proofs.BoundedLemmas.{bounded}
use Rattle.plan_sgs.proofs.KeyLemmas.{numbered_from, turns_of}
use Rattle.plan_sgs.proofs.generation.serial_list.Goals as goal

pub returns-then-not-branch-clause-refused : goal.returns-then-not-branch-clause-refused
returns-then-not-branch-clause-refused c = λ list. iff_false c.in_ok-is_list.ensures c.if-not-branch.true
    (turns_of (problem_of c.args.instance.now) c.args.list.now
    (bounded c.args.instance.now c.network-network.ensures.instance).inside list)

pub returns-clause-list : goal.returns-clause-list
returns-clause-list c = numbered_from (problem_of c.args.instance.now) c.args.list.now (c.in_ok-is_list.ensures.0 c.if-not-branch.false)
