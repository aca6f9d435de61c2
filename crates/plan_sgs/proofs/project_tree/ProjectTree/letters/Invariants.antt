-- The letters of the activities so far.
use Rattle.std.proofs.Common.{suc, ◌≡◌, ◌++◌, map}
use Rattle.plan_sgs.specs.Rules.{places, eligible}
use Rattle.plan_sgs.specs.Instances.{problem_of}
use Rattle.plan_sgs.proofs.project_tree.ProjectTree.letters.Given as goal

abbrev pub invariant-loop-i : goal.invariant-loop-i
invariant-loop-i l = l.list.items ≡ l.initial.list.items ++ map suc (eligible (problem_of l.self.instance) (places l.self.word) l.i)
