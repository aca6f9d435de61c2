use Rattle.std.proofs.Common.{◌≡◌, ◌+◌, ◌≤◌, ◌*◌, ◌++◌, drop}
use Rattle.plan_exact.specs.Explored.{children_explored, standing_of}
use Rattle.plan_exact.proofs.exploration.+explore.Given as goal

-- the number of words that may still be visited, and for one word the order of the calls
abbrev pub decreases-explore : goal.decreases-explore
decreases-explore g l = 3 * l.progress.now.left

abbrev pub decreases-explore_children : goal.decreases-explore_children
decreases-explore_children g l = 3 * l.progress.now.left + 2

abbrev pub decreases-explore_child : goal.decreases-explore_child
decreases-explore_child g l = 3 * l.progress.now.left + 1

-- the tree is at its word, and the remaining letters lead the search to the same result as all
-- letters
abbrev pub invariant-explore_children-loop-place : goal.invariant-explore_children-loop-place
invariant-explore_children-loop-place g l = record {
  tree : g.B.Branching.tree l.tree ≡ g.B.Branching.tree l.fn.tree;
  word : g.B.Branching.word l.tree ≡ g.B.Branching.word l.fn.tree;
  path : l.progress.path.items ≡ l.fn.progress.path.items;
  letters : l.progress.letters.items ≡ l.fn.progress.letters.items ++ (g.B.Branching.tree l.fn.tree).letters (g.B.Branching.word l.fn.tree);
  left : l.progress.left ≤ l.fn.progress.left;
  count : g.B.Branching.pushes l.tree + l.progress.left ≤ g.B.Branching.pushes l.fn.tree + l.fn.progress.left;
  rest : children_explored (g.B.Branching.tree l.fn.tree) (g.B.Branching.word l.fn.tree) (standing_of l.progress) (drop l.place l.progress.letters.items)
      ≡ children_explored (g.B.Branching.tree l.fn.tree) (g.B.Branching.word l.fn.tree) (standing_of l.fn.progress) ((g.B.Branching.tree l.fn.tree).letters (g.B.Branching.word l.fn.tree));
}
