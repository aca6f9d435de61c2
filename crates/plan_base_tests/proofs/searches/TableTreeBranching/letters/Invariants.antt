use Rattle.std.proofs.Common.{◌≡◌, ◌++◌, filter, take}
use Rattle.plan_base_tests.specs.TableTree.{may_follow}
use Rattle.plan_base_tests.proofs.searches.TableTreeBranching.letters.Given as goal

-- the letters so far that may follow are behind those that the list had
abbrev pub invariant-loop-letter : goal.invariant-loop-letter
invariant-loop-letter l = l.list.items ≡ l.fn.list.items ++ filter (may_follow l.self.floors l.self.word.items) (take l.letter-index l.letter-items)
