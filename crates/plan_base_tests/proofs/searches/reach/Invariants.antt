use Rattle.std.proofs.Common.{◌≡◌, ◌<◌, take}
use Rattle.plan_base_tests.specs.TableTree.{reached}
use Rattle.plan_base_tests.proofs.searches.reach.Given as goal

-- the place of the letters so far, and the greatest floor of their prefixes
abbrev pub invariant-loop-letter : goal.invariant-loop-letter
invariant-loop-letter l = record {
  within : l.place < 40;
  reached : record { place = l.place; bound = l.bound } ≡ reached l.floors (take l.letter-index l.word);
}
