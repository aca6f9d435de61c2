use Rattle.std.proofs.Common.{◌≡◌, ◌++◌, ◌-◌, map}
use Rattle.std.specs.List.{range_with_len}
use Rattle.plan_net.specs.Network.{count_of}
use Rattle.plan_table.specs.Names.{name_of}
use Rattle.plan_views.specs.Predecessors.{predecessor_words, word_behind, word_of}
use Rattle.plan_views.proofs.predecessors.predecessor_words.Given as goal

-- the words so far, and those of the activities that are left
abbrev pub invariant-loop-j : goal.invariant-loop-j
invariant-loop-j l =
    map word_of l.words.items ++ map (word_behind (map name_of l.ids) l.network l.behind) (range_with_len l.j (count_of l.network - l.j))
    ≡ predecessor_words (map name_of l.ids) l.network
