use Rattle.std.proofs.Common.{◌≡◌, map, length}
use Rattle.plan_table.specs.Predecessors.{label_of}
use Rattle.plan_spreadsheet.specs.Waits.{links_of, wait_of, with_all, with_words}
use Rattle.plan_spreadsheet.proofs.waits.push_words.Given as goal

-- the words so far and those of the remaining links are all words
abbrev pub invariant-loop-word : goal.invariant-loop-word
invariant-loop-word l =
    with_words (map label_of l.labels) (links_of l.links) l.words
    ≡ with_all (map label_of l.labels) (map wait_of l.fn.waits.items) l.text

abbrev pub decreases-loop-word : goal.decreases-loop-word
decreases-loop-word l = length l.words
