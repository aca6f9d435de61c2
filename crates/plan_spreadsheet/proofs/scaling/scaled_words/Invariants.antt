use Rattle.std.proofs.Common.{◌≡◌, [], map, length}
use Rattle.plan_psplib.specs.Lines.{words}
use Rattle.plan_table.specs.Predecessors.{label_of}
use Rattle.plan_spreadsheet.specs.Scaling.{scaled_words}
use Rattle.plan_spreadsheet.proofs.scaling.scaled_words.Given as goal

-- the words that are left, behind those so far, give all words
abbrev pub invariant-loop-word : goal.invariant-loop-word
invariant-loop-word l =
    scaled_words l.unit (map label_of l.labels) l.text.items l.rest
    ≡ scaled_words l.unit (map label_of l.labels) [] (words l.words)

abbrev pub decreases-loop-word : goal.decreases-loop-word
decreases-loop-word l = length l.rest
