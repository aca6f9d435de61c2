use Rattle.std.proofs.Common.{◌≡◌, map, drop}
use Rattle.std.specs.List.{list_any}
use Rattle.plan_table.specs.Cells.{same_name}
use Rattle.plan_spreadsheet.proofs.lags.is_word.Given as goal

-- the text is among the words if it is one of those that are left
abbrev pub invariant-loop-word : goal.invariant-loop-word
invariant-loop-word l = list_any (λ word. same_name word l.text) (map (λ word. word.now) (drop l.word-index l.words))
    ≡ list_any (λ word. same_name word l.text) (map (λ word. word.now) l.words)
