-- The lines of a table's text, by the first one.
use Rattle.std.proofs.Common.{◌≡◌, ◌+◌, ◌-◌, ◌<◌, ℕ, List, [], ◌∷◌, Some, None, length, take, drop}
use Rattle.std.specs.List.{position}
use Rattle.plan_psplib.specs.Lines.{is_line_feed, raw_lines}
use Rattle.plan_psplib.proofs.CutLemmas.{raw_lines-None, raw_lines-Some}

-- the first line ends at the first line feed
pub first_line : (text : List ℕ) (i : ℕ) → position is_line_feed text ≡ Some i → raw_lines text ≡ take i text ∷ raw_lines (take (length text - (i + 1)) (drop (i + 1) text))
first_line text i e = raw_lines-Some text i e

-- a text without a line feed is one line
pub only_line : (text : List ℕ) → 0 < length text → position is_line_feed text ≡ None → raw_lines text ≡ text ∷ []
only_line text some e = raw_lines-None text some e
