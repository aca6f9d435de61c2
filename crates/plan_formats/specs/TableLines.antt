-- The lines above and below the rows of a table (docs/definitions.md, "Formats").
use Rattle.std.specs.Prelude.{ℕ, List, [], ◌∷◌, ◌++◌, Option, Some, None, Vec, codes, decimal, if◌then◌else◌, map, nat_lt}
use Rattle.std.specs.Prelude.{string_bytes}
use Rattle.std.specs.List.{flat_map}
use Rattle.std.specs.declared.alloc.Global.{Global}
use Rattle.plan_formats.specs.declared.line.Line as declared
use Rattle.plan_formats.specs.declared.line.Line.TheVariants as kept

pub data Line : Type 0 where
  optimal : ℕ → Line
  -- a lower and an upper bound
  between : ℕ → ℕ → Line
  budget : ℕ → Line
  duration : ℕ → Line
  makespan : ℕ → Line
  chain : Option (List ℕ) → Line
  -- the numbers of a chain, and the ids of those that have one
  id_chain : List ℕ → List (List ℕ) → Line
  -- how many activities moved, and how many were compared
  moved : ℕ → ℕ → Line
  -- a lower and an upper bound of the least greatest tardiness
  tardiness : ℕ → ℕ → Line
  -- how many activities are late, and how many there are
  late : ℕ → ℕ → Line
  -- a word and ids
  id_list : List ℕ → List (List ℕ) → Line
  -- a name, a makespan and a verdict
  summary : List ℕ → ℕ → List ℕ → Line

-- a chain, as the program keeps it
abbrev pub chain_of : Option (Vec ℕ Global) → Option (List ℕ)
chain_of None = None
chain_of (Some js) = Some js.items

-- a line, as the program keeps it
abbrev pub line_of : declared.Line → Line
line_of (kept.Optimal n) = optimal n
line_of (kept.Between lower upper) = between lower upper
line_of (kept.Budget n) = budget n
line_of (kept.Duration n) = duration n
line_of (kept.Makespan n) = makespan n
line_of (kept.Chain js) = chain (chain_of js)
line_of (kept.IdChain js ids) = id_chain js.items (map (λ id. id.items) ids.items)
line_of (kept.Moved n count) = moved n count
line_of (kept.Tardiness lower upper) = tardiness lower upper
line_of (kept.Late n count) = late n count
line_of (kept.Ids word ids) = id_list word.now (map (λ id. id.items) ids.items)
line_of (kept.Summary name n verdict) = summary name.now n (string_bytes verdict)

-- numbers, each behind a blank
abbrev pub spaced_numbers : List ℕ → List ℕ
spaced_numbers ns = flat_map (λ n. codes " " ++ decimal n) ns

-- words, each behind a blank
abbrev pub spaced_words : List (List ℕ) → List ℕ
spaced_words words = flat_map (λ word. codes " " ++ word) words

-- a chain, if there is one
abbrev pub chain_text : Option (List ℕ) → List ℕ
chain_text None = codes "no chain"
chain_text (Some js) = codes "chain" ++ spaced_numbers js

-- the word before the name of a list without ids
abbrev pub none_before : List (List ℕ) → List ℕ
none_before [] = codes "none "
none_before (id ∷ ids) = []

-- the least number, or its bounds
abbrev pub bound_words : ℕ → ℕ → List ℕ
bound_words lower upper =
    if nat_lt lower upper then codes "between " ++ decimal lower ++ codes " " ++ decimal upper
    else codes "optimal " ++ decimal upper

-- the text of a line, without its line feed
abbrev pub line_words : Line → List ℕ
line_words (optimal n) = codes "optimal " ++ decimal n
line_words (between lower upper) =
    codes "between " ++ decimal lower ++ codes " " ++ decimal upper
line_words (budget n) = codes "budget " ++ decimal n
line_words (duration n) = codes "T " ++ decimal n
line_words (makespan n) = codes "makespan " ++ decimal n
line_words (chain js) = chain_text js
line_words (id_chain js ids) = codes "chain" ++ spaced_words ids
line_words (moved n count) = codes "moved " ++ decimal n ++ codes " of " ++ decimal count
line_words (tardiness lower upper) = codes "tardiness " ++ bound_words lower upper
line_words (late n count) = codes "late " ++ decimal n ++ codes " of " ++ decimal count
line_words (id_list word ids) = none_before ids ++ word ++ spaced_words ids
line_words (summary name n verdict) =
    name ++ codes " makespan " ++ decimal n ++ codes ": " ++ verdict

-- the text of a line
abbrev pub line_text : Line → List ℕ
line_text line = line_words line ++ codes "\n"

-- the texts of lines
abbrev pub lines_text : List Line → List ℕ
lines_text lines = flat_map line_text lines
