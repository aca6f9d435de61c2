-- The parts of error lines (docs/definitions.md, "Runs").
use Rattle.std.specs.Prelude.{ℕ, List, [], ◌∷◌, ◌++◌, codes, string_bytes}
use Rattle.std.specs.Fmt.{decimal}
use Rattle.std.specs.List.{flat_map}
use Rattle.plan_errors.specs.declared.parts.Key.{Key}
use Rattle.plan_errors.specs.declared.parts.Key.TheVariants as key
use Rattle.plan_errors.specs.declared.parts.Part.{Part}
use Rattle.plan_errors.specs.declared.parts.Part.TheVariants as part

-- the name of a key in error lines and in JSON
abbrev pub word_of : Key → List ℕ
word_of key.Activity = codes "activity"
word_of key.Cycle = codes "cycle"
word_of key.Job = codes "job"
word_of key.Line = codes "line"
word_of key.Machine = codes "machine"
word_of key.Predecessor = codes "predecessor"
word_of key.Resource = codes "resource"
word_of key.Step = codes "step"
word_of key.Time = codes "time"

-- numbers, a blank before each
abbrev pub spaced : List ℕ → List ℕ
spaced ns = flat_map (λ n. 32 ∷ decimal n) ns

-- the name of a key, and its numbers
abbrev pub keyed : Key → List ℕ → List ℕ
keyed key ns = 32 ∷ (word_of key ++ spaced ns)

-- a part in a line, with the blank before it
abbrev pub part_text : Part → List ℕ
part_text (part.Words words) = 32 ∷ words.now
part_text (part.Number key n) = 32 ∷ (word_of key ++ 32 ∷ decimal n)
part_text (part.Bare key n) = 32 ∷ decimal n
part_text (part.Numbers key ns) = keyed key ns.items
part_text (part.Text text) = 32 ∷ string_bytes text
part_text (part.Ids ids) = string_bytes ids

-- parts in a line
abbrev pub parts_text : List Part → List ℕ
parts_text [] = []
parts_text (last ∷ []) = part_text last
parts_text (part ∷ next ∷ rest) = part_text part ++ parts_text (next ∷ rest)
