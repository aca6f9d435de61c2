-- The condition on a job shop text that each error states by itself, whatever the order of the
-- checks (docs/definitions.md, "Job shop files").
use Rattle.std.specs.Prelude.{◌≡◌, ◌⊎◌, ℕ, ◌+◌, ◌<◌, ◌≤◌, List, [], ◌∷◌, Some, None, Ok, Err, length, sum}
use Rattle.plan_psplib.specs.declared.text.fault.FileCode.{FileCode}
use Rattle.plan_psplib.specs.declared.text.fault.FileCode.TheVariants as code
use Rattle.plan_psplib.specs.declared.text.fault.Fault.{Fault}
use Rattle.plan_psplib.specs.Lines.{last_line}
use Rattle.plan_psplib.specs.Plain.{longest_text}
use Rattle.plan_psplib.specs.Streams.{Stream}
use Rattle.plan_psplib.specs.Tokens.{greatest, greatest_total}
use Rattle.plan_psplib.specs.Causes.{HasZeroByte, BeginsWith, NextIs, NextIsNoNumber}
use Rattle.plan_orlib.specs.Instances.{stream_of}
use Rattle.plan_orlib.specs.Shop.{Shop, most_jobs, most_machines}
use Rattle.plan_orlib.specs.ShopText.{shop}

-- The word at which the stream of an instance stops, behind these numbers of it: the number of
-- jobs, the number of machines, then a machine and a time for each step. A number beyond its limit
-- is a number of jobs or machines, or it is above 10,000, or the numbers up to it add up to more
-- than 1,000,000.
abbrev pub StopsAt : FileCode → List ℕ → Stream → ℕ → Type 0
StopsAt code.BadNumber before t line = NextIsNoNumber t line
StopsAt code.Count before t line = (t.words ≡ []) × (line ≡ t.last)
StopsAt code.BadMachine before t line = (jobs : ℕ) × (machines : ℕ) × (steps : List ℕ)
    × (before ≡ jobs ∷ machines ∷ steps) × NextIs t line (λ n. machines ≤ n)
StopsAt code.Limit before t line =
    ((before ≡ []) × NextIs t line (λ n. (n < 1) ⊎ (most_jobs < n)))
    ⊎ ((jobs : ℕ) × (before ≡ jobs ∷ []) × NextIs t line (λ n. (n < 1) ⊎ (most_machines < n)))
    ⊎ NextIs t line (λ n. (greatest < n) ⊎ (greatest_total < sum before + n))
StopsAt _ before t line = ⊥

-- a stream stops
abbrev pub StopsIn : Stream → FileCode → ℕ → Type 0
StopsIn s c line = (before : List ℕ) × (t : Stream) × BeginsWith s before t × StopsAt c before t line

-- what an error says of the whole text: of a text that is read, none of this is true
abbrev pub IsWrong : List ℕ → FileCode → List ℕ → ℕ → Type 0
IsWrong name code.TooLong text line = (longest_text < length text) × (line ≡ 0)
IsWrong name code.NotText text line = HasZeroByte text line
IsWrong name code.NoInstance text line = (stream_of name text ≡ None) × (line ≡ last_line text)
IsWrong name _ text line = ⊥

-- what an error says of a text by itself, if the first instance of a name is read
abbrev pub Shows : List ℕ → FileCode → List ℕ → ℕ → Type 0
Shows name c text line = IsWrong name c text line
    ⊎ ((s : Stream) × (stream_of name text ≡ Some s) × StopsIn s c line)

-- the first check that a text fails shows what it says by itself
unfoldable pub ErrorsShow : Type 0
ErrorsShow = (name text : List ℕ) (f : Fault) → shop name text ≡ Err f → Shows name f.code text f.line

-- nothing is wrong with the whole of a text that is read
unfoldable pub ReadTextsAreRight : Type 0
ReadTextsAreRight = (name text : List ℕ) (s : Shop) (c : FileCode) (line : ℕ) → shop name text ≡ Ok s → IsWrong name c text line → ⊥
