-- A text of starts as bare numbers: one for each activity, in order (docs/definitions.md,
-- "Reports").
use Rattle.std.specs.Prelude.{◌≡◌, ℕ, zero, suc, ◌≤◌, List, [], ◌∷◌, ◌++◌, Result, Ok, All, length}
use Rattle.plan_psplib.specs.declared.text.fault.Fault.{Fault}
use Rattle.plan_psplib.specs.Lines.{lines}
use Rattle.plan_psplib.specs.Streams.{Stream, words_of}
use Rattle.plan_psplib.specs.Says.{Spells}
use Rattle.plan_psplib.specs.Tokens.{◌>>=◌, within_at, end_at}
use Rattle.plan_gantt.specs.Limits.{latest_start}

-- the tokens of a text are these `count` numbers, none of them after the latest start
pub record SaysNumbers (count : ℕ) (text starts : List ℕ) : Type 0 where
  pub spelled : Spells (words_of (lines text)) starts
  pub whole : length starts ≡ count
  pub in_time : All (λ t. t ≤ latest_start) starts

-- all tokens of a text
abbrev pub all_tokens : List ℕ → Stream
all_tokens text = record { last = 0; words = words_of (lines text) }

-- `more` starts after those before
unfoldable pub starts_at : ℕ → List ℕ → Stream → Result (List ℕ × Stream) Fault
starts_at zero before s = Ok (before, s)
starts_at (suc more) before s = do
  start ← within_at latest_start s
  starts_at more (before ++ start.0 ∷ []) start.1

-- the `count` numbers in a text, or the first check that it fails
unfoldable pub numbers_in : ℕ → List ℕ → Result (List ℕ) Fault
numbers_in count text = do
  starts ← starts_at count [] (all_tokens text)
  nothing_left ← end_at starts.1
  Ok starts.0
