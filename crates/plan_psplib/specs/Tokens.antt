-- Reading words from front to back, up to the first fault (docs/definitions.md, "Files").
use Rattle.std.specs.Prelude.{◌≡◌, ℕ, ◌+◌, ◌==◌, ◌&&◌, Bool, if◌then◌else◌, List, [], ◌∷◌, Option, Some, None, Result, Ok, Err, nat_le}
use Rattle.plan_net.specs.Limits.{longest_duration, longest_sum}
use Rattle.plan_psplib.specs.declared.text.fault.FileCode.{FileCode}
use Rattle.plan_psplib.specs.declared.text.fault.FileCode.TheVariants as code
use Rattle.plan_psplib.specs.declared.text.fault.Fault.{Fault}
use Rattle.plan_psplib.specs.declared.text.fault.ReadError.{ReadError}
use Rattle.plan_psplib.specs.declared.text.fault.ReadError.TheVariants as errors
use Rattle.plan_psplib.specs.declared.text.tokens.LineNumber as declared
use Rattle.plan_psplib.specs.Numbers.{number}
use Rattle.plan_psplib.specs.Streams.{LineWord, Stream}

-- one reading after another, up to the first error
infixl 10 ◌>>=◌
abbrev pub ◌>>=◌ : {A B : Type 0} → Result A Fault → (A → Result B Fault) → Result B Fault
(Ok x) >>= f = f x
(Err e) >>= f = Err e

-- an error of the reading, or out of memory, which is possible at any time
abbrev pub Fails : {Y : Type 0} → ReadError → Result Y Fault → Type 0
Fails errors.Memory read = Unit {0}
Fails (errors.Fault f) read = read ≡ Err f

-- the result of a function, under `view`, is that of the reading, or out of memory
abbrev pub Gives : {X Y : Type 0} → (X → Y) → Result X ReadError → Result Y Fault → Type 0
Gives view (Ok x) read = read ≡ Ok (view x)
Gives view (Err e) read = Fails e read

-- the same for a function that allocates nothing: the result is exactly that of the reading
abbrev pub Reads : {X Y : Type 0} → (X → Y) → Result X Fault → Result Y Fault → Type 0
Reads view (Ok x) read = read ≡ Ok (view x)
Reads view (Err f) read = read ≡ Err f

abbrev pub fault : {A : Type 0} → FileCode → ℕ → Result A Fault
fault c line = Err (record { code = c; line = line })

-- a fault unless a test holds
abbrev pub check : Bool → FileCode → ℕ → Result (Unit {0}) Fault
check holds c line = if holds then Ok tt else fault c line

-- a number and its line
pub record LineNumber : Type 0 where
  pub value : ℕ
  pub line : ℕ

abbrev pub line_number : declared.LineNumber → LineNumber
line_number n = record { value = n.value; line = n.line }

abbrev pub as_number : LineWord → Option ℕ → Stream → Result (LineNumber × Stream) Fault
as_number word None rest = fault code.BadNumber word.line
as_number word (Some n) rest = Ok (record { value = n; line = word.line }, rest)

abbrev pub number_of_words : ℕ → List LineWord → Result (LineNumber × Stream) Fault
number_of_words last [] = fault code.Count last
number_of_words last (word ∷ others) = as_number word (number word.text) (record { last = word.line; words = others })

-- the next word, which must be a number
unfoldable pub number_at : Stream → Result (LineNumber × Stream) Fault
number_at s = number_of_words s.last s.words

-- the next word, which must be this number
unfoldable pub expect_at : ℕ → FileCode → Stream → Result Stream Fault
expect_at wanted c s = do
  n ← number_at s
  same ← check (n.0.value == wanted) c n.0.line
  Ok n.1

-- the next word, which must be a number up to a limit
unfoldable pub within_at : ℕ → Stream → Result (ℕ × Stream) Fault
within_at limit s = do
  n ← number_at s
  small ← check (nat_le n.0.value limit) code.Limit n.0.line
  Ok (n.0.value, n.1)

-- a value from a least to a greatest one
unfoldable pub limited : ℕ → ℕ → LineNumber → Result ℕ Fault
limited least most v = do
  fits ← check (nat_le least v.value && nat_le v.value most) code.Limit v.line
  Ok v.value

-- the next word, which must be a number from a least to a greatest one
unfoldable pub limited_at : ℕ → ℕ → Stream → Result (ℕ × Stream) Fault
limited_at least most s = do
  n ← number_at s
  value ← limited least most n.0
  Ok (value, n.1)

-- the greatest duration, and the greatest amount of a resource
abbrev pub greatest : ℕ
greatest = longest_duration

-- the greatest sum of all durations
abbrev pub greatest_total : ℕ
greatest_total = longest_sum

-- a duration; total is the sum of the durations before it
unfoldable pub duration_at : ℕ → Stream → Result (ℕ × Stream) Fault
duration_at total s = do
  duration ← number_at s
  fits ← check (nat_le duration.0.value greatest && nat_le (total + duration.0.value) greatest_total) code.Limit duration.0.line
  Ok (duration.0.value, duration.1)

abbrev pub end_of_words : List LineWord → Result (Unit {0}) Fault
end_of_words [] = Ok tt
end_of_words (word ∷ others) = fault code.Count word.line

-- no token is left
unfoldable pub end_at : Stream → Result (Unit {0}) Fault
end_at s = end_of_words s.words
