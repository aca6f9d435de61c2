-- Reading the dates of a list, up to the first error.
use Rattle.std.specs.Prelude.{◌≡◌, ℕ, Bool, if◌then◌else◌, List, Result, Ok, Err}
use Rattle.plan_weeklist.specs.declared.fault.WeekCode.{WeekCode}
use Rattle.plan_weeklist.specs.declared.fault.WeekFault as declared
use Rattle.plan_weeklist.specs.declared.fault.WeekError.{WeekError}
use Rattle.plan_weeklist.specs.declared.fault.WeekError.TheVariants as errors

-- a check that the dates of a list fail: its line, and the cell
pub record Fault : Type 0 where
  pub code : WeekCode
  pub line : ℕ
  pub word : List ℕ

-- the same, as the program keeps it
abbrev pub fault_of : declared.WeekFault → Fault
fault_of f = record { code = f.code; line = f.line; word = f.word.items }

-- the reading of one part and then of the next one, or the first error
infixl 10 ◌>>=◌
abbrev pub ◌>>=◌ : {A B : Type 0} → Result A Fault → (A → Result B Fault) → Result B Fault
(Ok x) >>= f = f x
(Err e) >>= f = Err e

-- an error that the reading gives; out of memory may come at any time
abbrev pub Fails : {Y : Type 0} → WeekError → Result Y Fault → Type 0
Fails errors.Memory read = Unit {0}
Fails (errors.Fault f) read = read ≡ Err (fault_of f)

-- a function returns the result of the reading, seen by view, or its error
abbrev pub Gives : {X Y : Type 0} → (X → Y) → Result X WeekError → Result Y Fault → Type 0
Gives view (Ok x) read = read ≡ Ok (view x)
Gives view (Err e) read = Fails e read

abbrev pub fault : {A : Type 0} → WeekCode → ℕ → List ℕ → Result A Fault
fault code line word = Err (record { code = code; line = line; word = word })

-- a fault that names a word, unless a test holds
abbrev pub check : Bool → WeekCode → ℕ → List ℕ → Result (Unit {0}) Fault
check holds code line word = if holds then Ok tt else fault code line word
