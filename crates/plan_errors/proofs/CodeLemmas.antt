-- The names of codes are texts, and all codes are listed. Written by docs/entries from
-- docs/errors.md.
use Rattle.std.proofs.Common.{◌≡◌, ℕ, List, [], ◌∷◌, All, Option, None, Some, IfNone, refl, sym, subst, codes, arith}
use Rattle.std.specs.Str.{IsUtf8}
use lib.Utf8.{encode}
use Rattle.plan_errors.specs.Codes.{name_of}
use Rattle.plan_errors.specs.declared.codes.Code.{Code}
use Rattle.plan_errors.specs.declared.codes.Code.TheVariants as code

name_is_text : (code : Code) → IsUtf8 (name_of code)
unfolding encode
name_is_text code.TooLong = (codes "F1", (refl, refl))
name_is_text code.NotText = (codes "F2", (refl, refl))
name_is_text code.MissingHead = (codes "F3", (refl, refl))
name_is_text code.Unsupported = (codes "F4", (refl, refl))
name_is_text code.MissingSection = (codes "F5", (refl, refl))
name_is_text code.BadNumber = (codes "F6", (refl, refl))
name_is_text code.JobOrder = (codes "F7", (refl, refl))
name_is_text code.Modes = (codes "F8", (refl, refl))
name_is_text code.Count = (codes "F9", (refl, refl))
name_is_text code.Limit = (codes "F10", (refl, refl))
name_is_text code.Double = (codes "F11", (refl, refl))
name_is_text code.Cycle = (codes "F12", (refl, refl))
name_is_text code.NoInstance = (codes "F13", (refl, refl))
name_is_text code.BadMachine = (codes "F14", (refl, refl))
name_is_text code.LongTable = (codes "T1", (refl, refl))
name_is_text code.NoTableText = (codes "T2", (refl, refl))
name_is_text code.NoDurations = (codes "T3", (refl, refl))
name_is_text code.ColumnTwice = (codes "T4", (refl, refl))
name_is_text code.BadDuration = (codes "T5", (refl, refl))
name_is_text code.BadId = (codes "T6", (refl, refl))
name_is_text code.IdTwice = (codes "T7", (refl, refl))
name_is_text code.NoPredecessor = (codes "T8", (refl, refl))
name_is_text code.BadNeed = (codes "T9", (refl, refl))
name_is_text code.NoCapacity = (codes "T10", (refl, refl))
name_is_text code.TableCycle = (codes "T11", (refl, refl))
name_is_text code.TableLimit = (codes "T12", (refl, refl))
name_is_text code.BadCells = (codes "T13", (refl, refl))
name_is_text code.NoListResource = (codes "T14", (refl, refl))
name_is_text code.ManySteps = (codes "T15", (refl, refl))
name_is_text code.SuccessorColumn = (codes "T16", (refl, refl))
name_is_text code.NoToday = (codes "T17", (refl, refl))
name_is_text code.Workbook = (codes "T18", (refl, refl))
name_is_text code.HighNeed = (codes "T19", (refl, refl))
name_is_text code.BadInstant = (codes "T20", (refl, refl))
name_is_text code.BadDates = (codes "T21", (refl, refl))
name_is_text code.NeedsTooMuch = (codes "S1", (refl, refl))
name_is_text code.UnknownRule = (codes "S3", (refl, refl))
name_is_text code.MachineClosed = (codes "S4", (refl, refl))
name_is_text code.TooLarge = (codes "S5", (refl, refl))
name_is_text code.BadBudget = (codes "S6", (refl, refl))
name_is_text code.BadNodes = (codes "S7", (refl, refl))
name_is_text code.NoResource = (codes "S8", (refl, refl))
name_is_text code.LateEnd = (codes "S9", (refl, refl))
name_is_text code.Infeasible = (codes "S10", (refl, refl))
name_is_text code.Overload = (codes "S11", (refl, refl))
name_is_text code.NoPlan = (codes "S12", (refl, refl))
name_is_text code.NoneFound = (codes "S13", (refl, refl))
name_is_text code.BadDate = (codes "G1", (refl, refl))
name_is_text code.BadDays = (codes "G2", (refl, refl))
name_is_text code.BeyondCalendar = (codes "G3", (refl, refl))
name_is_text code.NoCalendar = (codes "G4", (refl, refl))
name_is_text code.BadHoliday = (codes "G5", (refl, refl))
name_is_text code.ManyHolidays = (codes "G6", (refl, refl))
name_is_text code.BadHours = (codes "G7", (refl, refl))
name_is_text code.DoesNotFollow = (codes "V1", (refl, refl))
name_is_text code.BadLogLine = (codes "V2", (refl, refl))
name_is_text code.UnknownCode = (codes "C1", (refl, refl))
name_is_text code.BadMessage = (codes "H1", (refl, refl))
name_is_text code.LargeBody = (codes "H2", (refl, refl))
name_is_text code.Coding = (codes "H3", (refl, refl))
name_is_text code.NoRoute = (codes "H4", (refl, refl))
name_is_text code.OtherMethod = (codes "H5", (refl, refl))
name_is_text code.WrongKey = (codes "E01", (refl, refl))
name_is_text code.NotFound = (codes "E02", (refl, refl))
name_is_text code.BadBody = (codes "E03", (refl, refl))
name_is_text code.DeskExists = (codes "E04", (refl, refl))
name_is_text code.NotPublished = (codes "E05", (refl, refl))
name_is_text code.KindDiffers = (codes "E06", (refl, refl))
name_is_text code.OtherPlan = (codes "E07", (refl, refl))
name_is_text code.ManyPlans = (codes "E08", (refl, refl))
name_is_text code.NumbersSpent = (codes "E09", (refl, refl))
name_is_text code.BadFile = (codes "E10", (refl, refl))
name_is_text code.NoSchedule = (codes "E11", (refl, refl))
name_is_text code.BadCalendar = (codes "E12", (refl, refl))
name_is_text code.NotOurs = (codes "K1", (refl, refl))
name_is_text code.Version = (codes "K2", (refl, refl))
name_is_text code.NoKey = (codes "K3", (refl, refl))
name_is_text code.NoMemory = (codes "E90", (refl, refl))
name_is_text code.StoreRefused = (codes "E91", (refl, refl))
name_is_text code.Input = (codes "I1", (refl, refl))
name_is_text code.Socket = (codes "I2", (refl, refl))
name_is_text code.Output = (codes "I3", (refl, refl))

-- all codes
abbrev all : List Code
all =
    code.TooLong ∷
    code.NotText ∷
    code.MissingHead ∷
    code.Unsupported ∷
    code.MissingSection ∷
    code.BadNumber ∷
    code.JobOrder ∷
    code.Modes ∷
    code.Count ∷
    code.Limit ∷
    code.Double ∷
    code.Cycle ∷
    code.NoInstance ∷
    code.BadMachine ∷
    code.LongTable ∷
    code.NoTableText ∷
    code.NoDurations ∷
    code.ColumnTwice ∷
    code.BadDuration ∷
    code.BadId ∷
    code.IdTwice ∷
    code.NoPredecessor ∷
    code.BadNeed ∷
    code.NoCapacity ∷
    code.TableCycle ∷
    code.TableLimit ∷
    code.BadCells ∷
    code.NoListResource ∷
    code.ManySteps ∷
    code.SuccessorColumn ∷
    code.NoToday ∷
    code.Workbook ∷
    code.HighNeed ∷
    code.BadInstant ∷
    code.BadDates ∷
    code.NeedsTooMuch ∷
    code.UnknownRule ∷
    code.MachineClosed ∷
    code.TooLarge ∷
    code.BadBudget ∷
    code.BadNodes ∷
    code.NoResource ∷
    code.LateEnd ∷
    code.Infeasible ∷
    code.Overload ∷
    code.NoPlan ∷
    code.NoneFound ∷
    code.BadDate ∷
    code.BadDays ∷
    code.BeyondCalendar ∷
    code.NoCalendar ∷
    code.BadHoliday ∷
    code.ManyHolidays ∷
    code.BadHours ∷
    code.DoesNotFollow ∷
    code.BadLogLine ∷
    code.UnknownCode ∷
    code.BadMessage ∷
    code.LargeBody ∷
    code.Coding ∷
    code.NoRoute ∷
    code.OtherMethod ∷
    code.WrongKey ∷
    code.NotFound ∷
    code.BadBody ∷
    code.DeskExists ∷
    code.NotPublished ∷
    code.KindDiffers ∷
    code.OtherPlan ∷
    code.ManyPlans ∷
    code.NumbersSpent ∷
    code.BadFile ∷
    code.NoSchedule ∷
    code.BadCalendar ∷
    code.NotOurs ∷
    code.Version ∷
    code.NoKey ∷
    code.NoMemory ∷
    code.StoreRefused ∷
    code.Input ∷
    code.Socket ∷
    code.Output ∷
    []

-- a text that differs from the names of all listed codes is the name of no code
not_named : (name : List ℕ) → All (λ code. name ≡ name_of code → ⊥) all
    → (code : Code) → name ≡ name_of code → ⊥
not_named name none code.TooLong = none 0 code.TooLong (omega arith)
not_named name none code.NotText = none 1 code.NotText (omega arith)
not_named name none code.MissingHead = none 2 code.MissingHead (omega arith)
not_named name none code.Unsupported = none 3 code.Unsupported (omega arith)
not_named name none code.MissingSection = none 4 code.MissingSection (omega arith)
not_named name none code.BadNumber = none 5 code.BadNumber (omega arith)
not_named name none code.JobOrder = none 6 code.JobOrder (omega arith)
not_named name none code.Modes = none 7 code.Modes (omega arith)
not_named name none code.Count = none 8 code.Count (omega arith)
not_named name none code.Limit = none 9 code.Limit (omega arith)
not_named name none code.Double = none 10 code.Double (omega arith)
not_named name none code.Cycle = none 11 code.Cycle (omega arith)
not_named name none code.NoInstance = none 12 code.NoInstance (omega arith)
not_named name none code.BadMachine = none 13 code.BadMachine (omega arith)
not_named name none code.LongTable = none 14 code.LongTable (omega arith)
not_named name none code.NoTableText = none 15 code.NoTableText (omega arith)
not_named name none code.NoDurations = none 16 code.NoDurations (omega arith)
not_named name none code.ColumnTwice = none 17 code.ColumnTwice (omega arith)
not_named name none code.BadDuration = none 18 code.BadDuration (omega arith)
not_named name none code.BadId = none 19 code.BadId (omega arith)
not_named name none code.IdTwice = none 20 code.IdTwice (omega arith)
not_named name none code.NoPredecessor = none 21 code.NoPredecessor (omega arith)
not_named name none code.BadNeed = none 22 code.BadNeed (omega arith)
not_named name none code.NoCapacity = none 23 code.NoCapacity (omega arith)
not_named name none code.TableCycle = none 24 code.TableCycle (omega arith)
not_named name none code.TableLimit = none 25 code.TableLimit (omega arith)
not_named name none code.BadCells = none 26 code.BadCells (omega arith)
not_named name none code.NoListResource = none 27 code.NoListResource (omega arith)
not_named name none code.ManySteps = none 28 code.ManySteps (omega arith)
not_named name none code.SuccessorColumn = none 29 code.SuccessorColumn (omega arith)
not_named name none code.NoToday = none 30 code.NoToday (omega arith)
not_named name none code.Workbook = none 31 code.Workbook (omega arith)
not_named name none code.HighNeed = none 32 code.HighNeed (omega arith)
not_named name none code.BadInstant = none 33 code.BadInstant (omega arith)
not_named name none code.BadDates = none 34 code.BadDates (omega arith)
not_named name none code.NeedsTooMuch = none 35 code.NeedsTooMuch (omega arith)
not_named name none code.UnknownRule = none 36 code.UnknownRule (omega arith)
not_named name none code.MachineClosed = none 37 code.MachineClosed (omega arith)
not_named name none code.TooLarge = none 38 code.TooLarge (omega arith)
not_named name none code.BadBudget = none 39 code.BadBudget (omega arith)
not_named name none code.BadNodes = none 40 code.BadNodes (omega arith)
not_named name none code.NoResource = none 41 code.NoResource (omega arith)
not_named name none code.LateEnd = none 42 code.LateEnd (omega arith)
not_named name none code.Infeasible = none 43 code.Infeasible (omega arith)
not_named name none code.Overload = none 44 code.Overload (omega arith)
not_named name none code.NoPlan = none 45 code.NoPlan (omega arith)
not_named name none code.NoneFound = none 46 code.NoneFound (omega arith)
not_named name none code.BadDate = none 47 code.BadDate (omega arith)
not_named name none code.BadDays = none 48 code.BadDays (omega arith)
not_named name none code.BeyondCalendar = none 49 code.BeyondCalendar (omega arith)
not_named name none code.NoCalendar = none 50 code.NoCalendar (omega arith)
not_named name none code.BadHoliday = none 51 code.BadHoliday (omega arith)
not_named name none code.ManyHolidays = none 52 code.ManyHolidays (omega arith)
not_named name none code.BadHours = none 53 code.BadHours (omega arith)
not_named name none code.DoesNotFollow = none 54 code.DoesNotFollow (omega arith)
not_named name none code.BadLogLine = none 55 code.BadLogLine (omega arith)
not_named name none code.UnknownCode = none 56 code.UnknownCode (omega arith)
not_named name none code.BadMessage = none 57 code.BadMessage (omega arith)
not_named name none code.LargeBody = none 58 code.LargeBody (omega arith)
not_named name none code.Coding = none 59 code.Coding (omega arith)
not_named name none code.NoRoute = none 60 code.NoRoute (omega arith)
not_named name none code.OtherMethod = none 61 code.OtherMethod (omega arith)
not_named name none code.WrongKey = none 62 code.WrongKey (omega arith)
not_named name none code.NotFound = none 63 code.NotFound (omega arith)
not_named name none code.BadBody = none 64 code.BadBody (omega arith)
not_named name none code.DeskExists = none 65 code.DeskExists (omega arith)
not_named name none code.NotPublished = none 66 code.NotPublished (omega arith)
not_named name none code.KindDiffers = none 67 code.KindDiffers (omega arith)
not_named name none code.OtherPlan = none 68 code.OtherPlan (omega arith)
not_named name none code.ManyPlans = none 69 code.ManyPlans (omega arith)
not_named name none code.NumbersSpent = none 70 code.NumbersSpent (omega arith)
not_named name none code.BadFile = none 71 code.BadFile (omega arith)
not_named name none code.NoSchedule = none 72 code.NoSchedule (omega arith)
not_named name none code.BadCalendar = none 73 code.BadCalendar (omega arith)
not_named name none code.NotOurs = none 74 code.NotOurs (omega arith)
not_named name none code.Version = none 75 code.Version (omega arith)
not_named name none code.NoKey = none 76 code.NoKey (omega arith)
not_named name none code.NoMemory = none 77 code.NoMemory (omega arith)
not_named name none code.StoreRefused = none 78 code.StoreRefused (omega arith)
not_named name none code.Input = none 79 code.Input (omega arith)
not_named name none code.Socket = none 80 code.Socket (omega arith)
not_named name none code.Output = none 81 code.Output (omega arith)

-- the same for what is found among all codes
pub not_parsed : (name : List ℕ) (found : Option Code)
    → IfNone found (All (λ code. name ≡ name_of code → ⊥) all)
    → IfNone found ((code : Code) → name ≡ name_of code → ⊥)
not_parsed name None none = not_named name none
not_parsed name (Some found) none = none

-- bytes that aren't UTF-8 aren't the name of a code
pub no_name : (bytes : List ℕ) → ¬ (IsUtf8 bytes) → (code : Code) → bytes ≡ name_of code → ⊥
no_name bytes no_text code e = no_text (subst IsUtf8 (sym e) (name_is_text code))
