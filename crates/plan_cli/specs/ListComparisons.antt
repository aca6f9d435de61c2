-- The output of `plan compare` with an old list for the bytes that it reads (docs/definitions.md,
-- "Runs").
use Rattle.std.specs.Prelude.{◌≡◌, ◌⊎◌, ℕ, Bool, true, false, List, [], ◌∷◌, ◌++◌, codes}
use Rattle.plan_report.specs.StartsText.{SaysStarts}
use Rattle.plan_table.specs.Names.{Name}
use Rattle.plan_formats.specs.Tables.{Table}
use Rattle.plan_formats.specs.TableText.{text_of}
use Rattle.plan_views.specs.IdComparisons.{id_starts, id_comparison_of}
use Rattle.plan_documents.specs.Documents.{IsOfSubject, RefusesSubject, sheet_of}
use Rattle.plan_documents.specs.Lists.{ReadsAs, RefusesReading}
use Rattle.plan_documents.specs.declared.documents.Plan.{Plan}
use Rattle.plan_documents.specs.declared.documents.Plan.TheVariants as plan
use Rattle.plan_documents.specs.declared.documents.Subject.{Subject}
use Rattle.plan_cli.specs.CompareRun.{TellsNoStartsOf, named_line}
use Rattle.plan_cli.specs.Views.{View, listing}

-- the ids of a plan's activities; a job shop has none
abbrev pub ids_of : Plan → List Name
ids_of (plan.Project i ids) = ids
ids_of (plan.Shop s) = []

-- whether there are ids
abbrev pub are_some : List Name → Bool
are_some [] = false
are_some (id ∷ ids) = true

-- the comparison of the schedules of two plans, the old one first, by the ids of their activities
abbrev pub list_comparison : Plan → Plan → List ℕ → List ℕ → Table
list_comparison before after a b =
    id_comparison_of (id_starts (ids_of before) a) (id_starts (ids_of after) b)

-- Two plans have ids. Two texts say the starts of their schedules, which a table compares.
pub record ComparesPlans (first second : List ℕ) (after before : Plan) (t : Table) : Type 0 where
  pub new_ids : are_some (ids_of after) ≡ true
  pub old_ids : are_some (ids_of before) ≡ true
  pub a : List ℕ
  pub said_a : SaysStarts (sheet_of before) first a
  pub b : List ℕ
  pub said_b : SaysStarts (sheet_of after) second b
  pub shown : t ≡ list_comparison before after a b

-- the same as a value, and as a text
abbrev pub IsPlansView : List ℕ → List ℕ → Plan → Plan → View → Type 0
IsPlansView first second after before view =
    (t : Table) × ComparesPlans first second after before t × (view ≡ listing t)

abbrev pub ArePlansCompared : List ℕ → List ℕ → Plan → Plan → List ℕ → Type 0
ArePlansCompared first second after before bytes =
    (t : Table) × ComparesPlans first second after before t × (bytes ≡ text_of t)

-- a value compares the schedules of a plan and of that in an old file, which may be a list
abbrev pub IsListsView : Subject → List ℕ → List ℕ → List ℕ → Plan → View → Type 0
IsListsView of old first second after view = ReadsAs of old
    (λ kind s text. IsOfSubject s (IsPlansView first second after) text view)

-- the same for a text
abbrev pub AreListsCompared : Subject → List ℕ → List ℕ → List ℕ → Plan → List ℕ → Type 0
AreListsCompared of old first second after bytes = ReadsAs of old
    (λ kind s text. IsOfSubject s (ArePlansCompared first second after) text bytes)

-- a line reports that a plan has no ids
abbrev pub TellsNoIds : List ℕ → Plan → List ℕ → Type 0
TellsNoIds words p line = (are_some (ids_of p) ≡ false) × (line ≡ codes "T3" ++ 32 ∷ words)

-- a line gives the first check that the starts of the old plan fail, or else those of the new one
abbrev pub TellsNoBoth : List ℕ → List ℕ → Plan → Plan → List ℕ → Type 0
TellsNoBoth first second after before line =
    TellsNoStartsOf (codes "A") (sheet_of before) first line
    ⊎ ((a : List ℕ) × SaysStarts (sheet_of before) first a
    × TellsNoStartsOf (codes "B") (sheet_of after) second line)

-- a line refuses two plans: the old one has no ids, or else the starts of one are refused
abbrev pub TellsNoPlans : List ℕ → List ℕ → Plan → Plan → List ℕ → Type 0
TellsNoPlans first second after before line =
    TellsNoIds (codes "no column id of the old list") before line
    ⊎ TellsNoBoth first second after before line

-- the words behind an error line of the old file
abbrev pub old_words : List ℕ
old_words = codes "of the old list"

-- a line is such a one of the old file, with these words behind it
abbrev pub IsOldLine : (List ℕ → Type 0) → List ℕ → Type 0
IsOldLine IsLine line = (plain : List ℕ) × IsLine plain × (line ≡ named_line old_words plain)

-- a line gives the error of the project or the job shop in the old file, or else refuses both plans
abbrev pub TellsNoOld : Subject → List ℕ → List ℕ → List ℕ → Plan → List ℕ → Type 0
TellsNoOld s text first second after line =
    IsOldLine (RefusesSubject s (λ before none. ⊥) text) line
    ⊎ IsOfSubject s (TellsNoPlans first second after) text line

-- a line refuses the comparison of a plan and an old file: the plan has no ids, or else the old file
-- is a list with an error, or else it is refused
abbrev pub TellsNoLists : Subject → List ℕ → List ℕ → List ℕ → Plan → List ℕ → Type 0
TellsNoLists of old first second after line = TellsNoIds (codes "no column id") after line
    ⊎ (IsOldLine (RefusesReading of old) line
    ⊎ ReadsAs of old (λ kind s text. TellsNoOld s text first second after line))
