-- Tests of rows: walks over all rows, and the file of a plan.
use Rattle.std.proofs.Common.{◌≡◌, ◌⊎◌, inl, inr, ℕ, zero, suc, ◌≤◌, Bool, true, false, List, [], ◌∷◌, length, map, take, Option, Some, None, Result, Ok, Err, refl, ap, subst, arith}
use Rattle.std.specs.Option.{MatchOption}
use Rattle.std.specs.Prelude.{is_ok, IfOk, IfErr}
use Rattle.std.specs.List.{AllByRecursion}
use Rattle.plan_psplib.specs.declared.text.fault.FileFault.{FileFault}
use Rattle.plan_psplib.specs.declared.text.fault.FileCode.TheVariants as code
use Rattle.plan_psplib.specs.Faults.{IsWantOfMemory}
use Rattle.plan_psplib.specs.Project.{Project, SaysProject, IsFirstFailing}
use Rattle.plan_psplib.proofs.OnceLemmas.{said_fails_none}
use Rattle.plan_calendar.specs.WorkingDay.{Workdays}
use Rattle.plan_calendar.specs.CalendarText.{IsCalendar, RefusesTexts}
use Rattle.plan_calendar.specs.declared.calendar.CalendarFault.{CalendarFault}
use Rattle.plan_calendar.proofs.CalendarOnceLemmas.{texts_apart}
use Rattle.plan_rows.specs.declared.kinds.PlanKind.{PlanKind}
use Rattle.plan_rows.specs.declared.kinds.PlanKind.TheVariants as kinds
use Rattle.plan_rows.specs.declared.row_tests.files.PlanFile.{PlanFile}
use Rattle.plan_rows.specs.World.{Text, Plan}
use Rattle.plan_rows.specs.Plans.{HasPlaces}
use Rattle.plan_rows.specs.Rules.{AllDiffer, HasCalendar}
use Rattle.plan_rows.specs.RowTests.{Tells, GivesFile, GivesNone, HasHead, PlanTold}

module _ {R A : Type 0} (g : R → A) (alike : A → A → Bool) where
  all_seen : (x : R) (rows : List R) → AllByRecursion (λ y. alike (g x) (g y) ≡ false) rows → AllByRecursion (λ y. alike (g x) y ≡ false) (map g rows)
  all_seen x [] all = tt
  all_seen x (y ∷ ys) all = (all.0, all_seen x ys all.1)

  all_under : (x : R) (rows : List R) → AllByRecursion (λ y. alike (g x) y ≡ false) (map g rows) → AllByRecursion (λ y. alike (g x) (g y) ≡ false) rows
  all_under x [] all = tt
  all_under x (y ∷ ys) all = (all.0, all_under x ys all.1)

  -- rows differ if the rows that they stand for do
  pub differ_seen : (rows : List R) → AllDiffer (λ a b. alike (g a) (g b)) rows → AllDiffer alike (map g rows)
  differ_seen [] apart = tt
  differ_seen (x ∷ xs) apart = (all_seen x xs apart.0, differ_seen xs apart.1)

  -- and the reverse
  pub differ_under : (rows : List R) → AllDiffer alike (map g rows) → AllDiffer (λ a b. alike (g a) (g b)) rows
  differ_under [] apart = tt
  differ_under (x ∷ xs) apart = (all_under x xs apart.0, differ_under xs apart.1)

-- ---- tests

pub tells_same : {P Q : Type 0} → (P → Q) → (Q → P) → (b : Bool) → Tells b P → Tells b Q
tells_same to back true p = to p
tells_same to back false none = λ q. none (back q)

-- a calendar is rejected only if no calendar has its texts
pub tells_calendar : (start days : Text) (r : Result Workdays CalendarFault) → ¬ (start ≡ [])
    → IfOk r (IsCalendar start days) → IfErr r (RefusesTexts start days) → Tells (is_ok r) (HasCalendar start days)
tells_calendar start days (Ok c) some good refused = inr (c, good)
tells_calendar start days (Err fault) some good refused = never
  where
    never : HasCalendar start days → ⊥
    never (inl both) = some both.0
    never (inr cal) = texts_apart start days cal.0 fault cal.1 refused

-- a project file that fails, but not for lack of memory
pub project_unsaid : (text : Text) (fault : FileFault) → IsWantOfMemory fault ⊎ IsFirstFailing text fault → ¬ (fault.code ≡ code.Memory)
    → (p : Project) → SaysProject text p → ⊥
project_unsaid text fault (inl want) other p said = other want.0
project_unsaid text fault (inr failing) other p said = said_fails_none text p fault said failing

no_places : (kind : PlanKind) (name body : Text) (count : ℕ) → GivesNone kind name body → HasPlaces kind name body count → ⊥
no_places kinds.Project name body count none has = none has.0 has.1
no_places kinds.Shop name body count none has = none has.0 has.1

-- the places of a file that is given
pub has_places : (kind : PlanKind) (name body : Text) (file : PlanFile) → GivesFile kind name body file → HasPlaces kind name body file.places
has_places kinds.Project name body file (p, said, count, network) = (p, said, count)
has_places kinds.Shop name body file (doc, said, count, network) = (doc, said, count)

-- a plan with its file
pub plan_told : (plan : Plan) (file : Option PlanFile) → HasHead plan
    → MatchOption file (GivesNone plan.kind plan.name plan.body) (GivesFile plan.kind plan.name plan.body) → PlanTold plan file
plan_told plan None head none = λ row. no_places plan.kind plan.name plan.body row.reads.0 none row.reads.1
plan_told plan (Some file) head gives =
    (record { number = head.0; name = head.1; reads = (file.places, has_places plan.kind plan.name plan.body file gives); calendar = head.2 }, gives)

-- the fact that a test shows by true
pub tells_true : {b : Bool} (P : Type 0) → b ≡ true → Tells b P → P
tells_true P e t = subst (λ b. Tells b P) e t

-- the fact that a test shows by false
pub tells_false : {b : Bool} (P : Type 0) → b ≡ false → Tells b P → P → ⊥
tells_false P e t = subst (λ b. Tells b P) e t

-- the same for a reading that may run out of memory
pub plan_read : {E : Type 0} (plan : Plan) (r : Result (Option PlanFile) E) → HasHead plan
    → IfOk r (λ file. MatchOption file (GivesNone plan.kind plan.name plan.body) (GivesFile plan.kind plan.name plan.body)) → IfOk r (PlanTold plan)
plan_read plan (Ok file) head told = plan_told plan file head told
plan_read plan (Err e) head told = tt

module _ {A : Type 0} where
  -- as many as there are, or more
  pub take_all : (k : ℕ) (xs : List A) → length xs ≤ k → take k xs ≡ xs
  take_all zero [] low = refl
  take_all (suc k) [] low = refl
  take_all zero (x ∷ xs) low = absurd (omega (arith, low))
  take_all (suc k) (x ∷ xs) low = ap (λ l. x ∷ l) (take_all k xs (omega (arith, low)))
