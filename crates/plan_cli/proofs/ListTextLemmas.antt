-- The list of a file with the times of its activities.
use Rattle.std.proofs.Common.{◌≡◌, ◌⊎◌, ◌≤◌, inl, inr, ℕ, List, [], Option, Some, None, Result, Ok, Err, length, refl, sym, subst}
use Rattle.std.specs.Prelude.{IfOk, IfErr}
use Rattle.std.proofs.lemmas.Option.{none-some}
use Rattle.plan_errors.specs.Output.{Refuses}
use Rattle.plan_errors.specs.declared.fault.CliFault.{CliFault}
use Rattle.plan_psplib.specs.Plain.{longest_text}
use Rattle.plan_calendar.specs.WorkingDay.{Workdays}
use Rattle.plan_sgs.specs.Instances.{Planned}
use Rattle.plan_spreadsheet.specs.Options.{Options}
use Rattle.plan_spreadsheet.specs.declared.options.Options as kept
use Rattle.plan_table.specs.Names.{Name}
use Rattle.plan_table.specs.ProjectText.{project_text}
use Rattle.plan_table.specs.Table.{Table}
use Rattle.plan_list_back.specs.ListBack.{IsReadAs}
use Rattle.plan_documents.specs.Documents.{RefusesSubject}
use Rattle.plan_documents.specs.ListOptions.{IsPrepared, RefusesOfPrepared}
use Rattle.plan_documents.specs.Lists.{RefusesReading}
use Rattle.plan_documents.specs.declared.documents.Plan.{Plan}
use Rattle.plan_documents.specs.declared.documents.Plan.TheVariants as plan
use Rattle.plan_documents.specs.declared.documents.Subject.{Subject}
use Rattle.plan_documents.proofs.ErrorLemmas.{refuses_as}
use Rattle.plan_cli.specs.DaysRun.{TellsBeyond}
use Rattle.plan_cli.specs.ListRun.{HidesTimes, IsCalendarOf, IsTimed, IsTimedList, RefusesShort, TellsDayBeyond, TellsNoList, TellsNoTimes, options_in}
use Rattle.plan_cli.specs.ListTimes.{HasDayBeyond}
use Rattle.plan_cli.specs.Scheduled.{IsScheduleFrom}
use Rattle.plan_cli.specs.declared.calendars.Dates.{Dates}
use Rattle.plan_cli.specs.declared.origins.Origin.{Origin}
use Rattle.plan_cli.proofs.PreparedLemmas.{refuse_prepared}

-- the error of the text that is read of a list
pub list_refused : (o : Option kept.Options) (of : Subject) (file text read : List ℕ) (e : CliFault) → read ≡ text → IsPrepared o [] file text
    → Refuses (RefusesReading of read) e → Refuses (λ line. TellsNoList line ⊎ RefusesOfPrepared o [] (RefusesReading of) file line) e
list_refused o of file text read e same is told =
    refuses_as (RefusesOfPrepared o [] (RefusesReading of) file) (λ line. TellsNoList line ⊎ RefusesOfPrepared o [] (RefusesReading of) file line) e
    (λ line tells. inr tells) (refuse_prepared o [] [] file text read (RefusesReading of) e refl same is told)

-- the error of a day after the last date
pub beyond_told : (dates : Option Dates) (calendar : Option Workdays) (t : Table) (starts line : List ℕ) → IsCalendarOf dates calendar
    → TellsBeyond (HasDayBeyond calendar t starts) line → TellsDayBeyond dates t starts line
beyond_told None (Some calendar) t starts line made told = absurd (none-some calendar (sym made))
beyond_told None None t starts line made ((k, a, at, beyond), told) = absurd beyond
beyond_told (Some dates) calendar t starts line (c, dated, same) (beyond, told) =
    ((c, dated, subst (λ (days : Option Workdays). HasDayBeyond days t starts) same beyond), told)

-- the times of a plan's schedule have a day after the last date
hides_beyond : (from : Origin) (dates : Option Dates) (t : Table) (p : Plan) (starts line : List ℕ) (calendar : Option Workdays)
    → IsScheduleFrom from p starts → IsCalendarOf dates calendar → TellsBeyond (HasDayBeyond calendar t starts) line → HidesTimes from dates t p line
hides_beyond from dates t p starts line calendar schedule dated told = record {
  starts = starts;
  schedule = schedule;
  hidden = inr (inr (beyond_told dates calendar t starts line dated told));
}

pub times_beyond : (from : Origin) (dates : Option Dates) (t : Table) (p : Plan) (i : Planned) (ids : List Name) (starts own : List ℕ)
    (calendar days : Option Workdays) (e : CliFault)
    → p ≡ plan.Project i ids → IsScheduleFrom from p starts → own ≡ starts → IsCalendarOf dates calendar → days ≡ calendar
    → Refuses (TellsBeyond (HasDayBeyond days t own)) e → Refuses (TellsNoTimes from dates t p) e
times_beyond from dates t p i ids starts own calendar days e is schedule same dated one told =
    let here : IsScheduleFrom from (plan.Project i ids) own =
    subst (λ (q : Plan). IsScheduleFrom from q own) is (subst (λ (s : List ℕ). IsScheduleFrom from p s) (sym same) schedule) in
    let at : IsCalendarOf dates days = subst (IsCalendarOf dates) (sym one) dated in
    subst (λ (q : Plan). Refuses (TellsNoTimes from dates t q) e) (sym is)
    (refuses_as (TellsBeyond (HasDayBeyond days t own)) (TellsNoTimes from dates t (plan.Project i ids)) e
    (λ line tells. inr (hides_beyond from dates t (plan.Project i ids) own line days here at tells)) told)

-- the error of the project file of a table
pub table_refused : (from : Origin) (dates : Option Dates) (of : Subject) (t : Table) (text made : List ℕ) (e : CliFault) → made ≡ text
    → Refuses (RefusesSubject of (TellsNoTimes from dates t) made) e
    → Refuses (λ line. TellsNoList line ⊎ RefusesSubject of (TellsNoTimes from dates t) text line) e
table_refused from dates of t text made e same told =
    refuses_as (RefusesSubject of (TellsNoTimes from dates t) made) (λ line. TellsNoList line ⊎ RefusesSubject of (TellsNoTimes from dates t) text line) e
    (λ line tells. inr (subst (λ (bytes : List ℕ). RefusesSubject of (TellsNoTimes from dates t) bytes line) same tells)) told

-- the list of a table is that of the file
pub timed_whole : {X E : Type 0} (view : X → List ℕ) (result : Result X E) (from : Origin) (dates : Option Dates) (of : Subject)
    (o : Option kept.Options) (own : Options) (file : List ℕ) (t : Table) → length file ≤ longest_text → own ≡ options_in o → IsReadAs own [] file t
    → IfOk result (λ x. IsTimed from dates of own file t (view x)) → IfOk result (λ x. IsTimedList from dates of o file (view x))
timed_whole view (Err e) from dates of o own file t short same read timed = tt
timed_whole view (Ok x) from dates of o own file t short same read timed = record {
  short = short;
  table = t;
  read = subst (λ (p : Options). IsReadAs p [] file t) same read;
  timed = subst (λ (p : Options). IsTimed from dates of p file t (view x)) same timed;
}

-- the error of a table is that of the file
pub untimed_whole : {X : Type 0} (result : Result X CliFault) (from : Origin) (dates : Option Dates) (of : Subject)
    (o : Option kept.Options) (own : Options) (file : List ℕ) (t : Table) → own ≡ options_in o → IsReadAs own [] file t
    → IfErr result (Refuses (λ line. TellsNoList line ⊎ RefusesSubject of (TellsNoTimes from dates t) (project_text t) line))
    → IfErr result (Refuses (λ line. TellsNoList line ⊎ RefusesShort from dates of o file line))
untimed_whole (Ok x) from dates of o own file t same read told = tt
untimed_whole (Err e) from dates of o own file t same read told =
    refuses_as (λ line. TellsNoList line ⊎ RefusesSubject of (TellsNoTimes from dates t) (project_text t) line)
    (λ line. TellsNoList line ⊎ RefusesShort from dates of o file line) e whole told
  where
    whole : (line : List ℕ) → TellsNoList line ⊎ RefusesSubject of (TellsNoTimes from dates t) (project_text t) line
        → TellsNoList line ⊎ RefusesShort from dates of o file line
    whole line (inl tells) = inl tells
    whole line (inr tells) = inr (inr (t, subst (λ (p : Options). IsReadAs p [] file t) same read, tells))
