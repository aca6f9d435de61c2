-- Worked examples of an office on the file of a project, computed from the definitions: imports,
-- binds, lags, dates, calendars, keys, and a run.
use Rattle.std.proofs.Common.{◌≡◌, ℕ, zero, suc, ◌∙◌, true, false, Bool, List, [], ◌∷◌, ◌≤◌, ◌<◌, ◌⊎◌, All, Option, Some, Ok, Err, codes, inl, inr, refl, sym, ap, subst, arith, pos}
use Rattle.std.specs.Prelude.{slice_index, nat_eq, ◌-◌, ◌+◌}
use Rattle.std.specs.List.{list_any, Contains}
use Rattle.std.proofs.lemmas.Bool.{both_ways}
use Rattle.std.specs.Fmt.{digits}
use Rattle.std.specs.Str.{is_utf8, chars}
use Rattle.sha2.specs.Sha256.{sha256}
use Rattle.serde_json.proofs.OnLiterals.{serde_json_on_literals}
use Rattle.jiff_core.specs.Calendar.{days_in_month}
use Rattle.jiff_core.specs.declared.civil.date.Date.{Date}
use Rattle.plan_net.specs.Network.{Net, IsArc, IsActivity, IsGreatest, IsLeast, lag_of}
use Rattle.plan_net.specs.Path.{IsAcyclic, IsPath, last_of, path_length}
use Rattle.plan_net.specs.Limits.{IsSound, HasGoodDurations, HasGoodArcs, HasNewArcs, HasGoodLags}
use Rattle.plan_psplib.specs.declared.text.fault.FileFault.{FileFault}
use Rattle.plan_psplib.specs.declared.text.fault.FileCode.TheVariants as file_code
use Rattle.plan_psplib.specs.Document.{Document, document}
use Rattle.plan_psplib.specs.Plain.{plain}
use Rattle.plan_psplib.specs.Head.{found_lines, values, sizes_in, sizes}
use Rattle.plan_psplib.specs.Precedence.{job_at, successor_at, successors_at, precedence_row_at, precedence_rows_at, precedence}
use Rattle.plan_psplib.specs.Tokens.{number_at, expect_at, within_at, limited, limited_at, end_at, duration_at}
use Rattle.plan_psplib.specs.Requests.{amounts_at, request_row_at, request_rows_at, requests, availabilities}
use Rattle.plan_psplib.specs.Says.{Says}
use Rattle.plan_psplib.specs.Project as files
use Rattle.plan_psplib.proofs.SaysLemmas.{document_said}
use Rattle.plan_psplib.proofs.NetworkLemmas.{project_good}
use Rattle.plan_cpm.specs.Lengths.{IsLengthTo, IsLengthFrom, IsLength, AreFinishes, AreTails}
use Rattle.plan_cpm.specs.Dates.{DateTable, AreDates, IsSuccessorStart, early_finish_of, free_float_of}
use Rattle.plan_sgs.specs.declared.fault.SgsFault.TheVariants as sgs_fault
use Rattle.plan_sgs.specs.Problem.{IsTooMuch, IsFirstTooMuch}
use Rattle.plan_sgs.specs.Instances.{Planned, problem_of}
use Rattle.plan_gantt.specs.Column.{number_column}
use Rattle.plan_gantt.specs.DateTable.{date_line}
use Rattle.plan_gantt.specs.FaultText.{fault_text_by}
use Rattle.plan_gantt.specs.FirstFaults.{TellsFirstFailing}
use Rattle.plan_calendar.specs.declared.calendar.CalendarFault.TheVariants as calendar_fault
use Rattle.plan_calendar.specs.CalendarText.{IsCalendar, HasNoStart, HasNoMarks}
use Rattle.plan_calendar.proofs.TextLemmas.{same_parts, one_of}
use Rattle.plan_rows.specs.declared.kinds.Kind.TheVariants.{Crew, Machine}
use Rattle.plan_desk.specs.declared.reply.ReplyKind.TheVariants.{Plain, Json}
use Rattle.plan_rows.specs.declared.kinds.PlanKind.TheVariants.{Project}
use Rattle.plan_rows.specs.World.{Text, Plan, World}
use Rattle.plan_rows.specs.Views.{View, view}
use Rattle.plan_desk.specs.Bodies.{key_body, bind_body, calendar_body, lag_body}
use Rattle.plan_rows.specs.Changes.{Keep, SetKey, AddPlan, RemovePlan, BindPlace, SetCalendar, SetLag, apply}
use Rattle.plan_desk.specs.Calls.{Call, Request, Reply, admits}
use Rattle.plan_desk.specs.Calls as call
use Rattle.plan_desk.specs.Outcomes.{refuses, tells, shows, makes, unless, given, some, why_or}
use Rattle.plan_desk.specs.OfficeRoutes.{SetsKey}
use Rattle.plan_rows.specs.Plans.{bound_project}
use Rattle.plan_desk.specs.PlanRoutes.{of_plan, by_kind, Imports, ImportsProject, Removes, Binds, Calendars, SetsLag}
use Rattle.plan_desk.specs.PageRoutes.{Dates, OfSchedule, Schedules}
use Rattle.plan_desk.specs.Decisions.{IsDecision, IsRun}
use Rattle.plan_desk.proofs.Examples.{desk_row, bound, lagged, north, crew_a, office, asks, said, admitted, body_refused, published}

-- two activities, one before the other, and a resource of capacity 2
abbrev pair : List ℕ
pair = codes "projects: 1\njobs: 2\n- renewable: 1\n- nonrenewable: 0\n- doubly constrained: 0\nPRECEDENCE RELATIONS:\njobnr. #modes #successors successors\n1 1 1 2\n2 1 0\nREQUESTS/DURATIONS:\njobnr. mode duration R\n1 1 3 1\n2 1 4 2\nRESOURCEAVAILABILITIES:\nR\n2\n"

abbrev pair_document : Document
pair_document = record {
  requests = record { durations = 3 ∷ 4 ∷ []; needs = (1 ∷ []) ∷ (2 ∷ []) ∷ [] };
  arcs = (1, 2) ∷ [];
  available = 2 ∷ [];
  precedence_line = 6;
}

pair_read : document pair ≡ Ok pair_document
unfolding document plain found_lines values sizes_in sizes job_at successor_at successors_at precedence_row_at
    precedence_rows_at precedence number_at expect_at within_at limited limited_at end_at amounts_at
    duration_at request_row_at request_rows_at requests availabilities
pair_read = refl

pair_says : Says pair pair_document
pair_says = document_said pair pair_document pair_read

abbrev pair_project : files.Project
pair_project = files.project_of pair_document

abbrev pair_net : Net
pair_net = pair_project.network

-- its one arc leads from 1 to 2
pair_arc : (i j : ℕ) → Contains {X = ℕ × ℕ} ((1, 2) ∷ []) (i, j) → (i ≡ 1) × (j ≡ 2)
pair_arc i j (zero, within, is) = (ap (λ (p : ℕ × ℕ). p.0) (sym is), ap (λ (p : ℕ × ℕ). p.1) (sym is))
pair_arc i j (suc k, within, is) = absurd (omega (arith, within))

pair_acyclic : IsAcyclic pair_net
pair_acyclic i [] (path, some, ends) = absurd (omega (arith, some))
pair_acyclic i (j ∷ []) (path, some, ends) =
    let arc : (i ≡ 1) × (j ≡ 2) = pair_arc i j path.1.0 in absurd (omega (arith, arc.0, arc.1, ends))
pair_acyclic i (j ∷ k ∷ others) (path, some, ends) =
    let first : (i ≡ 1) × (j ≡ 2) = pair_arc i j path.1.0 in
    let second : (j ≡ 1) × (k ≡ 2) = pair_arc j k path.1.1.0 in
    absurd (omega (arith, first.1, second.0))

pair_durations : HasGoodDurations pair_net
pair_durations zero (low, high) = absurd (omega (arith, low))
pair_durations (suc zero) within = (omega arith, omega arith)
pair_durations (suc (suc zero)) within = (omega arith, omega arith)
pair_durations (suc (suc (suc j))) (low, high) = absurd (omega (arith, high))

pair_arcs : HasGoodArcs pair_net
pair_arcs zero d less = ((omega arith, omega arith), (omega arith, omega arith))
pair_arcs (suc k) d less = absurd (omega (arith, less))

pair_new_arcs : HasNewArcs pair_net
pair_new_arcs zero less arc is (m, within, same) = absurd (omega (arith, within))
pair_new_arcs (suc k) less arc is there = absurd (omega (arith, less))

pair_lags : HasGoodLags pair_net
pair_lags = (refl, no_lag)
  where
    no_lag : All (λ w. w ≤ 10000) pair_net.lags
    no_lag zero d less = omega arith
    no_lag (suc k) d less = absurd (omega (arith, less))

pair_sound : IsSound pair_net
pair_sound = record {
  limits = record {
    size = (omega arith, omega arith);
    durations = pair_durations;
    arcs = pair_arcs;
    new_arcs = pair_new_arcs;
    lags = pair_lags;
  };
  acyclic = pair_acyclic;
}

pair_is_said : files.SaysProject pair pair_project
pair_is_said = (pair_document, pair_says, refl, project_good pair pair_document pair_net pair_says refl pair_sound)

-- the plan of this file, at a desk that sees four codes
abbrev pair_plan : Plan
pair_plan = record { desk = north; n = 1; kind = Project; name = []; body = pair; start = []; days = [] }

abbrev desk_of_pair : View
desk_of_pair = record {
  office = [];
  published = published crew_a Crew 2 ∷ published (codes "crew-b") Crew 0 ∷ published (codes "m-1") Machine 1 ∷ [];
  desk = Some (desk_row north 2);
  plans = pair_plan ∷ [];
  binds = [];
  lags = [];
}

-- a project is imported with the desk's next number
project_imported : (key : Option Text) → admits desk_of_pair (asks key (call.import_project north pair)) ≡ true
    → IsDecision desk_of_pair (asks key (call.import_project north pair))
    (said 201 Json (codes "{\"kind\":\"project\",\"n\":2}\n")) (AddPlan Project [] pair)
unfolding ImportsProject Imports given unless why_or some makes digits
project_imported key open_ = admitted _ key _ _ _ open_ (inr (pair_project, pair_is_said, (refl, refl)))

-- an empty file has no head
nothing_fails : document [] ≡ Err (record { code = file_code.MissingHead; line = 0 })
unfolding document plain found_lines values sizes_in sizes
nothing_fails = refl

-- the fault of an empty file, and its line
nothing_told : (fault : FileFault) → fault.code ≡ file_code.MissingHead → fault.line ≡ 0 → fault.cycle.items ≡ []
    → TellsFirstFailing [] (codes "F3 line 0")
unfolding digits
nothing_told fault code line cycle = (
  fault,
  inl (nothing_fails ∙ cc, cycle),
  (sym (subst (λ c. fault_text_by c fault.line fault.cycle.items ≡ codes "F3 line 0") (sym code)
      (subst (λ n. fault_text_by file_code.MissingHead n fault.cycle.items ≡ codes "F3 line 0") (sym line) refl))),
)

-- an empty file isn't imported
nothing_refused : (fault : FileFault) → fault.code ≡ file_code.MissingHead → fault.line ≡ 0 → fault.cycle.items ≡ []
    → (key : Option Text) → admits desk_of_pair (asks key (call.import_project north [])) ≡ true
    → IsDecision desk_of_pair (asks key (call.import_project north [])) (said 422 Plain (codes "E10 F3 line 0\n")) Keep
unfolding ImportsProject Imports given unless why_or some refuses
nothing_refused fault code line cycle key open_ =
    admitted _ key _ _ _ open_ (inl (codes "F3 line 0", nothing_told fault code line cycle, (refl, refl)))

abbrev pair_bind : Text → Call
pair_bind body = call.bind north (codes "1") body

-- the one resource of the project is bound to a code
crew_bound : (key : Option Text) → admits desk_of_pair (asks key (pair_bind (codes "{\"code\":\"crew-b\",\"place\":1}"))) ≡ true
    → IsDecision desk_of_pair (asks key (pair_bind (codes "{\"code\":\"crew-b\",\"place\":1}")))
    (said 200 Json (codes "{\"code\":\"crew-b\",\"place\":1}\n")) (BindPlace 1 1 (codes "crew-b"))
unfolding Binds of_plan given some unless makes digits bind_body is_utf8 chars serde_json_on_literals
crew_bound key open_ = admitted _ key _ _ _ open_ (1, (pair_project, pair_is_said, refl), (refl, refl))

-- the project has no resource 2, which is reported before an unpublished code
no_place_2 : (key : Option Text) → admits desk_of_pair (asks key (pair_bind (codes "{\"code\":\"crew-x\",\"place\":2}"))) ≡ true
    → IsDecision desk_of_pair (asks key (pair_bind (codes "{\"code\":\"crew-x\",\"place\":2}"))) body_refused Keep
unfolding Binds of_plan given some refuses bind_body is_utf8 chars serde_json_on_literals
no_place_2 key open_ = admitted _ key _ _ _ open_ (1, (pair_project, pair_is_said, refl), (refl, refl))

-- a code that isn't published
crew_unknown : (key : Option Text) → admits desk_of_pair (asks key (pair_bind (codes "{\"code\":\"crew-x\",\"place\":1}"))) ≡ true
    → IsDecision desk_of_pair (asks key (pair_bind (codes "{\"code\":\"crew-x\",\"place\":1}")))
    (said 404 Plain (codes "E05 code not published\n")) Keep
unfolding Binds of_plan given some unless refuses bind_body is_utf8 chars serde_json_on_literals
crew_unknown key open_ = admitted _ key _ _ _ open_ (1, (pair_project, pair_is_said, refl), (refl, refl))

-- a machine isn't a crew
machine_on_project : (key : Option Text) → admits desk_of_pair (asks key (pair_bind (codes "{\"code\":\"m-1\",\"place\":1}"))) ≡ true
    → IsDecision desk_of_pair (asks key (pair_bind (codes "{\"code\":\"m-1\",\"place\":1}")))
    (said 409 Plain (codes "E06 kind differs\n")) Keep
unfolding Binds of_plan given some unless refuses bind_body is_utf8 chars serde_json_on_literals
machine_on_project key open_ = admitted _ key _ _ _ open_ (1, (pair_project, pair_is_said, refl), (refl, refl))

abbrev pair_lag : Text → Call
pair_lag body = call.set_lag north (codes "1") body

-- the arc of the project gets a lag
lag_set : (key : Option Text) → admits desk_of_pair (asks key (pair_lag (codes "{\"from\":1,\"to\":2,\"lag\":2}"))) ≡ true
    → IsDecision desk_of_pair (asks key (pair_lag (codes "{\"from\":1,\"to\":2,\"lag\":2}")))
    (said 200 Json (codes "{\"from\":1,\"lag\":2,\"to\":2}\n")) (SetLag 1 1 2 2)
unfolding SetsLag of_plan given by_kind some unless makes digits lag_body is_utf8 chars serde_json_on_literals
lag_set key open_ = admitted _ key _ _ _ open_ (pair_project, pair_is_said, (refl, refl))

-- no arc leads back
lag_of_no_arc : (key : Option Text) → admits desk_of_pair (asks key (pair_lag (codes "{\"from\":2,\"to\":1,\"lag\":2}"))) ≡ true
    → IsDecision desk_of_pair (asks key (pair_lag (codes "{\"from\":2,\"to\":1,\"lag\":2}"))) body_refused Keep
unfolding SetsLag of_plan given by_kind some unless refuses lag_body is_utf8 chars serde_json_on_literals
lag_of_no_arc key open_ = admitted _ key _ _ _ open_ (pair_project, pair_is_said, (refl, refl))

-- an existing desk gets another key
key_given : (key : Option Text) → admits desk_of_pair (asks key (call.set_key north (codes "{\"key\":\"password\"}"))) ≡ true
    → IsDecision desk_of_pair (asks key (call.set_key north (codes "{\"key\":\"password\"}")))
    (said 200 Json (codes "{\"desk\":\"north\"}\n")) (SetKey (sha256 (codes "password")))
unfolding SetsKey unless given makes key_body is_utf8 chars serde_json_on_literals
key_given key open_ = admitted _ key _ _ _ open_ (refl, refl)

-- Friday, 1 March 2024
abbrev friday : Date
friday = record {
  year = pos 2024;
  month = 3;
  day = 1;
  year_in = (omega arith, omega arith);
  month_in = (omega arith, omega arith);
  day_in = (omega arith, omega arith);
}

abbrev weekdays : List Bool
weekdays = true ∷ true ∷ true ∷ true ∷ true ∷ false ∷ false ∷ []

working_week : IsCalendar (codes "2024-03-01") (codes "1111100") (record { start = friday; marks = weekdays; holidays = [] })
working_week = record {
  start_text = record { spelled = refl; year = (omega arith, omega arith) };
  marks_text = record { spelled = refl; week = record { seven = refl; some = refl } };
  no_holidays = refl;
}

abbrev calendar_call : Text → Call
calendar_call body = call.set_calendar north (codes "1") body

-- a plan gets a calendar
calendar_given : (key : Option Text) → admits desk_of_pair (asks key (calendar_call (codes "{\"start\":\"2024-03-01\",\"days\":\"1111100\"}"))) ≡ true
    → IsDecision desk_of_pair (asks key (calendar_call (codes "{\"start\":\"2024-03-01\",\"days\":\"1111100\"}")))
    (said 200 Json (codes "{\"days\":\"1111100\",\"start\":\"2024-03-01\"}\n")) (SetCalendar 1 (codes "2024-03-01") (codes "1111100"))
unfolding Calendars of_plan given why_or some makes calendar_body is_utf8 chars serde_json_on_literals
calendar_given key open_ = admitted _ key _ _ _ open_ (inr (record { start = friday; marks = weekdays; holidays = [] }, working_week, (refl, refl)))

-- 2023 had no 29 February
no_such_day : HasNoStart (codes "2023-02-29")
no_such_day date is =
    let parts : (date.year ≡ pos 2023) × (date.month ≡ 2) × (date.day ≡ 29) =
    same_parts (codes "2023-02-29") 2023 2 29 date refl is in
    let days : days_in_month date.year date.month ≡ 28 =
    ap (λ y. days_in_month y date.month) parts.0 ∙ ap (λ m. days_in_month (pos 2023) m) parts.1 in
    let last : date.day ≤ days_in_month date.year date.month = date.day_in.1 in
    absurd (omega (arith, last, days, parts.2))

-- an invalid date is reported before invalid marks
date_refused : (key : Option Text) → admits desk_of_pair (asks key (calendar_call (codes "{\"start\":\"2023-02-29\",\"days\":\"0000000\"}"))) ≡ true
    → IsDecision desk_of_pair (asks key (calendar_call (codes "{\"start\":\"2023-02-29\",\"days\":\"0000000\"}")))
    (said 422 Plain (codes "E12 G1 date\n")) Keep
unfolding Calendars of_plan given why_or some refuses calendar_body is_utf8 chars serde_json_on_literals
date_refused key open_ =
    admitted _ key _ _ _ open_ (inl (codes "G1 date", (calendar_fault.BadDate, no_such_day, refl), (refl, refl)))

-- a week without a working day
no_marks : HasNoMarks (codes "0000000")
no_marks marks is = both_ways (list_any (λ byte. nat_eq byte 49) (codes "0000000")) refl (one_of (codes "0000000") marks is)

marks_refused : (key : Option Text) → admits desk_of_pair (asks key (calendar_call (codes "{\"start\":\"2024-03-01\",\"days\":\"0000000\"}"))) ≡ true
    → IsDecision desk_of_pair (asks key (calendar_call (codes "{\"start\":\"2024-03-01\",\"days\":\"0000000\"}")))
    (said 422 Plain (codes "E12 G2 days\n")) Keep
unfolding Calendars of_plan given why_or some refuses calendar_body is_utf8 chars serde_json_on_literals
marks_refused key open_ = admitted _ key _ _ _ open_ (inl (
  codes "G2 days",
  (calendar_fault.BadDays, ((friday, working_week.start_text), no_marks), refl),
  (refl, refl),
))

-- the network of the file, with a lag on its arc
abbrev lagged_pair : ℕ → Net
lagged_pair w = record { durations = 3 ∷ 4 ∷ []; arcs = (1, 2) ∷ []; lags = w ∷ [] }

-- a fact that holds for the paths 1, 2, and 1 then 2 holds for each path
by_path : (w : ℕ) (P : ℕ → List ℕ → Type 0) → P 1 [] → P 2 [] → P 1 (2 ∷ [])
    → (i : ℕ) (others : List ℕ) → IsPath (lagged_pair w) i others → P i others
by_path w P one two both zero [] (is, walk) = absurd (omega (arith, is.0))
by_path w P one two both (suc zero) [] (is, walk) = one
by_path w P one two both (suc (suc zero)) [] (is, walk) = two
by_path w P one two both (suc (suc (suc i))) [] (is, walk) = absurd (omega (arith, is.1))
by_path w P one two both i (j ∷ []) (is, walk) =
    let arc : (i ≡ 1) × (j ≡ 2) = pair_arc i j walk.0 in
    subst (λ (k : ℕ). P k (j ∷ [])) (sym arc.0) (subst (λ (k : ℕ). P 1 (k ∷ [])) (sym arc.1) both)
by_path w P one two both i (j ∷ k ∷ others) (is, walk) =
    let first : (i ≡ 1) × (j ≡ 2) = pair_arc i j walk.0 in
    let second : (j ≡ 1) × (k ≡ 2) = pair_arc j k walk.1.0 in
    absurd (omega (arith, first.1, second.0))

-- the dates: the lag delays activity 2 and the end
abbrev pair_dates : ℕ → DateTable
pair_dates w = record {
  duration = 7 + w;
  durations = 3 ∷ 4 ∷ [];
  finishes = 3 ∷ (7 + w) ∷ [];
  tails = (7 + w) ∷ 4 ∷ [];
  free_floats = 0 ∷ 0 ∷ [];
}

-- a path that ends with an activity takes no longer
abbrev IsShortTo : ℕ → ℕ → ℕ → ℕ → List ℕ → Type 0
IsShortTo w j g i others =
    (v : ℕ) → last_of i others ≡ j → path_length (lagged_pair w) i others ≡ v → v ≤ g

abbrev IsShortFrom : ℕ → ℕ → ℕ → ℕ → List ℕ → Type 0
IsShortFrom w j g i others = (v : ℕ) → i ≡ j → path_length (lagged_pair w) i others ≡ v → v ≤ g

first_alone : (w v : ℕ) → path_length (lagged_pair w) 1 [] ≡ v → v ≡ 3
first_alone w v is = sym is

second_alone : (w v : ℕ) → path_length (lagged_pair w) 2 [] ≡ v → v ≡ 4
second_alone w v is = sym is

both_along : (w v : ℕ) → path_length (lagged_pair w) 1 (2 ∷ []) ≡ v → v ≡ 7 + w
unfolding lag_of
both_along w v is = let l : 3 + (w + 4 + 0) ≡ v = is in omega (arith, l)

pair_finishes : (w : ℕ) → AreFinishes (lagged_pair w) (pair_dates w).finishes
pair_finishes w = record { whole = refl; greatest = each }
  where
    each : (j : ℕ) → IsActivity (lagged_pair w) j → IsGreatest (IsLengthTo (lagged_pair w) j) (slice_index (pair_dates w).finishes (j - 1))
    each zero is = absurd (omega (arith, is.0))
    each (suc zero) is = (
      (1, [], ((omega arith, omega arith), tt), refl, refl),
      (λ v along. by_path w (IsShortTo w 1 3)
          (λ u last takes. omega (arith, first_alone w u takes))
          (λ u last takes. absurd (omega (arith, last)))
          (λ u last takes. absurd (omega (arith, last)))
          along.0 along.1 along.2 v along.3 along.4),
    )
    each (suc (suc zero)) is = (
      (1, 2 ∷ [], ((omega arith, omega arith), ((0, omega arith, refl), tt)), refl, sym (sym (both_along w _ refl) ∙ refl)),
      (λ v along. by_path w (IsShortTo w 2 (7 + w))
          (λ u last takes. absurd (omega (arith, last)))
          (λ u last takes. omega (arith, second_alone w u takes))
          (λ u last takes. omega (arith, both_along w u takes))
          along.0 along.1 along.2 v along.3 along.4),
    )
    each (suc (suc (suc j))) is = absurd (omega (arith, is.1))

pair_tails : (w : ℕ) → AreTails (lagged_pair w) (pair_dates w).tails
pair_tails w = record { whole = refl; greatest = each }
  where
    each : (j : ℕ) → IsActivity (lagged_pair w) j → IsGreatest (IsLengthFrom (lagged_pair w) j) (slice_index (pair_dates w).tails (j - 1))
    each zero is = absurd (omega (arith, is.0))
    each (suc zero) is = (
      (2 ∷ [], ((omega arith, omega arith), ((0, omega arith, refl), tt)), both_along w _ refl),
      (λ v along. by_path w (IsShortFrom w 1 (7 + w))
          (λ u begins takes. omega (arith, first_alone w u takes))
          (λ u begins takes. absurd (omega (arith, begins)))
          (λ u begins takes. omega (arith, both_along w u takes))
          1 along.0 along.1 v refl along.2),
    )
    each (suc (suc zero)) is = (
      ([], ((omega arith, omega arith), tt), refl),
      (λ v along. by_path w (IsShortFrom w 2 4)
          (λ u begins takes. absurd (omega (arith, begins)))
          (λ u begins takes. omega (arith, second_alone w u takes))
          (λ u begins takes. absurd (omega (arith, begins)))
          2 along.0 along.1 v refl along.2),
    )
    each (suc (suc (suc j))) is = absurd (omega (arith, is.1))

-- no path takes longer than both activities with the lag between them
pair_duration : (w : ℕ) → IsGreatest (IsLength (lagged_pair w)) (7 + w)
pair_duration w = (
  (1, 2 ∷ [], ((omega arith, omega arith), ((0, omega arith, refl), tt)), both_along w _ refl),
  (λ v along. by_path w (λ i others. (u : ℕ) → path_length (lagged_pair w) i others ≡ u → u ≤ 7 + w)
      (λ u takes. omega (arith, first_alone w u takes))
      (λ u takes. omega (arith, second_alone w u takes))
      (λ u takes. omega (arith, both_along w u takes))
      along.0 along.1 along.2 v along.3),
)

pair_free : (w j k : ℕ) → IsArc (lagged_pair w) j k
    → IsLeast (IsSuccessorStart (lagged_pair w) (pair_dates w) j) (early_finish_of (pair_dates w) j + free_float_of (pair_dates w) j)
unfolding lag_of
pair_free w j k is =
    let arc : (j ≡ 1) × (k ≡ 2) = pair_arc j k is in
    subst (λ (i : ℕ). IsLeast (IsSuccessorStart (lagged_pair w) (pair_dates w) i) (early_finish_of (pair_dates w) i + free_float_of (pair_dates w) i)) (sym arc.0) (
      (2, (0, omega arith, refl), omega arith),
      least,
    )
  where
    least : (v : ℕ) → IsSuccessorStart (lagged_pair w) (pair_dates w) 1 v → 3 + 0 ≤ v
    least v (zero, next, starts) = absurd (omega (arith, (pair_arc 1 zero next).1))
    least v (suc zero, next, starts) = absurd (omega (arith, (pair_arc 1 (suc zero) next).1))
    least v (suc (suc zero), next, starts) = omega (arith, starts)
    least v (suc (suc (suc i)), next, starts) = absurd (omega (arith, (pair_arc 1 (suc (suc (suc i))) next).1))

pair_last : (w j : ℕ) → IsActivity (lagged_pair w) j → ((k : ℕ) → IsArc (lagged_pair w) j k → ⊥)
    → early_finish_of (pair_dates w) j + free_float_of (pair_dates w) j ≡ 7 + w
pair_last w zero is none = absurd (omega (arith, is.0))
pair_last w (suc zero) is none = absurd (none 2 (0, omega arith, refl))
pair_last w (suc (suc zero)) is none = omega arith
pair_last w (suc (suc (suc j))) is none = absurd (omega (arith, is.1))

are_dates : (w : ℕ) → AreDates (lagged_pair w) (pair_dates w)
are_dates w = record {
  durations = refl;
  finishes = pair_finishes w;
  tails = pair_tails w;
  duration = pair_duration w;
  free_count = refl;
  free = pair_free w;
  free_last = pair_last w;
}

-- the dates of the file
dates_shown : (key : Option Text) → admits desk_of_pair (asks key (call.dates north (codes "1"))) ≡ true
    → IsDecision desk_of_pair (asks key (call.dates north (codes "1")))
    (said 200 Plain (codes
    " act       d      ES      EF      LS      LF      TF      FF\n   1       3       0       3       0       3       0       0 *\n   2       4       3       7       3       7       0       0 *\nT 7\n"))
    Keep
unfolding Dates of_plan given by_kind some shows date_line number_column digits
dates_shown key open_ = admitted _ key _ _ _ open_ (
  pair_project,
  (pair_project, pair_is_said, refl),
  (
    codes " act       d      ES      EF      LS      LF      TF      FF\n   1       3       0       3       0       3       0       0 *\n   2       4       3       7       3       7       0       0 *\nT 7\n",
    (pair_dates 0, are_dates 0, refl),
    refl,
    refl,
  ),
)

-- the same desk with a lag of 2 on the arc, and its resource bound to a code of capacity 0
abbrev lagged_desk : View
lagged_desk = record desk_of_pair {
  binds = bound north 1 1 (codes "crew-b") ∷ [];
  lags = lagged north 1 1 2 2 ∷ [];
}

abbrev lagged_project : files.Project
lagged_project = files.with_project_lag pair_project 1 2 2

-- the dates with the lag, whatever is bound
lagged_dates : (key : Option Text) → admits lagged_desk (asks key (call.dates north (codes "1"))) ≡ true
    → IsDecision lagged_desk (asks key (call.dates north (codes "1")))
    (said 200 Plain (codes
    " act       d      ES      EF      LS      LF      TF      FF\n   1       3       0       3       0       3       0       0 *\n   2       4       5       9       5       9       0       0 *\nT 9\n"))
    Keep
unfolding Dates of_plan given by_kind some shows date_line number_column digits
lagged_dates key open_ = admitted _ key _ _ _ open_ (
  lagged_project,
  (pair_project, pair_is_said, refl),
  (
    codes " act       d      ES      EF      LS      LF      TF      FF\n   1       3       0       3       0       3       0       0 *\n   2       4       5       9       5       9       0       0 *\nT 9\n",
    (pair_dates 2, are_dates 2, refl),
    refl,
    refl,
  ),
)

-- at capacity 0 the need of activity 1 exceeds the capacity
abbrev nothing_there : Planned
nothing_there = bound_project lagged_desk pair_plan lagged_project

first_need : IsFirstTooMuch (problem_of nothing_there) 1 1
unfolding problem_of
first_need = (0, 0, refl, refl, (omega arith, omega arith, omega arith, omega arith), least)
  where
    least : (h q : ℕ) → IsTooMuch (problem_of nothing_there) h q → (0 < h) ⊎ ((0 ≡ h) × (0 ≤ q))
    least zero q is = inr (refl, omega arith)
    least (suc h) q is = inl (omega arith)

-- so there is no schedule, which is reported before an unknown rule
need_told : (key : Option Text) → admits lagged_desk (asks key (call.schedule north (codes "1") (codes "zzz"))) ≡ true
    → IsDecision lagged_desk (asks key (call.schedule north (codes "1") (codes "zzz")))
    (said 422 Plain (codes "E11 S1 activity 1 resource 1\n")) Keep
unfolding Schedules of_plan given by_kind OfSchedule some why_or refuses digits
need_told key open_ = admitted _ key _ _ _ open_ (
  lagged_project,
  (pair_project, pair_is_said, refl),
  inl (codes "S1 activity 1 resource 1", (sgs_fault.NeedsTooMuch 1 1, inl first_need, refl), (refl, refl)),
)

-- a run: a plan is removed, and the others are listed
abbrev removal : Option Text → Request
removal key = asks key (call.remove north (codes "2"))

abbrev listing : Option Text → Request
listing key = asks key (call.plans north)

plans_go : (key : Option Text) → admits (view north office) (removal key) ≡ true
    → IsRun office (removal key ∷ listing key ∷ [])
    (said 200 Json (codes "{\"n\":2}\n") ∷ said 200 Json (codes "{\"plans\":[{\"kind\":\"project\",\"n\":1},{\"kind\":\"project\",\"n\":4}]}\n") ∷ [])
    (apply north (RemovePlan 2) office ∷ apply north (RemovePlan 2) office ∷ [])
unfolding IsRun IsDecision Removes of_plan given makes tells digits
plans_go key open_ = (
  inl (RemovePlan 2, admitted (view north office) key (call.remove north (codes "2")) _ _ open_ (refl, refl), refl),
  (inl (Keep, admitted (view north (apply north (RemovePlan 2) office)) key (call.plans north) _ _ open_ (refl, refl), refl), tt),
)

-- two desks: the name of one begins with that of the other
abbrev two_desks : World
two_desks = record {
  office = [];
  published = [];
  desks = desk_row north 1 ∷ desk_row (codes "north-2") 1 ∷ [];
  plans = [];
  binds = [];
  lags = [];
}

abbrev importing : Text → Option Text → Request
importing desk key = asks key (call.import_project desk pair)

abbrev imported_1 : Reply
imported_1 = said 201 Json (codes "{\"kind\":\"project\",\"n\":1}\n")

abbrev after_north : World
after_north = apply north (AddPlan Project [] pair) two_desks

abbrev after_both : World
after_both = apply (codes "north-2") (AddPlan Project [] pair) after_north

abbrev after_again : World
after_again = apply north (AddPlan Project [] pair) after_both

-- each desk numbers its own plans
desks_in_turn : (key other : Option Text) → admits (view north two_desks) (importing north key) ≡ true
    → admits (view (codes "north-2") two_desks) (importing (codes "north-2") other) ≡ true
    → IsRun two_desks (importing north key ∷ importing (codes "north-2") other ∷ importing north key ∷ [])
    (imported_1 ∷ imported_1 ∷ said 201 Json (codes "{\"kind\":\"project\",\"n\":2}\n") ∷ [])
    (after_north ∷ after_both ∷ after_again ∷ [])
unfolding IsRun IsDecision ImportsProject Imports given unless why_or some makes digits
desks_in_turn key other open_ open_other = (
  inl (AddPlan Project [] pair, admitted (view north two_desks) key (call.import_project north pair) _ _ open_ (inr (pair_project, pair_is_said, (refl, refl))), refl),
  (
    inl (
      AddPlan Project [] pair,
      admitted (view (codes "north-2") after_north) other
          (call.import_project (codes "north-2") pair) _ _ open_other
          (inr (pair_project, pair_is_said, (refl, refl))),
      refl,
    ),
    (inl (AddPlan Project [] pair, admitted (view north after_both) key (call.import_project north pair) _ _ open_ (inr (pair_project, pair_is_said, (refl, refl))), refl), tt),
  ),
)
