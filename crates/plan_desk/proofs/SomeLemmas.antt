-- Some decision: each request has a reply and a change in each view whose rows keep their rules.
use Rattle.std.proofs.Common.{◌≡◌, ◌⊎◌, inl, inr, ℕ, Bool, true, false, List, Option, Some, None, refl, ap}
use Rattle.std.specs.Prelude.{nat_eq, length}
use Rattle.std.proofs.lemmas.Bool.{both_ways}
use Rattle.plan_cpm.proofs.SomeDateLemmas.{some_dates as some_table_of}
use Rattle.plan_psplib.specs.Project.{Project, SaysProject}
use Rattle.plan_sgs.specs.Instances.{Planned}
use Rattle.plan_shop.specs.Shop.{JobShop}
use Rattle.plan_calendar.specs.CalendarText.{IsCalendar}
use Rattle.plan_calendar.specs.WorkingDay.{Workdays}
use Rattle.plan_calendar.specs.declared.calendar.CalendarFault.TheVariants as calendar_fault
use Rattle.plan_gantt.specs.CalendarFaultText.{calendar_fault_text_of, missing_calendar_text}
use Rattle.plan_gantt.specs.DateTable.{IsDateText, date_table_text}
use Rattle.plan_rows.specs.declared.kinds.PlanKind.{PlanKind}
use Rattle.plan_rows.specs.declared.kinds.PlanKind.TheVariants as kinds
use Rattle.plan_rows.specs.World.{Text, Published, Plan}
use Rattle.plan_rows.specs.Changes.{Change, Keep}
use Rattle.plan_rows.specs.Plans.{plan_seen, HasPlaces, IsProjectOf, bound_project, open_machines}
use Rattle.plan_rows.specs.Rules.{HasCalendar, IsPlanRow, IsWorld}
use Rattle.plan_rows.specs.Views.{View, alone}
use Rattle.plan_desk.specs.Calls.{Call, publish, open_desk, set_key, capacities, plans, import_project, import_shop, remove, bind, set_calendar, set_lag, dates}
use Rattle.plan_desk.specs.Calls.{schedule, chart, days, best, Reply, answer, page, no_key, admits}
use Rattle.plan_desk.specs.BestOf.{IsOpenBest}
use Rattle.plan_desk.specs.BestRoutes.{OfProjectBest, OfShopBest, Best}
use Rattle.plan_desk.specs.Decisions.{Answers, IsDecision}
use Rattle.plan_desk.specs.OfficeRoutes.{Publishes, Opens, SetsKey}
use Rattle.plan_desk.specs.Outcomes.{Outcome, refuses, tells, shows, makes, unless, given, some, why_or}
use Rattle.plan_desk.specs.PageRoutes.{OfSchedule, OfShopSchedule, TellsBeyond, ShowsDays, OfCalendar, Dates, Schedules, Charts, Days}
use Rattle.plan_desk.specs.PlanRoutes.{of_plan, by_kind, Imports, ImportsProject, ImportsShop, Removes, Binds, Calendars, SetsLag}
use Rattle.plan_desk.specs.Refusals.{bad_calendar}
use Rattle.plan_desk.specs.SomeDecisions.{SomeDecision}
use Rattle.plan_desk.specs.Stories.{decided}
use Rattle.plan_desk.proofs.SameLemmas.{all_has}
use Rattle.plan_desk.proofs.SeenPlanLemmas.{seen_has}
use Rattle.plan_desk.proofs.SomeFileLemmas.{some_texts, some_shop, some_project}
use Rattle.plan_desk.proofs.SomeBestLemmas.{some_best_text}
use Rattle.plan_desk.proofs.SomeDaysLemmas.{some_activity_table, some_shop_table}
use Rattle.plan_desk.proofs.SomeProjectLemmas.{some_project_of, some_project_schedule, some_project_best}
use Rattle.plan_desk.proofs.SomeShopLemmas.{some_schedule, some_shop_of}

-- the outcome has a reply and a change
abbrev pub IsAnswered : Outcome → Type 0
IsAnswered O = (reply : Reply) × (c : Change) × O reply c

-- ---- outcomes

some_refuses : (r : Reply) → IsAnswered (refuses r)
unfolding refuses
some_refuses r = (r, Keep, (refl, refl))

some_tells : (text : Text) → IsAnswered (tells text)
unfolding tells
some_tells text = (answer 200 text, Keep, (refl, refl))

some_makes : (status : ℕ) (text : Text) (made : Change) → IsAnswered (makes status text made)
unfolding makes
some_makes status text made = (answer status text, made, (refl, refl))

some_unless : (b : Bool) (r : Reply) (Rest : Outcome) → IsAnswered Rest → IsAnswered (unless b r Rest)
unfolding unless
some_unless true r Rest rest = some_refuses r
some_unless false r Rest rest = rest

some_unless_not : (b : Bool) (r : Reply) (Rest : Outcome) → b ≡ true → IsAnswered (unless b r Rest)
unfolding unless
some_unless_not true r Rest holds = some_refuses r
some_unless_not false r Rest holds = absurd (both_ways false refl holds)

some_given : {A : Type 0} (o : Option A) (r : Reply) (Rest : A → Outcome) → ((x : A) → o ≡ Some x → IsAnswered (Rest x)) → IsAnswered (given o r Rest)
unfolding given
some_given None r Rest rest = some_refuses r
some_given (Some x) r Rest rest = rest x refl

some_some : {A : Type 0} (P : A → Type 0) (Rest : A → Outcome) (x : A) → P x → IsAnswered (Rest x) → IsAnswered (some P Rest)
unfolding some
some_some P Rest x holds (reply, c, rest) = (reply, c, (x, holds, rest))

some_why_or : {A : Type 0} (Tells : Text → Type 0) (r : Text → Reply) (P : A → Type 0) (Rest : A → Outcome)
    → ((line : Text) × Tells line) ⊎ ((x : A) × P x) → ((x : A) → IsAnswered (Rest x)) → IsAnswered (why_or Tells r P Rest)
unfolding why_or
some_why_or Tells r P Rest (inl (line, told)) rest = by_line (some_some Tells (λ t. refuses (r t)) line told (some_refuses (r line)))
  where
    by_line : IsAnswered (some Tells (λ t. refuses (r t))) → IsAnswered (why_or Tells r P Rest)
    by_line (reply, c, h) = (reply, c, inl h)
some_why_or Tells r P Rest (inr (x, holds)) rest = by_value (some_some P Rest x holds (rest x))
  where
    by_value : IsAnswered (some P Rest) → IsAnswered (why_or Tells r P Rest)
    by_value (reply, c, h) = (reply, c, inr h)

some_of_plan : (v : View) (n : Text) (Rest : Plan → Outcome) → IsWorld (alone v) → ((plan : Plan) → plan_seen v n ≡ Some plan → IsPlanRow plan → IsAnswered (Rest plan))
    → IsAnswered (of_plan v n Rest)
unfolding of_plan
some_of_plan v n Rest k rest = some_given _ _ _ (λ plan seen. rest plan seen (all_has IsPlanRow v.plans plan k.plans (seen_has v n plan seen)))

-- ---- the office's calls

some_publishes : (rows : List Published) (body : Text) → IsAnswered (Publishes rows body)
unfolding Publishes
some_publishes rows body = some_given _ _ _ (λ b read. some_unless _ _ _ (some_makes _ _ _))

some_opens : (v : View) (body : Text) → IsAnswered (Opens v body)
unfolding Opens
some_opens v body = some_given _ _ _ (λ b read. some_unless _ _ _ (some_makes _ _ _))

some_sets_key : (v : View) (desk body : Text) → IsAnswered (SetsKey v desk body)
unfolding SetsKey
some_sets_key v desk body = some_unless _ _ _ (some_given _ _ _ (λ key read. some_makes _ _ _))

-- ---- commands on plans

some_imports_shop : (v : View) (name body : Text) → IsAnswered (ImportsShop v name body)
unfolding ImportsShop Imports
some_imports_shop v name body =
    some_given _ _ _ (λ row there. some_unless _ _ _ (some_unless _ _ _
    (some_why_or _ _ _ _ (some_shop name body) (λ read. some_makes _ _ _))))

some_removes : (v : View) (n : Text) → IsWorld (alone v) → IsAnswered (Removes v n)
unfolding Removes
some_removes v n k = some_of_plan _ _ _ k (λ plan seen keeps. some_makes _ _ _)

some_binds : (v : View) (n body : Text) → IsWorld (alone v) → IsAnswered (Binds v n body)
unfolding Binds
some_binds v n body k =
    some_of_plan _ _ _ k (λ plan seen keeps. some_some _ _ keeps.reads.0 keeps.reads.1
    (some_given _ _ _ (λ b read. some_unless _ _ _ (some_unless _ _ _ (some_makes _ _ _)))))

some_calendars : (v : View) (n body : Text) → IsWorld (alone v) → IsAnswered (Calendars v n body)
unfolding Calendars
some_calendars v n body k =
    some_of_plan _ _ _ k (λ plan seen keeps. some_given _ _ _ (λ b read.
    some_why_or _ _ _ _ (some_texts b.start b.days) (λ c. some_makes _ _ _)))

-- a plan that is read has a project, or it is a shop's
some_by_kind : (kind : PlanKind) (name body : Text) (Rest : Project → Outcome) (Other : Outcome) → (count : ℕ) × HasPlaces kind name body count
    → ((p : Project) → IsAnswered (Rest p)) → IsAnswered Other → IsAnswered (by_kind kind (some (SaysProject body) Rest) Other)
unfolding by_kind
some_by_kind kinds.Project name body Rest Other (count, (p, says, e)) rest other = some_some _ _ p says (rest p)
some_by_kind kinds.Shop name body Rest Other reads rest other = other

some_sets_lag : (v : View) (n body : Text) → IsWorld (alone v) → IsAnswered (SetsLag v n body)
unfolding SetsLag
some_sets_lag v n body k =
    some_of_plan _ _ _ k (λ plan seen keeps. some_given _ _ _ (λ b read.
    some_by_kind plan.kind plan.name plan.body _ _ keeps.reads
    (λ p. some_unless _ _ _ (some_makes _ _ _)) (some_refuses _)))

some_imports_project : (v : View) (body : Text) → IsAnswered (ImportsProject v body)
unfolding ImportsProject Imports
some_imports_project v body =
    some_given _ _ _ (λ row there. some_unless _ _ _ (some_unless _ _ _
    (some_why_or _ _ _ _ (some_project body) (λ read. some_makes _ _ _))))

-- ---- pages

some_shows : (P : Text → Type 0) (text : Text) → P text → IsAnswered (shows P)
unfolding shows
some_shows P text holds = (page text, Keep, (text, holds, refl, refl))

some_by : (kind : PlanKind) (One Other : Outcome) → (kind ≡ kinds.Project → IsAnswered One) → (kind ≡ kinds.Shop → IsAnswered Other) → IsAnswered (by_kind kind One Other)
unfolding by_kind
some_by kinds.Project One Other one other = one refl
some_by kinds.Shop One Other one other = other refl

-- the outcome for a plan, if it exists, by its kind
some_of_kind : (v : View) (n : Text) (One Other : Plan → Outcome) → IsWorld (alone v)
    → ((plan : Plan) → IsPlanRow plan → plan.kind ≡ kinds.Project → IsAnswered (One plan))
    → ((plan : Plan) → IsPlanRow plan → plan.kind ≡ kinds.Shop → IsAnswered (Other plan)) → IsAnswered (of_plan v n (λ plan. by_kind plan.kind (One plan) (Other plan)))
some_of_kind v n One Other k one other =
    some_of_plan _ _ _ k (λ plan seen keeps. some_by plan.kind _ _ (one plan keeps) (other plan keeps))

some_of_schedule : (v : View) (plan : Plan) (rule : Text) (Rest : Planned → List ℕ → Outcome) → IsWorld (alone v) → IsPlanRow plan → plan.kind ≡ kinds.Project
    → ((i : Planned) (starts : List ℕ) → IsAnswered (Rest i starts)) → IsAnswered (OfSchedule v plan rule Rest)
unfolding OfSchedule
some_of_schedule v plan rule Rest k keeps kind rest =
    let made = some_project_of v plan k keeps kind in
    let p = made.project in
    some_some _ _ p made.said (some_why_or _ _ _ _ (some_project_schedule v plan p rule made.is) (λ starts. rest (bound_project v plan p) starts))

some_of_shop_schedule : (v : View) (plan : Plan) (rule : Text) (Rest : JobShop → List ℕ → Outcome) → IsPlanRow plan → plan.kind ≡ kinds.Shop
    → ((s : JobShop) (starts : List ℕ) → IsAnswered (Rest s starts)) → IsAnswered (OfShopSchedule v plan rule Rest)
unfolding OfShopSchedule
some_of_shop_schedule v plan rule Rest keeps kind rest =
    let read = some_shop_of plan keeps kind in
    let s = read.shop in
    some_some _ _ s read.said (some_why_or _ _ _ _ (some_schedule s (open_machines v plan.n s.machines) rule read.is) (λ starts. rest s starts))

some_project_dates : (v : View) (plan : Plan) → IsWorld (alone v) → IsPlanRow plan → plan.kind ≡ kinds.Project → IsAnswered (some (IsProjectOf v plan) (λ p. shows (IsDateText p.network)))
some_project_dates v plan k keeps kind =
    let made = some_project_of v plan k keeps kind in
    let p = made.project in
    let dates = some_table_of p.network made.is.network in
    some_some _ _ p made.said (some_shows _ (date_table_text p.network dates.0) (dates.0, dates.1, refl))

some_dates : (v : View) (n : Text) → IsWorld (alone v) → IsAnswered (Dates v n)
unfolding Dates
some_dates v n k = some_of_kind _ _ _ _ k (λ plan keeps kind. some_project_dates v plan k keeps kind) (λ plan keeps kind. some_refuses _)

some_schedules : (v : View) (n rule : Text) → IsWorld (alone v) → IsAnswered (Schedules v n rule)
unfolding Schedules
some_schedules v n rule k =
    some_of_kind _ _ _ _ k
    (λ plan keeps kind. some_of_schedule _ _ _ _ k keeps kind (λ i starts. some_shows _ _ refl))
    (λ plan keeps kind. some_of_shop_schedule _ _ _ _ keeps kind (λ s starts. some_shows _ _ refl))

some_charts : (v : View) (n rule : Text) → IsWorld (alone v) → IsAnswered (Charts v n rule)
unfolding Charts
some_charts v n rule k =
    some_of_kind _ _ _ _ k
    (λ plan keeps kind. some_of_schedule _ _ _ _ k keeps kind (λ i starts. some_shows _ _ refl))
    (λ plan keeps kind. some_of_shop_schedule _ _ _ _ keeps kind (λ s starts. some_shows _ _ refl))

-- the outcome for the plan's calendar, if each calendar has a table or a day beyond it
some_of_calendar : (plan : Plan) (IsTable : Workdays → Text → Type 0) (IsBeyond : Workdays → Type 0) → HasCalendar plan.start plan.days
    → ((c : Workdays) → ((text : Text) × IsTable c text) ⊎ IsBeyond c) → IsAnswered (OfCalendar plan IsTable IsBeyond)
unfolding OfCalendar
some_of_calendar plan IsTable IsBeyond calendar table = by_calendar calendar
  where
    some_table : (c : Workdays) → IsCalendar plan.start plan.days c → ((text : Text) × IsTable c text) ⊎ IsBeyond c
        → ((line : Text) × TellsBeyond IsBeyond plan.start plan.days line) ⊎ ((text : Text) × ShowsDays IsTable plan.start plan.days text)
    some_table c is (inl (text, shown)) = inr (text, (c, is, shown))
    some_table c is (inr beyond) = inl (calendar_fault_text_of calendar_fault.BeyondCalendar, (c, is, beyond, refl))

    by_calendar : HasCalendar plan.start plan.days
        → IsAnswered (unless (nat_eq (length plan.start) 0) (bad_calendar missing_calendar_text) (why_or (TellsBeyond IsBeyond plan.start plan.days) bad_calendar
        (ShowsDays IsTable plan.start plan.days) (λ text. shows (λ shown. shown ≡ text))))
    by_calendar (inl (none, also)) = some_unless_not _ _ _ (ap (λ text. nat_eq (length text) 0) none)
    by_calendar (inr (c, is)) =
        some_unless _ _ _ (some_why_or _ _ (ShowsDays IsTable plan.start plan.days) _ (some_table c is (table c)) (λ text. some_shows _ text refl))

some_days : (v : View) (n rule : Text) → IsWorld (alone v) → IsAnswered (Days v n rule)
unfolding Days
some_days v n rule k =
    some_of_kind _ _ _ _ k
    (λ plan keeps kind. some_of_schedule _ _ _ _ k keeps kind (λ i starts.
    some_of_calendar plan _ _ keeps.calendar (λ c. some_activity_table c i.project.network starts)))
    (λ plan keeps kind. some_of_shop_schedule _ _ _ _ keeps kind (λ s starts.
    some_of_calendar plan _ _ keeps.calendar (λ c. some_shop_table c s starts)))

some_of_best : (v : View) (plan : Plan) (word : Text) → IsWorld (alone v) → IsPlanRow plan → plan.kind ≡ kinds.Project → IsAnswered (OfProjectBest v plan word)
unfolding OfProjectBest
some_of_best v plan word k keeps kind =
    let made = some_project_of v plan k keeps kind in
    let p = made.project in
    some_some _ _ p made.said (some_why_or _ _ _ _ (some_project_best v plan p word made.is) (λ text. some_shows _ text refl))

some_shop_best : (v : View) (plan : Plan) (word : Text) → IsPlanRow plan → plan.kind ≡ kinds.Shop → IsAnswered (OfShopBest v plan word)
unfolding OfShopBest
some_shop_best v plan word keeps kind =
    let read = some_shop_of plan keeps kind in
    let s = read.shop in
    let IsShown : Text → Type 0 = IsOpenBest word s (open_machines v plan.n s.machines) in
    some_some _ _ s read.said (some_why_or _ _ IsShown _ (some_best_text s (open_machines v plan.n s.machines) word read.is read.short) (λ text. some_shows _ text refl))

some_best : (v : View) (n word : Text) → IsWorld (alone v) → IsAnswered (Best v n word)
unfolding Best
some_best v n word k =
    some_of_kind _ _ _ _ k (λ plan keeps kind. some_of_best v plan word k keeps kind) (λ plan keeps kind. some_shop_best v plan word keeps kind)

-- ---- decisions

some_answer : (v : View) (call : Call) → IsWorld (alone v) → IsAnswered (Answers v call)
some_answer v (publish body) k = some_publishes v.published body
some_answer v (open_desk body) k = some_opens v body
some_answer v (set_key desk body) k = some_sets_key v desk body
some_answer v (capacities desk) k = some_tells _
some_answer v (plans desk) k = some_tells _
some_answer v (import_project desk body) k = some_imports_project v body
some_answer v (import_shop desk instance body) k = some_imports_shop v instance body
some_answer v (remove desk n) k = some_removes v n k
some_answer v (bind desk n body) k = some_binds v n body k
some_answer v (set_calendar desk n body) k = some_calendars v n body k
some_answer v (set_lag desk n body) k = some_sets_lag v n body k
some_answer v (dates desk n) k = some_dates v n k
some_answer v (schedule desk n rule) k = some_schedules v n rule k
some_answer v (chart desk n rule) k = some_charts v n rule k
some_answer v (days desk n rule) k = some_days v n rule k
some_answer v (best desk n budget) k = some_best v n budget k

-- a refusal, or the answer to an admitted call
some_decided : (b : Bool) (Rest : Outcome) → IsAnswered Rest → IsAnswered (decided b Rest)
some_decided true Rest rest = rest
some_decided false Rest rest = (no_key, Keep, (refl, refl))

pub some_decision : SomeDecision
unfolding SomeDecision IsDecision
some_decision = λ v r k. some_decided (admits v r) (Answers v r.call) (some_answer v r.call k)
