-- Each page shows what it promises.
use Rattle.std.proofs.Common.{◌≡◌, ◌⊎◌, ℕ, Bool, true, false, List, Option, None, Some, inl, inr, refl, sym, ◌∙◌, ap, subst, arith, length}
use Rattle.std.specs.Prelude.{nat_eq}
use Rattle.plan_sgs.specs.Instances.{Planned}
use Rattle.plan_shop.specs.Shop.{JobShop}
use Rattle.plan_gantt.specs.DateTable.{IsDateText}
use Rattle.plan_gantt.specs.ScheduleText.{TellsRefusal}
use Rattle.plan_gantt.specs.ShopBestText.{IsBestTextOf}
use Rattle.plan_gantt.specs.ProjectBestText.{IsBestProjectTextOf, TellsBestProjectRefusal}
use Rattle.plan_calendar.specs.CalendarText.{IsCalendar}
use Rattle.plan_gantt.specs.CalendarFaultText.{missing_calendar_text}
use Rattle.plan_gantt.specs.CalendarTable.{IsCalendarTable, HasActivityBeyond}
use Rattle.plan_gantt.specs.ShopCharts.{IsShopCalendarTable, HasStepBeyond}
use Rattle.plan_shop.specs.Docs.{NoneIsClosed}
use Rattle.plan_calendar.specs.WorkingDay.{Workdays}
use Rattle.plan_rows.specs.declared.kinds.PlanKind.{PlanKind}
use Rattle.plan_rows.specs.declared.kinds.PlanKind.TheVariants.{Project, Shop}
use Rattle.plan_rows.specs.World.{Text, Plan}
use Rattle.plan_rows.specs.Changes.{Change}
use Rattle.plan_rows.specs.Views.{View}
use Rattle.plan_desk.specs.Calls.{Call, Request, Reply, admits, refusal, page}
use Rattle.plan_desk.specs.Calls as call
use Rattle.plan_desk.specs.Stories.{decided}
use Rattle.plan_rows.specs.Plans.{plan_seen, IsProjectOf, IsShopOf, bound_project, open_machines}
use Rattle.plan_desk.specs.Outcomes.{Outcome, refuses, shows, unless, given, some, why_or}
use Rattle.plan_desk.specs.Refusals.{not_found, other_kind, bad_schedule, bad_calendar}
use Rattle.plan_desk.specs.PlanRoutes.{of_plan, by_kind}
use Rattle.plan_desk.specs.PageRoutes.{Dates, IsScheduleBy, IsShopScheduleBy, OfSchedule, OfShopSchedule, Schedules, Charts, Days, OfCalendar, ShowsDays, TellsBeyond, TellsShopRefusal}
use Rattle.plan_desk.specs.BestRoutes.{Best, OfProjectBest, OfShopBest, TellsNoShopBest}
use Rattle.plan_desk.specs.Decisions.{Answers, IsDecision}
use Rattle.plan_desk.specs.Promises.{ShowsDates, ShowsSchedule, ShowsShopSchedule, ShowsBest, ShowsShopBest, IsTable, IsShopTable, IsChart, IsShopChart}
use Rattle.plan_desk.specs.Promises.{AreDays, AreShopDays, IsPromised, PagesArePromised}

-- a refusal isn't a page
refused_not : (refused reply : Reply) (change : Change) → refuses refused reply change → reply.status ≡ 200 → (refused.status ≡ 200 → ⊥) → ⊥
unfolding refuses
refused_not refused reply change h good bad = bad (sym (ap (λ (r : Reply). r.status) h.0) ∙ good)

-- the shown text is the body of the reply
shown_as : (IsText : Text → Type 0) (reply : Reply) (change : Change) → shows IsText reply change → IsText reply.body
unfolding shows
shown_as IsText reply change h = subst IsText (sym (ap (λ (r : Reply). r.body) h.2)) h.1

-- an outcome for an existing plan
record AtPlan (v : View) (n : Text) (Rest : Plan → Outcome) (reply : Reply) (change : Change) : Type 0 where
  plan : Plan
  seen : plan_seen v n ≡ Some plan
  rest : Rest plan reply change

given_so : (o : Option Plan) (Rest : Plan → Outcome) (reply : Reply) (change : Change) → given o not_found Rest reply change → reply.status ≡ 200
    → (plan : Plan) × (o ≡ Some plan) × Rest plan reply change
unfolding given
given_so None Rest reply change h good = absurd (refused_not not_found reply change h good (λ e. omega (arith, e)))
given_so (Some plan) Rest reply change h good = (plan, refl, h)

at_plan : (v : View) (n : Text) (Rest : Plan → Outcome) (reply : Reply) (change : Change) → of_plan v n Rest reply change → reply.status ≡ 200 → AtPlan v n Rest reply change
unfolding of_plan
at_plan v n Rest reply change h good = let found = given_so (plan_seen v n) Rest reply change h good in record { plan = found.0; seen = found.1; rest = found.2 }

kinds_apart : (kind : PlanKind) (P Q : Outcome) (reply : Reply) (change : Change) → by_kind kind P Q reply change → P reply change ⊎ Q reply change
unfolding by_kind
kinds_apart Project P Q reply change h = inl h
kinds_apart Shop P Q reply change h = inr h

-- an outcome for a value, if nothing is refused
record Made {A : Type 0} (P : A → Type 0) (Rest : A → Outcome) (reply : Reply) (change : Change) : Type 0 where
  value : A
  holds : P value
  rest : Rest value reply change

made_so : {A : Type 0} (P : A → Type 0) (Rest : A → Outcome) (reply : Reply) (change : Change) → some P Rest reply change → Made P Rest reply change
unfolding some
made_so P Rest reply change h = record { value = h.0; holds = h.1; rest = h.2 }

without_reason : {A : Type 0} (Tells : Text → Type 0) (refusal_of : Text → Reply) (P : A → Type 0) (Rest : A → Outcome) (reply : Reply) (change : Change)
    → why_or Tells refusal_of P Rest reply change → reply.status ≡ 200 → ((line : Text) → (refusal_of line).status ≡ 200 → ⊥) → Made P Rest reply change
unfolding why_or some
without_reason Tells refusal_of P Rest reply change (inl (line, tells, refused)) good bad = absurd (refused_not (refusal_of line) reply change refused good (bad line))
without_reason Tells refusal_of P Rest reply change (inr (x, holds, rest)) good bad = record { value = x; holds = holds; rest = rest }

never_schedule : (line : Text) → (bad_schedule line).status ≡ 200 → ⊥
never_schedule line e = omega (arith, e)

never_calendar : (line : Text) → (bad_calendar line).status ≡ 200 → ⊥
never_calendar line e = omega (arith, e)

dates_of : (v : View) (n : Text) (plan : Plan) (reply : Reply) (change : Change) → plan_seen v n ≡ Some plan → reply.status ≡ 200
    → some (IsProjectOf v plan) (λ p. shows (IsDateText p.network)) reply change ⊎ refuses other_kind reply change → ShowsDates v n reply.body
dates_of v n plan reply change seen good (inl told) =
    let made = made_so (IsProjectOf v plan) (λ p. shows (IsDateText p.network)) reply change told in
    let shown = shown_as (IsDateText made.value.network) reply change made.rest in
    record { plan = plan; project = made.value; table = shown.0; seen = seen; said = made.holds; longest = shown.1; shown = shown.2 }
dates_of v n plan reply change seen good (inr refused) = absurd (refused_not other_kind reply change refused good (λ e. omega (arith, e)))

dates_promised : (v : View) (n : Text) (reply : Reply) (change : Change) → Dates v n reply change → reply.status ≡ 200 → ShowsDates v n reply.body
unfolding Dates
dates_promised v n reply change h good =
    let at = at_plan v n (λ plan. by_kind plan.kind (some (IsProjectOf v plan) (λ p. shows (IsDateText p.network))) (refuses other_kind)) reply change h good in
    dates_of v n at.plan reply change at.seen good
    (kinds_apart at.plan.kind (some (IsProjectOf v at.plan) (λ p. shows (IsDateText p.network))) (refuses other_kind) reply change at.rest)

-- a page of a project's schedule
project_schedule : (v : View) (n : Text) (plan : Plan) (rule : Text) (Rest : Planned → List ℕ → Outcome) (IsText : Plan → Planned → List ℕ → Text → Type 0)
    (reply : Reply) (change : Change) → plan_seen v n ≡ Some plan → reply.status ≡ 200
    → ((i : Planned) (starts : List ℕ) → Rest i starts reply change → IsText plan i starts reply.body)
    → OfSchedule v plan rule Rest reply change → ShowsSchedule v n rule IsText reply.body
unfolding OfSchedule
project_schedule v n plan rule Rest IsText reply change seen good shows_so h =
    let made = made_so (IsProjectOf v plan) (λ p. why_or
    (TellsRefusal rule (bound_project v plan p)) bad_schedule (IsScheduleBy (bound_project v plan p) rule)
    (Rest (bound_project v plan p))) reply change h in
    let i = bound_project v plan made.value in
    let scheduled = without_reason (TellsRefusal rule i) bad_schedule (IsScheduleBy i rule) (Rest i) reply change made.rest good never_schedule in
    record {
      plan = plan;
      project = made.value;
      starts = scheduled.value;
      seen = seen;
      said = made.holds;
      by_rule = scheduled.holds;
      active = scheduled.holds.schedule.active;
      shown = shows_so i scheduled.value scheduled.rest;
    }

-- a page of a shop's schedule
shop_schedule : (v : View) (n : Text) (plan : Plan) (rule : Text) (Rest : JobShop → List ℕ → Outcome) (IsText : Plan → JobShop → List ℕ → Text → Type 0)
    (reply : Reply) (change : Change) → plan_seen v n ≡ Some plan → reply.status ≡ 200
    → ((s : JobShop) (starts : List ℕ) → Rest s starts reply change → IsText plan s starts reply.body)
    → OfShopSchedule v plan rule Rest reply change → ShowsShopSchedule v n rule IsText reply.body
unfolding OfShopSchedule
shop_schedule v n plan rule Rest IsText reply change seen good shows_so h =
    let made = made_so (IsShopOf plan) (λ s. why_or
    (TellsShopRefusal rule s (open_machines v plan.n s.machines)) bad_schedule
    (IsShopScheduleBy s (open_machines v plan.n s.machines) rule) (Rest s)) reply change h in
    let s = made.value in
    let scheduled = without_reason (TellsShopRefusal rule s (open_machines v plan.n s.machines)) bad_schedule
    (IsShopScheduleBy s (open_machines v plan.n s.machines) rule)
    (Rest s) reply change made.rest good never_schedule in
    record {
      plan = plan;
      shop = s;
      starts = scheduled.value;
      seen = seen;
      said = made.holds;
      opened = scheduled.holds.opened;
      by_rule = scheduled.holds;
      active = scheduled.holds.active;
      shown = shows_so s scheduled.value scheduled.rest;
    }

-- a page of a plan's schedule, for a project or a shop
schedule_of : (v : View) (n rule : Text) (Rest : Plan → Planned → List ℕ → Outcome) (OfShop : Plan → JobShop → List ℕ → Outcome)
    (IsText : Plan → Planned → List ℕ → Text → Type 0) (IsShopText : Plan → JobShop → List ℕ → Text → Type 0) (reply : Reply) (change : Change) → reply.status ≡ 200
    → ((plan : Plan) (i : Planned) (starts : List ℕ) → Rest plan i starts reply change → IsText plan i starts reply.body)
    → ((plan : Plan) (s : JobShop) (starts : List ℕ) → OfShop plan s starts reply change → IsShopText plan s starts reply.body)
    → of_plan v n (λ plan. by_kind plan.kind (OfSchedule v plan rule (Rest plan)) (OfShopSchedule v plan rule (OfShop plan))) reply change
    → ShowsSchedule v n rule IsText reply.body ⊎ ShowsShopSchedule v n rule IsShopText reply.body
schedule_of v n rule Rest OfShop IsText IsShopText reply change good project_so shop_so h =
    let at = at_plan v n (λ plan. by_kind plan.kind (OfSchedule v plan rule (Rest plan)) (OfShopSchedule v plan rule (OfShop plan))) reply change h good in
    elim (kinds_apart at.plan.kind (OfSchedule v at.plan rule (Rest at.plan)) (OfShopSchedule v at.plan rule (OfShop at.plan)) reply change at.rest) [
      | inl project ↦ inl (project_schedule v n at.plan rule (Rest at.plan) IsText reply change at.seen good (project_so at.plan) project)
      | inr shop ↦ inr (shop_schedule v n at.plan rule (OfShop at.plan) IsShopText reply change at.seen good (shop_so at.plan) shop)
    ]

schedules_promised : (v : View) (n rule : Text) (reply : Reply) (change : Change) → Schedules v n rule reply change → reply.status ≡ 200
    → ShowsSchedule v n rule IsTable reply.body ⊎ ShowsShopSchedule v n rule IsShopTable reply.body
unfolding Schedules
schedules_promised v n rule reply change h good =
    schedule_of v n rule (λ plan i starts. shows (IsTable plan i starts)) (λ plan s starts. shows (IsShopTable plan s starts)) IsTable IsShopTable reply change good
    (λ plan i starts told. shown_as (IsTable plan i starts) reply change told)
    (λ plan s starts told. shown_as (IsShopTable plan s starts) reply change told)
    h

charts_promised : (v : View) (n rule : Text) (reply : Reply) (change : Change) → Charts v n rule reply change → reply.status ≡ 200
    → ShowsSchedule v n rule IsChart reply.body ⊎ ShowsShopSchedule v n rule IsShopChart reply.body
unfolding Charts
charts_promised v n rule reply change h good =
    schedule_of v n rule (λ plan i starts. shows (IsChart plan i starts)) (λ plan s starts. shows (IsShopChart plan s starts)) IsChart IsShopChart reply change good
    (λ plan i starts told. shown_as (IsChart plan i starts) reply change told)
    (λ plan s starts told. shown_as (IsShopChart plan s starts) reply change told)
    h

-- if a page is shown, the test of a refusal failed
unless_so : (b : Bool) (refused reply : Reply) (Rest : Outcome) (change : Change) → unless b refused Rest reply change → reply.status ≡ 200 → (refused.status ≡ 200 → ⊥) → Rest reply change
unfolding unless
unless_so true refused reply Rest change h good bad = absurd (refused_not refused reply change h good bad)
unless_so false refused reply Rest change h good bad = h

-- a table of working days by the plan's calendar
days_of : (plan : Plan) (IsDays : Workdays → Text → Type 0) (IsLate : Workdays → Type 0) (reply : Reply) (change : Change)
    → OfCalendar plan IsDays IsLate reply change → reply.status ≡ 200 → (c : Workdays) × IsCalendar plan.start plan.days c × IsDays c reply.body
unfolding OfCalendar
days_of plan IsDays IsLate reply change h good =
    let rest = unless_so (nat_eq (length plan.start) 0) (bad_calendar missing_calendar_text) reply
    (why_or (TellsBeyond IsLate plan.start plan.days) bad_calendar (ShowsDays IsDays plan.start plan.days) (λ text. shows (λ shown. shown ≡ text)))
    change h good (never_calendar missing_calendar_text) in
    let made = without_reason (TellsBeyond IsLate plan.start plan.days) bad_calendar
    (ShowsDays IsDays plan.start plan.days) (λ text. shows (λ shown. shown ≡ text)) reply change rest good
    never_calendar in
    let same : reply.body ≡ made.value = shown_as (λ shown. shown ≡ made.value) reply change made.rest in
    subst (λ (text : Text). (c : Workdays) × IsCalendar plan.start plan.days c × IsDays c text) (sym same) made.holds

days_promised : (v : View) (n rule : Text) (reply : Reply) (change : Change) → Days v n rule reply change → reply.status ≡ 200
    → ShowsSchedule v n rule AreDays reply.body ⊎ ShowsShopSchedule v n rule AreShopDays reply.body
unfolding Days
days_promised v n rule reply change h good =
    schedule_of v n rule
    (λ plan i starts. OfCalendar plan (λ c. IsCalendarTable c i.project.network starts) (λ c. HasActivityBeyond c i.project.network starts))
    (λ plan s starts. OfCalendar plan (λ c. IsShopCalendarTable c s starts) (λ c. HasStepBeyond c s starts))
    AreDays AreShopDays reply change good
    (λ plan i starts told. days_of plan (λ c. IsCalendarTable c i.project.network starts) (λ c. HasActivityBeyond c i.project.network starts) reply change told good)
    (λ plan s starts told. days_of plan (λ c. IsShopCalendarTable c s starts) (λ c. HasStepBeyond c s starts) reply change told good)
    h

-- the best schedule of a project
best_of_project : (v : View) (n : Text) (plan : Plan) (word : Text) (reply : Reply) (change : Change) → plan_seen v n ≡ Some plan → reply.status ≡ 200
    → OfProjectBest v plan word reply change → ShowsBest v n reply.body
unfolding OfProjectBest
best_of_project v n plan word reply change seen good h =
    let made = made_so (IsProjectOf v plan) (λ p. why_or
    (TellsBestProjectRefusal word (bound_project v plan p)) bad_schedule
    (IsBestProjectTextOf word (bound_project v plan p)) (λ text. shows (λ shown. shown ≡ text))) reply
    change h in
    let i = bound_project v plan made.value in
    let found = without_reason (TellsBestProjectRefusal word i) bad_schedule (IsBestProjectTextOf word i) (λ text. shows (λ shown. shown ≡ text)) reply change made.rest good never_schedule in
    let same : reply.body ≡ found.value = shown_as (λ shown. shown ≡ found.value) reply change found.rest in
    let best = found.holds.2 in
    record {
      plan = plan;
      project = made.value;
      solved = best.solved;
      seen = seen;
      said = made.holds;
      active = best.active;
      shortest = best.shortest;
      makespan = best.makespan;
      shown = same ∙ best.shown;
    }

-- the best schedule of a shop
best_of_shop : (v : View) (n : Text) (plan : Plan) (word : Text) (reply : Reply) (change : Change) → plan_seen v n ≡ Some plan → reply.status ≡ 200
    → OfShopBest v plan word reply change → ShowsShopBest v n reply.body
unfolding OfShopBest
best_of_shop v n plan word reply change seen good h =
    let made = made_so (IsShopOf plan) (λ s. why_or
    (TellsNoShopBest word s (open_machines v plan.n s.machines)) bad_schedule
    (λ text. NoneIsClosed s.steps (open_machines v plan.n s.machines) × IsBestTextOf word s text)
    (λ text. shows (λ shown. shown ≡ text))) reply change h in
    let s = made.value in
    let usable = open_machines v plan.n s.machines in
    let found = without_reason (TellsNoShopBest word s usable) bad_schedule
    (λ text. NoneIsClosed s.steps usable × IsBestTextOf word s text)
    (λ text. shows (λ shown. shown ≡ text)) reply change made.rest good never_schedule in
    let same : reply.body ≡ found.value = shown_as (λ shown. shown ≡ found.value) reply change found.rest in
    let best = found.holds.1.2 in
    record {
      plan = plan;
      shop = s;
      solved = best.solved;
      seen = seen;
      said = made.holds;
      opened = found.holds.0;
      active = best.active;
      shortest = best.shortest;
      makespan = best.makespan;
      shown = same ∙ best.shown;
    }

best_promised : (v : View) (n word : Text) (reply : Reply) (change : Change) → Best v n word reply change → reply.status ≡ 200 → ShowsBest v n reply.body ⊎ ShowsShopBest v n reply.body
unfolding Best
best_promised v n word reply change h good =
    let at = at_plan v n (λ plan. by_kind plan.kind (OfProjectBest v plan word) (OfShopBest v plan word)) reply change h good in
    elim (kinds_apart at.plan.kind (OfProjectBest v at.plan word) (OfShopBest v at.plan word) reply change at.rest) [
      | inl project ↦ inl (best_of_project v n at.plan word reply change at.seen good project)
      | inr shop ↦ inr (best_of_shop v n at.plan word reply change at.seen good shop)
    ]

-- the page of an admitted call
answers_promised : (v : View) (c : Call) (reply : Reply) (change : Change) → Answers v c reply change → reply.status ≡ 200 → IsPromised v c reply.body
answers_promised v (call.dates desk n) reply change h good = dates_promised v n reply change h good
answers_promised v (call.schedule desk n rule) reply change h good = schedules_promised v n rule reply change h good
answers_promised v (call.chart desk n rule) reply change h good = charts_promised v n rule reply change h good
answers_promised v (call.days desk n rule) reply change h good = days_promised v n rule reply change h good
answers_promised v (call.best desk n word) reply change h good = best_promised v n word reply change h good
answers_promised v (call.publish body) reply change h good = tt
answers_promised v (call.open_desk body) reply change h good = tt
answers_promised v (call.set_key desk body) reply change h good = tt
answers_promised v (call.capacities desk) reply change h good = tt
answers_promised v (call.plans desk) reply change h good = tt
answers_promised v (call.import_project desk body) reply change h good = tt
answers_promised v (call.import_shop desk instance body) reply change h good = tt
answers_promised v (call.remove desk n) reply change h good = tt
answers_promised v (call.bind desk n body) reply change h good = tt
answers_promised v (call.set_calendar desk n body) reply change h good = tt
answers_promised v (call.set_lag desk n body) reply change h good = tt

decided_promised : (b : Bool) (v : View) (c : Call) (reply : Reply) (change : Change) → decided b (Answers v c) reply change → reply.status ≡ 200 → IsPromised v c reply.body
decided_promised true v c reply change h good = answers_promised v c reply change h good
decided_promised false v c reply change h good =
    let status : reply.status ≡ 403 = ap (λ (r : Reply). r.status) h.0 in absurd (omega (arith, status, good))

pub pages_are_promised : PagesArePromised
unfolding PagesArePromised IsDecision
pages_are_promised = λ v r reply change h good. decided_promised (admits v r) v r.call reply change h good
