-- One decision: a view and a request have one reply and one change at most.
use Rattle.std.proofs.Common.{◌≡◌, ℕ, inl, inr, Bool, List, length, sym, ap, ◌∙◌, subst}
use Rattle.plan_psplib.proofs.OnceLemmas as psplib
use Rattle.plan_orlib.proofs.OnceLemmas as orlib
use Rattle.plan_sgs.specs.Instances.{Planned, problem_of}
use Rattle.plan_sgs.proofs.OnceLemmas as sgs
use Rattle.plan_shop.specs.Shop.{JobShop}
use Rattle.plan_shop.specs.Docs.{shop_of, NoneIsClosed}
use Rattle.plan_shop.specs.declared.fault.ShopFault.TheVariants as shop_fault
use Rattle.plan_shop.proofs.OnceLemmas as shops
use Rattle.plan_calendar.specs.WorkingDay.{Workdays}
use Rattle.plan_gantt.specs.CalendarFaultText.{calendar_fault_text_of}
use Rattle.plan_gantt.specs.ScheduleText.{IsSchedule, TellsRefusal}
use Rattle.plan_shop.specs.Names as shop_names
use Rattle.plan_shop.specs.declared.rule.ShopRule.{ShopRule}
use Rattle.plan_gantt.proofs.ProjectOnceLemmas as projects
use Rattle.plan_gantt.specs.ShopText.{rule_starts, TellsNoRule}
use Rattle.plan_gantt.specs.ShopFaultText.{shop_fault_text_of}
use Rattle.plan_gantt.specs.ShopBestText.{IsBestTextOf}
use Rattle.plan_gantt.proofs.OnceLemmas as once
use Rattle.plan_calendar.proofs.CalendarOnceLemmas as calendars
use Rattle.plan_gantt.proofs.DaysOnceLemmas as day_tables
use Rattle.plan_rows.specs.declared.kinds.PlanKind.{PlanKind}
use Rattle.plan_rows.specs.declared.kinds.PlanKind.TheVariants as kinds
use Rattle.plan_rows.specs.World.{Text, Published, Plan}
use Rattle.plan_rows.specs.Views.{View}
use Rattle.plan_desk.specs.Calls.{Call, publish, open_desk, set_key, capacities, plans, import_project, import_shop, remove, bind, set_calendar, set_lag, dates, schedule, chart, days, best}
use Rattle.plan_desk.specs.Outcomes.{Outcome}
use Rattle.plan_rows.specs.Plans.{lagged_by, lags_of, IsProjectOf, IsShopOf, bound_project, open_machines, HasPlaces}
use Rattle.plan_desk.specs.OfficeRoutes.{Publishes, Opens, SetsKey}
use Rattle.plan_desk.specs.PlanRoutes.{of_plan, by_kind, Imports, ImportsProject, ImportsShop, Removes, Binds, TellsTexts, Calendars, SetsLag}
use Rattle.plan_desk.specs.PageRoutes.{Dates, IsScheduleBy, OfSchedule, TellsClosed, TellsShopRefusal, IsShopScheduleBy, OfShopSchedule, Schedules, Charts, TellsBeyond, ShowsDays, OfCalendar, Days}
use Rattle.plan_desk.specs.BestRoutes.{OfProjectBest, TellsNoShopBest, OfShopBest, Best}
use Rattle.plan_desk.specs.Decisions.{Answers}
use Rattle.plan_desk.proofs.OutcomeLemmas.{IsOne, IsUnique, one_refuses, one_tells, one_shows, one_makes, one_unless, one_given, one_some, one_unique, one_why_or, one_known}

-- ---- the data of a plan

project_of_once : (v : View) (plan : Plan) → IsUnique (IsProjectOf v plan)
project_of_once v plan p q (said, says, e) (other, says2, f) =
    e ∙ ap (lagged_by (lags_of v plan.n)) (psplib.project_once plan.body said other says says2) ∙ sym f

shop_of_once : (plan : Plan) → IsUnique (IsShopOf plan)
shop_of_once plan s t (doc, says, e) (other, says2, f) =
    e ∙ ap shop_of (orlib.shop_once plan.name plan.body doc other says says2) ∙ sym f

places_once : (kind : PlanKind) (name body : Text) → IsUnique (HasPlaces kind name body)
places_once kinds.Project name body m n (p, says, e) (q, says2, f) =
    e ∙ ap (λ x. length x.available) (psplib.project_once body p q says says2) ∙ sym f
places_once kinds.Shop name body m n (doc, says, e) (other, says2, f) =
    e ∙ ap (λ x. x.machines) (orlib.shop_once name body doc other says says2) ∙ sym f

one_of_plan : (v : View) (n : Text) (Rest : Plan → Outcome) → ((plan : Plan) → IsOne (Rest plan)) → IsOne (of_plan v n Rest)
unfolding of_plan
one_of_plan v n Rest rest = one_given _ _ _ rest

one_by_kind : (kind : PlanKind) (One Other : Outcome) → IsOne One → IsOne Other → IsOne (by_kind kind One Other)
unfolding by_kind
one_by_kind kinds.Project One Other one other = one
one_by_kind kinds.Shop One Other one other = other

-- ---- the office's calls

one_publishes : (rows : List Published) (body : Text) → IsOne (Publishes rows body)
unfolding Publishes
one_publishes rows body = one_given _ _ _ (λ b. one_unless _ _ _ (one_makes _ _ _))

one_opens : (v : View) (body : Text) → IsOne (Opens v body)
unfolding Opens
one_opens v body = one_given _ _ _ (λ b. one_unless _ _ _ (one_makes _ _ _))

one_sets_key : (v : View) (desk body : Text) → IsOne (SetsKey v desk body)
unfolding SetsKey
one_sets_key v desk body = one_unless _ _ _ (one_given _ _ _ (λ key. one_makes _ _ _))

-- ---- commands on plans

one_imports : {A : Type 0} (v : View) (kind : PlanKind) (name body : Text) (Tells : Text → Type 0) (Reads : A → Type 0)
    → IsUnique Tells → ((line : Text) (x : A) → Tells line → Reads x → ⊥) → IsOne (Imports v kind name body Tells Reads)
unfolding Imports
one_imports v kind name body Tells Reads one apart =
    one_given _ _ _ (λ row. one_unless _ _ _ (one_unless _ _ _
    (one_why_or _ _ _ _ one apart (one_some _ _ (λ x y p q. one_makes _ _ _)))))

one_imports_project : (v : View) (body : Text) → IsOne (ImportsProject v body)
unfolding ImportsProject
one_imports_project v body =
    one_imports _ _ _ _ _ _ (λ x y p q. once.first_failing_once body x y p q) (λ line p told says. once.first_failing_apart body line p says told)

one_imports_shop : (v : View) (name body : Text) → IsOne (ImportsShop v name body)
unfolding ImportsShop
one_imports_shop v name body =
    one_imports _ _ _ _ _ _ (λ x y p q. once.first_shop_fault_once name body x y p q) (λ line doc told says. once.first_shop_fault_apart name body line doc says told)

one_removes : (v : View) (n : Text) → IsOne (Removes v n)
unfolding Removes
one_removes v n = one_of_plan _ _ _ (λ plan. one_makes _ _ _)

one_binds : (v : View) (n body : Text) → IsOne (Binds v n body)
unfolding Binds
one_binds v n body =
    one_of_plan _ _ _ (λ plan. one_unique _ _ (places_once plan.kind plan.name plan.body) (λ count has. one_given _ _ _ (λ b.
    one_unless _ _ _ (one_unless _ _ _ (one_makes _ _ _)))))

texts_told_once : (start marks : Text) → IsUnique (TellsTexts start marks)
texts_told_once start marks x y (f, refuses1, e) (g, refuses2, h) =
    e ∙ ap calendar_fault_text_of (calendars.texts_once start marks f g refuses1 refuses2) ∙ sym h

one_calendars : (v : View) (n body : Text) → IsOne (Calendars v n body)
unfolding Calendars
one_calendars v n body =
    one_of_plan _ _ _ (λ plan. one_given _ _ _ (λ b.
    one_why_or _ _ _ _ (texts_told_once b.start b.days)
    (λ line c told is. calendars.texts_apart b.start b.days c told.0 is told.1)
    (one_some _ _ (λ x y p q. one_makes _ _ _))))

one_sets_lag : (v : View) (n body : Text) → IsOne (SetsLag v n body)
unfolding SetsLag
one_sets_lag v n body =
    one_of_plan _ _ _ (λ plan. one_given _ _ _ (λ b. one_by_kind _ _ _
    (one_unique _ _ (psplib.project_once plan.body) (λ p says. one_unless _ _ _ (one_makes _ _ _))) (one_refuses _)))

-- ---- dates and schedules

one_dates : (v : View) (n : Text) → IsOne (Dates v n)
unfolding Dates
one_dates v n =
    one_of_plan _ _ _ (λ plan. one_by_kind _ _ _
    (one_unique _ _ (project_of_once v plan) (λ p is. one_shows _ (once.date_text_once p.network))) (one_refuses _))

-- an instance has one list of starts by the rule of a name
starts_by_name : (i : Planned) (name : Text) → IsUnique (IsScheduleBy i name)
starts_by_name i name xs ys p q =
    let same : p.rule ≡ q.rule = sgs.rule_once name p.rule q.rule p.named q.named in
    once.schedule_once i q.rule xs ys (subst (λ r. IsSchedule i r xs) same p.schedule) q.schedule

refusal_apart : (i : Planned) (name line : Text) (starts : List ℕ) → TellsRefusal name i line → IsScheduleBy i name starts → ⊥
refusal_apart i name line starts (first, inl refused, e) by =
    sgs.fit_not_refused i first (sgs.feasible_fits (problem_of i) starts by.schedule.active.feasible) refused
refusal_apart i name line starts (first, inr (fits, refused), e) by = refused.1 by.rule by.named

one_of_schedule : (v : View) (plan : Plan) (rule : Text) (Rest : Planned → List ℕ → Outcome)
    → ((i : Planned) (starts : List ℕ) → IsOne (Rest i starts)) → IsOne (OfSchedule v plan rule Rest)
unfolding OfSchedule
one_of_schedule v plan rule Rest rest =
    one_unique _ _ (project_of_once v plan) (λ p is.
    one_why_or _ _ _ _ (once.schedule_refusal_once rule (bound_project v plan p))
    (refusal_apart (bound_project v plan p) rule)
    (one_unique _ _ (starts_by_name (bound_project v plan p) rule) (λ starts by. rest (bound_project v plan p) starts)))

-- ---- schedules of shops

closed_told_once : (s : JobShop) (usable : List Bool) → IsUnique (TellsClosed s usable)
closed_told_once s usable x y (m, first, e) (n, second, f) =
    e ∙ ap (λ k. shop_fault_text_of (shop_fault.MachineClosed k)) (shops.closed_once s.steps usable m n first second) ∙ sym f

-- a refused name isn't the name of a rule
no_rule_not_named : (name line : Text) (rule : ShopRule) → TellsNoRule name line → name ≡ shop_names.rule_text rule → ⊥
no_rule_not_named name line rule (first, refused, e) named = refused.1 rule named

shop_refusal_once : (name : Text) (s : JobShop) (usable : List Bool) → IsUnique (TellsShopRefusal name s usable)
shop_refusal_once name s usable x y (inl a) (inl b) = once.no_rule_once name x y a b
shop_refusal_once name s usable x y (inl a) (inr (by, b)) = absurd (no_rule_not_named name x by.0 a by.1)
shop_refusal_once name s usable x y (inr (by, a)) (inl b) = absurd (no_rule_not_named name y by.0 b by.1)
shop_refusal_once name s usable x y (inr (by, a)) (inr (by2, b)) = closed_told_once s usable x y a b

shop_refusal_apart : (name : Text) (s : JobShop) (usable : List Bool) (line : Text) (starts : List ℕ)
    → TellsShopRefusal name s usable line → IsShopScheduleBy s usable name starts → ⊥
shop_refusal_apart name s usable line starts (inl a) by = no_rule_not_named name line by.rule a by.named
shop_refusal_apart name s usable line starts (inr (named, (m, first, e))) by = shops.none_not_closed s.steps usable m by.opened first

shop_starts_once : (s : JobShop) (usable : List Bool) (name : Text) → IsUnique (IsShopScheduleBy s usable name)
shop_starts_once s usable name xs ys p q =
    p.starts_are ∙ ap (λ r. rule_starts r s) (shops.rule_once name p.rule q.rule p.named q.named) ∙ sym q.starts_are

one_of_shop_schedule : (v : View) (plan : Plan) (rule : Text) (Rest : JobShop → List ℕ → Outcome)
    → ((s : JobShop) (starts : List ℕ) → IsOne (Rest s starts)) → IsOne (OfShopSchedule v plan rule Rest)
unfolding OfShopSchedule
one_of_shop_schedule v plan rule Rest rest =
    one_unique _ _ (shop_of_once plan) (λ s is.
    one_why_or _ _ _ _ (shop_refusal_once rule s (open_machines v plan.n s.machines))
    (shop_refusal_apart rule s (open_machines v plan.n s.machines))
    (one_unique _ _ (shop_starts_once s (open_machines v plan.n s.machines) rule) (λ starts by. rest s starts)))

one_schedules : (v : View) (n rule : Text) → IsOne (Schedules v n rule)
unfolding Schedules
one_schedules v n rule =
    one_of_plan _ _ _ (λ plan. one_by_kind _ _ _
    (one_of_schedule _ _ _ _ (λ i starts. one_known _)) (one_of_shop_schedule _ _ _ _ (λ s starts. one_known _)))

one_charts : (v : View) (n rule : Text) → IsOne (Charts v n rule)
unfolding Charts
one_charts v n rule =
    one_of_plan _ _ _ (λ plan. one_by_kind _ _ _
    (one_of_schedule _ _ _ _ (λ i starts. one_known _)) (one_of_shop_schedule _ _ _ _ (λ s starts. one_known _)))

-- ---- working days

beyond_told_once : (IsBeyond : Workdays → Type 0) (start marks : Text) → IsUnique (TellsBeyond IsBeyond start marks)
beyond_told_once IsBeyond start marks x y (c, is, beyond, e) (d, is2, beyond2, f) = e ∙ sym f

-- calendars that agree have one table of this kind, and none if a day is beyond one of them
pub record TellsDaysOnce (IsTable : Workdays → Text → Type 0) (IsBeyond : Workdays → Type 0) : Type 0 where
  pub one_table : (c d : Workdays) (x y : Text) → calendars.GoAlike c d → IsTable c x → IsTable d y → x ≡ y
  pub apart : (c d : Workdays) (x : Text) → calendars.GoAlike c d → IsTable c x → IsBeyond d → ⊥

one_of_calendar : (plan : Plan) (IsTable : Workdays → Text → Type 0) (IsBeyond : Workdays → Type 0) → TellsDaysOnce IsTable IsBeyond
    → IsOne (OfCalendar plan IsTable IsBeyond)
unfolding OfCalendar
one_of_calendar plan IsTable IsBeyond tells_once =
    one_unless _ _ _ (one_why_or _ _ _ _ (beyond_told_once IsBeyond plan.start plan.days) apart
    (one_unique _ _ once_shown (λ text is. one_known text)))
  where
    apart : (line text : Text) → TellsBeyond IsBeyond plan.start plan.days line → ShowsDays IsTable plan.start plan.days text → ⊥
    apart line text (d, is2, beyond, e) (c, is, table) =
        tells_once.apart c d text (calendars.calendar_once plan.start plan.days c d is is2) table beyond

    once_shown : IsUnique (ShowsDays IsTable plan.start plan.days)
    once_shown x y (c, is, table) (d, is2, table2) =
        tells_once.one_table c d x y (calendars.calendar_once plan.start plan.days c d is is2) table table2

one_days : (v : View) (n rule : Text) → IsOne (Days v n rule)
unfolding Days
one_days v n rule =
    one_of_plan _ _ _ (λ plan. one_by_kind _ _ _
    (one_of_schedule _ _ _ _ (λ i starts. one_of_calendar _ _ _ (record {
      one_table = λ c d x y alike a b. day_tables.project_days_once c d i.project.network starts x y alike a b;
      apart = λ c d x alike a b. day_tables.project_days_apart c d i.project.network starts x alike a b;
    })))
    (one_of_shop_schedule _ _ _ _ (λ s starts. one_of_calendar _ _ _ (record {
      one_table = λ c d x y alike a b. day_tables.shop_days_once c d s starts x y alike a b;
      apart = λ c d x alike a b. day_tables.shop_days_apart c d s starts x alike a b;
    }))))

-- ---- best schedules

no_shop_best_once : (word : Text) (s : JobShop) (usable : List Bool) → IsUnique (TellsNoShopBest word s usable)
no_shop_best_once word s usable x y (inl a) (inl b) = closed_told_once s usable x y a b
no_shop_best_once word s usable x y (inl (m, first, e)) (inr (opened, b)) = absurd (shops.none_not_closed s.steps usable m opened first)
no_shop_best_once word s usable x y (inr (opened, a)) (inl (m, first, e)) = absurd (shops.none_not_closed s.steps usable m opened first)
no_shop_best_once word s usable x y (inr (opened, a)) (inr (opened2, b)) = once.best_refusal_once word s x y a b

shop_best_apart : (word : Text) (s : JobShop) (usable : List Bool) (line text : Text) → TellsNoShopBest word s usable line
    → NoneIsClosed s.steps usable × IsBestTextOf word s text → ⊥
shop_best_apart word s usable line text (inl (m, first, e)) (opened, shown) = shops.none_not_closed s.steps usable m opened first
shop_best_apart word s usable line text (inr (opened2, a)) (opened, shown) = once.best_refusal_apart word s line text shown a

one_shop_best : (v : View) (plan : Plan) (word : Text) → IsOne (OfShopBest v plan word)
unfolding OfShopBest
one_shop_best v plan word =
    one_unique _ _ (shop_of_once plan) (λ s is.
    one_why_or _ _ _ _ (no_shop_best_once word s (open_machines v plan.n s.machines)) (shop_best_apart word s (open_machines v plan.n s.machines))
    (one_unique _ _ (λ x y a b. once.best_text_once word s x y a.1 b.1) (λ text has. one_known text)))

one_project_best : (v : View) (plan : Plan) (word : Text) → IsOne (OfProjectBest v plan word)
unfolding OfProjectBest
one_project_best v plan word =
    one_unique _ _ (project_of_once v plan) (λ p is.
    one_why_or _ _ _ _ (projects.best_project_refusal_once word (bound_project v plan p))
    (λ line text told shown. projects.best_project_refusal_apart word (bound_project v plan p) line text shown told)
    (one_unique _ _ (projects.best_project_text_once word (bound_project v plan p)) (λ text has. one_known text)))

one_best : (v : View) (n word : Text) → IsOne (Best v n word)
unfolding Best
one_best v n word = one_of_plan _ _ _ (λ plan. one_by_kind _ _ _ (one_project_best v plan word) (one_shop_best v plan word))

-- a call has one answer in a view
pub one_answer : (v : View) (call : Call) → IsOne (Answers v call)
one_answer v (publish body) = one_publishes v.published body
one_answer v (open_desk body) = one_opens v body
one_answer v (set_key desk body) = one_sets_key v desk body
one_answer v (capacities desk) = one_tells _
one_answer v (plans desk) = one_tells _
one_answer v (import_project desk body) = one_imports_project v body
one_answer v (import_shop desk instance body) = one_imports_shop v instance body
one_answer v (remove desk n) = one_removes v n
one_answer v (bind desk n body) = one_binds v n body
one_answer v (set_calendar desk n body) = one_calendars v n body
one_answer v (set_lag desk n body) = one_sets_lag v n body
one_answer v (dates desk n) = one_dates v n
one_answer v (schedule desk n rule) = one_schedules v n rule
one_answer v (chart desk n rule) = one_charts v n rule
one_answer v (days desk n rule) = one_days v n rule
one_answer v (best desk n budget) = one_best v n budget
