-- Views that look alike get the same answers.
use Rattle.std.proofs.Common.{◌≡◌, ℕ, zero, suc, ◌+◌, Bool, true, false, not, List, [], ◌∷◌, ◌++◌, Option, Some, None, refl, ap, ◌∙◌, subst}
use Rattle.std.specs.Prelude.{option_map, unwrap_or, is_some, nat_le}
use Rattle.plan_psplib.specs.Project.{Project}
use Rattle.plan_sgs.specs.Instances.{Planned, planned}
use Rattle.plan_shop.specs.Shop.{JobShop}
use Rattle.plan_rows.specs.declared.kinds.PlanKind.{PlanKind}
use Rattle.plan_rows.specs.declared.kinds.PlanKind.TheVariants as kinds
use Rattle.plan_rows.specs.World.{Text, Plan, takes}
use Rattle.plan_rows.specs.Changes.{Change}
use Rattle.plan_rows.specs.Views.{View}
use Rattle.plan_desk.specs.Calls.{Call, publish, open_desk, set_key, capacities, plans, import_project, import_shop, remove, bind, set_calendar, set_lag, dates, schedule, chart, days, best, Reply}
use Rattle.plan_desk.specs.Outcomes.{Outcome, tells, shows, makes, unless, given, some, why_or}
use Rattle.plan_rows.specs.Plans.{code_at, lagged_by, IsProjectOf, capacities_from, bound_project, is_open, open_machines}
use Rattle.plan_desk.specs.OfficeRoutes.{is_other_kind, Publishes, Opens, SetsKey}
use Rattle.plan_desk.specs.PlanRoutes.{of_plan, by_kind, Imports, ImportsProject, ImportsShop, Removes, Binds, Calendars, SetsLag}
use Rattle.plan_gantt.specs.ScheduleText.{TellsRefusal}
use Rattle.plan_gantt.specs.ShopBestText.{IsBestTextOf}
use Rattle.plan_gantt.specs.ProjectBestText.{IsBestProjectTextOf, TellsBestProjectRefusal}
use Rattle.plan_shop.specs.Docs.{NoneIsClosed}
use Rattle.plan_desk.specs.Refusals.{bad_schedule}
use Rattle.plan_desk.specs.PageRoutes.{Dates, IsScheduleBy, OfSchedule, TellsShopRefusal, IsShopScheduleBy, OfShopSchedule, Schedules, Charts, Days}
use Rattle.plan_desk.specs.BestRoutes.{OfProjectBest, TellsNoShopBest, OfShopBest, Best}
use Rattle.plan_desk.specs.Decisions.{Answers}
use Rattle.plan_desk.proofs.LooksLemmas.{LooksAlike}

-- each result of one outcome is a result of the other
abbrev pub IsPart : Outcome → Outcome → Type 0
IsPart O Q = (reply : Reply) (c : Change) → O reply c → Q reply c

part_itself : (O : Outcome) → IsPart O O
part_itself O reply c h = h

part_given : {A : Type 0} (o p : Option A) (r : Reply) (Rest Other : A → Outcome) → o ≡ p → ((x : A) → IsPart (Rest x) (Other x)) → IsPart (given o r Rest) (given p r Other)
unfolding given
part_given {A} o p r Rest Other same parts reply c h = subst (λ q. given q r Other reply c) same (at_value o h)
  where
    at_value : (q : Option A) → given q r Rest reply c → given q r Other reply c
    at_value None g = g
    at_value (Some x) g = parts x reply c g

part_unless : (b d : Bool) (r : Reply) (Rest Other : Outcome) → b ≡ d → IsPart Rest Other → IsPart (unless b r Rest) (unless d r Other)
unfolding unless
part_unless b d r Rest Other same part reply c h = subst (λ e. unless e r Other reply c) same (at_test b h)
  where
    at_test : (e : Bool) → unless e r Rest reply c → unless e r Other reply c
    at_test true g = g
    at_test false g = part reply c g

part_some : {A : Type 0} (P Q : A → Type 0) (Rest Other : A → Outcome) → ((x : A) → P x → Q x) → ((x : A) → IsPart (Rest x) (Other x)) → IsPart (some P Rest) (some Q Other)
unfolding some
part_some P Q Rest Other holds parts reply c (x, p, h) = (x, holds x p, parts x reply c h)

part_of_plan : (v u : View) (n : Text) (Rest Other : Plan → Outcome) → LooksAlike v u → ((plan : Plan) → IsPart (Rest plan) (Other plan)) → IsPart (of_plan v n Rest) (of_plan u n Other)
unfolding of_plan
part_of_plan v u n Rest Other alike parts = part_given _ _ _ _ _ (alike.seen n) parts

part_by_kind : (kind : PlanKind) (One Uno Other Altro : Outcome) → IsPart One Uno → IsPart Other Altro → IsPart (by_kind kind One Other) (by_kind kind Uno Altro)
unfolding by_kind
part_by_kind kinds.Project One Uno Other Altro one other = one
part_by_kind kinds.Shop One Uno Other Altro one other = other

-- ---- the data of a plan

project_alike : (v u : View) (plan : Plan) (p : Project) → LooksAlike v u → IsProjectOf v plan p → IsProjectOf u plan p
project_alike v u plan p alike (said, says, e) = (said, says, e ∙ ap (λ arcs. lagged_by arcs said) (alike.lags plan.n))

capacities_alike : (v u : View) (n place : ℕ) (available : List ℕ) → LooksAlike v u → capacities_from v n place available ≡ capacities_from u n place available
capacities_alike v u n place [] alike = refl
capacities_alike v u n place (amount ∷ others) alike =
    ap (λ o. unwrap_or (option_map (λ row. row.capacity) o) amount ∷ capacities_from v n (place + 1) others) (alike.bound n place)
    ∙ ap (λ rest. unwrap_or (option_map (λ row. row.capacity) (code_at u n place)) amount ∷ rest) (capacities_alike v u n (place + 1) others alike)

bound_alike : (v u : View) (plan : Plan) (p : Project) → LooksAlike v u → bound_project v plan p ≡ bound_project u plan p
bound_alike v u plan p alike = ap (planned p) (capacities_alike v u plan.n 1 p.available alike)

open_alike : (v u : View) (n machines : ℕ) → LooksAlike v u → open_machines v n machines ≡ open_machines u n machines
open_alike v u n zero alike = refl
open_alike v u n (suc machines) alike =
    ap (λ rest. rest ++ is_open (code_at v n machines) ∷ []) (open_alike v u n machines alike)
    ∙ ap (λ o. open_machines u n machines ++ is_open o ∷ []) (alike.bound n machines)

-- ---- routes

part_publishes : (v u : View) (body : Text) → LooksAlike v u → IsPart (Publishes v.published body) (Publishes u.published body)
unfolding Publishes
part_publishes v u body alike =
    part_given _ _ _ _ _ refl (λ b. part_unless _ _ _ _ _ (ap (is_other_kind b.kind) (alike.code b.code)) (part_itself _))

part_opens : (v u : View) (body : Text) → LooksAlike v u → IsPart (Opens v body) (Opens u body)
unfolding Opens
part_opens v u body alike = part_given _ _ _ _ _ refl (λ b. part_unless _ _ _ _ _ (ap is_some alike.desk) (part_itself _))

part_sets_key : (v u : View) (desk body : Text) → LooksAlike v u → IsPart (SetsKey v desk body) (SetsKey u desk body)
unfolding SetsKey
part_sets_key v u desk body alike = part_unless _ _ _ _ _ (ap (λ o. not (is_some o)) alike.desk) (part_itself _)

part_imports : {A : Type 0} (v u : View) (kind : PlanKind) (name body : Text) (Tells : Text → Type 0) (Reads : A → Type 0) → LooksAlike v u
    → IsPart (Imports v kind name body Tells Reads) (Imports u kind name body Tells Reads)
unfolding Imports
part_imports v u kind name body Tells Reads alike =
    part_given _ _ _ _ _ alike.desk (λ row. part_unless _ _ _ _ _ (ap (nat_le 100) alike.count) (part_itself _))

part_imports_project : (v u : View) (body : Text) → LooksAlike v u → IsPart (ImportsProject v body) (ImportsProject u body)
unfolding ImportsProject
part_imports_project v u body alike = part_imports _ _ _ _ _ _ _ alike

part_imports_shop : (v u : View) (name body : Text) → LooksAlike v u → IsPart (ImportsShop v name body) (ImportsShop u name body)
unfolding ImportsShop
part_imports_shop v u name body alike = part_imports _ _ _ _ _ _ _ alike

part_removes : (v u : View) (n : Text) → LooksAlike v u → IsPart (Removes v n) (Removes u n)
unfolding Removes
part_removes v u n alike = part_of_plan _ _ _ _ _ alike (λ plan. part_itself _)

part_binds : (v u : View) (n body : Text) → LooksAlike v u → IsPart (Binds v n body) (Binds u n body)
unfolding Binds
part_binds v u n body alike =
    part_of_plan _ _ _ _ _ alike (λ plan. part_some _ _ _ _ (λ count has. has) (λ count. part_given _ _ _ _ _ refl (λ b.
    part_unless _ _ _ _ _ (ap (λ o. not (is_some o)) (alike.code b.code))
    (part_unless _ _ _ _ _ (ap (is_other_kind (takes plan.kind)) (alike.code b.code)) (part_itself _)))))

part_calendars : (v u : View) (n body : Text) → LooksAlike v u → IsPart (Calendars v n body) (Calendars u n body)
unfolding Calendars
part_calendars v u n body alike = part_of_plan _ _ _ _ _ alike (λ plan. part_itself _)

part_sets_lag : (v u : View) (n body : Text) → LooksAlike v u → IsPart (SetsLag v n body) (SetsLag u n body)
unfolding SetsLag
part_sets_lag v u n body alike = part_of_plan _ _ _ _ _ alike (λ plan. part_itself _)

part_dates : (v u : View) (n : Text) → LooksAlike v u → IsPart (Dates v n) (Dates u n)
unfolding Dates
part_dates v u n alike =
    part_of_plan _ _ _ _ _ alike (λ plan. part_by_kind _ _ _ _ _
    (part_some _ _ _ _ (λ p is. project_alike v u plan p alike is) (λ p. part_itself _)) (part_itself _))

part_of_schedule : (v u : View) (plan : Plan) (rule : Text) (Rest : Planned → List ℕ → Outcome) → LooksAlike v u → IsPart (OfSchedule v plan rule Rest) (OfSchedule u plan rule Rest)
unfolding OfSchedule
part_of_schedule v u plan rule Rest alike =
    part_some _ _ _ _ (λ p is. project_alike v u plan p alike is)
    (λ p reply c h. subst (λ i. why_or (TellsRefusal rule i) bad_schedule (IsScheduleBy i rule)
    (Rest i) reply c) (bound_alike v u plan p alike) h)

part_of_shop_schedule : (v u : View) (plan : Plan) (rule : Text) (Rest : JobShop → List ℕ → Outcome) → LooksAlike v u → IsPart (OfShopSchedule v plan rule Rest) (OfShopSchedule u plan rule Rest)
unfolding OfShopSchedule
part_of_shop_schedule v u plan rule Rest alike =
    part_some _ _ _ _ (λ s is. is) (λ s reply c h. subst
    (λ usable. why_or (TellsShopRefusal rule s usable) bad_schedule (IsShopScheduleBy s usable rule)
    (Rest s) reply c) (open_alike v u plan.n s.machines alike) h)

part_schedules : (v u : View) (n rule : Text) → LooksAlike v u → IsPart (Schedules v n rule) (Schedules u n rule)
unfolding Schedules
part_schedules v u n rule alike =
    part_of_plan _ _ _ _ _ alike (λ plan. part_by_kind _ _ _ _ _ (part_of_schedule v u plan rule _ alike) (part_of_shop_schedule v u plan rule _ alike))

part_charts : (v u : View) (n rule : Text) → LooksAlike v u → IsPart (Charts v n rule) (Charts u n rule)
unfolding Charts
part_charts v u n rule alike =
    part_of_plan _ _ _ _ _ alike (λ plan. part_by_kind _ _ _ _ _ (part_of_schedule v u plan rule _ alike) (part_of_shop_schedule v u plan rule _ alike))

part_days : (v u : View) (n rule : Text) → LooksAlike v u → IsPart (Days v n rule) (Days u n rule)
unfolding Days
part_days v u n rule alike =
    part_of_plan _ _ _ _ _ alike (λ plan. part_by_kind _ _ _ _ _ (part_of_schedule v u plan rule _ alike) (part_of_shop_schedule v u plan rule _ alike))

part_best : (v u : View) (n word : Text) → LooksAlike v u → IsPart (Best v n word) (Best u n word)
unfolding Best OfProjectBest OfShopBest
part_best v u n word alike =
    part_of_plan _ _ _ _ _ alike (λ plan. part_by_kind _ _ _ _ _
    (part_some _ _ _ _ (λ p is. project_alike v u plan p alike is) (λ p reply c h.
    subst (λ i. why_or (TellsBestProjectRefusal word i) bad_schedule (IsBestProjectTextOf word i) (λ text. shows (λ shown. shown ≡ text)) reply c) (bound_alike v u plan p alike) h))
    (part_some _ _ _ _ (λ s is. is) (λ s reply c h.
    subst (λ usable. why_or (TellsNoShopBest word s usable) bad_schedule (λ text. NoneIsClosed s.steps usable × IsBestTextOf word s text) (λ text. shows (λ shown. shown ≡ text)) reply c)
    (open_alike v u plan.n s.machines alike) h)))

-- views that look alike get the same answers
pub answers_alike : (v u : View) (call : Call) → LooksAlike v u → IsPart (Answers v call) (Answers u call)
answers_alike v u (publish body) alike = part_publishes v u body alike
answers_alike v u (open_desk body) alike = part_opens v u body alike
answers_alike v u (set_key desk body) alike = part_sets_key v u desk body alike
answers_alike v u (capacities desk) alike = λ reply c h. subst (λ text. tells text reply c) alike.codes h
answers_alike v u (plans desk) alike = λ reply c h. subst (λ text. tells text reply c) alike.plans h
answers_alike v u (import_project desk body) alike = part_imports_project v u body alike
answers_alike v u (import_shop desk instance body) alike = part_imports_shop v u instance body alike
answers_alike v u (remove desk n) alike = part_removes v u n alike
answers_alike v u (bind desk n body) alike = part_binds v u n body alike
answers_alike v u (set_calendar desk n body) alike = part_calendars v u n body alike
answers_alike v u (set_lag desk n body) alike = part_sets_lag v u n body alike
answers_alike v u (dates desk n) alike = part_dates v u n alike
answers_alike v u (schedule desk n rule) alike = part_schedules v u n rule alike
answers_alike v u (chart desk n rule) alike = part_charts v u n rule alike
answers_alike v u (days desk n rule) alike = part_days v u n rule alike
answers_alike v u (best desk n budget) alike = part_best v u n budget alike
