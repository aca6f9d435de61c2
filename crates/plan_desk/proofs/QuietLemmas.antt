-- Only the publishing route publishes, publishing depends only on the codes, and a body that names
-- no desk opens none.
use Rattle.std.proofs.Common.{◌≡◌, ℕ, Bool, true, false, List, Option, Some, None, refl, subst, arith}
use Rattle.std.proofs.lemmas.Bool.{both_ways}
use Rattle.std.specs.Prelude.{option_and_then, codes}
use Rattle.serde_json.specs.Data.{Data}
use Rattle.plan_rows.specs.World.{Text, Plan}
use Rattle.plan_rows.specs.Changes.{Change, Keep, is_publishing}
use Rattle.plan_rows.specs.Views.{View}
use Rattle.plan_rows.specs.Names.{is_name}
use Rattle.plan_desk.specs.Bodies.{json, text_in, any_text, desk_members, desk_body, desk_named}
use Rattle.plan_desk.specs.Calls.{Call, publish, open_desk, set_key, capacities, plans, import_project, import_shop, remove, bind, set_calendar, set_lag, dates}
use Rattle.plan_desk.specs.Calls.{schedule, chart, days, best, Reply, is_publish}
use Rattle.plan_rows.specs.declared.kinds.PlanKind.{PlanKind}
use Rattle.plan_rows.specs.declared.kinds.PlanKind.TheVariants as kinds
use Rattle.plan_sgs.specs.Instances.{Planned}
use Rattle.plan_shop.specs.Shop.{JobShop}
use Rattle.plan_rows.specs.Plans.{bound_project}
use Rattle.plan_desk.specs.Outcomes.{Outcome, refuses, given}
use Rattle.plan_desk.specs.OfficeRoutes.{Publishes, Opens, SetsKey}
use Rattle.plan_desk.specs.PlanRoutes.{of_plan, by_kind, Imports, ImportsProject, ImportsShop, Removes, Binds, Calendars, SetsLag}
use Rattle.plan_desk.specs.PageRoutes.{Dates, OfSchedule, OfShopSchedule, Schedules, Charts, OfCalendar, Days}
use Rattle.plan_desk.specs.BestRoutes.{OfProjectBest, OfShopBest, Best}
use Rattle.plan_desk.specs.Decisions.{Answers}
use Rattle.plan_desk.proofs.OutcomeLemmas.{IsQuiet, quiet_refuses, quiet_tells, quiet_shows, quiet_makes, quiet_unless, quiet_given, quiet_some, quiet_why_or}

quiet_opens : (v : View) (body : Text) → IsQuiet (Opens v body)
unfolding Opens
quiet_opens v body = quiet_given _ _ _ (λ b. quiet_unless _ _ _ (quiet_makes _ _ _ refl))

quiet_sets_key : (v : View) (desk body : Text) → IsQuiet (SetsKey v desk body)
unfolding SetsKey
quiet_sets_key v desk body = quiet_unless _ _ _ (quiet_given _ _ _ (λ key. quiet_makes _ _ _ refl))

quiet_of_plan : (v : View) (n : Text) (Rest : Plan → Outcome) → ((plan : Plan) → IsQuiet (Rest plan)) → IsQuiet (of_plan v n Rest)
unfolding of_plan
quiet_of_plan v n Rest rest = quiet_given _ _ _ rest

quiet_by_kind : (kind : PlanKind) (One Other : Outcome) → IsQuiet One → IsQuiet Other → IsQuiet (by_kind kind One Other)
unfolding by_kind
quiet_by_kind kinds.Project One Other one other = one
quiet_by_kind kinds.Shop One Other one other = other

quiet_imports : {A : Type 0} (v : View) (kind : PlanKind) (name body : Text) (Tells : Text → Type 0) (Reads : A → Type 0)
    → IsQuiet (Imports v kind name body Tells Reads)
unfolding Imports
quiet_imports v kind name body Tells Reads =
    quiet_given _ _ _ (λ row. quiet_unless _ _ _ (quiet_unless _ _ _ (quiet_why_or _ _ _ _ (λ read. quiet_makes _ _ _ refl))))

quiet_imports_project : (v : View) (body : Text) → IsQuiet (ImportsProject v body)
unfolding ImportsProject
quiet_imports_project v body = quiet_imports _ _ _ _ _ _

quiet_imports_shop : (v : View) (name body : Text) → IsQuiet (ImportsShop v name body)
unfolding ImportsShop
quiet_imports_shop v name body = quiet_imports _ _ _ _ _ _

quiet_removes : (v : View) (n : Text) → IsQuiet (Removes v n)
unfolding Removes
quiet_removes v n = quiet_of_plan _ _ _ (λ plan. quiet_makes _ _ _ refl)

quiet_binds : (v : View) (n body : Text) → IsQuiet (Binds v n body)
unfolding Binds
quiet_binds v n body =
    quiet_of_plan _ _ _ (λ plan. quiet_some _ _ (λ count. quiet_given _ _ _ (λ b.
    quiet_unless _ _ _ (quiet_unless _ _ _ (quiet_makes _ _ _ refl)))))

quiet_calendars : (v : View) (n body : Text) → IsQuiet (Calendars v n body)
unfolding Calendars
quiet_calendars v n body =
    quiet_of_plan _ _ _ (λ plan. quiet_given _ _ _ (λ b. quiet_why_or _ _ _ _ (λ c. quiet_makes _ _ _ refl)))

quiet_sets_lag : (v : View) (n body : Text) → IsQuiet (SetsLag v n body)
unfolding SetsLag
quiet_sets_lag v n body =
    quiet_of_plan _ _ _ (λ plan. quiet_given _ _ _ (λ b. quiet_by_kind _ _ _
    (quiet_some _ _ (λ p. quiet_unless _ _ _ (quiet_makes _ _ _ refl))) (quiet_refuses _)))

quiet_dates : (v : View) (n : Text) → IsQuiet (Dates v n)
unfolding Dates
quiet_dates v n =
    quiet_of_plan _ _ _ (λ plan. quiet_by_kind _ _ _ (quiet_some _ _ (λ p. quiet_shows _)) (quiet_refuses _))

quiet_of_schedule : (v : View) (plan : Plan) (rule : Text) (Rest : Planned → List ℕ → Outcome) → ((i : Planned) (starts : List ℕ) → IsQuiet (Rest i starts))
    → IsQuiet (OfSchedule v plan rule Rest)
unfolding OfSchedule
quiet_of_schedule v plan rule Rest rest = quiet_some _ _ (λ p. quiet_why_or _ _ _ _ (λ starts. rest (bound_project v plan p) starts))

quiet_of_shop_schedule : (v : View) (plan : Plan) (rule : Text) (Rest : JobShop → List ℕ → Outcome) → ((s : JobShop) (starts : List ℕ) → IsQuiet (Rest s starts))
    → IsQuiet (OfShopSchedule v plan rule Rest)
unfolding OfShopSchedule
quiet_of_shop_schedule v plan rule Rest rest = quiet_some _ _ (λ s. quiet_why_or _ _ _ _ (λ starts. rest s starts))

quiet_schedules : (v : View) (n rule : Text) → IsQuiet (Schedules v n rule)
unfolding Schedules
quiet_schedules v n rule =
    quiet_of_plan _ _ _ (λ plan. quiet_by_kind _ _ _
    (quiet_of_schedule _ _ _ _ (λ i starts. quiet_shows _)) (quiet_of_shop_schedule _ _ _ _ (λ s starts. quiet_shows _)))

quiet_charts : (v : View) (n rule : Text) → IsQuiet (Charts v n rule)
unfolding Charts
quiet_charts v n rule =
    quiet_of_plan _ _ _ (λ plan. quiet_by_kind _ _ _
    (quiet_of_schedule _ _ _ _ (λ i starts. quiet_shows _)) (quiet_of_shop_schedule _ _ _ _ (λ s starts. quiet_shows _)))

quiet_of_calendar : (plan : Plan) (IsTable : _) (IsBeyond : _) → IsQuiet (OfCalendar plan IsTable IsBeyond)
unfolding OfCalendar
quiet_of_calendar plan IsTable IsBeyond = quiet_unless _ _ _ (quiet_why_or _ _ _ _ (λ text. quiet_shows _))

quiet_days : (v : View) (n rule : Text) → IsQuiet (Days v n rule)
unfolding Days
quiet_days v n rule =
    quiet_of_plan _ _ _ (λ plan. quiet_by_kind _ _ _
    (quiet_of_schedule _ _ _ _ (λ i starts. quiet_of_calendar _ _ _)) (quiet_of_shop_schedule _ _ _ _ (λ s starts. quiet_of_calendar _ _ _)))

quiet_best : (v : View) (n word : Text) → IsQuiet (Best v n word)
unfolding Best OfProjectBest OfShopBest
quiet_best v n word =
    quiet_of_plan _ _ _ (λ plan. quiet_by_kind _ _ _
    (quiet_some _ _ (λ p. quiet_why_or _ _ _ _ (λ text. quiet_shows _))) (quiet_some _ _ (λ s. quiet_why_or _ _ _ _ (λ text. quiet_shows _))))

-- only the publishing route publishes
pub quiet : (v : View) (call : Call) (reply : Reply) (c : Change) → is_publish call ≡ false → Answers v call reply c → is_publishing c ≡ false
quiet v (publish body) reply c e h = absurd (both_ways true e refl)
quiet v (open_desk body) reply c e h = quiet_opens v body reply c h
quiet v (set_key desk body) reply c e h = quiet_sets_key v desk body reply c h
quiet v (capacities desk) reply c e h = quiet_tells _ reply c h
quiet v (plans desk) reply c e h = quiet_tells _ reply c h
quiet v (import_project desk body) reply c e h = quiet_imports_project v body reply c h
quiet v (import_shop desk instance body) reply c e h = quiet_imports_shop v instance body reply c h
quiet v (remove desk n) reply c e h = quiet_removes v n reply c h
quiet v (bind desk n body) reply c e h = quiet_binds v n body reply c h
quiet v (set_calendar desk n body) reply c e h = quiet_calendars v n body reply c h
quiet v (set_lag desk n body) reply c e h = quiet_sets_lag v n body reply c h
quiet v (dates desk n) reply c e h = quiet_dates v n reply c h
quiet v (schedule desk n rule) reply c e h = quiet_schedules v n rule reply c h
quiet v (chart desk n rule) reply c e h = quiet_charts v n rule reply c h
quiet v (days desk n rule) reply c e h = quiet_days v n rule reply c h
quiet v (best desk n budget) reply c e h = quiet_best v n budget reply c h

-- publishing depends only on the codes
pub frugal : (v u : View) (body : Text) (reply : Reply) (c : Change) → v.published ≡ u.published
    → Answers v (publish body) reply c → Answers u (publish body) reply c
frugal v u body reply c e h = subst (λ rows. Publishes rows body reply c) e h

-- ---- a body that names no desk opens none

-- a member that isn't a text passes no test
no_text : (passes : Text → Bool) (name : Text) (value : Data) → text_in any_text name value ≡ None → text_in passes name value ≡ None
no_text passes name value e = grind (arith, e)

nothing_opened : (value : Option Data) → option_and_then (text_in any_text (codes "desk")) value ≡ None → option_and_then desk_members value ≡ None
nothing_opened None e = refl
nothing_opened (Some value) e = grind (arith, no_text is_name (codes "desk") value e)

-- a missing value is refused, and nothing changes
none_keeps : {A : Type 0} (o : Option A) (r : Reply) (Rest : A → Outcome) (reply : Reply) (c : Change) → o ≡ None → given o r Rest reply c → c ≡ Keep
unfolding given refuses
none_keeps None r Rest reply c e h = h.1
none_keeps (Some x) r Rest reply c e h = grind (arith, e)

pub nameless : (v : View) (body : Text) (reply : Reply) (c : Change) → desk_named body ≡ None → Answers v (open_desk body) reply c → c ≡ Keep
unfolding Opens desk_named desk_body
nameless v body reply c e h = none_keeps _ _ _ reply c (nothing_opened (json body) e) h
