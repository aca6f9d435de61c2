-- The decisions on a bind, a calendar and a lag, from the answers of a book.
use Rattle.std.proofs.Common.{◌≡◌, ℕ, Option, Some, None, inl, inr, refl, sym, ap, ◌∙◌, subst}
use Rattle.std.specs.Prelude.{option_map}
use Rattle.plan_psplib.specs.Project.{Project, SaysProject}
use Rattle.plan_calendar.specs.WorkingDay.{Workdays}
use Rattle.plan_calendar.specs.CalendarText.{IsCalendar, RefusesTexts}
use Rattle.plan_gantt.specs.CalendarFaultText.{calendar_fault_text_of}
use Rattle.plan_calendar.specs.declared.calendar.CalendarFault.{CalendarFault}
use Rattle.plan_rows.specs.declared.kinds.Kind.{Kind}
use Rattle.plan_rows.specs.declared.kinds.PlanKind.{PlanKind}
use Rattle.plan_desk.specs.declared.lookup.FoundPlan.{FoundPlan}
use Rattle.plan_rows.specs.World.{Text, Published, takes, code_in}
use Rattle.plan_rows.specs.Changes.{Keep, BindPlace, SetCalendar, SetLag}
use Rattle.plan_desk.specs.Calls.{Reply, answer}
use Rattle.plan_rows.specs.Views.{View}
use Rattle.plan_desk.specs.Bodies.{BindBody, CalendarBody, LagBody, bind_body, calendar_body, lag_body}
use Rattle.plan_desk.specs.Outcomes.{refuses, makes, some, why_or}
use Rattle.plan_rows.specs.Plans.{plan_seen, is_place}
use Rattle.plan_desk.specs.JsonTexts.{bind_text, calendar_text, lag_text}
use Rattle.plan_rows.specs.Books.{Matches, IsCapacityAnswer}
use Rattle.plan_desk.specs.PlanRoutes.{of_plan, Binds, Calendars, SetsLag}
use Rattle.plan_desk.specs.Refusals.{not_found, bad_body, bad_calendar}
use Rattle.plan_desk.specs.RouteRefusals.{bind_refusal_of, lag_refusal_of}
use Rattle.plan_desk.specs.Lookup.{IsNumbered}
use Rattle.plan_desk.specs.FoundFiles.{RowHasPlaces, IsProjectOfRow}
use Rattle.plan_desk.proofs.RefusedLemmas.{given_there, binds_refused, binds_made, IsProjectIn, not_none, sets_lag_refused, sets_lag_made}
use Rattle.plan_desk.proofs.RouteLemmas.{given_nothing}
use Rattle.plan_desk.proofs.FoundFileLemmas.{places_of_row}

-- ---- a calendar

pub calendars_nowhere : (v : View) (text body : Text) → plan_seen v text ≡ None → Calendars v text body not_found Keep
unfolding Calendars of_plan
calendars_nowhere v text body absent = given_nothing (plan_seen v text) not_found _ absent

pub calendars_nothing : (v : View) (text body : Text) (found : FoundPlan) → IsNumbered v text found → calendar_body body ≡ None → Calendars v text body bad_body Keep
unfolding Calendars of_plan
calendars_nothing v text body found is none =
    given_there (plan_seen v text) is.row not_found _ _ _ is.seen (given_nothing (calendar_body body) bad_body _ none)

pub calendars_refused : (v : View) (text body start days line : Text) (found : FoundPlan) (b : CalendarBody) (fault : CalendarFault) → IsNumbered v text found
    → calendar_body body ≡ Some b → start ≡ b.start → days ≡ b.days → RefusesTexts start days fault → line ≡ calendar_fault_text_of fault
    → Calendars v text body (bad_calendar line) Keep
unfolding Calendars of_plan why_or some refuses
calendars_refused v text body start days line found b fault is says first second refused told =
    given_there (plan_seen v text) is.row not_found _ _ _ is.seen
    (given_there (calendar_body body) b bad_body _ _ _ says
    (inl (line, (fault, texts, told), (refl, refl))))
  where
    texts : RefusesTexts b.start b.days fault
    texts = subst (λ (t : Text). RefusesTexts b.start t fault) second (subst (λ (t : Text). RefusesTexts t days fault) first refused)

pub calendars_made : (v : View) (text body start days : Text) (found : FoundPlan) (b : CalendarBody) (c : Workdays) → IsNumbered v text found
    → calendar_body body ≡ Some b → start ≡ b.start → days ≡ b.days → IsCalendar start days c
    → Calendars v text body (answer 200 (calendar_text b.start b.days)) (SetCalendar found.n b.start b.days)
unfolding Calendars of_plan why_or some makes
calendars_made v text body start days found b c is says first second calendar =
    given_there (plan_seen v text) is.row not_found _ _ _ is.seen
    (given_there (calendar_body body) b bad_body _ _ _ says
    (inr (c, texts, (refl, ap (λ (n : ℕ). SetCalendar n b.start b.days) (sym is.number)))))
  where
    texts : IsCalendar b.start b.days c
    texts = subst (λ (t : Text). IsCalendar b.start t c) second (subst (λ (t : Text). IsCalendar t days c) first calendar)

-- ---- a lag

pub sets_lag_nowhere : (v : View) (text body : Text) → plan_seen v text ≡ None → SetsLag v text body not_found Keep
unfolding SetsLag of_plan
sets_lag_nowhere v text body absent = given_nothing (plan_seen v text) not_found _ absent

pub sets_lag_nothing : (v : View) (text body : Text) (found : FoundPlan) → IsNumbered v text found → lag_body body ≡ None → SetsLag v text body bad_body Keep
unfolding SetsLag of_plan
sets_lag_nothing v text body found is none =
    given_there (plan_seen v text) is.row not_found _ _ _ is.seen (given_nothing (lag_body body) bad_body _ none)

project_in : (v : View) (text : Text) (found : FoundPlan) (is : IsNumbered v text found) (project : Option Project) → IsProjectOfRow found.plan project → IsProjectIn is.row project
project_in v text found is None shop = sym is.answer.kind ∙ shop
project_in v text found is (Some p) said = (sym is.answer.kind ∙ said.0, subst (λ (t : Text). SaysProject t p) is.answer.body said.1)

pub sets_lag_not : (v : View) (text body : Text) (found : FoundPlan) (project : Option Project) (b : LagBody) (reply : Reply) → IsNumbered v text found
    → IsProjectOfRow found.plan project → lag_body body ≡ Some b → lag_refusal_of b project ≡ Some reply → SetsLag v text body reply Keep
sets_lag_not v text body found project b reply is of says refused =
    sets_lag_refused v is.row project text body b reply is.seen (project_in v text found is project of) says refused

pub sets_lag_so : (v : View) (text body : Text) (found : FoundPlan) (project : Option Project) (b : LagBody) → IsNumbered v text found
    → IsProjectOfRow found.plan project → lag_body body ≡ Some b → lag_refusal_of b project ≡ None
    → SetsLag v text body (answer 200 (lag_text b.from b.to b.lag)) (SetLag found.n b.from b.to b.lag)
sets_lag_so v text body found None b is of says passed = absurd (not_none _ passed)
sets_lag_so v text body found (Some p) b is of says passed =
    subst (λ (n : ℕ). SetsLag v text body (answer 200 (lag_text b.from b.to b.lag)) (SetLag n b.from b.to b.lag)) is.number
    (sets_lag_made v is.row p text body b is.seen (project_in v text found is (Some p) of) says passed)

-- ---- a bind

pub binds_nowhere : (v : View) (text body : Text) → plan_seen v text ≡ None → Binds v text body not_found Keep
unfolding Binds of_plan
binds_nowhere v text body absent = given_nothing (plan_seen v text) not_found _ absent

-- the kind of a code, from the answer of a book
pub kind_answered : (code : Option Published) (row : Option (Kind × ℕ)) → Matches IsCapacityAnswer code row
    → option_map (λ (found : Published). found.kind) code ≡ option_map (λ (found : Kind × ℕ). found.0) row
kind_answered None None h = refl
kind_answered None (Some x) h = absurd h
kind_answered (Some code) None h = absurd h
kind_answered (Some code) (Some x) h = ap Some (sym h.kind)

-- equal kinds have the same refusal
pub judged_so : (published known : Option Kind) (kind taken : Kind) (o : Option Reply) → published ≡ known → kind ≡ taken
    → bind_refusal_of published kind ≡ o → bind_refusal_of known taken ≡ o
judged_so published known kind taken o same alike e =
    subst (λ (k : Kind). bind_refusal_of known k ≡ o) alike (subst (λ (p : Option Kind). bind_refusal_of p kind ≡ o) same e)

pub binds_nothing : (v : View) (text body : Text) (found : FoundPlan) (count : ℕ) → IsNumbered v text found → RowHasPlaces found.plan count
    → bind_body (is_place found.plan.kind count) body ≡ None → Binds v text body bad_body Keep
unfolding Binds of_plan some
binds_nothing v text body found count is has none =
    given_there (plan_seen v text) is.row not_found _ _ _ is.seen (
      count,
      places_of_row v text found is count has,
      given_nothing (bind_body (is_place is.row.kind count) body) bad_body _
          (subst (λ (k : PlanKind). bind_body (is_place k count) body ≡ None) is.answer.kind none),
    )

-- the refusal of a bind, from the tables
refusal_there : (v : View) (code : Text) (kind other : PlanKind) (b : BindBody) (row : Option (Kind × ℕ)) (o : Option Reply) → kind ≡ other → code ≡ b.code
    → Matches IsCapacityAnswer (code_in v.published code) row
    → bind_refusal_of (option_map (λ (known : Kind × ℕ). known.0) row) (takes kind) ≡ o
    → bind_refusal_of (option_map (λ (found : Published). found.kind) (code_in v.published b.code)) (takes other) ≡ o
refusal_there v code kind other b row o alike same answered refused =
    let known = kind_answered (code_in v.published code) row answered in
    subst (λ (k : PlanKind). bind_refusal_of (option_map (λ (found : Published). found.kind) (code_in v.published b.code)) (takes k) ≡ o) alike
    (subst (λ (t : Text). bind_refusal_of (option_map (λ (found : Published). found.kind) (code_in v.published t)) (takes kind) ≡ o) same
    (subst (λ (published : Option Kind). bind_refusal_of published (takes kind) ≡ o) (sym known) refused))

pub binds_not : (v : View) (text body code : Text) (found : FoundPlan) (count : ℕ) (b : BindBody) (row : Option (Kind × ℕ)) (reply : Reply) → IsNumbered v text found
    → RowHasPlaces found.plan count → bind_body (is_place found.plan.kind count) body ≡ Some b → code ≡ b.code
    → Matches IsCapacityAnswer (code_in v.published code) row
    → bind_refusal_of (option_map (λ (known : Kind × ℕ). known.0) row) (takes found.plan.kind) ≡ Some reply → Binds v text body reply Keep
binds_not v text body code found count b row reply is has says same answered refused =
    binds_refused v is.row text body count b reply is.seen (places_of_row v text found is count has)
    (subst (λ (k : PlanKind). bind_body (is_place k count) body ≡ Some b) is.answer.kind says)
    (refusal_there v code found.plan.kind is.row.kind b row (Some reply) is.answer.kind same answered refused)

pub binds_so : (v : View) (text body code : Text) (found : FoundPlan) (count : ℕ) (b : BindBody) (row : Option (Kind × ℕ)) → IsNumbered v text found
    → RowHasPlaces found.plan count → bind_body (is_place found.plan.kind count) body ≡ Some b → code ≡ b.code
    → Matches IsCapacityAnswer (code_in v.published code) row
    → bind_refusal_of (option_map (λ (known : Kind × ℕ). known.0) row) (takes found.plan.kind) ≡ None
    → Binds v text body (answer 200 (bind_text b.code b.place)) (BindPlace found.n b.place b.code)
binds_so v text body code found count b row is has says same answered passed =
    subst (λ (n : ℕ). Binds v text body (answer 200 (bind_text b.code b.place)) (BindPlace n b.place b.code)) is.number
    (binds_made v is.row text body count b is.seen (places_of_row v text found is count has)
    (subst (λ (k : PlanKind). bind_body (is_place k count) body ≡ Some b) is.answer.kind says)
    (refusal_there v code found.plan.kind is.row.kind b row None is.answer.kind same answered passed))
