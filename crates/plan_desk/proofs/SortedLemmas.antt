-- An accepted command changes something, and no other request does.
use Rattle.std.proofs.Common.{◌≡◌, ℕ, ◌⊎◌, inl, inr, Bool, true, false, ◌&&◌, Option, Some, None, refl, sym, ap, ◌∙◌}
use Rattle.std.proofs.lemmas.Bool.{both_ways}
use Rattle.std.specs.Prelude.{nat_lt}
use Rattle.plan_rows.specs.declared.kinds.PlanKind.{PlanKind}
use Rattle.plan_rows.specs.declared.kinds.PlanKind.TheVariants as kinds
use Rattle.plan_rows.specs.declared.fault.BookFault.{BookFault}
use Rattle.plan_rows.specs.declared.fault.BookFault.TheVariants.{NoMemory, Store}
use Rattle.plan_rows.specs.World.{Text, Plan}
use Rattle.plan_rows.specs.Changes.{Change, Keep}
use Rattle.plan_rows.specs.Views.{View}
use Rattle.plan_desk.specs.Calls.{Call, publish, open_desk, set_key, capacities, plans, import_project, import_shop, remove, bind, set_calendar, set_lag, dates}
use Rattle.plan_desk.specs.Calls.{schedule, chart, days, best, Request, Reply, writes, is_accepted, admits}
use Rattle.plan_desk.specs.Stories.{decided}
use Rattle.plan_desk.specs.Outcomes.{Outcome, refuses, tells, shows, makes, unless, given, some, why_or}
use Rattle.plan_desk.specs.OfficeRoutes.{Publishes, Opens, SetsKey}
use Rattle.plan_desk.specs.PlanRoutes.{of_plan, by_kind, Imports, ImportsProject, ImportsShop, Removes, Binds, Calendars, SetsLag}
use Rattle.plan_desk.specs.PageRoutes.{Dates, OfSchedule, OfShopSchedule, Schedules, Charts, OfCalendar, Days}
use Rattle.plan_desk.specs.BestRoutes.{OfProjectBest, OfShopBest, Best}
use Rattle.plan_desk.specs.Decisions.{Answers, IsDecision}
use Rattle.plan_desk.specs.BookSteps.{want_of}

-- a change that changes something
abbrev pub IsMade : Change → Type 0
IsMade c = c ≡ Keep → ⊥

-- the request isn't an accepted command, and nothing changes
pub record Keeps (command : Bool) (reply : Reply) (c : Change) : Type 0 where
  pub kept : c ≡ Keep
  pub unaccepted : (command && nat_lt reply.status 300) ≡ false

pub record Makes (command : Bool) (reply : Reply) (c : Change) : Type 0 where
  pub made : IsMade c
  pub is_command : command ≡ true
  pub accepted : nat_lt reply.status 300 ≡ true

abbrev pub IsSorted : Bool → Outcome → Type 0
IsSorted command Out = (reply : Reply) (c : Change) → Out reply c → (Keeps command reply c ⊎ Makes command reply c) × (nat_lt reply.status 500 ≡ true)

-- a refusal of the office
abbrev IsRefusal : Reply → Type 0
IsRefusal r = (nat_lt r.status 300 ≡ false) × (nat_lt r.status 500 ≡ true)

never : (b : Bool) → (b && false) ≡ false
never true = refl
never false = refl

sorted_refuses : (command : Bool) (r : Reply) → IsRefusal r → IsSorted command (refuses r)
unfolding refuses
sorted_refuses command r is reply c h = (
  inl (record {
    kept = h.1;
    unaccepted = ap (λ (x : Reply). command && nat_lt x.status 300) h.0 ∙ ap (λ b. command && b) is.0 ∙ never command;
  }),
  ap (λ (x : Reply). nat_lt x.status 500) h.0 ∙ is.1,
)

sorted_tells : (text : Text) → IsSorted false (tells text)
unfolding tells
sorted_tells text reply c h = (inl (record { kept = h.1; unaccepted = refl }), ap (λ (x : Reply). nat_lt x.status 500) h.0)

sorted_shows : (P : Text → Type 0) → IsSorted false (shows P)
unfolding shows
sorted_shows P reply c (text, is, e, keeps) = (inl (record { kept = keeps; unaccepted = refl }), ap (λ (x : Reply). nat_lt x.status 500) e)

sorted_makes : (status : ℕ) (text : Text) (made : Change) → IsMade made → nat_lt status 300 ≡ true → nat_lt status 500 ≡ true → IsSorted true (makes status text made)
unfolding makes
sorted_makes status text made is accepted fine reply c h = (
  inr (record {
    made = λ keeps. is (sym h.1 ∙ keeps);
    is_command = refl;
    accepted = ap (λ (x : Reply). nat_lt x.status 300) h.0 ∙ accepted;
  }),
  ap (λ (x : Reply). nat_lt x.status 500) h.0 ∙ fine,
)

sorted_unless : (command b : Bool) (r : Reply) (Rest : Outcome) → IsRefusal r → IsSorted command Rest → IsSorted command (unless b r Rest)
unfolding unless
sorted_unless command true r Rest is rest = sorted_refuses command r is
sorted_unless command false r Rest is rest = rest

sorted_given : {A : Type 0} (command : Bool) (o : Option A) (r : Reply) (Rest : A → Outcome) → IsRefusal r → ((x : A) → IsSorted command (Rest x)) → IsSorted command (given o r Rest)
unfolding given
sorted_given command None r Rest is rest = sorted_refuses command r is
sorted_given command (Some x) r Rest is rest = rest x

sorted_some : {A : Type 0} (command : Bool) (P : A → Type 0) (Rest : A → Outcome) → ((x : A) → IsSorted command (Rest x)) → IsSorted command (some P Rest)
unfolding some
sorted_some command P Rest rest reply c (x, is, h) = rest x reply c h

sorted_why_or : {A : Type 0} (command : Bool) (Tells : Text → Type 0) (r : Text → Reply) (P : A → Type 0) (Rest : A → Outcome) → ((line : Text) → IsRefusal (r line))
    → ((x : A) → IsSorted command (Rest x)) → IsSorted command (why_or Tells r P Rest)
unfolding why_or
sorted_why_or command Tells r P Rest is rest reply c (inl h) = sorted_some command Tells (λ line. refuses (r line)) (λ line. sorted_refuses command (r line) (is line)) reply c h
sorted_why_or command Tells r P Rest is rest reply c (inr h) = sorted_some command P Rest rest reply c h

sorted_of_plan : (command : Bool) (v : View) (n : Text) (Rest : Plan → Outcome) → ((plan : Plan) → IsSorted command (Rest plan)) → IsSorted command (of_plan v n Rest)
unfolding of_plan
sorted_of_plan command v n Rest rest = sorted_given command _ _ _ (refl, refl) rest

sorted_by_kind : (command : Bool) (kind : PlanKind) (One Other : Outcome) → IsSorted command One → IsSorted command Other → IsSorted command (by_kind kind One Other)
unfolding by_kind
sorted_by_kind command kinds.Project One Other one other = one
sorted_by_kind command kinds.Shop One Other one other = other

-- ---- routes

-- whether a change is `Keep`
abbrev pub is_keep : Change → Bool
is_keep Keep = true
is_keep _ = false

makes_something : (c : Change) → is_keep c ≡ false → IsMade c
makes_something c is keeps = both_ways true (sym (ap is_keep keeps) ∙ is) refl

sorted_change : (status : ℕ) (text : Text) (made : Change) → is_keep made ≡ false → nat_lt status 300 ≡ true → nat_lt status 500 ≡ true → IsSorted true (makes status text made)
sorted_change status text made is accepted fine = sorted_makes status text made (makes_something made is) accepted fine

sorted_publishes : (rows : _) (body : Text) → IsSorted true (Publishes rows body)
unfolding Publishes
sorted_publishes rows body = sorted_given _ _ _ _ (refl, refl) (λ b. sorted_unless _ _ _ _ (refl, refl) (sorted_change _ _ _ refl refl refl))

sorted_opens : (v : View) (body : Text) → IsSorted true (Opens v body)
unfolding Opens
sorted_opens v body = sorted_given _ _ _ _ (refl, refl) (λ b. sorted_unless _ _ _ _ (refl, refl) (sorted_change _ _ _ refl refl refl))

sorted_sets_key : (v : View) (desk body : Text) → IsSorted true (SetsKey v desk body)
unfolding SetsKey
sorted_sets_key v desk body = sorted_unless _ _ _ _ (refl, refl) (sorted_given _ _ _ _ (refl, refl) (λ key. sorted_change _ _ _ refl refl refl))

sorted_imports : {A : Type 0} (v : View) (kind : PlanKind) (name body : Text) (Tells : Text → Type 0) (Reads : A → Type 0)
    → IsSorted true (Imports v kind name body Tells Reads)
unfolding Imports
sorted_imports v kind name body Tells Reads =
    sorted_given _ _ _ _ (refl, refl) (λ row. sorted_unless _ _ _ _ (refl, refl) (sorted_unless _ _ _ _ (refl, refl)
    (sorted_why_or _ _ _ _ _ (λ line. (refl, refl)) (λ read. sorted_change _ _ _ refl refl refl))))

sorted_imports_project : (v : View) (body : Text) → IsSorted true (ImportsProject v body)
unfolding ImportsProject
sorted_imports_project v body = sorted_imports _ _ _ _ _ _

sorted_imports_shop : (v : View) (name body : Text) → IsSorted true (ImportsShop v name body)
unfolding ImportsShop
sorted_imports_shop v name body = sorted_imports _ _ _ _ _ _

sorted_removes : (v : View) (n : Text) → IsSorted true (Removes v n)
unfolding Removes
sorted_removes v n = sorted_of_plan _ _ _ _ (λ plan. sorted_change _ _ _ refl refl refl)

sorted_binds : (v : View) (n body : Text) → IsSorted true (Binds v n body)
unfolding Binds
sorted_binds v n body =
    sorted_of_plan _ _ _ _ (λ plan. sorted_some _ _ _ (λ count. sorted_given _ _ _ _ (refl, refl) (λ b.
    sorted_unless _ _ _ _ (refl, refl) (sorted_unless _ _ _ _ (refl, refl) (sorted_change _ _ _ refl refl refl)))))

sorted_calendars : (v : View) (n body : Text) → IsSorted true (Calendars v n body)
unfolding Calendars
sorted_calendars v n body =
    sorted_of_plan _ _ _ _ (λ plan. sorted_given _ _ _ _ (refl, refl) (λ b. sorted_why_or _ _ _ _ _ (λ line. (refl, refl)) (λ c. sorted_change _ _ _ refl refl refl)))

sorted_sets_lag : (v : View) (n body : Text) → IsSorted true (SetsLag v n body)
unfolding SetsLag
sorted_sets_lag v n body =
    sorted_of_plan _ _ _ _ (λ plan. sorted_given _ _ _ _ (refl, refl) (λ b. sorted_by_kind _ _ _ _
    (sorted_some _ _ _ (λ p. sorted_unless _ _ _ _ (refl, refl) (sorted_change _ _ _ refl refl refl))) (sorted_refuses _ _ (refl, refl))))

sorted_dates : (v : View) (n : Text) → IsSorted false (Dates v n)
unfolding Dates
sorted_dates v n =
    sorted_of_plan _ _ _ _ (λ plan. sorted_by_kind _ _ _ _ (sorted_some _ _ _ (λ p. sorted_shows _)) (sorted_refuses _ _ (refl, refl)))

sorted_schedules : (v : View) (n rule : Text) → IsSorted false (Schedules v n rule)
unfolding Schedules OfSchedule OfShopSchedule
sorted_schedules v n rule =
    sorted_of_plan _ _ _ _ (λ plan. sorted_by_kind _ _ _ _
    (sorted_some _ _ _ (λ p. sorted_why_or _ _ _ _ _ (λ line. (refl, refl)) (λ starts. sorted_shows _)))
    (sorted_some _ _ _ (λ s. sorted_why_or _ _ _ _ _ (λ line. (refl, refl)) (λ starts. sorted_shows _))))

sorted_charts : (v : View) (n rule : Text) → IsSorted false (Charts v n rule)
unfolding Charts OfSchedule OfShopSchedule
sorted_charts v n rule =
    sorted_of_plan _ _ _ _ (λ plan. sorted_by_kind _ _ _ _
    (sorted_some _ _ _ (λ p. sorted_why_or _ _ _ _ _ (λ line. (refl, refl)) (λ starts. sorted_shows _)))
    (sorted_some _ _ _ (λ s. sorted_why_or _ _ _ _ _ (λ line. (refl, refl)) (λ starts. sorted_shows _))))

sorted_of_calendar : (plan : Plan) (IsTable : _) (IsBeyond : _) → IsSorted false (OfCalendar plan IsTable IsBeyond)
unfolding OfCalendar
sorted_of_calendar plan IsTable IsBeyond = sorted_unless _ _ _ _ (refl, refl) (sorted_why_or _ _ _ _ _ (λ line. (refl, refl)) (λ text. sorted_shows _))

sorted_days : (v : View) (n rule : Text) → IsSorted false (Days v n rule)
unfolding Days OfSchedule OfShopSchedule
sorted_days v n rule =
    sorted_of_plan _ _ _ _ (λ plan. sorted_by_kind _ _ _ _
    (sorted_some _ _ _ (λ p. sorted_why_or _ _ _ _ _ (λ line. (refl, refl)) (λ starts. sorted_of_calendar _ _ _)))
    (sorted_some _ _ _ (λ s. sorted_why_or _ _ _ _ _ (λ line. (refl, refl)) (λ starts. sorted_of_calendar _ _ _))))

sorted_best : (v : View) (n word : Text) → IsSorted false (Best v n word)
unfolding Best OfProjectBest OfShopBest
sorted_best v n word =
    sorted_of_plan _ _ _ _ (λ plan. sorted_by_kind _ _ _ _
    (sorted_some _ _ _ (λ p. sorted_why_or _ _ _ _ _ (λ line. (refl, refl)) (λ text. sorted_shows _)))
    (sorted_some _ _ _ (λ s. sorted_why_or _ _ _ _ _ (λ line. (refl, refl)) (λ text. sorted_shows _))))

sorted_answers : (v : View) (call : Call) → IsSorted (writes call) (Answers v call)
sorted_answers v (publish body) = sorted_publishes _ body
sorted_answers v (open_desk body) = sorted_opens v body
sorted_answers v (set_key desk body) = sorted_sets_key v desk body
sorted_answers v (capacities desk) = sorted_tells _
sorted_answers v (plans desk) = sorted_tells _
sorted_answers v (import_project desk body) = sorted_imports_project v body
sorted_answers v (import_shop desk instance body) = sorted_imports_shop v instance body
sorted_answers v (remove desk n) = sorted_removes v n
sorted_answers v (bind desk n body) = sorted_binds v n body
sorted_answers v (set_calendar desk n body) = sorted_calendars v n body
sorted_answers v (set_lag desk n body) = sorted_sets_lag v n body
sorted_answers v (dates desk n) = sorted_dates v n
sorted_answers v (schedule desk n rule) = sorted_schedules v n rule
sorted_answers v (chart desk n rule) = sorted_charts v n rule
sorted_answers v (days desk n rule) = sorted_days v n rule
sorted_answers v (best desk n budget) = sorted_best v n budget

-- each decision changes something exactly if it accepts a command; none is a refusal for lack of
-- memory or by the store
pub sorted_decision : (v : View) (r : Request) → IsSorted (writes r.call) (IsDecision v r)
unfolding IsDecision
sorted_decision v r reply c h = by_key (admits v r) (Answers v r.call) (sorted_answers v r.call) h
  where
    by_key : (b : Bool) (Rest : Outcome) → IsSorted (writes r.call) Rest → decided b Rest reply c
        → (Keeps (writes r.call) reply c ⊎ Makes (writes r.call) reply c) × (nat_lt reply.status 500 ≡ true)
    by_key true Rest rest k = rest reply c k
    by_key false Rest rest k = (
      inl (record { kept = k.1; unaccepted = ap (λ (x : Reply). writes r.call && nat_lt x.status 300) k.0 ∙ never (writes r.call) }),
      ap (λ (x : Reply). nat_lt x.status 500) k.0,
    )

-- a refusal for lack of memory or by the store accepts no command
pub want_unaccepted : (r : Request) (fault : BookFault) → is_accepted r (want_of fault) ≡ false
want_unaccepted r NoMemory = never (writes r.call)
want_unaccepted r Store = never (writes r.call)
