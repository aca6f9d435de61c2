-- The changes of an office, and the rows after each (docs/definitions.md, "Desks"). A change names
-- no desk. It is made for the desk of the request, so it changes no row of another desk.
use Rattle.std.specs.Prelude.{ℕ, ◌+◌, Bool, true, false, not, if◌then◌else◌, ◌==◌, List, [], ◌∷◌, ◌++◌, Option, Some, None, map, filter}
use Rattle.std.specs.List.{list_any}
use Rattle.plan_rows.specs.declared.kinds.Kind.{Kind}
use Rattle.plan_rows.specs.declared.kinds.PlanKind.{PlanKind}
use Rattle.plan_rows.specs.World.{Text, Digest, Published, Desk, Plan, Bind, Lag, World, is_code, is_desk, is_plan, is_bind_of, is_bind, is_lag_of, is_lag, desk_in}

pub data Change : Type 0 where
  Keep : Change
  Publish : (code : Text) (kind : Kind) (capacity : ℕ) → Change
  OpenDesk : (digest : Digest) → Change
  SetKey : (digest : Digest) → Change
  AddPlan : (kind : PlanKind) (name body : Text) → Change
  RemovePlan : (n : ℕ) → Change
  BindPlace : (n place : ℕ) (code : Text) → Change
  SetCalendar : (n : ℕ) (start days : Text) → Change
  SetLag : (n source target lag : ℕ) → Change

-- the rows, with those that pass the test changed in place
abbrev pub changed : {A : Type 0} → (A → Bool) → (A → A) → List A → List A
changed p f rows = map (λ row. if p row then f row else row) rows

-- the rows, with those that pass the test changed in place, or with a new row if none passes
abbrev pub put : {A : Type 0} → (A → Bool) → (A → A) → A → List A → List A
put p f new rows = if list_any p rows then changed p f rows else rows ++ new ∷ []

-- the rows that don't pass the test
abbrev pub without : {A : Type 0} → (A → Bool) → List A → List A
without p rows = filter (λ row. not (p row)) rows

abbrev pub new_code : Text → Kind → ℕ → Published
new_code code kind capacity = record { code = code; kind = kind; capacity = capacity }

abbrev pub with_capacity : ℕ → Published → Published
with_capacity capacity row = record row { capacity = capacity }

-- a new desk, whose plans are numbered from 1
abbrev pub new_desk : Text → Digest → Desk
new_desk desk digest = record { desk = desk; digest = digest; next = 1 }

abbrev pub with_digest : Digest → Desk → Desk
with_digest digest row = record row { digest = digest }

-- the next number rises by 1
abbrev pub risen : Desk → Desk
risen row = record row { next = row.next + 1 }

-- the number of the next plan
abbrev pub next_of : Option Desk → ℕ
next_of None = 0
next_of (Some row) = row.next

-- a plan as it is imported, without a calendar
abbrev pub new_plan : Text → ℕ → PlanKind → Text → Text → Plan
new_plan desk n kind name body =
    record { desk = desk; n = n; kind = kind; name = name; body = body; start = []; days = [] }

abbrev pub with_calendar : Text → Text → Plan → Plan
with_calendar start days row = record row { start = start; days = days }

abbrev pub new_bind : Text → ℕ → ℕ → Text → Bind
new_bind desk n place code = record { desk = desk; n = n; place = place; code = code }

abbrev pub with_code : Text → Bind → Bind
with_code code row = record row { code = code }

abbrev pub new_lag : Text → ℕ → ℕ → ℕ → ℕ → Lag
new_lag desk n source target lag =
    record { desk = desk; n = n; source = source; target = target; lag = lag }

abbrev pub with_lag : ℕ → Lag → Lag
with_lag lag row = record row { lag = lag }

-- lag 0 has no row
abbrev pub lags_after : Text → ℕ → ℕ → ℕ → ℕ → List Lag → List Lag
lags_after desk n source target lag rows =
    if lag == 0 then without (is_lag desk n source target) rows
    else put (is_lag desk n source target) (with_lag lag) (new_lag desk n source target lag) rows

-- the tables after a change that is made for a desk
abbrev pub apply : Text → Change → World → World
apply desk Keep w = w
-- the capacity of a published code is set; a new code is added
apply desk (Publish code kind capacity) w =
    record w {
      published = put (is_code code) (with_capacity capacity) (new_code code kind capacity) w.published;
    }
apply desk (OpenDesk digest) w = record w { desks = w.desks ++ new_desk desk digest ∷ [] }
apply desk (SetKey digest) w =
    record w { desks = changed (is_desk desk) (with_digest digest) w.desks }
-- a plan with the desk's next number, which rises by 1
apply desk (AddPlan kind name body) w =
    record w {
      desks = changed (is_desk desk) risen w.desks;
      plans = w.plans ++ new_plan desk (next_of (desk_in w desk)) kind name body ∷ [];
    }
-- a plan is removed with its binds and lags
apply desk (RemovePlan n) w =
    record w {
      plans = without (is_plan desk n) w.plans;
      binds = without (is_bind_of desk n) w.binds;
      lags = without (is_lag_of desk n) w.lags;
    }
apply desk (BindPlace n place code) w =
    record w {
      binds = put (is_bind desk n place) (with_code code) (new_bind desk n place code) w.binds;
    }
apply desk (SetCalendar n start days) w =
    record w { plans = changed (is_plan desk n) (with_calendar start days) w.plans }
apply desk (SetLag n source target lag) w =
    record w { lags = lags_after desk n source target lag w.lags }

-- a change of the published codes, which all desks see
abbrev pub is_publishing : Change → Bool
is_publishing Keep = false
is_publishing (Publish code kind capacity) = true
is_publishing (OpenDesk digest) = false
is_publishing (SetKey digest) = false
is_publishing (AddPlan kind name body) = false
is_publishing (RemovePlan n) = false
is_publishing (BindPlace n place code) = false
is_publishing (SetCalendar n start days) = false
is_publishing (SetLag n source target lag) = false
