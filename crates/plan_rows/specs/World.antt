-- An office: the rows of all desks together, in the order of writing (docs/definitions.md,
-- "Desks").
use Rattle.std.specs.Prelude.{ℕ, Bool, true, false, ◌&&◌, ◌==◌, List, [], Option, find, bytes_eq}
use Rattle.plan_rows.specs.declared.kinds.Kind.{Kind}
use Rattle.plan_rows.specs.declared.kinds.PlanKind.{PlanKind}
use Rattle.plan_rows.specs.declared.kinds.Kind.TheVariants.{Crew, Machine}
use Rattle.plan_rows.specs.declared.kinds.PlanKind.TheVariants.{Project, Shop}

-- a text or a file, byte by byte
abbrev pub Text : Type 0
Text = List ℕ

-- the 32 bytes of a SHA-256
abbrev pub Digest : Type 0
Digest = List ℕ

-- a code that all desks can bind, and its capacity
pub record Published : Type 0 where
  pub code : Text
  pub kind : Kind
  pub capacity : ℕ

-- a desk, the digest of its key, and the number of its next plan
pub record Desk : Type 0 where
  pub desk : Text
  pub digest : Digest
  pub next : ℕ

-- A plan of a desk: the file as it was sent, and the name of a shop's instance. The start date and
-- the workdays are empty if it has no calendar.
pub record Plan : Type 0 where
  pub desk : Text
  pub n : ℕ
  pub kind : PlanKind
  pub name : Text
  pub body : Text
  pub start : Text
  pub days : Text

-- a place of a plan, and the published code that is bound to it
pub record Bind : Type 0 where
  pub desk : Text
  pub n : ℕ
  pub place : ℕ
  pub code : Text

-- a lag above 0 on an arc of a project
pub record Lag : Type 0 where
  pub desk : Text
  pub n : ℕ
  pub source : ℕ
  pub target : ℕ
  pub lag : ℕ

-- the digest of the office's key, and five tables of rows
pub record World : Type 0 where
  pub office : Digest
  pub published : List Published
  pub desks : List Desk
  pub plans : List Plan
  pub binds : List Bind
  pub lags : List Lag

-- an office with no rows
abbrev pub empty_world : Digest → World
empty_world digest =
    record { office = digest; published = []; desks = []; plans = []; binds = []; lags = [] }

abbrev pub same_text : Text → Text → Bool
same_text = bytes_eq

abbrev pub same_kind : Kind → Kind → Bool
same_kind Crew Crew = true
same_kind Machine Machine = true
same_kind Crew Machine = false
same_kind Machine Crew = false

-- the kind of code that a plan can use
abbrev pub takes : PlanKind → Kind
takes Project = Crew
takes Shop = Machine

-- the tests that find rows by their keys
abbrev pub is_code : Text → Published → Bool
is_code code row = same_text row.code code

abbrev pub is_desk : Text → Desk → Bool
is_desk desk row = same_text row.desk desk

abbrev pub is_plan_of : Text → Plan → Bool
is_plan_of desk row = same_text row.desk desk

abbrev pub is_bind_by : Text → Bind → Bool
is_bind_by desk row = same_text row.desk desk

abbrev pub is_lag_by : Text → Lag → Bool
is_lag_by desk row = same_text row.desk desk

abbrev pub is_plan : Text → ℕ → Plan → Bool
is_plan desk n row = is_plan_of desk row && (row.n == n)

abbrev pub is_bind_of : Text → ℕ → Bind → Bool
is_bind_of desk n row = is_bind_by desk row && (row.n == n)

abbrev pub is_bind : Text → ℕ → ℕ → Bind → Bool
is_bind desk n place row = is_bind_of desk n row && (row.place == place)

abbrev pub is_lag_of : Text → ℕ → Lag → Bool
is_lag_of desk n row = is_lag_by desk row && (row.n == n)

abbrev pub is_lag : Text → ℕ → ℕ → ℕ → Lag → Bool
is_lag desk n source target row =
    is_lag_of desk n row && ((row.source == source) && (row.target == target))

abbrev pub code_in : List Published → Text → Option Published
code_in rows code = find (is_code code) rows

abbrev pub desk_in : World → Text → Option Desk
desk_in w desk = find (is_desk desk) w.desks

abbrev pub plan_in : World → Text → ℕ → Option Plan
plan_in w desk n = find (is_plan desk n) w.plans
