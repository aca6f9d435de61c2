-- The rows of the office that one desk sees (docs/definitions.md, "Desks").
use Rattle.std.specs.Prelude.{◌≡◌, List, Option, option_to_list, filter, IsPermutation}
use Rattle.plan_rows.specs.World.{Text, Digest, Published, Desk, Plan, Bind, Lag, World, is_plan_of, is_bind_by, is_lag_by, desk_in}

-- the row of the desk or its absence, its plans, binds and lags, all published codes, and the
-- digest of the office's key
pub record View : Type 0 where
  pub office : Digest
  pub published : List Published
  pub desk : Option Desk
  pub plans : List Plan
  pub binds : List Bind
  pub lags : List Lag

abbrev pub view : Text → World → View
view desk w = record {
  office = w.office;
  published = w.published;
  desk = desk_in w desk;
  plans = filter (is_plan_of desk) w.plans;
  binds = filter (is_bind_by desk) w.binds;
  lags = filter (is_lag_by desk) w.lags;
}

-- the office that has the rows of the view and no others
abbrev pub alone : View → World
alone v = record {
  office = v.office;
  published = v.published;
  desks = option_to_list v.desk;
  plans = v.plans;
  binds = v.binds;
  lags = v.lags;
}

-- two views have the same rows, in any order
pub record Agree (v u : View) : Type 0 where
  pub office : v.office ≡ u.office
  pub published : IsPermutation v.published u.published
  pub desk : v.desk ≡ u.desk
  pub plans : IsPermutation v.plans u.plans
  pub binds : IsPermutation v.binds u.binds
  pub lags : IsPermutation v.lags u.lags
