-- The office that tables in memory hold (docs/definitions.md, "Books").
use Rattle.std.specs.Prelude.{List, [], map, string_bytes}
use Rattle.plan_rows.specs.declared.row_tests.other_rows.Beside.{Beside}
use Rattle.plan_rows.specs.declared.row_tests.other_rows.PlanSeen.{PlanSeen}
use Rattle.plan_rows.specs.declared.tables.Tables.{Tables}
use Rattle.plan_rows.specs.declared.tables.records.DeskRecord.{DeskRecord}
use Rattle.plan_rows.specs.declared.tables.records.PlanRecord.{PlanRecord}
use Rattle.plan_rows.specs.declared.tables.records.BindRecord.{BindRecord}
use Rattle.plan_rows.specs.declared.tables.records.LagRecord.{LagRecord}
use Rattle.plan_rows.specs.World.{Desk, Plan, Bind, Lag, World}
use Rattle.plan_rows.specs.Books.{published_in}

abbrev pub desk_kept : DeskRecord → Desk
desk_kept row = record { desk = string_bytes row.desk; digest = row.digest; next = row.next }

abbrev pub plan_kept : PlanRecord → Plan
plan_kept row = record {
  desk = string_bytes row.desk;
  n = row.n;
  kind = row.kind;
  name = string_bytes row.name;
  body = row.body.items;
  start = string_bytes row.start;
  days = string_bytes row.days;
}

abbrev pub bind_kept : BindRecord → Bind
bind_kept row = record {
  desk = string_bytes row.desk;
  n = row.n;
  place = row.place;
  code = string_bytes row.code;
}

abbrev pub lag_kept : LagRecord → Lag
lag_kept row = record {
  desk = string_bytes row.desk;
  n = row.n;
  source = row.from;
  target = row.to;
  lag = row.lag;
}

-- the rows of all tables
abbrev pub world_kept : Tables → World
world_kept t = record {
  office = t.office;
  published = map published_in t.published.items;
  desks = map desk_kept t.desks.items;
  plans = map plan_kept t.plans.items;
  binds = map bind_kept t.binds.items;
  lags = map lag_kept t.lags.items;
}

-- ---- rows whose plans are read one at a time

-- a plan without its file and its calendar
abbrev pub head_of : Plan → Plan
head_of plan = record {
  desk = plan.desk;
  n = plan.n;
  kind = plan.kind;
  name = [];
  body = [];
  start = [];
  days = [];
}

-- the head of a tested plan
abbrev pub head_seen : PlanSeen → Plan
head_seen row = record {
  desk = string_bytes row.desk;
  n = row.n;
  kind = row.kind;
  name = [];
  body = [];
  start = [];
  days = [];
}

-- the rows of all tables, with these plans
abbrev pub world_beside : Beside → List Plan → World
world_beside beside plans = record {
  office = beside.office.now;
  published = map published_in beside.published.now;
  desks = map desk_kept beside.desks.now;
  plans = plans;
  binds = map bind_kept beside.binds.now;
  lags = map lag_kept beside.lags.now;
}
