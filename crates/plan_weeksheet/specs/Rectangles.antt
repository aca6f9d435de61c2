-- The rectangles of a chart of a week.
use Rattle.std.specs.Prelude.{ℕ, List}
use Rattle.plan_weeksheet.specs.declared.rectangle.Rectangle as declared

-- A rectangle of a chart, for an activity or an absence: its id and name, the ids of its
-- predecessors, its first instant, its length in time units, and its need of each resource.
pub record Rectangle : Type 0 where
  pub id : List ℕ
  pub name : List ℕ
  pub predecessors : List ℕ
  pub from : ℕ
  pub lasts : ℕ
  pub needs : List ℕ

-- the same, as the program keeps it
abbrev pub rectangle_of : declared.Rectangle → Rectangle
rectangle_of r = record {
  id = r.id.now;
  name = r.name.now;
  predecessors = r.predecessors.now;
  from = r.from;
  lasts = r.lasts;
  needs = r.needs.items;
}
