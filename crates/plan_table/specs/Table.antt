-- A planner's list: activities with their predecessors, and resources.
use Rattle.std.specs.Prelude.{ℕ, Bool, List, map}
use Rattle.std.specs.String.{string_bytes}
use Rattle.plan_table.specs.declared.table.Activity as declared
use Rattle.plan_table.specs.declared.table.Resource as declared_resource

-- an activity; it has the number 2 if it is the first one, 3 if it is the second one and so on
pub record Activity : Type 0 where
  -- the line of its row
  pub line : ℕ
  pub id : List ℕ
  pub name : List ℕ
  pub duration : ℕ
  -- the numbers of its predecessors
  pub predecessors : List ℕ
  -- what it needs of each resource
  pub needs : List ℕ

-- a resource, and how much there is of it
pub record Resource : Type 0 where
  pub name : List ℕ
  pub capacity : ℕ

-- a planner's list; it has ids of its own if it has a column of ids
pub record Table : Type 0 where
  pub own_ids : Bool
  pub activities : List Activity
  pub resources : List Resource

-- the same, as the program keeps them
abbrev pub activity_of : declared.Activity → Activity
activity_of a = record {
  line = a.line;
  id = string_bytes a.id;
  name = string_bytes a.name;
  duration = a.duration;
  predecessors = a.predecessors.items;
  needs = a.needs.items;
}

abbrev pub resource_of : declared_resource.Resource → Resource
resource_of r = record { name = string_bytes r.name; capacity = r.capacity }

abbrev pub table_of : Bool → List declared.Activity → List declared_resource.Resource → Table
table_of own_ids activities resources =
    record { own_ids = own_ids; activities = map activity_of activities; resources = map resource_of resources }
