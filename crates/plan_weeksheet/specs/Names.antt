-- The names for the page of a week.
use Rattle.std.specs.Prelude.{ℕ, ◌+◌, List, [], ◌∷◌, map}
use Rattle.plan_sheet.specs.Names.{SheetNames}
use Rattle.plan_table.specs.Names.{Name}
use Rattle.plan_table.specs.Table.{Resource}
use Rattle.plan_views.specs.LinkColumns.{needs_text}
use Rattle.plan_weekfile.specs.Weeks.{names_from}
use Rattle.plan_weeksheet.specs.Rectangles.{Rectangle}

-- texts with their numbers, from n on
abbrev pub numbered_from : ℕ → List (List ℕ) → List Name
numbered_from n [] = []
numbered_from n (text ∷ others) =
    record { number = n; name = text } ∷ numbered_from (n + 1) others

-- An empty id with the number 0, which no activity has. With it the list of ids is never empty, so
-- the dummies, which have no id, aren't shown.
abbrev pub no_id : Name
no_id = record { number = 0; name = [] }

-- the ids, the names and the columns of rectangles, which have the numbers from 2 on; the names of
-- the resources
abbrev pub sheet_names : List Resource → List Rectangle → SheetNames
sheet_names resources rectangles = record {
  lines = numbered_from 2 (map (λ r. r.name) rectangles);
  legend = names_from 1 resources;
  ids = no_id ∷ numbered_from 2 (map (λ r. r.id) rectangles);
  resources = numbered_from 2
      (map (λ r. needs_text (names_from 1 resources) r.needs) rectangles);
  predecessors = numbered_from 2 (map (λ r. r.predecessors) rectangles);
}
