-- Columns with the resources and the predecessors of activities (docs/definitions.md, "Tables and
-- charts").
use Rattle.std.specs.Prelude.{ℕ, ◌+◌, ◌-◌, ◌==◌, if◌then◌else◌, List, [], ◌∷◌, ◌++◌}
use Rattle.std.specs.Prelude.{Option, Some, None, map, fold, max, length, slice_index, codes, decimal}
use Rattle.std.specs.List.{range_with_len, slice_get}
use Rattle.plan_net.specs.Network.{Net, count_of}
use Rattle.plan_sgs.specs.Instances.{Planned}
use Rattle.plan_table.specs.Names.{Name, first_name}
use Rattle.plan_formats.specs.Columns.{Column, characters}
use Rattle.plan_formats.specs.NamedTables.{with_column}
use Rattle.plan_formats.specs.Tables.{Table}
use Rattle.plan_formats.specs.declared.column.Layout.{Layout}
use Rattle.plan_formats.specs.declared.column.Layout.TheVariants as layout
use Rattle.plan_views.specs.Predecessors.{predecessor_words}
use Rattle.plan_views.specs.declared.links.ActivityLinks as declared

-- a comma behind a text that isn't empty
abbrev pub comma_behind : List ℕ → List ℕ
comma_behind [] = []
comma_behind (byte ∷ text) = codes ", "

-- a text with one more word; an empty word is none
abbrev pub joined : List ℕ → List ℕ → List ℕ
joined text [] = text
joined text (byte ∷ word) = text ++ comma_behind text ++ byte ∷ word

-- the name of a resource, or `R` and its number
abbrev pub resource_name : Option Name → ℕ → List ℕ
resource_name None n = codes "R" ++ decimal n
resource_name (Some name) n = name.name

-- a resource and the amount that is needed of it, such as `crew 2`; empty if none is needed
abbrev pub need_word : List Name → ℕ → ℕ → List ℕ
need_word names n need =
    if need == 0 then [] else resource_name (first_name n names) n ++ codes " " ++ decimal need

-- a text with the need of the resource at index k
abbrev pub with_need : List Name → List ℕ → List ℕ → ℕ → List ℕ
with_need names needs text k = joined text (need_word names (k + 1) (slice_index needs k))

-- the needs of an activity, such as `crew 2, digger 1`
abbrev pub needs_text : List Name → List ℕ → List ℕ
needs_text names needs = fold (with_need names needs) [] (range_with_len 0 (length needs))

-- the row of the needs of an activity, if there is one
abbrev pub row_or_none : Option (List ℕ) → List ℕ
row_or_none None = []
row_or_none (Some needs) = needs

abbrev pub needs_of : Planned → ℕ → List ℕ
needs_of i j = row_or_none (slice_get i.project.needs (j - 1))

-- a name, empty if there is none
abbrev pub name_or_empty : Option Name → List ℕ
name_or_empty None = []
name_or_empty (Some name) = name.name

-- the word for the predecessor in an arc to activity j; empty for another arc, and without a word
abbrev pub arc_word : List Name → ℕ → ℕ × ℕ → List ℕ
arc_word ids j arc = if arc.1 == j then name_or_empty (first_name arc.0 ids) else []

-- a text with the predecessor in an arc to activity j
abbrev pub with_arc : List Name → ℕ → List ℕ → ℕ × ℕ → List ℕ
with_arc ids j text arc = joined text (arc_word ids j arc)

-- the ids of the predecessors of activity j in the order of the arcs, such as `A, B`
abbrev pub predecessors_text : List Name → ℕ → List (ℕ × ℕ) → List ℕ
predecessors_text ids j arcs = fold (with_arc ids j) [] arcs

-- what an activity needs, and what it waits for
pub record Links : Type 0 where
  pub number : ℕ
  pub resources : List ℕ
  pub predecessors : List ℕ

-- the same, as the program keeps it
abbrev pub links_of : declared.ActivityLinks → Links
links_of l = record {
  number = l.number;
  resources = l.resources.items;
  predecessors = l.predecessors.items;
}

-- those of activity j, with these words for the predecessors
abbrev pub links_at : Planned → List Name → List Name → ℕ → Links
links_at i names words j = record {
  number = j;
  resources = needs_text names (needs_of i j);
  predecessors = predecessors_text words j i.project.network.arcs;
}

-- no text
abbrev pub no_links : ℕ → Links
no_links j = record { number = j; resources = []; predecessors = [] }

-- the links of activity j if it has an id; no text without one
abbrev pub links_if : Option Name → Planned → List Name → List Name → ℕ → Links
links_if None i names words j = no_links j
links_if (Some id) i names words j = links_at i names words j

-- those of all activities, by the names of the resources, the ids of the activities and the words for
-- the predecessors
abbrev pub links_by : Planned → List Name → List Name → List Name → List Links
links_by i names ids words =
    map (λ j. links_if (first_name j ids) i names words j)
    (range_with_len 1 (count_of i.project.network))

-- the same with the words that the ids give
abbrev pub project_links : Planned → List Name → List Name → List Links
project_links i names ids = links_by i names ids (predecessor_words ids i.project.network)

-- the texts by the numbers of the activities
abbrev pub resource_line : Links → Name
resource_line l = record { number = l.number; name = l.resources }

abbrev pub predecessor_line : Links → Name
predecessor_line l = record { number = l.number; name = l.predecessors }

-- the characters of the longest of some texts and of a heading
abbrev pub longest : List ℕ → List Name → ℕ
longest heading texts =
    fold (λ most text. max most (characters text.name)) (characters heading) texts

-- a column of texts, with as many places as the longest of them and the heading have characters
abbrev pub texts_column : List ℕ → List Name → Column
texts_column word texts = record {
  heading = word;
  word = word;
  layout = layout.Words (longest word texts);
}

-- a table with one more column of such texts
abbrev pub with_texts : List ℕ → List Name → Table → Table
with_texts word texts t = with_column (texts_column word texts) texts t

-- a table with the resources of its activities
abbrev pub with_resources : List Links → Table → Table
with_resources links t = with_texts (codes "resources") (map resource_line links) t

-- the layout of a mark that columns follow
abbrev pub wide : Layout → Layout
wide (layout.Right places) = layout.Right places
wide layout.Mark = layout.WideMark
wide layout.WideMark = layout.WideMark
wide layout.Label = layout.Label
wide layout.Line = layout.Line
wide (layout.Words places) = layout.Words places
wide layout.Member = layout.Member

abbrev pub wide_column : Column → Column
wide_column c = record { heading = c.heading; word = c.word; layout = wide c.layout }

-- a table whose marks columns can follow
abbrev pub with_wide_marks : Table → Table
with_wide_marks t = record {
  above = t.above;
  columns = map wide_column t.columns;
  rows = t.rows;
  below = t.below;
}

-- a table with the resources and the predecessors of its activities
abbrev pub with_links : List Links → Table → Table
with_links links t =
    with_texts (codes "predecessors") (map predecessor_line links)
    (with_resources links (with_wide_marks t))
