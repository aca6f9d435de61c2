-- The resources and machines of events (docs/definitions.md, "Sheets").
use Rattle.std.specs.Prelude.{ℕ, ◌+◌, ◌-◌, ◌&&◌, ◌||◌, Bool, true, if◌then◌else◌, nat_lt, not}
use Rattle.std.specs.Prelude.{List, [], ◌∷◌, ◌++◌, Option, Some, None, bytes_eq, codes, fold, length}
use Rattle.std.specs.Prelude.{map, slice_get, slice_index}
use Rattle.std.specs.List.{flat_map, list_any, range_with_len}
use Rattle.std.specs.Fmt.{decimal}
use Rattle.plan_table.specs.Names.{Name, name_of}
use Rattle.plan_sheet.specs.Names.{name_text}
use Rattle.plan_sheet.specs.Titles.{step_part, title_of}
use Rattle.plan_sheet.specs.declared.bars.Bar.{Bar}
use Rattle.plan_sheet.specs.declared.parts.EventNames as declared
use Rattle.plan_sheet.specs.declared.parts.Part.{Part}

-- the names of a plan: the ids and the names of its activities or orders, and the names of its
-- resources or machines
pub record EventNames : Type 0 where
  pub ids : List Name
  pub names : List Name
  pub resources : List Name

-- the same, as the program keeps it
abbrev pub event_names_of : declared.EventNames → EventNames
event_names_of n =
    record { ids = map name_of n.ids.now; names = map name_of n.names.now; resources = map name_of n.resources.now }

-- the first name of a number, or a front and the number if it has none
unfoldable pub name_or_number : List Name → List ℕ → ℕ → List ℕ
name_or_number names front n =
    if nat_lt (length (name_text names n)) 1 then front ++ decimal n else name_text names n

-- the first name of an activity or an order, or else its id, or else its number
unfoldable pub name_or_id : EventNames → ℕ → List ℕ
name_or_id names n =
    if nat_lt (length (name_text names.names n)) 1 then name_or_number names.ids [] n
    else name_text names.names n

-- the resource at an index of a row of amounts, if some of it is needed
abbrev pub part_at : List ℕ → ℕ → List Part
part_at row k =
    if nat_lt 0 (slice_index row k) then record { number = k + 1; amount = slice_index row k } ∷ [] else []

-- the resources of which a row of amounts needs some
abbrev pub row_parts : List ℕ → List Part
row_parts row = flat_map (part_at row) (range_with_len 0 (length row))

-- a row, or an empty one if there is none
abbrev pub row_or_empty : Option (List ℕ) → List ℕ
row_or_empty None = []
row_or_empty (Some row) = row

-- the resources that an activity needs, or the machine of a step; row k of the amounts is that of
-- activity k + 1
unfoldable pub parts_of : List (List ℕ) → Bar → List Part
parts_of needs bar =
    if nat_lt bar.step 1 then row_parts (row_or_empty (slice_get needs (bar.number - 1)))
    else record { number = bar.machine; amount = 0 } ∷ []

-- what stands before the number of a resource or a machine without a name
abbrev pub front_of : Bar → List ℕ
front_of bar = if nat_lt bar.step 1 then codes "R" else codes "machine "

-- the name of a resource or a machine
abbrev pub part_name : List Name → Bar → Part → List ℕ
part_name resources bar part = name_or_number resources (front_of bar) part.number

-- an amount behind a space; nothing for a machine
abbrev pub amount_note : ℕ → List ℕ
amount_note amount = if nat_lt amount 1 then [] else codes " " ++ decimal amount

-- the name of a resource with its amount
abbrev pub part_text : List Name → Bar → Part → List ℕ
part_text resources bar part = part_name resources bar part ++ amount_note part.amount

-- a list with one more entry, behind a comma
unfoldable pub listed : List ℕ → List ℕ → List ℕ
listed list entry = if nat_lt (length list) 1 then entry else list ++ codes ", " ++ entry

-- the list of the resources with their amounts
abbrev pub parts_list : List Name → Bar → List Part → List ℕ
parts_list resources bar parts = fold (λ list part. listed list (part_text resources bar part)) [] parts

-- a list in parentheses; nothing for an empty one
abbrev pub in_parentheses : List ℕ → List ℕ
in_parentheses list = if nat_lt (length list) 1 then [] else codes " (" ++ list ++ codes ")"

-- the name of an event, the step, and its resources or its machine
unfoldable pub summary_of : EventNames → Bar → List Part → List ℕ
summary_of names bar parts =
    name_or_id names bar.number ++ step_part bar.step
    ++ in_parentheses (parts_list names.resources bar parts)

-- the name of an event: with its resources or its machine, or else the title of its bar
abbrev pub event_name : Bool → EventNames → Bar → List Part → List ℕ
event_name with_parts names bar parts =
    if with_parts then summary_of names bar parts else title_of [] names.names bar

-- one of the resources has the name
abbrev pub is_part_named : List Name → Bar → List ℕ → List Part → Bool
is_part_named resources bar name parts = list_any (λ part. bytes_eq (part_name resources bar part) name) parts

-- the order of a step has the name; an activity has no order
abbrev pub is_order_named : EventNames → Bar → List ℕ → Bool
is_order_named names bar name =
    not (nat_lt bar.step 1) && bytes_eq (name_or_id names bar.number) name

-- the event of a bar is wanted: there is no choice, or one of its resources, its machine or its
-- order has the name
abbrev pub is_wanted : Option (List ℕ) → EventNames → Bar → List Part → Bool
is_wanted None names bar parts = true
is_wanted (Some name) names bar parts =
    is_part_named names.resources bar name parts || is_order_named names bar name
