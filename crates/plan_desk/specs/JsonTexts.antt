-- The answers in JSON: objects without white space, with their members in the order of their names
-- (docs/definitions.md, "Desks"; RFC 8259). Names and kinds need no escapes.
use Rattle.std.specs.Prelude.{ℕ, List, [], ◌∷◌, ◌++◌, map, codes, decimal}
use Rattle.plan_rows.specs.declared.kinds.Kind.{Kind}
use Rattle.plan_rows.specs.declared.kinds.PlanKind.{PlanKind}
use Rattle.plan_rows.specs.World.{Text, Published, Plan}
use Rattle.plan_rows.specs.Names.{kind_text, plan_kind_text}
use Rattle.plan_rows.specs.Plans.{in_order, code_before, plan_before}

-- a published code
abbrev pub code_text : Text → Kind → ℕ → Text
code_text code kind capacity =
    codes "{\"capacity\":" ++ decimal capacity ++ codes ",\"code\":\"" ++ code
    ++ codes "\",\"kind\":\"" ++ kind_text kind ++ codes "\"}"

abbrev pub desk_text : Text → Text
desk_text desk = codes "{\"desk\":\"" ++ desk ++ codes "\"}"

-- a plan, by its number and kind
abbrev pub plan_text : ℕ → PlanKind → Text
plan_text n kind =
    codes "{\"kind\":\"" ++ plan_kind_text kind ++ codes "\",\"n\":" ++ decimal n ++ codes "}"

abbrev pub number_text : ℕ → Text
number_text n = codes "{\"n\":" ++ decimal n ++ codes "}"

abbrev pub bind_text : Text → ℕ → Text
bind_text code place =
    codes "{\"code\":\"" ++ code ++ codes "\",\"place\":" ++ decimal place ++ codes "}"

abbrev pub calendar_text : Text → Text → Text
calendar_text start days =
    codes "{\"days\":\"" ++ days ++ codes "\",\"start\":\"" ++ start ++ codes "\"}"

abbrev pub lag_text : ℕ → ℕ → ℕ → Text
lag_text from to lag =
    codes "{\"from\":" ++ decimal from ++ codes ",\"lag\":" ++ decimal lag ++ codes ",\"to\":"
    ++ decimal to ++ codes "}"

-- texts with a comma between each two
abbrev pub separated : List Text → Text
separated [] = []
separated (text ∷ []) = text
separated (text ∷ other ∷ texts) = text ++ codes "," ++ separated (other ∷ texts)

-- the published codes, in ascending order of their bytes
abbrev pub codes_text : List Published → Text
codes_text rows =
    codes "{\"capacities\":["
    ++ separated (map (λ row. code_text row.code row.kind row.capacity) (in_order code_before rows))
    ++ codes "]}"

-- the plans of a desk, in ascending order of their numbers
abbrev pub plans_text : List Plan → Text
plans_text rows =
    codes "{\"plans\":["
    ++ separated (map (λ row. plan_text row.n row.kind) (in_order plan_before rows))
    ++ codes "]}"
