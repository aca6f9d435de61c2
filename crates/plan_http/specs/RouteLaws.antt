-- The routes by the segments of their texts (docs/definitions.md, "Connections").
use Rattle.std.specs.Prelude.{◌≡◌, ◌≢◌, ◌==◌, ◌↔◌, ◌<◌, ℕ, Bool, true, false, cond, List, [], ◌∷◌, Some}
use Rattle.std.specs.List.{slice_split, AllByRecursion}
use Rattle.plan_http.specs.declared.routes.Route.{Route}
use Rattle.plan_http.specs.Routes.{text_of, is_plain_target, route_of}
use Rattle.plan_http.specs.Targets.{is_slash}

-- a text, cut at its slashes
abbrev pub segments : List ℕ → List (List ℕ)
segments text = slice_split is_slash text

-- a name in braces begins with a brace
abbrev pub is_name : List ℕ → Bool
is_name [] = false
is_name (byte ∷ text) = byte == 123

-- a segment of a target is the segment of a route's text, or any but the empty one for a name
abbrev pub IsSegment : List ℕ → List ℕ → Type 0
IsSegment part given = cond (is_name part) (given ≢ []) (given ≡ part)

-- the segments of a target are those of a route's text, one for one
abbrev pub AreSegments : List (List ℕ) → List (List ℕ) → Type 0
AreSegments [] [] = Unit {0}
AreSegments (part ∷ parts) (given ∷ rest) = IsSegment part given × AreSegments parts rest
AreSegments parts rest = ⊥

-- a target of bytes has a route exactly if it is plain and its segments are those of the route
unfoldable pub RoutesAreThese : Type 0
RoutesAreThese = (target : List ℕ) (route : Route) → AllByRecursion (λ byte. byte < 256) target
    → route_of target ≡ Some route
    ↔ (is_plain_target target ≡ true) × AreSegments (segments (text_of route)) (segments target)
