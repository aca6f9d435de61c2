-- The logged parts of a request (docs/definitions.md, "Connections"): a method of HTTP and the text
-- of a route, or a hyphen.
use Rattle.std.specs.Prelude.{◌≡◌, ◌⊎◌, codes}
use Rattle.plan_rows.specs.World.{Text}
use Rattle.plan_http.specs.declared.routes.Route.{Route}
use Rattle.plan_http.specs.Routes.{text_of}

-- a method of HTTP, or a hyphen
abbrev pub IsShownMethod : Text → Type 0
IsShownMethod text =
    (text ≡ codes "GET") ⊎ (text ≡ codes "HEAD") ⊎ (text ≡ codes "POST") ⊎ (text ≡ codes "PUT")
    ⊎ (text ≡ codes "PATCH") ⊎ (text ≡ codes "DELETE") ⊎ (text ≡ codes "OPTIONS")
    ⊎ (text ≡ codes "-")

-- the text of a route, or a hyphen
abbrev pub IsShownRoute : Text → Type 0
IsShownRoute text = ((route : Route) × (text ≡ text_of route)) ⊎ (text ≡ codes "-")
