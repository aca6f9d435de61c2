-- The table of routes, one route after another.
use Rattle.std.proofs.Common.{◌≡◌, ◌⊎◌, List, ℕ, Result, Ok, Err, inl, inr}
use Rattle.matchit.specs.Route.{Scan, parse_route}
use Rattle.matchit.specs.Router.{InsertsRead}
use Rattle.matchit.specs.declared.error.InsertError.{InsertError}
use Rattle.matchit.specs.declared.error.InsertError.TheVariants.{OutOfMemory}
use Rattle.plan_http.specs.declared.routes.Route.{Route}
use Rattle.plan_http.specs.Routes.{Table, text_of, with_read, with_route}

neither : {A E : Type 0} (a : A) (e f : E) → (Ok a ≡ Err e) ⊎ (Ok a ≡ Err f) → ⊥
neither a e f (inl h) = cc
neither a e f (inr h) = cc

read : (scan : Result Scan InsertError) (route : Route) (old new : Table) (u : Unit {0}) → InsertsRead scan route old new (Ok u) → new ≡ with_read scan route old
read (Ok scan) route old new u h = h.1
read (Err e) route old new u h = absurd (neither u e OutOfMemory h.1)

-- a route that was inserted is one route more
pub inserted : (text : List ℕ) (route : Route) (old new : Table) (u : Unit {0}) → text ≡ text_of route → InsertsRead (parse_route text) route old new (Ok u) → new ≡ with_route route old
unfolding with_route
inserted text route old new u is h = read (parse_route (text_of route)) route old new u (rw is at h)
