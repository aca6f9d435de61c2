-- The problem of a plan: its file, its lags, and the published capacities of the codes that are
-- bound to its places (docs/definitions.md, "Desks").
use Rattle.std.specs.Prelude.{◌≡◌, ℕ, zero, suc, ◌+◌, Bool, true, ◌&&◌, ◌||◌, not, ◌==◌, nat_lt, if◌then◌else◌, List, [], ◌∷◌, ◌++◌, length, map, filter, find, Option, Some, None, unwrap_or, option_map, option_and_then}
use Rattle.std.specs.List.{list_any}
use Rattle.std.specs.Cmp.Lexicographic.{slice_cmp}
use Rattle.std.specs.Ordering.{nat_cmp, is_lt}
use Rattle.plan_net.specs.Network.{Net, joins}
use Rattle.plan_psplib.specs.Numbers.{number}
use Rattle.plan_psplib.specs.Project.{Project, with_project_lag}
use Rattle.plan_psplib.specs.Project as files
use Rattle.plan_orlib.specs.Shop as docs
use Rattle.plan_orlib.specs.Says.{Says}
use Rattle.plan_sgs.specs.Instances.{Planned, planned}
use Rattle.plan_shop.specs.Shop.{JobShop}
use Rattle.plan_shop.specs.Docs.{shop_of}
use Rattle.plan_rows.specs.declared.kinds.PlanKind.{PlanKind}
use Rattle.plan_rows.specs.declared.kinds.PlanKind.TheVariants as kinds
use Rattle.plan_rows.specs.World.{Text, Published, Plan, Bind, Lag, code_in}
use Rattle.plan_rows.specs.Names.{is_from_to, begins_with}
use Rattle.plan_rows.specs.Views.{View}

-- a row, inserted before the first one that it comes before
abbrev pub put_in_order : {A : Type 0} → (A → A → Bool) → A → List A → List A
put_in_order before x [] = x ∷ []
put_in_order before x (y ∷ ys) =
    if before y x then y ∷ put_in_order before x ys else x ∷ y ∷ ys

-- the rows in ascending order
abbrev pub in_order : {A : Type 0} → (A → A → Bool) → List A → List A
in_order before [] = []
in_order before (x ∷ xs) = put_in_order before x (in_order before xs)

-- codes byte by byte, and plans by number
abbrev pub code_before : Published → Published → Bool
code_before a b = is_lt (slice_cmp nat_cmp a.code b.code)

abbrev pub plan_before : Plan → Plan → Bool
plan_before a b = nat_lt a.n b.n

-- 1–7 digits without a leading zero
abbrev pub plan_number : Text → Option ℕ
plan_number text =
    if is_from_to 1 7 (length text) && not (begins_with 48 text) then number text else None

abbrev pub has_number : ℕ → Plan → Bool
has_number n row = row.n == n

-- the plan of the desk whose number is this text
abbrev pub plan_seen : View → Text → Option Plan
plan_seen v text = option_and_then (λ n. find (has_number n) v.plans) (plan_number text)

-- by its first activity, then by its second one
abbrev pub lag_before : Lag → Lag → Bool
lag_before a b =
    nat_lt a.source b.source || ((a.source == b.source) && nat_lt a.target b.target)

abbrev pub arc_of : Lag → ℕ × ℕ × ℕ
arc_of row = (row.source, row.target, row.lag)

-- the arcs of a plan that have lags, in ascending order
abbrev pub lags_of : View → ℕ → List (ℕ × ℕ × ℕ)
lags_of v n = map arc_of (in_order lag_before (filter (λ row. row.n == n) v.lags))

abbrev pub bind_before : Bind → Bind → Bool
bind_before a b = nat_lt a.place b.place

abbrev pub place_of : Bind → ℕ × Text
place_of row = (row.place, row.code)

-- the binds of a plan, by place
abbrev pub places_of : View → ℕ → List (ℕ × Text)
places_of v n = map place_of (in_order bind_before (filter (λ row. row.n == n) v.binds))

abbrev pub is_bound_at : ℕ → ℕ → Bind → Bool
is_bound_at n place row = (row.n == n) && (row.place == place)

-- the published row of the code that is bound to a place
abbrev pub code_at : View → ℕ → ℕ → Option Published
code_at v n place =
    option_and_then (λ row. code_in v.published row.code) (find (is_bound_at n place) v.binds)

-- a project with lags on its arcs
abbrev pub lagged_by : List (ℕ × ℕ × ℕ) → Project → Project
lagged_by [] p = p
lagged_by (arc ∷ arcs) p = lagged_by arcs (with_project_lag p arc.0 arc.1 arc.2)

-- the project of a plan: that of its file, with its lags
abbrev pub IsProjectOf : View → Plan → Project → Type 0
IsProjectOf v plan p =
    (said : Project) × files.SaysProject plan.body said × (p ≡ lagged_by (lags_of v plan.n) said)

-- from a place on, the published capacities of the bound codes, otherwise those of the file
abbrev pub capacities_from : View → ℕ → ℕ → List ℕ → List ℕ
capacities_from v n place [] = []
capacities_from v n place (available ∷ others) =
    unwrap_or (option_map (λ row. row.capacity) (code_at v n place)) available
    ∷ capacities_from v n (place + 1) others

-- a project with the capacities that are bound to its resources, whose places are numbered from 1
abbrev pub bound_project : View → Plan → Project → Planned
bound_project v plan p = planned p (capacities_from v plan.n 1 p.available)

-- a machine is open, unless the code that is bound to it has capacity 0
abbrev pub is_open : Option Published → Bool
is_open None = true
is_open (Some row) = not (row.capacity == 0)

-- for the first n machines, whether they are open; places are numbered from 0
abbrev pub open_machines : View → ℕ → ℕ → List Bool
open_machines v n zero = []
open_machines v n (suc machines) = open_machines v n machines ++ is_open (code_at v n machines) ∷ []

-- the shop of a plan: that of its instance in its file
abbrev pub IsShopOf : Plan → JobShop → Type 0
IsShopOf plan s = (doc : docs.Shop) × Says plan.name plan.body doc × (s ≡ shop_of doc)

-- the number of places of a plan: the resources of its project, or the machines of its shop
abbrev pub HasPlaces : PlanKind → Text → Text → ℕ → Type 0
HasPlaces kinds.Project name body count =
    (p : Project) × files.SaysProject body p × (count ≡ length p.available)
HasPlaces kinds.Shop name body count = (doc : docs.Shop) × Says name body doc × (count ≡ doc.machines)

-- the place is one of n, numbered from 1 for a project and from 0 for a shop
abbrev pub is_place : PlanKind → ℕ → ℕ → Bool
is_place kinds.Project count place = is_from_to 1 count place
is_place kinds.Shop count place = nat_lt place count

-- the network has the arc
abbrev pub has_arc : Net → ℕ → ℕ → Bool
has_arc net source target = list_any (λ arc. joins arc source target) net.arcs
