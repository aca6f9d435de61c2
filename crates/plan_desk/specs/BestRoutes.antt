-- The route of a desk's queries for a best schedule (docs/definitions.md, "Desks"): the answer of
-- the search, an active schedule. If it is called optimal, its makespan is the least among all
-- feasible schedules.
use Rattle.std.specs.Prelude.{◌≡◌, ◌⊎◌, Bool, List}
use Rattle.plan_shop.specs.Shop.{JobShop}
use Rattle.plan_shop.specs.Docs.{NoneIsClosed}
use Rattle.plan_gantt.specs.ShopBestText.{IsBestTextOf, TellsBestRefusal}
use Rattle.plan_gantt.specs.ProjectBestText.{IsBestProjectTextOf, TellsBestProjectRefusal}
use Rattle.plan_rows.specs.World.{Text, Plan}
use Rattle.plan_rows.specs.Views.{View}
use Rattle.plan_desk.specs.Outcomes.{Outcome, shows, some, why_or}
use Rattle.plan_rows.specs.Plans.{IsProjectOf, IsShopOf, bound_project, open_machines}
use Rattle.plan_desk.specs.PlanRoutes.{of_plan, by_kind}
use Rattle.plan_desk.specs.PageRoutes.{TellsClosed}
use Rattle.plan_desk.specs.Refusals.{bad_schedule}

-- the best schedule of a project within the budget that a text spells, or its refusal
unfoldable pub OfProjectBest : View → Plan → Text → Outcome
OfProjectBest v plan word = some (IsProjectOf v plan) (λ p.
    why_or (TellsBestProjectRefusal word (bound_project v plan p)) bad_schedule
    (IsBestProjectTextOf word (bound_project v plan p))
    (λ text. shows (λ shown. shown ≡ text)))

-- a line refuses the search of a shop: a machine in use is closed, else the shop is too large, else
-- the budget is invalid
abbrev pub TellsNoShopBest : Text → JobShop → List Bool → Text → Type 0
TellsNoShopBest word s usable line =
    TellsClosed s usable line ⊎ (NoneIsClosed s.steps usable × TellsBestRefusal word s line)

-- the best schedule of a shop within the budget that a text spells, or its refusal
unfoldable pub OfShopBest : View → Plan → Text → Outcome
OfShopBest v plan word = some (IsShopOf plan) (λ s.
    why_or (TellsNoShopBest word s (open_machines v plan.n s.machines)) bad_schedule
    (λ text. NoneIsClosed s.steps (open_machines v plan.n s.machines) × IsBestTextOf word s text)
    (λ text. shows (λ shown. shown ≡ text)))

unfoldable pub Best : View → Text → Text → Outcome
Best v n word =
    of_plan v n (λ plan. by_kind plan.kind (OfProjectBest v plan word) (OfShopBest v plan word))
