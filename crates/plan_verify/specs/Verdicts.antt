-- The facts about a problem that a log shows (docs/definitions.md, "Verdicts of logs").
use Rattle.std.specs.Prelude.{◌≡◌, ◌⊎◌, ℕ, ◌≤◌, List, ◌++◌, codes}
use Rattle.std.specs.Fmt.{decimal}
use Rattle.plan_psplib.specs.Project.{Project, SaysProject, IsFirstFailing}
use Rattle.plan_psplib.specs.Faults.{IsWantOfMemory}
use Rattle.plan_orlib.specs.Shop as docs
use Rattle.plan_orlib.specs.Says.{Says}
use Rattle.plan_orlib.specs.ShopText.{FailsWith, shop}
use Rattle.plan_sgs.specs.Problem.{Problem, IsFeasible, IsShortest, makespan}
use Rattle.plan_sgs.specs.Instances.{Planned, planned, problem_of, RefusesInstance}
use Rattle.plan_shop.specs.Shop as shops
use Rattle.plan_shop.specs.Docs.{shop_of}
use Rattle.plan_kernel.specs.declared.input.Input.{Input}
use Rattle.plan_kernel.specs.Plans as plans
use Rattle.plan_verify.specs.declared.verdict.Verdict.{Verdict}
use Rattle.plan_verify.specs.declared.verdict.Verdict.TheVariants.{Verified, AtLeast}
use Rattle.plan_verify.specs.declared.fault.VerifyFault.{VerifyFault}
use Rattle.plan_verify.specs.declared.fault.VerifyFault.TheVariants.{File, Project as OfProject, Log}

-- a number is the makespan of a feasible list of starts, and no feasible list has a smaller one
pub record IsLeastMakespan (p : Problem) (least : ℕ) : Type 0 where
  pub starts : List ℕ
  pub shortest : IsShortest p starts
  pub value : makespan p starts ≡ least

-- no feasible list of starts has a makespan below a number
abbrev pub IsLowerBound : Problem → ℕ → Type 0
IsLowerBound p bound = (starts : List ℕ) → IsFeasible p starts → bound ≤ makespan p starts

-- a verdict is true of a problem
abbrev pub IsTrueOf : Problem → Verdict → Type 0
IsTrueOf p (Verified least) = IsLeastMakespan p least
IsTrueOf p (AtLeast bound) = IsLowerBound p bound

-- a number is the cost of a plan, and no plan costs less
pub record IsLeastPlanCost (input : Input) (least : ℕ) : Type 0 where
  pub starts : List ℕ
  pub least_cost : plans.IsLeastCost input starts
  pub value : plans.cost input starts ≡ least

-- a verdict is true of the plans of a problem with windows, absences and tails
abbrev pub IsTrueOfPlans : Input → Verdict → Type 0
IsTrueOfPlans input (Verified least) = IsLeastPlanCost input least
IsTrueOfPlans input (AtLeast bound) = plans.IsLowerBound input bound

-- the line of a verdict
abbrev pub text_of : Verdict → List ℕ
text_of (Verified least) = codes "verified " ++ decimal least ++ codes "\n"
text_of (AtLeast bound) = codes "verified at least " ++ decimal bound ++ codes "\n"

-- a text is the line of a verdict that is true of a problem
abbrev pub IsTrueLine : Problem → List ℕ → Type 0
IsTrueLine p text = (verdict : Verdict) × IsTrueOf p verdict × (text ≡ text_of verdict)

-- the instance of a project with the capacities of its file
abbrev pub as_available : Project → Planned
as_available p = planned p p.available

-- a text is such a line for the project in a file
abbrev pub IsTrueLineFor : List ℕ → List ℕ → Type 0
IsTrueLineFor file text =
    (p : Project) × SaysProject file p × IsTrueLine (problem_of (as_available p)) text

-- a text is such a line for an instance in a job shop file
abbrev pub IsTrueLineForShop : List ℕ → List ℕ → List ℕ → Type 0
IsTrueLineForShop instance file text =
    (doc : docs.Shop) × Says instance file doc
    × IsTrueLine (shops.problem_of (shop_of doc)) text

-- an error is that of a project file: want of memory, or the first check that it fails
abbrev pub IsOfFile : List ℕ → VerifyFault → Type 0
IsOfFile file (File fault) = IsWantOfMemory fault ⊎ IsFirstFailing file fault
IsOfFile file (OfProject fault) = ⊥
IsOfFile file (Log fault) = ⊥

-- an error is that of an instance, its first need above a capacity, or that of a log
abbrev pub IsOfInstance : Planned → VerifyFault → Type 0
IsOfInstance i (File fault) = ⊥
IsOfInstance i (OfProject fault) = RefusesInstance i fault
IsOfInstance i (Log fault) = Unit {0}

-- an error is that of a project file, or else of its project or of the log
abbrev pub RefusesFile : List ℕ → VerifyFault → Type 0
RefusesFile file fault = IsOfFile file fault
    ⊎ ((p : Project) × SaysProject file p × IsOfInstance (as_available p) fault)

-- Job shop file: its error is that of memory or its first failing check.
abbrev pub RefusesShopFile : List ℕ → List ℕ → VerifyFault → Type 0
RefusesShopFile instance file (File fault) =
    IsWantOfMemory fault ⊎ FailsWith (shop instance file) fault
RefusesShopFile instance file (OfProject fault) = ⊥
RefusesShopFile instance file (Log fault) = Unit {0}
