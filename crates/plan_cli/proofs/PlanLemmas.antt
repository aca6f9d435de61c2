-- Projects without given capacities, and job shops.
use Rattle.std.proofs.Common.{◌≡◌, ◌⊎◌, inl, inr, ℕ, List, [], Option, None, Some, subst}
use Rattle.plan_psplib.specs.Project.{Project, SaysProject}
use Rattle.plan_sgs.specs.Problem.{IsActive, NeedsFit, makespan}
use Rattle.plan_sgs.specs.Instances.{Planned, planned, problem_of}
use Rattle.plan_shop.specs.Shop.{JobShop}
use Rattle.plan_shop.specs.Shop as shops
use Rattle.plan_table.specs.Names.{Name}
use Rattle.plan_documents.specs.Documents.{ids_in}
use Rattle.plan_gantt.specs.FirstFaults.{TellsFirstFailing}
use Rattle.plan_gantt.specs.ScheduleText.{TellsRefusal}
use Rattle.plan_gantt.specs.ShopTable.{shop_table_text}
use Rattle.plan_gantt.specs.ShopText.{IsShopTextOf}
use Rattle.plan_cli.specs.BestProjectRun.{IsBestProjectTableOf, TellsWhyNoBestProject}
use Rattle.plan_cli.specs.BestRun.{IsBestOf, TellsNoBestOf}
use Rattle.plan_documents.specs.ScheduleRun.{as_available, IsScheduleTableOf, TellsWhyNoSchedule, TellsNeed}
use Rattle.plan_cli.specs.Scheduled.{TellsNoRuleOf}
use Rattle.plan_cli.specs.ShopRun.{IsShopTableOf}
use Rattle.plan_cli.specs.Tables.{IsTableBy}
use Rattle.plan_documents.specs.Plans.{PlannedWith, IsOfProject, IsOfShop, RefusesFile, resources_in}
use Rattle.plan_documents.specs.declared.capacities.Capacity.{Capacity}
use Rattle.plan_documents.specs.declared.documents.Plan.{Plan}
use Rattle.plan_documents.specs.declared.documents.Plan.TheVariants as plan
use Rattle.plan_documents.specs.declared.documents.Subject.TheVariants as subject
use Rattle.plan_cli.specs.Tasks.{ShowsRead, RefusesRead}
use Rattle.plan_cli.specs.declared.tasks.Rows.TheVariants as rows
use Rattle.plan_cli.specs.declared.tasks.Task.{Task}
use Rattle.plan_cli.specs.declared.tasks.Task.TheVariants as task
use denote.Ref.{Bor}

-- the capacities are those of the file
as_in_file : (names : List Name) (p : Project) (Holds : Planned → Type 0) → PlannedWith names [] p Holds → Holds (as_available p)
as_in_file names p Holds (capacities, same, holds) = subst (λ (c : List ℕ). Holds (planned p c)) same holds

-- a text for the project in a file
of_file : (IsText : Planned → List ℕ → Type 0) (file text : List ℕ) → IsOfProject [] IsText file text
    → (p : Project) × SaysProject file p × IsText (as_available p) text
of_file IsText file text (p, says, with_none) = (p, says, as_in_file (resources_in file) p (λ i. IsText i text) with_none)

-- no capacity
abbrev IsNone : Option Capacity → Type 0
IsNone None = Unit {0}
IsNone (Some given) = ⊥

-- a line that refuses a file
refused_file : (IsLine : Planned → List ℕ → Type 0) (file line : List ℕ) → RefusesFile [] IsLine file line
    → TellsFirstFailing file line ⊎ ((p : Project) × SaysProject file p × IsLine (as_available p) line)
refused_file IsLine file line (inl first) = inl first
refused_file IsLine file line (inr (p, says, inl (k, first, between, at, replaced, no_name, told))) = absurd (subst IsNone at tt)
refused_file IsLine file line (inr (p, says, inr with_none)) = inr (p, says, as_in_file (resources_in file) p (λ i. IsLine i line) with_none)

-- a text for the plan of a project whose needs are within its capacities
abbrev pub Fitting : List Name → (Plan → List ℕ → Type 0) → Planned → List ℕ → Type 0
Fitting ids IsText i text = NeedsFit (problem_of i) × IsText (plan.Project i ids) text

-- a line for a need that is above its capacity, or for such a plan
abbrev pub Needing : List Name → (Plan → List ℕ → Type 0) → Planned → List ℕ → Type 0
Needing ids IsLine i line = TellsNeed i line ⊎ (NeedsFit (problem_of i) × IsLine (plan.Project i ids) line)

-- the table by a rule is that of a file
pub table_of_file : (name file text : List ℕ) → IsOfProject [] (Fitting (ids_in file) (IsTableBy name)) file text
    → IsScheduleTableOf name file text
table_of_file name file text made = by_rule (of_file (Fitting (ids_in file) (IsTableBy name)) file text made)
  where
    by_rule : (p : Project) × SaysProject file p × Fitting (ids_in file) (IsTableBy name) (as_available p) text
        → IsScheduleTableOf name file text
    by_rule (p, says, (fit, t)) = (
      p,
      says,
      (
        t.schedule.rule,
        t.schedule.named,
        record { starts = t.starts; schedule = t.schedule.schedule; shown = t.shown },
      ),
    )

refusal_by : (ids : List Name) (name : List ℕ) (i : Planned) (line : List ℕ) → Needing ids (TellsNoRuleOf name) i line → TellsRefusal name i line
refusal_by ids name i line (inl (first, need, told)) = (first, inl need, told)
refusal_by ids name i line (inr (fit, (first, word, told))) = (first, inr (fit, word), told)

-- the same for the task of a schedule
pub schedule_texts : (t : Task) (rule : Bor (List ℕ)) (given : Bor (List Capacity)) → t ≡ task.Schedule rule (subject.Project given) → given.now ≡ []
    → (file text : List ℕ) → ShowsRead rows.Plain t file text → IsScheduleTableOf rule.now file text
schedule_texts t rule given same none file text is =
    table_of_file rule.now file text
    (subst (λ (c : List Capacity). IsOfProject c (Fitting (ids_in file) (IsTableBy rule.now)) file text) none (subst (λ (u : Task). ShowsRead rows.Plain u file text) same is))

pub no_table_of_file : (name file line : List ℕ) → RefusesFile [] (Needing (ids_in file) (TellsNoRuleOf name)) file line
    → TellsWhyNoSchedule name file line
no_table_of_file name file line refused = by_rule (refused_file (Needing (ids_in file) (TellsNoRuleOf name)) file line refused)
  where
    by_rule : TellsFirstFailing file line ⊎ ((p : Project) × SaysProject file p × Needing (ids_in file) (TellsNoRuleOf name) (as_available p) line)
        → TellsWhyNoSchedule name file line
    by_rule (inl first) = inl first
    by_rule (inr (p, says, tells)) = inr (p, says, refusal_by (ids_in file) name (as_available p) line tells)

-- the same for the task of a schedule
pub schedule_lines : (t : Task) (rule : Bor (List ℕ)) (given : Bor (List Capacity)) → t ≡ task.Schedule rule (subject.Project given) → given.now ≡ []
    → (file line : List ℕ) → RefusesRead t file line → TellsWhyNoSchedule rule.now file line
schedule_lines t rule given same none file line is =
    no_table_of_file rule.now file line
    (subst (λ (c : List Capacity). RefusesFile c (Needing (ids_in file) (TellsNoRuleOf rule.now)) file line) none (subst (λ (u : Task). RefusesRead u file line) same is))

-- the best schedule is that of a file
pub best_of_file : (budget file text : List ℕ) → IsOfProject [] (Fitting (ids_in file) (IsBestOf budget)) file text
    → IsBestProjectTableOf budget file text
best_of_file budget file text made = fitting (of_file (Fitting (ids_in file) (IsBestOf budget)) file text made)
  where
    fitting : (p : Project) × SaysProject file p × Fitting (ids_in file) (IsBestOf budget) (as_available p) text
        → IsBestProjectTableOf budget file text
    fitting (p, says, (fit, t)) = (p, says, t)

pub no_best_of_file : (budget file line : List ℕ) → RefusesFile [] (Needing (ids_in file) (TellsNoBestOf budget)) file line
    → TellsWhyNoBestProject budget file line
no_best_of_file budget file line refused = refused_file (Needing (ids_in file) (TellsNoBestOf budget)) file line refused

-- the same for the task of a best schedule
pub best_texts : (t : Task) (budget : Bor (List ℕ)) (given : Bor (List Capacity)) → t ≡ task.Best budget (subject.Project given) → given.now ≡ []
    → (file text : List ℕ) → ShowsRead rows.Plain t file text → IsBestProjectTableOf budget.now file text
best_texts t budget given same none file text is =
    best_of_file budget.now file text
    (subst (λ (c : List Capacity). IsOfProject c (Fitting (ids_in file) (IsBestOf budget.now)) file text) none (subst (λ (u : Task). ShowsRead rows.Plain u file text) same is))

pub best_lines : (t : Task) (budget : Bor (List ℕ)) (given : Bor (List Capacity)) → t ≡ task.Best budget (subject.Project given) → given.now ≡ []
    → (file line : List ℕ) → RefusesRead t file line → TellsWhyNoBestProject budget.now file line
best_lines t budget given same none file line is =
    no_best_of_file budget.now file line
    (subst (λ (c : List Capacity). RefusesFile c (Needing (ids_in file) (TellsNoBestOf budget.now)) file line) none (subst (λ (u : Task). RefusesRead u file line) same is))

-- the table by a rule is that of an instance in a file
pub table_of_shop : (name instance file text : List ℕ) → IsOfShop instance (λ s. IsTableBy name (plan.Shop s)) file text
    → IsShopTableOf name instance file text
table_of_shop name instance file text (doc, says, t) = (doc, says, by_rule _ t)
  where
    by_rule : (s : JobShop) → IsTableBy name (plan.Shop s) text → IsShopTextOf name s text
    by_rule s table = (
      table.schedule.rule,
      table.schedule.named,
      record {
        active = subst (λ (starts : List ℕ). IsActive (shops.problem_of s) starts) table.schedule.starts_are table.schedule.active;
        shown = subst (λ (starts : List ℕ). text ≡ shop_table_text s starts (makespan (shops.problem_of s) starts)) table.schedule.starts_are table.shown;
      },
    )

pub same_line : (IsLine : List ℕ → List ℕ → Type 0) (file line : List ℕ) → IsLine file line → IsLine file line
same_line IsLine file line tells = tells
