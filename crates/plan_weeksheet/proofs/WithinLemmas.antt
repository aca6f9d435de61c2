-- The page of rectangles within the limits, by their project and its starts.
use Rattle.std.proofs.Common.{◌≡◌, ◌≤◌, ◌<◌, ℕ, Bool, true, List, length, inr, sym, ap, ◌∙◌, subst}
use Rattle.std.specs.Prelude.{Option, nat_le, slice_index}
use Rattle.std.proofs.lemmas.Bool.{and_parts}
use Rattle.plan_documents.proofs.ErrorLemmas.{refuses_as}
use Rattle.plan_errors.specs.declared.fault.CliFault.{CliFault}
use Rattle.plan_errors.specs.Output.{Refuses}
use Rattle.plan_net.specs.Network.{count_of}
use Rattle.plan_psplib.specs.Project.{Project}
use Rattle.plan_sgs.specs.Instances.{Planned, planned, problem_of}
use Rattle.plan_sgs.specs.Problem.{NeedsFit}
use Rattle.plan_sheet.specs.Names.{SheetNames}
use Rattle.plan_table.specs.Jobs.{project_of}
use Rattle.plan_weeksheet.specs.declared.page.PageDays.{PageDays}
use Rattle.plan_weeksheet.specs.Drawn.{are_few, are_small, drawn_capacities, drawn_project, drawn_starts, is_within, latest, list_of}
use Rattle.plan_weeksheet.specs.Pages.{IsPage, IsPageOf, TellsBeyond, TellsNoPage}
use Rattle.plan_weeksheet.specs.Rectangles.{Rectangle}
use Rattle.plan_weeksheet.proofs.FitLemmas.{needs_fit, starts_count, starts_small}

-- the numbers and the sizes of rectangles within the limits
pub few_within : (capacities : List ℕ) (rs : List Rectangle) (makespan : ℕ) → is_within capacities rs makespan ≡ true → are_few capacities rs ≡ true
few_within capacities rs makespan is = (and_parts (are_few capacities rs) _ is).0

pub small_within : (capacities : List ℕ) (rs : List Rectangle) (makespan : ℕ) → is_within capacities rs makespan ≡ true → are_small capacities rs ≡ true
small_within capacities rs makespan is =
    (and_parts (are_small capacities rs) (nat_le makespan latest) (and_parts (are_few capacities rs) _ is).1).0

-- a project is that of rectangles, with its capacities and its starts
pub record AreDrawn (capacities : List ℕ) (rs : List Rectangle) (makespan : ℕ) (p : Project) (available starts : List ℕ) : Type 0 where
  pub project : p ≡ project_of (list_of capacities rs)
  pub available_are : available ≡ drawn_capacities capacities
  pub starts_are : starts ≡ drawn_starts rs makespan

abbrev Holds : (Project → List ℕ → List ℕ → Type 0) → List ℕ → List Rectangle → ℕ → Type 0
Holds P capacities rs makespan = P (project_of (list_of capacities rs)) (drawn_capacities capacities) (drawn_starts rs makespan)

-- a property of the project of rectangles is one of a project that is drawn
there : (P : Project → List ℕ → List ℕ → Type 0) (capacities : List ℕ) (rs : List Rectangle) (makespan : ℕ) (p : Project) (available starts : List ℕ)
    → AreDrawn capacities rs makespan p available starts → Holds P capacities rs makespan → P p available starts
there P capacities rs makespan p available starts are holds =
    subst (λ (q : Project). P q available starts) (sym are.project)
    (subst (λ (xs : List ℕ). P (project_of (list_of capacities rs)) xs starts) (sym are.available_are)
    (subst (λ (xs : List ℕ). P (project_of (list_of capacities rs)) (drawn_capacities capacities) xs) (sym are.starts_are) holds))

-- the other way round
back : (P : Project → List ℕ → List ℕ → Type 0) (capacities : List ℕ) (rs : List Rectangle) (makespan : ℕ) (p : Project) (available starts : List ℕ)
    → AreDrawn capacities rs makespan p available starts → P p available starts → Holds P capacities rs makespan
back P capacities rs makespan p available starts are holds =
    subst (λ (xs : List ℕ). P (project_of (list_of capacities rs)) (drawn_capacities capacities) xs) are.starts_are
    (subst (λ (xs : List ℕ). P (project_of (list_of capacities rs)) xs starts) are.available_are
    (subst (λ (q : Project). P q available starts) are.project holds))

pub whole_drawn : (capacities : List ℕ) (rs : List Rectangle) (makespan : ℕ) (p : Project) (available starts : List ℕ)
    → AreDrawn capacities rs makespan p available starts → length available ≡ length p.available
whole_drawn capacities rs makespan p available starts are =
    ap (λ (xs : List ℕ). length xs) are.available_are ∙ sym (ap (λ (q : Project). length q.available) are.project)

pub fit_drawn : (capacities : List ℕ) (rs : List Rectangle) (makespan : ℕ) (p : Project) (available starts : List ℕ)
    → AreDrawn capacities rs makespan p available starts → NeedsFit (problem_of (planned p available))
fit_drawn capacities rs makespan p available starts are =
    there (λ q xs ys. NeedsFit (problem_of (planned q xs))) capacities rs makespan p available starts are (needs_fit capacities rs)

pub count_drawn : (capacities : List ℕ) (rs : List Rectangle) (makespan : ℕ) (p : Project) (available starts : List ℕ)
    → AreDrawn capacities rs makespan p available starts → length starts ≡ count_of p.network
count_drawn capacities rs makespan p available starts are =
    there (λ q xs ys. length ys ≡ count_of q.network) capacities rs makespan p available starts are (starts_count capacities rs makespan)

pub limit_drawn : (capacities : List ℕ) (rs : List Rectangle) (makespan : ℕ) (p : Project) (available starts : List ℕ)
    → AreDrawn capacities rs makespan p available starts → is_within capacities rs makespan ≡ true
    → (k : ℕ) → k < length starts → slice_index starts k ≤ latest
limit_drawn capacities rs makespan p available starts are within k inside =
    there (λ q xs ys. slice_index ys k ≤ latest) capacities rs makespan p available starts are (starts_small capacities rs makespan k within)

pub page_drawn : (title : List ℕ) (lower : Option ℕ) (days : Option PageDays) (names : SheetNames) (text capacities : List ℕ) (rs : List Rectangle) (makespan : ℕ)
    (p : Project) (available starts : List ℕ) → AreDrawn capacities rs makespan p available starts
    → IsPage title lower days names (planned p available) starts text → IsPageOf title lower days names capacities rs makespan text
page_drawn title lower days names text capacities rs makespan p available starts are page =
    back (λ q xs ys. IsPage title lower days names (planned q xs) ys text) capacities rs makespan p available starts are page

pub beyond_drawn : (days : Option PageDays) (capacities : List ℕ) (rs : List Rectangle) (makespan : ℕ) (p : Project) (available starts : List ℕ) (e : CliFault)
    → AreDrawn capacities rs makespan p available starts → Refuses (TellsBeyond days (planned p available) starts) e
    → Refuses (TellsNoPage days capacities rs makespan) e
beyond_drawn days capacities rs makespan p available starts e are told =
    refuses_as (TellsBeyond days (drawn_project capacities rs) (drawn_starts rs makespan)) (TellsNoPage days capacities rs makespan) e (λ line tells. inr tells)
    (back (λ q xs ys. Refuses (TellsBeyond days (planned q xs) ys) e) capacities rs makespan p available starts are told)
