-- Each of these texts is unique. There is no text if there is an error line instead.
use Rattle.std.proofs.Common.{ℕ, ◌≡◌, inl, inr, List, ◌++◌, refl, sym, ◌∙◌, ap, subst, arith}
use Rattle.plan_net.specs.Network.{Net}
use Rattle.plan_cpm.specs.Dates.{DateTable}
use Rattle.plan_cpm.proofs.OnceLemmas.{dates_once}
use Rattle.plan_psplib.specs.declared.text.fault.FileCode.{FileCode}
use Rattle.plan_psplib.specs.declared.text.fault.FileFault.{FileFault}
use Rattle.plan_psplib.specs.Project.{Project, SaysProject}
use Rattle.plan_psplib.proofs.OnceLemmas.{ReadAlike, failing_once, said_fails_none}
use Rattle.plan_orlib.specs.Shop as docs
use Rattle.plan_orlib.specs.ShopText.{shop}
use Rattle.plan_orlib.specs.Says as shop_texts
use Rattle.plan_orlib.proofs.OnceLemmas as shop_once
use Rattle.plan_sgs.specs.Problem.{makespan}
use Rattle.plan_sgs.specs.Instances.{Planned, problem_of}
use Rattle.plan_sgs.specs.declared.rule.Rule.{Rule}
use Rattle.plan_sgs.specs.declared.fault.SgsFault.{SgsFault}
use Rattle.plan_sgs.proofs.OnceLemmas.{starts_once, rule_once, feasible_fits, refusal_once, fit_not_refused}
use Rattle.plan_shop.specs.Shop as shops
use Rattle.plan_shop.specs.declared.rule.ShopRule.{ShopRule}
use Rattle.plan_shop.proofs.OnceLemmas as rules
use Rattle.plan_exact.specs.declared.answer.Kind.{Kind}
use Rattle.plan_exact.specs.declared.shop_solution.Solved.{Solved}
use Rattle.plan_exact.specs.declared.fault.ExactFault.{ExactFault}
use Rattle.plan_exact.specs.declared.fault.ExactFault.TheVariants as exact
use Rattle.plan_exact.specs.Budgets.{IsBudgetText}
use Rattle.plan_exact.specs.Solutions.{IsSolution}
use Rattle.plan_exact.proofs.OnceLemmas.{budget_once, SolvedAlike, solution_once}
use Rattle.plan_gantt.specs.FaultText.{fault_text_by, file_fault_text_of}
use Rattle.plan_gantt.specs.FirstFaults.{TellsFirstFailing, TellsFirstShopFault}
use Rattle.plan_gantt.specs.DateTable.{date_table_text, IsDateText}
use Rattle.plan_gantt.specs.ScheduleTable.{schedule_table_text}
use Rattle.plan_gantt.specs.ScheduleFaultText.{schedule_fault_text_of}
use Rattle.plan_gantt.specs.ScheduleText.{IsSchedule, IsTableOf, IsScheduleTextOf, RefusesSchedule, TellsRefusal}
use Rattle.plan_gantt.specs.ShopTable.{shop_table_text}
use Rattle.plan_gantt.specs.ShopFaultText.{shop_fault_text_of}
use Rattle.plan_gantt.specs.ShopText.{IsTableBy, IsShopTextOf, TellsNoRule, rule_starts}
use Rattle.plan_gantt.specs.BestText.{kind_line, best_text_of}
use Rattle.plan_gantt.specs.ExactFaultText.{exact_fault_text_of}
use Rattle.plan_gantt.specs.ShopBestText.{IsBestBy, IsBestTextOf, RefusesBest, TellsBestRefusal}

-- equal faults have equal lines
pub fault_line_once : (f g : FileFault) → ReadAlike f g → file_fault_text_of f ≡ file_fault_text_of g
fault_line_once f g same =
    ap (λ (c : FileCode). fault_text_by c f.line f.cycle.items) same.code
    ∙ ap (λ (n : ℕ). fault_text_by g.code n f.cycle.items) same.line
    ∙ ap (λ (xs : List ℕ). fault_text_by g.code g.line xs) same.cycle

-- a project file has one line of its first failing check
pub first_failing_once : (file x y : List ℕ) → TellsFirstFailing file x → TellsFirstFailing file y → x ≡ y
first_failing_once file x y (f, first, is_x) (g, second, is_y) =
    is_x ∙ fault_line_once f g (failing_once file f g first second) ∙ sym is_y

-- a file that describes a project has no such line
pub first_failing_apart : (file line : List ℕ) (p : Project) → SaysProject file p → TellsFirstFailing file line → ⊥
first_failing_apart file line p says (f, failing, is) = said_fails_none file p f says failing

-- a job shop file has one line of its first failing check for an instance
pub first_shop_fault_once : (instance file x y : List ℕ) → TellsFirstShopFault instance file x → TellsFirstShopFault instance file y → x ≡ y
first_shop_fault_once instance file x y (f, first, is_x) (g, second, is_y) =
    is_x ∙ fault_line_once f g (shop_once.failing_once (shop instance file) f g first second) ∙ sym is_y

-- a file that describes a shop of that name has no such line
pub first_shop_fault_apart : (instance file line : List ℕ) (doc : docs.Shop) → shop_texts.Says instance file doc → TellsFirstShopFault instance file line → ⊥
first_shop_fault_apart instance file line doc says (f, failing, is) = shop_once.said_fails_none instance file doc f says failing

-- a network has one date table
pub date_text_once : (net : Net) (x y : List ℕ) → IsDateText net x → IsDateText net y → x ≡ y
date_text_once net x y (a, are_a, is_x) (b, are_b, is_y) =
    is_x ∙ ap (λ (dates : DateTable). date_table_text net dates) (dates_once net a b are_a are_b) ∙ sym is_y

-- an instance has one list of starts by a rule
pub schedule_once : (i : Planned) (r : Rule) (xs ys : List ℕ) → IsSchedule i r xs → IsSchedule i r ys → xs ≡ ys
schedule_once i r xs ys first second = starts_once i r xs ys first.scheduled second.scheduled

table_once : (i : Planned) (r s : Rule) (x y : List ℕ) → r ≡ s → IsTableOf i r x → IsTableOf i s y → x ≡ y
table_once i r s x y same first second =
    let starts = schedule_once i s first.starts second.starts (subst (λ (rule : Rule). IsSchedule i rule first.starts) same first.schedule) second.schedule in
    first.shown ∙ ap (λ (xs : List ℕ). schedule_table_text i.project.network xs (makespan (problem_of i) xs)) starts ∙ sym second.shown

refused_once : (name : List ℕ) (i : Planned) (f g : SgsFault) → RefusesSchedule name i f → RefusesSchedule name i g → f ≡ g
refused_once name i f g (inl first) (inl second) = refusal_once i f g first second
refused_once name i f g (inl first) (inr second) = absurd (fit_not_refused i f second.0 first)
refused_once name i f g (inr first) (inl second) = absurd (fit_not_refused i g first.0 second)
refused_once name i f g (inr first) (inr second) = first.1.0 ∙ sym second.1.0

-- a project with capacities has at most one error line
pub schedule_refusal_once : (name : List ℕ) (i : Planned) (x y : List ℕ) → TellsRefusal name i x → TellsRefusal name i y → x ≡ y
schedule_refusal_once name i x y (f, first, is_x) (g, second, is_y) =
    is_x ∙ ap schedule_fault_text_of (refused_once name i f g first second) ∙ sym is_y

-- a name that no rule has makes one line
pub no_rule_once : (name x y : List ℕ) → TellsNoRule name x → TellsNoRule name y → x ≡ y
no_rule_once name x y (f, first, is_x) (g, second, is_y) = is_x ∙ ap shop_fault_text_of (first.0 ∙ sym second.0) ∙ sym is_y

-- equal answers have equal texts
pub best_line_once : (s : shops.JobShop) (a b : Solved) → SolvedAlike a b → best_text_of s a ≡ best_text_of s b
best_line_once s a b same =
    ap (λ (k : Kind). kind_line k a.schedule.makespan ++ shop_table_text s a.schedule.starts.items a.schedule.makespan) same.kind
    ∙ ap (λ (xs : List ℕ). kind_line b.kind a.schedule.makespan ++ shop_table_text s xs a.schedule.makespan) same.starts
    ∙ ap (λ (n : ℕ). kind_line b.kind n ++ shop_table_text s b.schedule.starts.items n) same.makespan

best_by_once : (s : shops.JobShop) (m n : ℕ) (x y : List ℕ) → m ≡ n → IsBestBy m s x → IsBestBy n s y → x ≡ y
best_by_once s m n x y same first second =
    let solution = subst (λ (budget : ℕ). IsSolution s budget first.solved) same first.solution in
    first.shown ∙ best_line_once s first.solved second.solved (solution_once s n first.solved second.solved solution second.solution) ∙ sym second.shown

-- a shop has one best text within the budget that a word spells
pub best_text_once : (word : List ℕ) (s : shops.JobShop) (x y : List ℕ) → IsBestTextOf word s x → IsBestTextOf word s y → x ≡ y
best_text_once word s x y (m, spelled, first) (n, also, second) = best_by_once s m n x y (budget_once word m n spelled also) first second

not_solved_once : (word : List ℕ) (s : shops.JobShop) (f g : ExactFault) → RefusesBest word s f → RefusesBest word s g → exact_fault_text_of f ≡ exact_fault_text_of g
not_solved_once word s exact.NoMemory g first second = absurd first
not_solved_once word s exact.TooLarge exact.NoMemory first second = absurd second
not_solved_once word s exact.TooLarge exact.TooLarge first second = refl
not_solved_once word s exact.TooLarge exact.BadBudget first second = let few = second.0 in absurd (omega (arith, first, few))
not_solved_once word s exact.BadBudget exact.NoMemory first second = absurd second
not_solved_once word s exact.BadBudget exact.TooLarge first second = let few = first.0 in absurd (omega (arith, second, few))
not_solved_once word s exact.BadBudget exact.BadBudget first second = refl

-- it has at most one error line of the search
pub best_refusal_once : (word : List ℕ) (s : shops.JobShop) (x y : List ℕ) → TellsBestRefusal word s x → TellsBestRefusal word s y → x ≡ y
best_refusal_once word s x y (f, first, is_x) (g, second, is_y) = is_x ∙ not_solved_once word s f g first second ∙ sym is_y

not_both : (word : List ℕ) (s : shops.JobShop) (f : ExactFault) (budget : ℕ) (text : List ℕ) → IsBudgetText word budget → IsBestBy budget s text → RefusesBest word s f → ⊥
not_both word s exact.NoMemory budget text spelled best refused = refused
not_both word s exact.TooLarge budget text spelled best refused = let few = best.solution.few_steps in omega (arith, few, refused)
not_both word s exact.BadBudget budget text spelled best refused = refused.1 budget spelled

-- if it has a best text, it has no such line
pub best_refusal_apart : (word : List ℕ) (s : shops.JobShop) (line text : List ℕ) → IsBestTextOf word s text → TellsBestRefusal word s line → ⊥
best_refusal_apart word s line text (budget, spelled, best) (f, refused, is) = not_both word s f budget text spelled best refused
