-- The best text of a project is unique. There is no text if there is an error line instead.
use Rattle.std.proofs.Common.{ℕ, ◌≡◌, inl, inr, List, ◌++◌, refl, sym, ◌∙◌, ap, subst, arith}
use Rattle.plan_sgs.specs.Instances.{Planned, problem_of}
use Rattle.plan_sgs.proofs.OnceLemmas.{feasible_fits, refusal_once, fit_not_refused}
use Rattle.plan_exact.specs.declared.answer.Kind.{Kind}
use Rattle.plan_exact.specs.declared.shop_solution.Solved.{Solved}
use Rattle.plan_exact.specs.declared.fault.ExactFault.{ExactFault}
use Rattle.plan_exact.specs.declared.fault.ExactFault.TheVariants as exact
use Rattle.plan_exact.specs.Budgets.{IsBudgetText}
use Rattle.plan_exact.specs.ProjectSolutions.{IsProjectSolution}
use Rattle.plan_exact.proofs.OnceLemmas.{budget_once, SolvedAlike, project_solution_once}
use Rattle.plan_gantt.specs.ScheduleTable.{schedule_table_text}
use Rattle.plan_gantt.specs.ScheduleFaultText.{schedule_fault_text_of}
use Rattle.plan_gantt.specs.BestText.{kind_line}
use Rattle.plan_gantt.specs.ExactFaultText.{exact_fault_text_of}
use Rattle.plan_gantt.specs.ProjectBestText.{best_project_text_of, IsBestProjectBy, IsBestProjectTextOf, RefusesBestProject, TellsBestProjectRefusal}

-- equal answers have equal texts
best_project_line_once : (i : Planned) (a b : Solved) → SolvedAlike a b → best_project_text_of i a ≡ best_project_text_of i b
best_project_line_once i a b same =
    ap (λ (k : Kind). kind_line k a.schedule.makespan ++ schedule_table_text i.project.network a.schedule.starts.items a.schedule.makespan) same.kind
    ∙ ap (λ (xs : List ℕ). kind_line b.kind a.schedule.makespan ++ schedule_table_text i.project.network xs a.schedule.makespan) same.starts
    ∙ ap (λ (n : ℕ). kind_line b.kind n ++ schedule_table_text i.project.network b.schedule.starts.items n) same.makespan

best_project_by_once : (i : Planned) (m n : ℕ) (x y : List ℕ) → m ≡ n → IsBestProjectBy m i x → IsBestProjectBy n i y → x ≡ y
best_project_by_once i m n x y same first second =
    let solution = subst (λ (budget : ℕ). IsProjectSolution i budget first.solved) same first.solution in
    first.shown ∙ best_project_line_once i first.solved second.solved (project_solution_once i n first.solved second.solved solution second.solution) ∙ sym second.shown

-- an instance has one best text within the budget that a word spells
pub best_project_text_once : (word : List ℕ) (i : Planned) (x y : List ℕ) → IsBestProjectTextOf word i x → IsBestProjectTextOf word i y → x ≡ y
best_project_text_once word i x y (m, spelled, first) (n, also, second) =
    best_project_by_once i m n x y (budget_once word m n spelled also) first second

not_solved_once : (word : List ℕ) (i : Planned) (f g : ExactFault) → RefusesBestProject word i f → RefusesBestProject word i g → exact_fault_text_of f ≡ exact_fault_text_of g
not_solved_once word i exact.NoMemory g first second = absurd first
not_solved_once word i exact.TooLarge exact.NoMemory first second = absurd second
not_solved_once word i exact.TooLarge exact.TooLarge first second = refl
not_solved_once word i exact.TooLarge exact.BadBudget first second = let few = second.0 in absurd (omega (arith, first, few))
not_solved_once word i exact.BadBudget exact.NoMemory first second = absurd second
not_solved_once word i exact.BadBudget exact.TooLarge first second = let few = first.0 in absurd (omega (arith, second, few))
not_solved_once word i exact.BadBudget exact.BadBudget first second = refl

-- it has at most one error line
pub best_project_refusal_once : (word : List ℕ) (i : Planned) (x y : List ℕ) → TellsBestProjectRefusal word i x → TellsBestProjectRefusal word i y → x ≡ y
best_project_refusal_once word i x y (inl (f, first, is_x)) (inl (g, second, is_y)) =
    is_x ∙ ap schedule_fault_text_of (refusal_once i f g first second) ∙ sym is_y
best_project_refusal_once word i x y (inl (f, first, is_x)) (inr (fit, (g, second, is_y))) = absurd (fit_not_refused i f fit first)
best_project_refusal_once word i x y (inr (fit, (f, first, is_x))) (inl (g, second, is_y)) = absurd (fit_not_refused i g fit second)
best_project_refusal_once word i x y (inr (fit, (f, first, is_x))) (inr (also, (g, second, is_y))) =
    is_x ∙ not_solved_once word i f g first second ∙ sym is_y

not_both : (word : List ℕ) (i : Planned) (f : ExactFault) (budget : ℕ) (text : List ℕ) → IsBudgetText word budget → IsBestProjectBy budget i text → RefusesBestProject word i f → ⊥
not_both word i exact.NoMemory budget text spelled best refused = refused
not_both word i exact.TooLarge budget text spelled best refused = let few = best.solution.few_activities in omega (arith, few, refused)
not_both word i exact.BadBudget budget text spelled best refused = refused.1 budget spelled

-- if it has a best text, it has no such line
pub best_project_refusal_apart : (word : List ℕ) (i : Planned) (line text : List ℕ) → IsBestProjectTextOf word i text → TellsBestProjectRefusal word i line → ⊥
best_project_refusal_apart word i line text (budget, spelled, best) (inl (f, refused, is)) =
    fit_not_refused i f (feasible_fits (problem_of i) best.solved.schedule.starts.items best.active.feasible) refused
best_project_refusal_apart word i line text (budget, spelled, best) (inr (fit, (f, refused, is))) = not_both word i f budget text spelled best refused
