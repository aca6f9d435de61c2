-- A text has at most one budget, and a search within a budget at most one answer.
use Rattle.std.proofs.Common.{ℕ, ◌≡◌, List, refl, sym, ◌∙◌, subst, arith}
use Rattle.std.proofs.lemmas.Fmt.{decimal_injective}
use Rattle.plan_sgs.specs.Instances.{Planned}
use Rattle.plan_sgs.specs.declared.rule.Rule.TheVariants as rule
use Rattle.plan_sgs.proofs.OnceLemmas.{starts_once}
use Rattle.plan_shop.specs.Shop.{JobShop}
use Rattle.plan_exact.specs.Answers.{is_optimal}
use Rattle.plan_exact.specs.Budgets.{IsBudgetText}
use Rattle.plan_exact.specs.Solutions.{IsSolution}
use Rattle.plan_exact.specs.ProjectSolutions.{IsFoundFrom, IsProjectSolution}
use Rattle.plan_exact.specs.declared.answer.Kind.{Kind}
use Rattle.plan_exact.specs.declared.answer.Kind.TheVariants as kind
use Rattle.plan_exact.specs.declared.shop_solution.Solved.{Solved}

-- a text spells one budget
pub budget_once : (text : List ℕ) (m n : ℕ) → IsBudgetText text m → IsBudgetText text n → m ≡ n
budget_once text m n first second =
    let low = first.0.1 in
    let high = second.0.1 in
    decimal_injective m n (omega (arith, low)) (omega (arith, high)) (sym first.1 ∙ second.1)

-- two equal answers: of one kind, with the same starts and the same makespan
pub record SolvedAlike (a b : Solved) : Type 0 where
  pub kind : a.kind ≡ b.kind
  pub starts : a.schedule.starts.items ≡ b.schedule.starts.items
  pub makespan : a.schedule.makespan ≡ b.schedule.makespan

kind_once : (a b : Kind) → is_optimal a ≡ is_optimal b → a ≡ b
kind_once kind.Optimal kind.Optimal same = refl
kind_once kind.Budget kind.Budget same = refl
kind_once kind.Optimal kind.Budget same = absurd (cc)
kind_once kind.Budget kind.Optimal same = absurd (cc)

-- a shop has one answer within a budget
pub solution_once : (s : JobShop) (budget : ℕ) (a b : Solved) → IsSolution s budget a → IsSolution s budget b → SolvedAlike a b
solution_once s budget a b first second = record {
  kind = kind_once a.kind b.kind (first.optimal ∙ sym second.optimal);
  starts = first.starts ∙ sym second.starts;
  makespan = first.makespan ∙ sym second.makespan;
}

-- and a project against its capacities has one
pub project_solution_once : (i : Planned) (budget : ℕ) (a b : Solved) → IsProjectSolution i budget a → IsProjectSolution i budget b → SolvedAlike a b
project_solution_once i budget a b first second =
    let same = starts_once i rule.LatestFinish first.initial second.initial first.by_rule second.by_rule in
    let found : IsFoundFrom i second.initial budget a = subst (λ (xs : List ℕ). IsFoundFrom i xs budget a) same first.found in
    record {
      kind = kind_once a.kind b.kind (found.optimal ∙ sym second.found.optimal);
      starts = found.starts ∙ sym second.found.starts;
      makespan = found.makespan ∙ sym second.found.makespan;
    }
