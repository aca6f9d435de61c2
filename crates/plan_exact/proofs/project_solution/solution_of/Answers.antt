use Rattle.std.proofs.Common.{◌≡◌, List, ℕ, Some, None, ap, sym, ◌∙◌, subst}
use Rattle.plan_sgs.specs.declared.schedule.Schedule.{Schedule}
use Rattle.plan_exact.specs.Answers.{Outcome, outcome_of, letters_of}
use Rattle.plan_exact.specs.ProjectTrees.{CountedProject}
use Rattle.plan_exact.specs.ProjectSolutions.{starts_or}
use Rattle.plan_exact.proofs.ProjectSolutionLemmas.{IsMadeOf, search_is_outcome, answered_is_list, solution_of_answer}
use Rattle.plan_exact.proofs.project_solution.solution_of.Goals.{in-Some+in_ok-schedule-in-Some, in-None}
use Rattle.plan_exact.proofs.project_solution.solution_of.Goals as goal

pub schedule_by-requires : goal.schedule_by-requires
schedule_by-requires c =
    let initial : Schedule = c.in_ok-initial.initial in
    let same = ap (λ (t : CountedProject). t.instance) c.in_ok-tree.ensures in
    let is = search_is_outcome c.args.instance.now c.args.budget c.in_ok-tree.tree initial (outcome_of c.in_ok-kind.field-0) same c.in_ok-initial.ensures c.in_ok-kind.ensures.answer in
    let some : letters_of c.in_ok-kind.field-0.word ≡ Some c.deref.result.now = ap letters_of c.in-Some.is ∙ ap (λ (xs : List ℕ). Some xs) (sym c.deref.ensures.value) in
    let word = ap (λ (o : Outcome). o.found.word) is in
    answered_is_list c.args.instance.now initial.starts.items c.args.budget c.deref.result.now c.requires.instance c.in_ok-initial.ensures.starts (sym word ∙ some)

pub returns : goal.returns
returns c =
    let initial : Schedule = c.in_ok-initial.initial in
    let same = ap (λ (t : CountedProject). t.instance) c.in_ok-tree.ensures in
    let is = search_is_outcome c.args.instance.now c.args.budget c.in_ok-tree.tree initial (outcome_of c.in_ok-kind.field-0) same c.in_ok-initial.ensures c.in_ok-kind.ensures.answer in
    solution_of_answer c.args.instance.now c.args.budget initial c.match-word.schedule c.in_ok-kind.field-0 c.requires.instance c.requires.few c.requires.allowed c.in_ok-initial.ensures is
    (elim c.match-word.branch [
      | in-Some+in_ok-schedule-in-Some w ↦
          let some : letters_of c.in_ok-kind.field-0.word ≡ Some w.deref.result.now = ap letters_of w.in-Some.is ∙ ap (λ (xs : List ℕ). Some xs) (sym w.deref.ensures.value) in
          let made = w.in_ok-schedule-in-Some.ensures in
          subst (λ (s : Schedule). IsMadeOf c.args.instance.now initial.starts.items (letters_of c.in_ok-kind.field-0.word) s) (sym w.schedule-is)
          (record { starts = made.starts ∙ ap (starts_or c.args.instance.now initial.starts.items) (sym some); makespan = made.makespan; ends = made.ends })
      | in-None w ↦
          let none : letters_of c.in_ok-kind.field-0.word ≡ None = ap letters_of w.in-None.is in
          subst (λ (s : Schedule). IsMadeOf c.args.instance.now initial.starts.items (letters_of c.in_ok-kind.field-0.word) s) (sym w.schedule-is)
          (record { starts = ap (starts_or c.args.instance.now initial.starts.items) (sym none); makespan = c.in_ok-initial.ensures.makespan; ends = c.in_ok-initial.ensures.ends })
    ])
