use Rattle.std.proofs.Common.{◌≡◌, List, ℕ, Option, Some, None, ap, sym, ◌∙◌, subst}
use Rattle.plan_sgs.specs.declared.schedule.Schedule.{Schedule}
use Rattle.plan_exact.specs.Answers.{outcome_of, letters_of}
use Rattle.plan_exact.specs.ShopTrees.{Counted}
use Rattle.plan_exact.specs.Solutions.{initial_word, word_or, IsFullWord, IsScheduleBy}
use Rattle.plan_exact.proofs.SolutionLemmas.{search_is_solution, answered_is_full, solution_of_answer}
use Rattle.plan_exact.proofs.shop_solution.solution_of.Goals.{in-Some+in_ok-schedule-in-Some, in-None}
use Rattle.plan_exact.proofs.shop_solution.solution_of.Goals as goal

pub schedule_by-requires : goal.schedule_by-requires
schedule_by-requires c =
    let same = ap (λ (t : Counted). t.shop) c.in_ok-tree.ensures in
    let is = search_is_solution c.args.shop.now c.args.budget c.in_ok-tree.tree c.in_ok-initial.initial (outcome_of c.in_ok-kind.field-0) same c.in_ok-initial.ensures c.in_ok-kind.ensures.answer in
    let some : letters_of c.in_ok-kind.field-0.word ≡ Some c.deref.result.now = ap letters_of c.in-Some.is ∙ ap (λ (xs : List ℕ). Some xs) (sym c.deref.ensures.value) in
    subst (λ (found : Option (List ℕ)). IsFullWord c.args.shop.now (word_or (initial_word c.args.shop.now) found)) some
    (answered_is_full c.args.shop.now c.args.budget c.in_ok-kind.field-0 c.requires.shop is)

pub returns : goal.returns
returns c =
    let same = ap (λ (t : Counted). t.shop) c.in_ok-tree.ensures in
    let is = search_is_solution c.args.shop.now c.args.budget c.in_ok-tree.tree c.in_ok-initial.initial (outcome_of c.in_ok-kind.field-0) same c.in_ok-initial.ensures c.in_ok-kind.ensures.answer in
    solution_of_answer c.args.shop.now c.args.budget c.in_ok-kind.field-0 c.match-word.schedule c.requires.shop c.requires.few c.requires.allowed is
    (elim c.match-word.branch [
      | in-Some+in_ok-schedule-in-Some w ↦
          let some : letters_of c.in_ok-kind.field-0.word ≡ Some w.deref.result.now = ap letters_of w.in-Some.is ∙ ap (λ (xs : List ℕ). Some xs) (sym w.deref.ensures.value) in
          subst (λ (found : Option (List ℕ)). IsScheduleBy c.args.shop.now (word_or (initial_word c.args.shop.now) found) c.match-word.schedule) (sym some)
          (subst (λ (schedule : Schedule). IsScheduleBy c.args.shop.now w.deref.result.now schedule) (sym w.schedule-is) w.in_ok-schedule-in-Some.ensures)
      | in-None w ↦
          let none : letters_of c.in_ok-kind.field-0.word ≡ None = ap letters_of w.in-None.is in
          subst (λ (found : Option (List ℕ)). IsScheduleBy c.args.shop.now (word_or (initial_word c.args.shop.now) found) c.match-word.schedule) (sym none)
          (subst (λ (schedule : Schedule). IsScheduleBy c.args.shop.now (initial_word c.args.shop.now) schedule) (sym w.schedule-is) c.in_ok-initial.ensures)
    ])
