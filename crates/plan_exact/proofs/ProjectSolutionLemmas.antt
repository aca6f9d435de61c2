-- The schedule of every solution is that of a full word of the project: it is active, and shortest
-- if it is called so.
use Rattle.std.proofs.Common.{◌≡◌, ℕ, ◌≤◌, true, List, ◌∷◌, Option, Some, None, Contains, refl, sym, ap, ◌∙◌, subst, arith}
use Rattle.std.specs.Prelude.{All}
use Rattle.std.proofs.lemmas.List.Elements.{All-contains, Contains-append_right, Contains-get_or}
use Rattle.plan_sgs.specs.Problem.{IsFeasible, IsActive, IsShortest, makespan}
use Rattle.plan_sgs.specs.Keys.{IsRuleSchedule}
use Rattle.plan_sgs.specs.Rules.{IsNumberedList}
use Rattle.plan_sgs.specs.Instances.{Planned, IsInstance, problem_of}
use Rattle.plan_sgs.specs.Placement.{AllEndBy, latest_end}
use Rattle.plan_sgs.specs.ProjectWords.{makespan_by, starts_by}
use Rattle.plan_sgs.specs.ProjectLaws.{IsFullWord, rule_word, FullWordsAreLists, ProjectFullIsActive, RuleWordIsFull}
use Rattle.plan_sgs.specs.declared.schedule.Schedule.{Schedule}
use Rattle.plan_sgs.specs.declared.rule.Rule.TheVariants as rule
use Rattle.plan_sgs.proofs.FullWordLemmas.{full_words_are_lists, full_is_active, rule_word_is_full}
use Rattle.plan_exact.specs.Words.{IsWord}
use Rattle.plan_exact.specs.Visited.{IsTakenFrom}
use Rattle.plan_exact.specs.Answers.{Outcome, outcome, outcome_of, letters_of, is_optimal}
use Rattle.plan_exact.specs.ProjectTrees.{CountedProject, project_tree, TreeHasProjectWords, FoundIsShortestProject}
use Rattle.plan_exact.specs.Solutions.{IsBudget}
use Rattle.plan_exact.specs.ProjectSolutions.{HasFewActivities, project_outcome, starts_or, IsInitial, IsProjectSolution}
use Rattle.plan_exact.specs.declared.shop_solution.Solved.{Solved}
use Rattle.plan_exact.specs.declared.answer.Answer.{Answer}
use Rattle.plan_exact.specs.declared.answer.Kind.TheVariants.{Optimal}
use Rattle.plan_exact.proofs.SolutionLemmas.{found_in_words, optimal_in_words}
use Rattle.plan_exact.proofs.ProjectTreeLemmas.{keeps_laws, tree_has_words, found_is_shortest}

-- starts and a makespan are those of a full word of the project
pub record IsFoundWord (i : Planned) (value : ℕ) (starts : List ℕ) : Type 0 where
  pub word : List ℕ
  pub full : IsFullWord i word
  pub starts_are : starts ≡ starts_by i word
  pub makespan_is : value ≡ makespan (problem_of i) starts

-- the initial starts are those of a full word: the list of the rule
initial_is_found : (i : Planned) (initial : List ℕ) (value : ℕ) → IsInstance i → IsRuleSchedule i rule.LatestFinish initial → value ≡ makespan (problem_of i) initial
    → IsFoundWord i value initial
unfolding RuleWordIsFull
initial_is_found i initial value instance by_rule is =
    let full = rule_word_is_full i by_rule.0 instance in
    record { word = rule_word i by_rule.0; full = full.0; starts_are = by_rule.2 ∙ sym full.1; makespan_is = is }

-- a result from words of the project, or the initial schedule, has a full word
taken_is_found : (i : Planned) (initial : List ℕ) (list : List (List ℕ)) (value : ℕ) (word : Option (List ℕ)) → IsInstance i
    → IsRuleSchedule i rule.LatestFinish initial → All (IsWord (project_tree i)) list
    → IsTakenFrom (project_tree i) (makespan (problem_of i) initial) list value word → IsFoundWord i value (starts_or i initial word)
unfolding project_tree TreeHasProjectWords makespan_by
taken_is_found i initial list value None instance by_rule are taken = initial_is_found i initial value instance by_rule taken
taken_is_found i initial list value (Some w) instance by_rule are taken =
    let there : Contains list w = subst (λ (us : List (List ℕ)). Contains us w) (sym taken.split)
    (Contains-append_right taken.before (w ∷ taken.after) w
    (Contains-get_or (w ∷ taken.after) 0 w (omega arith))) in
    let full : IsFullWord i w = ((tree_has_words i w).0 (All-contains (IsWord (project_tree i)) list w are there), taken.full) in
    record { word = w; full = full; starts_are = refl; makespan_is = taken.is }

-- the answer of a search has a full word
pub outcome_is_found : (i : Planned) (initial : List ℕ) (budget : ℕ) → IsInstance i → IsRuleSchedule i rule.LatestFinish initial
    → IsFoundWord i (project_outcome i initial budget).found.value (starts_or i initial (project_outcome i initial budget).found.word)
unfolding project_outcome
outcome_is_found i initial budget instance by_rule =
    let h = found_in_words (project_tree i) (makespan (problem_of i) initial) budget (keeps_laws i instance) in
    taken_is_found i initial h.list (project_outcome i initial budget).found.value (project_outcome i initial budget).found.word instance by_rule h.are_words h.least.taken

-- the schedule of a solution is that of a full word
solution_is_found : (i : Planned) (budget : ℕ) (solved : Solved) → IsInstance i → IsProjectSolution i budget solved
    → IsFoundWord i solved.schedule.makespan solved.schedule.starts.items
solution_is_found i budget solved instance is =
    let h = outcome_is_found i is.initial budget instance is.by_rule in
    record {
      word = h.word;
      full = h.full;
      starts_are = is.found.starts ∙ h.starts_are;
      makespan_is = is.found.makespan ∙ h.makespan_is ∙ ap (makespan (problem_of i)) (sym is.found.starts);
    }

-- the schedule of a solution is active
pub solution_is_active : (i : Planned) (budget : ℕ) (solved : Solved) → IsInstance i → IsProjectSolution i budget solved → IsActive (problem_of i) solved.schedule.starts.items
unfolding ProjectFullIsActive
solution_is_active i budget solved instance is =
    let h = solution_is_found i budget solved instance is in
    subst (λ (xs : List ℕ). IsActive (problem_of i) xs) (sym h.starts_are) (full_is_active i h.word instance h.full)

-- its makespan is that of the starts
pub solution_has_makespan : (i : Planned) (budget : ℕ) (solved : Solved) → IsInstance i → IsProjectSolution i budget solved
    → solved.schedule.makespan ≡ makespan (problem_of i) solved.schedule.starts.items
solution_has_makespan i budget solved instance is = (solution_is_found i budget solved instance is).makespan_is

-- if a solution is called optimal, its schedule is a shortest one
pub solution_is_shortest : (i : Planned) (budget : ℕ) (solved : Solved) → IsInstance i → IsProjectSolution i budget solved → solved.kind ≡ Optimal
    → IsShortest (problem_of i) solved.schedule.starts.items
unfolding project_outcome FoundIsShortestProject
solution_is_shortest i budget solved instance is optimal =
    record { feasible = (solution_is_active i budget solved instance is).feasible; least = below }
  where
    called : (project_outcome i is.initial budget).optimal ≡ true
    called = sym is.found.optimal ∙ ap is_optimal optimal

    below : (other : List ℕ) → IsFeasible (problem_of i) other → makespan (problem_of i) solved.schedule.starts.items ≤ makespan (problem_of i) other
    below other feasible =
        let first = optimal_in_words (project_tree i) (makespan (problem_of i) is.initial) budget called in
        let most : (project_outcome i is.initial budget).found.value ≤ makespan (problem_of i) other =
        found_is_shortest i (makespan (problem_of i) is.initial) (project_outcome i is.initial budget).found other instance first feasible in
        let same : makespan (problem_of i) solved.schedule.starts.items ≡ (project_outcome i is.initial budget).found.value =
        sym (solution_has_makespan i budget solved instance is) ∙ is.found.makespan in
        omega (arith, most, same)

-- a search of the project's tree from the initial schedule on returns the answer of the definition
pub search_is_outcome : (i : Planned) (budget : ℕ) (tree : CountedProject) (initial : Schedule) (found : Outcome) → tree.instance ≡ i → IsInitial i initial
    → found ≡ outcome (project_tree tree.instance) initial.makespan budget → found ≡ project_outcome i initial.starts.items budget
unfolding project_outcome
search_is_outcome i budget tree initial found same first is =
    is ∙ ap (λ (t : Planned). outcome (project_tree t) initial.makespan budget) same ∙ ap (λ n. outcome (project_tree i) n budget) first.makespan

-- the word that a search answers is an order of all activities
pub answered_is_list : (i : Planned) (initial : List ℕ) (budget : ℕ) (w : List ℕ) → IsInstance i → IsRuleSchedule i rule.LatestFinish initial
    → (project_outcome i initial budget).found.word ≡ Some w → IsNumberedList (problem_of i) w
unfolding project_outcome FullWordsAreLists project_tree TreeHasProjectWords
answered_is_list i initial budget w instance by_rule some =
    let h = found_in_words (project_tree i) (makespan (problem_of i) initial) budget (keeps_laws i instance) in
    let taken : IsTakenFrom (project_tree i) (makespan (problem_of i) initial) h.list (project_outcome i initial budget).found.value (Some w) =
    subst (λ (o : Option (List ℕ)). IsTakenFrom (project_tree i) (makespan (problem_of i) initial) h.list (project_outcome i initial budget).found.value o) some h.least.taken in
    let there : Contains h.list w = subst (λ (us : List (List ℕ)). Contains us w) (sym taken.split)
    (Contains-append_right taken.before (w ∷ taken.after) w
    (Contains-get_or (w ∷ taken.after) 0 w (omega arith))) in
    (full_words_are_lists i w instance).0 ((tree_has_words i w).0 (All-contains (IsWord (project_tree i)) h.list w h.are_words there), taken.full)

-- a schedule is the initial one if there is no word, otherwise that of the word
pub record IsMadeOf (i : Planned) (initial : List ℕ) (word : Option (List ℕ)) (schedule : Schedule) : Type 0 where
  pub starts : schedule.starts.items ≡ starts_or i initial word
  pub makespan : schedule.makespan ≡ makespan (problem_of i) schedule.starts.items
  pub ends : AllEndBy (problem_of i) schedule.starts.items latest_end

-- the answer of a search, with the schedule of its word, is a solution within the limits
pub solution_of_answer : (i : Planned) (budget : ℕ) (initial schedule : Schedule) (answer : Answer) → IsInstance i → HasFewActivities i → IsBudget budget → IsInitial i initial
    → outcome_of answer ≡ project_outcome i initial.starts.items budget
    → IsMadeOf i initial.starts.items (letters_of answer.word) schedule
    → IsProjectSolution i budget (record { kind = answer.kind; schedule = schedule })
solution_of_answer i budget initial schedule answer instance few allowed first is made =
    let word = ap (λ (o : Outcome). starts_or i initial.starts.items o.found.word) is in
    let h = outcome_is_found i initial.starts.items budget instance first.starts in
    record {
      few_activities = few;
      allowed = allowed;
      initial = initial.starts.items;
      by_rule = first.starts;
      found = record {
        optimal = ap (λ (o : Outcome). o.optimal) is;
        starts = made.starts ∙ word;
        makespan = made.makespan ∙ ap (makespan (problem_of i)) (made.starts ∙ word) ∙ sym h.makespan_is;
      };
      ends = made.ends;
    }
