-- The schedule of every solution is that of a full word of the shop: it is active, and shortest if
-- it is called so.
use Rattle.std.proofs.Common.{◌≡◌, ℕ, ◌⊎◌, inl, inr, true, false, nat_le, List, ◌∷◌, Option, Some, None, length, take, Contains, sym, ap, ◌∙◌, subst, arith}
use Rattle.std.specs.Prelude.{All}
use Rattle.std.proofs.lemmas.Bool.{cases_Bool, cond-true, cond-false}
use Rattle.std.proofs.lemmas.List.Elements.{All-contains, All-filter, All-take, Contains-append_right, Contains-get_or}
use Rattle.plan_sgs.specs.Problem.{IsActive, IsShortest, makespan}
use Rattle.plan_sgs.specs.declared.schedule.Schedule.{Schedule}
use Rattle.plan_shop.specs.Shop.{JobShop, IsShop, problem_of}
use Rattle.plan_shop.specs.Words.{makespan_of}
use Rattle.plan_shop.specs.Laws.{RuleIsFull, FullIsActive}
use Rattle.plan_shop.specs.Rules.{mwkr}
use Rattle.plan_shop.proofs.FullWords.{full_is_active}
use Rattle.plan_shop.proofs.WordCount.{mwkr_chooses, rule_is_full}
use Rattle.plan_exact.specs.Words.{WordTree, IsWord, words}
use Rattle.plan_exact.specs.Laws.{KeepsLaws}
use Rattle.plan_exact.specs.Visited.{Found, IsTakenFrom, IsFirstLeast, best, initial_found, is_visited, visited_words}
use Rattle.plan_exact.specs.Answers.{Outcome, outcome, outcome_of, letters_of, is_optimal}
use Rattle.plan_exact.specs.ShopTrees.{Counted, tree_of, TreeHasWords, FoundIsShortest}
use Rattle.plan_exact.specs.Solutions.{initial_word, makespan_by, starts_by, IsFullWord, IsScheduleBy, HasFewSteps, IsBudget, solution, word_or, IsSolution}
use Rattle.plan_exact.specs.declared.shop_solution.Solved.{Solved}
use Rattle.plan_exact.specs.declared.answer.Answer.{Answer}
use Rattle.plan_exact.specs.declared.answer.Kind.TheVariants.{Optimal}
use Rattle.plan_exact.proofs.WordLemmas.{words_listed}
use Rattle.plan_exact.proofs.BestLemmas.{first_least}
use Rattle.plan_exact.proofs.ShopTreeLemmas.{keeps_laws, tree_has_words, found_is_shortest}

-- the result is the first of least makespan of some words of the tree
pub record IsFoundIn (t : WordTree) (initial : ℕ) (f : Found) : Type 0 where
  pub list : List (List ℕ)
  pub are_words : All (IsWord t) list
  pub least : IsFirstLeast t initial list f

-- the found part of an outcome, by whether the budget suffices
outcome-enough : (t : WordTree) (initial budget : ℕ) → nat_le (length (visited_words t initial)) budget ≡ true
    → outcome t initial budget ≡ record { optimal = true; found = best t (initial_found initial) (words t) }
unfolding outcome
outcome-enough t initial budget e =
    cond-true (nat_le (length (visited_words t initial)) budget) (record { optimal = true; found = best t (initial_found initial) (words t) })
    (record { optimal = false; found = best t (initial_found initial) (take budget (visited_words t initial)) }) e

outcome-cut : (t : WordTree) (initial budget : ℕ) → nat_le (length (visited_words t initial)) budget ≡ false
    → outcome t initial budget ≡ record { optimal = false; found = best t (initial_found initial) (take budget (visited_words t initial)) }
unfolding outcome
outcome-cut t initial budget e =
    cond-false (nat_le (length (visited_words t initial)) budget) (record { optimal = true; found = best t (initial_found initial) (words t) })
    (record { optimal = false; found = best t (initial_found initial) (take budget (visited_words t initial)) }) e

visited_are_words : (t : WordTree) (initial : ℕ) → KeepsLaws t → All (IsWord t) (visited_words t initial)
unfolding visited_words
visited_are_words t initial k = All-filter (is_visited t initial) (IsWord t) (words t) (words_listed t k).alone

pub found_in_words : (t : WordTree) (initial budget : ℕ) → KeepsLaws t → IsFoundIn t initial (outcome t initial budget).found
found_in_words t initial budget k = by_budget (cases_Bool (nat_le (length (visited_words t initial)) budget))
  where
    among : (list : List (List ℕ)) → All (IsWord t) list → IsFoundIn t initial (best t (initial_found initial) list)
    among list are = record { list = list; are_words = are; least = first_least t initial list }

    by_budget : (nat_le (length (visited_words t initial)) budget ≡ true) ⊎ (nat_le (length (visited_words t initial)) budget ≡ false) → IsFoundIn t initial (outcome t initial budget).found
    by_budget (inl e) = subst (λ (o : Outcome). IsFoundIn t initial o.found) (sym (outcome-enough t initial budget e)) (among (words t) (words_listed t k).alone)
    by_budget (inr e) =
        subst (λ (o : Outcome). IsFoundIn t initial o.found) (sym (outcome-cut t initial budget e))
        (among (take budget (visited_words t initial)) (All-take (IsWord t) budget (visited_words t initial) (visited_are_words t initial k)))

-- an outcome that is called optimal is the first of least makespan of all words
pub optimal_in_words : (t : WordTree) (initial budget : ℕ) → (outcome t initial budget).optimal ≡ true → IsFirstLeast t initial (words t) (outcome t initial budget).found
optimal_in_words t initial budget optimal = by_budget (cases_Bool (nat_le (length (visited_words t initial)) budget))
  where
    by_budget : (nat_le (length (visited_words t initial)) budget ≡ true)
        ⊎ (nat_le (length (visited_words t initial)) budget ≡ false) →
        IsFirstLeast t initial (words t) (outcome t initial budget).found
    by_budget (inl e) = subst (λ (o : Outcome). IsFirstLeast t initial (words t) o.found) (sym (outcome-enough t initial budget e)) (first_least t initial (words t))
    by_budget (inr e) = absurd (cc (optimal, ap (λ (o : Outcome). o.optimal) (outcome-cut t initial budget e)))

pub initial_word-full : (s : JobShop) → IsFullWord s (initial_word s)
unfolding RuleIsFull
initial_word-full s =
    let h = rule_is_full s (mwkr s) (mwkr_chooses s) in
    record { is_word = h.0; full = h.1 }

-- a full word of the shop with a makespan
pub record IsFoundWord (s : JobShop) (value : ℕ) (w : List ℕ) : Type 0 where
  pub is_full : IsFullWord s w
  pub makespan : value ≡ makespan_by s w

-- a result from words of the shop, or the initial schedule, has a full word
taken_is_full : (s : JobShop) (list : List (List ℕ)) (value : ℕ) (word : Option (List ℕ)) → All (IsWord (tree_of s)) list
    → IsTakenFrom (tree_of s) (makespan_by s (initial_word s)) list value word → IsFoundWord s value (word_or (initial_word s) word)
unfolding tree_of TreeHasWords
taken_is_full s list value None are taken = record { is_full = initial_word-full s; makespan = taken }
taken_is_full s list value (Some w) are taken =
    let there : Contains list w = subst (λ (us : List (List ℕ)). Contains us w) (sym taken.split)
    (Contains-append_right taken.before (w ∷ taken.after) w
    (Contains-get_or (w ∷ taken.after) 0 w (omega arith))) in
    let is : IsFullWord s w = record { is_word = (tree_has_words s w).0 (All-contains (IsWord (tree_of s)) list w are there); full = taken.full } in
    record { is_full = is; makespan = taken.is }

-- the word of a solution
pub solution_word : (s : JobShop) (budget : ℕ) → IsShop s → IsFoundWord s (solution s budget).found.value (word_or (initial_word s) (solution s budget).found.word)
unfolding solution
solution_word s budget shop =
    let h = found_in_words (tree_of s) (makespan_by s (initial_word s)) budget (keeps_laws s shop) in
    taken_is_full s h.list (solution s budget).found.value (solution s budget).found.word h.are_words h.least.taken

-- the schedule of a solution is active
pub solution_is_active : (s : JobShop) (budget : ℕ) (solved : Solved) → IsShop s → IsSolution s budget solved → IsActive (problem_of s) solved.schedule.starts.items
unfolding FullIsActive
solution_is_active s budget solved shop is =
    let h = solution_word s budget shop in
    let w : List ℕ = word_or (initial_word s) (solution s budget).found.word in
    subst (λ (xs : List ℕ). IsActive (problem_of s) xs) (sym is.starts) (full_is_active s shop w h.is_full.is_word h.is_full.full)

-- its makespan is that of the starts
pub solution_has_makespan : (s : JobShop) (budget : ℕ) (solved : Solved) → IsShop s → IsSolution s budget solved → solved.schedule.makespan ≡ makespan (problem_of s) solved.schedule.starts.items
unfolding makespan_of
solution_has_makespan s budget solved shop is =
    is.makespan ∙ (solution_word s budget shop).makespan ∙ ap (λ (xs : List ℕ). makespan (problem_of s) xs) (sym is.starts)

-- if a solution is called optimal, its schedule is a shortest one
pub solution_is_shortest : (s : JobShop) (budget : ℕ) (solved : Solved) → IsShop s → IsSolution s budget solved → solved.kind ≡ Optimal → IsShortest (problem_of s) solved.schedule.starts.items
unfolding solution FoundIsShortest
solution_is_shortest s budget solved shop is called =
    let optimal : (solution s budget).optimal ≡ true = sym is.optimal ∙ ap is_optimal called in
    let least = optimal_in_words (tree_of s) (makespan_by s (initial_word s)) budget optimal in
    let same : (solution s budget).found.value ≡ makespan (problem_of s) solved.schedule.starts.items = sym is.makespan ∙ solution_has_makespan s budget solved shop is in
    record {
      feasible = (solution_is_active s budget solved shop is).feasible;
      least = λ other feasible.
          let most = found_is_shortest s (makespan_by s (initial_word s)) (solution s budget).found other shop least feasible in
          omega (arith, most, same);
    }

-- a search of the shop's tree from the initial schedule on answers the solution
pub search_is_solution : (s : JobShop) (budget : ℕ) (tree : Counted) (initial : Schedule) (found : Outcome) → tree.shop ≡ s → IsScheduleBy s (initial_word s) initial
    → found ≡ outcome (tree_of tree.shop) initial.makespan budget → found ≡ solution s budget
unfolding solution
search_is_solution s budget tree initial found same by is =
    is ∙ ap (λ (t : JobShop). outcome (tree_of t) initial.makespan budget) same ∙ ap (λ n. outcome (tree_of s) n budget) by.makespan

-- the word of an answer, or the initial one if there is none, is full
pub answered_is_full : (s : JobShop) (budget : ℕ) (answer : Answer) → IsShop s → outcome_of answer ≡ solution s budget → IsFullWord s (word_or (initial_word s) (letters_of answer.word))
answered_is_full s budget answer shop is =
    subst (λ (o : Outcome). IsFullWord s (word_or (initial_word s) o.found.word)) (sym is) (solution_word s budget shop).is_full

-- the answer of a search, with the schedule of its word, is a solution within the limits
pub solution_of_answer : (s : JobShop) (budget : ℕ) (answer : Answer) (schedule : Schedule) → IsShop s → HasFewSteps s → IsBudget budget → outcome_of answer ≡ solution s budget
    → IsScheduleBy s (word_or (initial_word s) (letters_of answer.word)) schedule → IsSolution s budget (record { kind = answer.kind; schedule = schedule })
solution_of_answer s budget answer schedule shop few allowed is by =
    let word : word_or (initial_word s) (letters_of answer.word) ≡ word_or (initial_word s) (solution s budget).found.word = ap (λ (o : Outcome). word_or (initial_word s) o.found.word) is in
    record {
      few_steps = few;
      allowed = allowed;
      optimal = ap (λ (o : Outcome). o.optimal) is;
      starts = by.starts ∙ ap (starts_by s) word;
      makespan = by.makespan ∙ ap (makespan_by s) word ∙ sym (solution_word s budget shop).makespan;
      within = by.within;
    }
