-- A shop has a best schedule within the budget that a word spells, or a line refuses it.
use Rattle.std.proofs.Common.{◌≡◌, ℕ, zero, suc, ◌+◌, ◌*◌, ◌≤◌, ◌<◌, inl, inr, ◌⊎◌, Bool, true, false, List, [], ◌∷◌, length, refl, sym, ap, subst, arith}
use Rattle.std.specs.Prelude.{◌&&◌, All}
use Rattle.std.specs.Fmt.{decimal}
use Rattle.std.specs.List.{AllByRecursion}
use Rattle.std.proofs.lemmas.List.{get_or_past}
use Rattle.std.proofs.lemmas.List.Elements.{All-from_recursion}
use Rattle.std.proofs.lemmas.Bool.{both_ways, and_parts, and_from, leb-true, le-leb, cases_eq, cases_lt}
use Rattle.plan_orlib.specs.declared.steps.Step.{Step}
use Rattle.plan_shop.specs.Shop.{JobShop, IsShop, count_steps, time_of, machine_of, idle, table}
use Rattle.plan_shop.specs.Docs.{IsFirstClosed, NoneIsClosed}
use Rattle.plan_shop.specs.Laws.{placed_in, ShopWordsAreFinite}
use Rattle.plan_shop.specs.Words.{Placed, next_step, ready, job_end, machine_free, start_in, starts_of, place, placed_by, job_of_letter, IsWord}
use Rattle.plan_shop.specs.declared.fault.ShopFault.TheVariants as shop_fault
use Rattle.plan_shop.proofs.FullWords.{start_new, start_old}
use Rattle.plan_shop.proofs.NumberLemmas.{length_table}
use Rattle.plan_shop.proofs.Reached.{end_same, end_other, free_cases, ready_within}
use Rattle.plan_shop.proofs.WordCount.{words_are_finite}
use Rattle.plan_exact.specs.Answers.{is_optimal}
use Rattle.plan_exact.specs.Budgets.{IsBudgetText}
use Rattle.plan_exact.specs.Solutions.{IsBudget, IsSolution, HasFewSteps, solution, initial_word, word_or}
use Rattle.plan_exact.specs.declared.answer.Kind.{Kind}
use Rattle.plan_exact.specs.declared.answer.Kind.TheVariants.{Optimal, Budget}
use Rattle.plan_exact.specs.declared.fault.ExactFault.TheVariants as exact
use Rattle.plan_exact.specs.declared.shop_solution.Solved.{Solved}
use Rattle.plan_exact.proofs.SolutionLemmas.{solution_word, solution_is_active, solution_has_makespan, solution_is_shortest}
use Rattle.plan_gantt.specs.BestText.{best_text_of}
use Rattle.plan_gantt.specs.ExactFaultText.{exact_fault_text_of}
use Rattle.plan_gantt.specs.ShopBestText.{IsBestTextOf}
use Rattle.plan_gantt.specs.ShopFaultText.{shop_fault_text_of}
use Rattle.plan_rows.specs.World.{Text, same_text}
use Rattle.plan_rows.specs.Names.{is_from_to}
use Rattle.plan_rows.proofs.OwnerLemmas.{text_from_same, same_text_refl}
use Rattle.plan_desk.specs.BestOf.{IsOpenBest}
use Rattle.plan_desk.specs.BestRoutes.{TellsNoShopBest}
use Rattle.plan_desk.proofs.SomeFileLemmas.{vec_of}
use Rattle.plan_desk.proofs.SomeShopLemmas.{both, first_below, some_closed}

-- ---- budgets

abbrev is_budget_text : Text → ℕ → Bool
is_budget_text word n = is_from_to 1 200000 n && same_text word (decimal n)

budget_of : (word : Text) (n : ℕ) → is_budget_text word n ≡ true → IsBudgetText word n
budget_of word n e =
    let parts = and_parts _ _ e in
    let range = and_parts _ _ parts.0 in
    ((leb-true 1 n range.0, leb-true n 200000 range.1), text_from_same word (decimal n) parts.1)

is_of_budget : (word : Text) (n : ℕ) → IsBudgetText word n → is_budget_text word n ≡ true
is_of_budget word n (range, spelled) =
    and_from _ _ (and_from _ _ (le-leb 1 n range.0) (le-leb n 200000 range.1)) (subst (λ t. same_text word t ≡ true) spelled (same_text_refl word))

-- a word spells a budget or no budget, because all budgets are below a limit
pub budget_below : (word : Text) (limit : ℕ) → 200000 < limit → ((n : ℕ) × IsBudgetText word n) ⊎ ((n : ℕ) → IsBudgetText word n → ⊥)
budget_below word limit all = by_search (first_below (is_budget_text word) limit)
  where
    by_search : ((m : ℕ) × (is_budget_text word m ≡ true) × ((h : ℕ) → h < m → is_budget_text word h ≡ false))
        ⊎ ((h : ℕ) → h < limit → is_budget_text word h ≡ false) → ((n : ℕ) × IsBudgetText word n) ⊎ ((n : ℕ) → IsBudgetText word n → ⊥)
    by_search (inl (m, is, first)) = inl (m, budget_of word m is)
    by_search (inr none) = inr (λ n spells. both_ways _ (none n (omega (arith, all, spells.0.1))) (is_of_budget word n spells))

-- ---- the starts of a word

-- the placed steps end by time b
record EndsBy (s : JobShop) (xs : List Placed) (b : ℕ) : Type 0 where
  jobs : (j : ℕ) → job_end s xs j ≤ b
  machines : (m : ℕ) → machine_free s xs m ≤ b
  starts : (x : ℕ) → start_in xs x ≤ b

module _ (s : JobShop) (short : (x : ℕ) → time_of s x ≤ 10000) where
  place_ends : (xs : List Placed) (b : ℕ) → EndsBy s xs b → (j : ℕ) → EndsBy s (place s xs j) (b + 10000)
  place_ends xs b within j = record { jobs = ends; machines = frees; starts = begins }
    where
      p : Placed
      p = record { job = j; step = next_step s xs j; start = ready s xs j }

      soon : ready s xs j ≤ b
      soon = ready_within s xs j b (within.jobs j) (λ some. within.machines (machine_of s (next_step s xs j)))

      begins : (x : ℕ) → start_in (p ∷ xs) x ≤ b + 10000
      begins x = elim (cases_eq p.step x) [
        | inl here ↦ omega (arith, start_new p xs x here, soon)
        | inr other ↦ omega (arith, start_old p xs x (λ e. other (sym e)), within.starts x)
      ]

      ends : (k : ℕ) → job_end s (p ∷ xs) k ≤ b + 10000
      ends k = elim (cases_eq p.job k) [
        | inl same ↦ omega (arith, end_same s p xs k same, soon, short p.step)
        | inr other ↦ omega (arith, end_other s p xs k other, within.jobs k)
      ]

      frees : (m : ℕ) → machine_free s (p ∷ xs) m ≤ b + 10000
      frees m = elim (free_cases s p xs m) [
        | inl (same, some, is) ↦ omega (arith, is, soon, short p.step, within.machines m)
        | inr is ↦ omega (arith, is, within.machines m)
      ]

  word_ends : (xs : List Placed) (w : List ℕ) (b : ℕ) → EndsBy s xs b → EndsBy s (placed_by s xs w) (b + length w * 10000)
  word_ends xs [] b within = subst (EndsBy s xs) (omega arith) within
  word_ends xs (a ∷ w) b within =
      subst (EndsBy s (placed_by s (place s xs (job_of_letter a)) w)) (omega arith)
      (word_ends (place s xs (job_of_letter a)) w (b + 10000) (place_ends xs b within (job_of_letter a)))

-- each start of a word of a shop with few steps is within the limit
starts_within : (s : JobShop) (w : List ℕ) → IsShop s → HasFewSteps s → ((x : ℕ) → time_of s x ≤ 10000) → IsWord s w → (x : ℕ) → start_in (placed_in s w) x ≤ 10000000
unfolding ShopWordsAreFinite
starts_within s w is few short word x =
    let within = word_ends s short [] w 0 (record { jobs = λ j. omega arith; machines = λ m. omega arith; starts = λ y. omega arith }) in
    let count = words_are_finite s w word in
    omega (arith, within.starts x, count, is.all_steps, few)

all_in_table : (P : ℕ → Type 0) (n : ℕ) (f : ℕ → ℕ) → ((x : ℕ) → P (f x)) → AllByRecursion P (table n f)
all_in_table P zero f each = tt
all_in_table P (suc n) f each = both P (table n f) (f n ∷ []) (all_in_table P n f each) (each n, tt)

-- ---- best schedules

pub kind_of : (optimal : Bool) → (kind : Kind) × (is_optimal kind ≡ optimal)
kind_of true = (Optimal, refl)
kind_of false = (Budget, refl)

-- a shop with few steps is solved within each budget
some_solution : (s : JobShop) (budget : ℕ) → IsShop s → HasFewSteps s → ((x : ℕ) → time_of s x ≤ 10000) → IsBudget budget
    → (solved : Solved) × IsSolution s budget solved
some_solution s budget is few short allowed =
    let w : List ℕ = word_or (initial_word s) (solution s budget).found.word in
    let found = solution_word s budget is in
    let kind = kind_of (solution s budget).optimal in
    let starts : List ℕ = starts_of s (placed_in s w) in
    let kept = vec_of starts (omega (arith, length_table (count_steps s) (start_in (placed_in s w)), few)) in
    let within = All-from_recursion (λ t. t ≤ 10000000) starts
    (all_in_table (λ t. t ≤ 10000000) (count_steps s) (start_in (placed_in s w)) (starts_within s w is few short found.is_full.is_word)) in (
      record { kind = kind.0; schedule = record { starts = kept.0; makespan = (solution s budget).found.value } },
      record {
        few_steps = few;
        allowed = allowed;
        optimal = kind.1;
        starts = kept.1;
        makespan = refl;
        within = subst (All (λ t. t ≤ 10000000)) (sym kept.1) within;
      },
    )

time_short : (s : JobShop) → All (λ step. step.time ≤ 10000) s.steps → (x : ℕ) → time_of s x ≤ 10000
time_short s short x = elim (cases_lt x (length s.steps)) [
  | inl inside ↦ short x idle inside
  | inr outside ↦ omega (arith, ap (λ (step : Step). step.time) (get_or_past s.steps x idle outside))
]

some_best_by : (s : JobShop) (word : Text) → IsShop s → All (λ step. step.time ≤ 10000) s.steps → HasFewSteps s → (n : ℕ) × IsBudgetText word n
    → (text : Text) × IsBestTextOf word s text
some_best_by s word is short few (budget, spells) =
    let best = some_solution s budget is few (time_short s short) spells.0 in (
      best_text_of s best.0,
      (
        budget,
        spells,
        record {
          solved = best.0;
          solution = best.1;
          shortest = solution_is_shortest s budget best.0 is best.1;
          active = solution_is_active s budget best.0 is best.1;
          makespan = solution_has_makespan s budget best.0 is best.1;
          shown = refl;
        },
      ),
    )

pub some_best_text : (s : JobShop) (usable : List Bool) (word : Text) → IsShop s → All (λ step. step.time ≤ 10000) s.steps
    → ((line : Text) × TellsNoShopBest word s usable line) ⊎ ((text : Text) × IsOpenBest word s usable text)
some_best_text s usable word is short = by_parts (some_closed s.steps usable) (cases_lt 100 (count_steps s)) (budget_below word 200001 (omega arith))
  where
    by_parts : ((m : ℕ) × IsFirstClosed s.steps usable m) ⊎ NoneIsClosed s.steps usable → (100 < count_steps s) ⊎ (count_steps s ≤ 100)
        → ((n : ℕ) × IsBudgetText word n) ⊎ ((n : ℕ) → IsBudgetText word n → ⊥)
        → ((line : Text) × TellsNoShopBest word s usable line) ⊎ ((text : Text) × IsOpenBest word s usable text)
    by_parts (inl (m, first)) size budget = inl (shop_fault_text_of (shop_fault.MachineClosed m), inl (m, first, refl))
    by_parts (inr opened) (inl large) budget = inl (exact_fault_text_of exact.TooLarge, inr (opened, (exact.TooLarge, large, refl)))
    by_parts (inr opened) (inr few) (inr none) = inl (exact_fault_text_of exact.BadBudget, inr (opened, (exact.BadBudget, (few, none), refl)))
    by_parts (inr opened) (inr few) (inl budget) =
        let best = some_best_by s word is short few budget in
        inr (best.0, (opened, best.1))
