-- The fact that all steps are placed, and the makespan of the placed steps.
use Rattle.std.proofs.Common.{◌≡◌, ℕ, ◌+◌, ◌<◌, inl, inr, true, false, get_or, sym, ap, ◌∙◌, subst, List, [], arith}
use Rattle.std.specs.Prelude.{not, length, Some, ◌*◌}
use Rattle.std.specs.List.{slice_get}
use Rattle.plan_orlib.specs.declared.steps.Step.{Step}
use Rattle.plan_shop.proofs.TailLemmas.{step-is}
use Rattle.std.proofs.lemmas.Bool.{cases_Bool, both_ways, not-true, lt-ltb}
use Rattle.plan_sgs.specs.Problem.{greatest_below, duration}
use Rattle.plan_sgs.proofs.TotalLemmas.{all_below_at, all_below_from, greatest_same}
use Rattle.plan_shop.specs.declared.tree.Turn.{Turn}
use Rattle.plan_shop.specs.Shop.{JobShop, IsShop, count_steps, time_of, job_of, place_of, problem_of}
use Rattle.plan_shop.specs.Words.{Placed, steps_done, has_next, is_placed, is_full, start_in, starts_of, makespan_of, IsWord}
use Rattle.plan_shop.specs.Trees.{Standing, standing, word_of, IsKept}
use Rattle.plan_shop.proofs.ShopBasics.{count_is, duration_is, job_below, place_below}
use Rattle.plan_shop.proofs.NumberLemmas.{get_or_table}
use Rattle.plan_shop.proofs.Reached.{full_done}
use Rattle.plan_shop.proofs.KeepLemmas.{turns-follow}

pub not_full : (s : JobShop) (xs : List Placed) (j : ℕ) → j < s.jobs → has_next s xs j ≡ true → false ≡ is_full s xs
not_full s xs j below next = elim (cases_Bool (is_full s xs)) [
  | inl full ↦ absurd (both_ways (has_next s xs j) (not-true (has_next s xs j) (all_below_at s.jobs (λ i. not (has_next s xs i)) j full below)) next)
  | inr open_ ↦ sym open_
]

pub all_full : (s : JobShop) (xs : List Placed) → ((j : ℕ) → j < s.jobs → has_next s xs j ≡ false) → true ≡ is_full s xs
all_full s xs none = sym (all_below_from s.jobs (λ i. not (has_next s xs i)) (λ i below. ap not (none i below)))

-- in a full schedule each step is placed
pub full-placed : (s : JobShop) → IsShop s → (xs : List Placed) → is_full s xs ≡ true → (x : ℕ) → x < count_steps s → is_placed s xs x ≡ true
full-placed s shop xs full x below =
    lt-ltb (place_of s x) (steps_done xs (job_of s x)) (omega (arith, full_done s xs full (job_of s x) (job_below s shop x below), place_below s shop x))

-- the makespan is the greatest end
pub makespan_of-is : (s : JobShop) (xs : List Placed) → greatest_below (count_steps s) (λ x. start_in xs x + time_of s x) ≡ makespan_of s xs
unfolding makespan_of
makespan_of-is s xs =
    greatest_same (count_steps s) (λ x. start_in xs x + time_of s x) (λ x. get_or (starts_of s xs) x 0 + duration (problem_of s) x)
    (λ x below. omega (arith, get_or_table (count_steps s) (start_in xs) x below, duration_is s x))
    ∙ ap (λ n. greatest_below n (λ x. get_or (starts_of s xs) x 0 + duration (problem_of s) x)) (sym (count_is s))

-- the word of a tree is one
pub held-word : (s : JobShop) (tails done ends free starts : List ℕ) (turns : List Turn) (t : Standing) →
    standing s (word_of turns) ≡ t → IsKept s tails done ends free starts turns → IsWord t.shop t.word
held-word s tails done ends free starts turns t is kept =
    let Q : Standing → Type 0 = λ v. IsWord v.shop v.word in
    subst Q is (turns-follow s [] turns kept.turns_are)

-- the number of steps, as code reads it
pub count-read : (s : JobShop) (w : List ℕ) (t : Standing) → standing s w ≡ t → IsShop s → (j m : ℕ) → j ≡ s.jobs → m ≡ s.machines → count_steps t.shop ≡ j * m
count-read s w t is shop j m jobs machines =
    ap (λ (v : Standing). length v.shop.steps) (sym is) ∙ shop.all_steps ∙ ap (λ n. n * s.machines) (sym jobs) ∙ ap (λ n. j * n) (sym machines)

-- the time of a step, as code reads it
pub time-read : (s : JobShop) (w : List ℕ) (t : Standing) → standing s w ≡ t → (x : ℕ) (step : Step) → slice_get s.steps x ≡ Some step → time_of t.shop x ≡ step.time
time-read s w t is x step here = ap (λ (v : Standing). time_of v.shop x) (sym is) ∙ ap (λ (v : Step). v.time) (step-is s x step here)
