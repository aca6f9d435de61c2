-- The shop of a list of orders is within the limits.
use Rattle.std.proofs.Common.{◌≡◌, ℕ, zero, suc, ◌+◌, ◌-◌, ◌≤◌, ◌<◌, ◌==◌, ◌||◌, Bool, true, false, List, [], ◌∷◌, ◌++◌, length, map, refl, sym, ap, ◌∙◌, arith, cond}
use Rattle.std.specs.Prelude.{count_by, filter, take}
use Rattle.std.specs.List.{AllByRecursion, list_any, sum_by}
use Rattle.std.proofs.lemmas.Bool.{eqb-true, ne_eqb}
use Rattle.std.proofs.lemmas.List.{length-append, length-map, length-take}
use Rattle.std.proofs.lemmas.List.Elements.{All-from_recursion}
use Rattle.std.proofs.lemmas.List.Sums.{length-filter, sum_by-append, sum_by-cons}
use Rattle.plan_orlib.specs.declared.steps.Step.{Step}
use Rattle.plan_orlib.specs.Shop.{IsJob, IsShop, IsStep, time_of, total_time}
use Rattle.plan_table.specs.declared.shop_table.ShopStep.{ShopStep}
use Rattle.plan_table.specs.Numbered.{numbered}
use Rattle.plan_table.specs.ShopTable.{IsShopStep, IsShopTable, ShopTable, idle, idle_on, idle_step, is_of, is_on, padded, shop_job, shop_of, step_of, steps_of}

-- what f gives for numbers from i on, one element each
abbrev listed : {A : Type 0} {B : Type 0} → (ℕ → A) → ℕ → List B → List A
listed f i xs = numbered (λ k _. f k ∷ []) i xs

length_listed : {A B : Type 0} (f : ℕ → A) (i : ℕ) (xs : List B) → length (listed f i xs) ≡ length xs
length_listed f i [] = refl
length_listed f i (x ∷ xs) = let rest = length_listed f (i + 1) xs in omega (arith, rest)

-- ---- machines that a job doesn't use

abbrev idle_from : {A : Type 0} → List Step → ℕ → List A → List Step
idle_from steps i xs = numbered (λ k _. idle_on steps k) i xs

-- a step of an earlier machine changes nothing
idle_past : {A : Type 0} (s : Step) (steps : List Step) (i : ℕ) (xs : List A) → s.machine < i → length (idle_from (s ∷ steps) i xs) ≡ length (idle_from steps i xs)
idle_past s steps i [] past = refl
idle_past s steps i (x ∷ xs) past =
    let other : (s.machine == i) ≡ false = ne_eqb s.machine i (λ e. omega (arith, e, past)) in
    let rest = idle_past s steps (i + 1) xs (omega (arith, past)) in
    ap (λ b. length (cond (b || list_any (is_on i) steps) [] (idle_step i ∷ []) ++ idle_from (s ∷ steps) (i + 1) xs)) other
    ∙ length-append (idle_on steps i) (idle_from (s ∷ steps) (i + 1) xs) ∙ ap (λ n. length (idle_on steps i) + n) rest
    ∙ sym (length-append (idle_on steps i) (idle_from steps (i + 1) xs))

idle_on_short : (steps : List Step) (i : ℕ) → length (idle_on steps i) ≤ 1
idle_on_short steps i = by_test (list_any (is_on i) steps)
  where
    by_test : (b : Bool) → length (cond b [] (idle_step i ∷ [])) ≤ 1
    by_test true = omega arith
    by_test false = omega arith

-- a step takes at most one machine
idle_less : {A : Type 0} (s : Step) (steps : List Step) (i : ℕ) (xs : List A) → length (idle_from steps i xs) ≤ length (idle_from (s ∷ steps) i xs) + 1
idle_less s steps i [] = omega arith
idle_less s steps i (x ∷ xs) = by_test (s.machine == i) refl (idle_less s steps (i + 1) xs)
  where
    whole : length (idle_from steps i (x ∷ xs)) ≡ length (idle_on steps i) + length (idle_from steps (i + 1) xs)
    whole = length-append (idle_on steps i) (idle_from steps (i + 1) xs)

    by_test : (b : Bool) → (s.machine == i) ≡ b → length (idle_from steps (i + 1) xs) ≤ length (idle_from (s ∷ steps) (i + 1) xs) + 1 →
        length (idle_from steps i (x ∷ xs)) ≤ length (cond (b || list_any (is_on i) steps) [] (idle_step i ∷ []) ++ idle_from (s ∷ steps) (i + 1) xs) + 1
    by_test true at rest =
        let is = eqb-true s.machine i at in
        let past = idle_past s steps (i + 1) xs (omega (arith, is)) in
        let short = idle_on_short steps i in
        let w = whole in
        omega (arith, w, past, short)
    by_test false at rest =
        let more = length-append (idle_on steps i) (idle_from (s ∷ steps) (i + 1) xs) in
        let w = whole in
        omega (arith, w, more, rest)

-- a job of n steps leaves all but n machines
idle_many : {A : Type 0} (steps : List Step) (i : ℕ) (xs : List A) → length xs ≤ length (idle_from steps i xs) + length steps
idle_many [] i xs = let n = length_listed idle_step i xs in omega (arith, n)
idle_many (s ∷ steps) i xs = let rest = idle_many steps i xs in let less = idle_less s steps i xs in omega (arith, rest, less)

padded_length : (machines : List (List ℕ)) (steps : List Step) → length steps ≤ length machines → length (padded machines steps) ≡ length machines
padded_length machines steps fits =
    let m = length machines in
    let n = length steps in
    let many = idle_many steps 0 machines in
    let taken = length-take (m - n) (idle machines steps) in
    let whole = length-append steps (take (m - n) (idle machines steps)) in
    omega (arith, fits, many, taken, whole)

-- ---- steps within the limits

all_both : {A : Type 0} (P : A → Type 0) (xs ys : List A) → AllByRecursion P xs → AllByRecursion P ys → AllByRecursion P (xs ++ ys)
all_both P [] ys h k = k
all_both P (x ∷ xs) ys h k = (h.0, all_both P xs ys h.1 k)

all_take : {A : Type 0} (P : A → Type 0) (n : ℕ) (xs : List A) → AllByRecursion P xs → AllByRecursion P (take n xs)
all_take P zero [] h = tt
all_take P (suc n) [] h = tt
all_take P zero (x ∷ xs) h = tt
all_take P (suc n) (x ∷ xs) h = (h.0, all_take P n xs h.1)

job_steps_good : (n m k : ℕ) (steps : List ShopStep) → AllByRecursion (IsShopStep n m) steps → AllByRecursion (IsStep m) (steps_of k steps)
job_steps_good n m k [] h = tt
job_steps_good n m k (s ∷ steps) h = by_test (is_of k s) (job_steps_good n m k steps h.1)
  where
    by_test : (b : Bool) → AllByRecursion (IsStep m) (steps_of k steps) → AllByRecursion (IsStep m) (map step_of (cond b (s ∷ filter (is_of k) steps) (filter (is_of k) steps)))
    by_test true rest = ((h.0.1, h.0.2), rest)
    by_test false rest = rest

idle_good : {A : Type 0} (m : ℕ) (steps : List Step) (i : ℕ) (xs : List A) → i + length xs ≤ m → AllByRecursion (IsStep m) (idle_from steps i xs)
idle_good m steps i [] fits = tt
idle_good m steps i (x ∷ xs) fits =
    all_both (IsStep m) (idle_on steps i) (idle_from steps (i + 1) xs) (by_test (list_any (is_on i) steps)) (idle_good m steps (i + 1) xs (omega (arith, fits)))
  where
    by_test : (b : Bool) → AllByRecursion (IsStep m) (cond b [] (idle_step i ∷ []))
    by_test true = tt
    by_test false = ((omega (arith, fits), omega arith), tt)

pub job_good : (t : ShopTable) → IsShopTable t → (k : ℕ) → k < length t.orders → IsJob (length t.machines) (shop_job t k)
job_good t is k below =
    let m = length t.machines in
    let steps = steps_of k t.steps in
    let size : length steps ≡ count_by (is_of k) t.steps = length-map (filter (is_of k) t.steps) step_of ∙ length-filter (is_of k) t.steps in
    let fit = is.fit k below in
    let all = all_both (IsStep m) steps (take (m - length steps) (idle t.machines steps)) (job_steps_good (length t.orders) m k t.steps is.steps)
    (all_take (IsStep m) (m - length steps) (idle t.machines steps) (idle_good m steps 0 t.machines (omega arith))) in
    (padded_length t.machines steps (omega (arith, size, fit)), All-from_recursion (IsStep m) (shop_job t k) all)

jobs_good : (t : ShopTable) → IsShopTable t → (i : ℕ) (xs : List (List ℕ)) → i + length xs ≤ length t.orders → AllByRecursion (IsJob (length t.machines)) (listed (shop_job t) i xs)
jobs_good t is i [] fits = tt
jobs_good t is i (x ∷ xs) fits = (job_good t is i (omega (arith, fits)), jobs_good t is (i + 1) xs (omega (arith, fits)))

-- ---- times

no_time : (steps : List Step) → AllByRecursion (λ (s : Step). s.time ≡ 0) steps → time_of steps ≡ 0
no_time [] h = refl
no_time (s ∷ steps) h =
    let rest = no_time steps h.1 in
    let whole = sum_by-cons (λ (x : Step). x.time) s steps in
    let first = h.0 in
    omega (arith, rest, whole, first)

idle_no_time : {A : Type 0} (steps : List Step) (i : ℕ) (xs : List A) → AllByRecursion (λ (s : Step). s.time ≡ 0) (idle_from steps i xs)
idle_no_time steps i [] = tt
idle_no_time steps i (x ∷ xs) = all_both (λ (s : Step). s.time ≡ 0) (idle_on steps i) (idle_from steps (i + 1) xs) (by_test (list_any (is_on i) steps)) (idle_no_time steps (i + 1) xs)
  where
    by_test : (b : Bool) → AllByRecursion (λ (s : Step). s.time ≡ 0) (cond b [] (idle_step i ∷ []))
    by_test true = tt
    by_test false = (refl, tt)

padded_time : (machines : List (List ℕ)) (steps : List Step) → time_of (padded machines steps) ≡ time_of steps
padded_time machines steps =
    let more = take (length machines - length steps) (idle machines steps) in
    let whole = sum_by-append (λ (s : Step). s.time) steps more in
    let none = no_time more (all_take (λ (s : Step). s.time ≡ 0) (length machines - length steps) (idle machines steps) (idle_no_time steps 0 machines)) in
    omega (arith, whole, none)

-- the times of orders from i on
abbrev times_from : {A : Type 0} → List ShopStep → ℕ → List A → ℕ
times_from steps i xs = sum_by time_of (listed (λ k. steps_of k steps) i xs)

-- a step of an earlier order changes nothing
times_past : {A : Type 0} (s : ShopStep) (steps : List ShopStep) (i : ℕ) (xs : List A) → s.order < i → times_from (s ∷ steps) i xs ≡ times_from steps i xs
times_past s steps i [] past = refl
times_past s steps i (x ∷ xs) past =
    let other : (s.order == i) ≡ false = ne_eqb s.order i (λ e. omega (arith, e, past)) in
    let same : steps_of i (s ∷ steps) ≡ steps_of i steps = ap (λ b. map step_of (cond b (s ∷ filter (is_of i) steps) (filter (is_of i) steps))) other in
    let rest = times_past s steps (i + 1) xs (omega (arith, past)) in
    sum_by-cons time_of (steps_of i (s ∷ steps)) (listed (λ k. steps_of k (s ∷ steps)) (i + 1) xs)
    ∙ ap (λ (x : List Step). time_of x + times_from (s ∷ steps) (i + 1) xs) same ∙ ap (λ n. time_of (steps_of i steps) + n) rest
    ∙ sym (sum_by-cons time_of (steps_of i steps) (listed (λ k. steps_of k steps) (i + 1) xs))

-- a step counts for one order at most
times_more : {A : Type 0} (s : ShopStep) (steps : List ShopStep) (i : ℕ) (xs : List A) → times_from (s ∷ steps) i xs ≤ s.time + times_from steps i xs
times_more s steps i [] = omega arith
times_more s steps i (x ∷ xs) = by_test (s.order == i) refl (times_more s steps (i + 1) xs)
  where
    before : times_from steps i (x ∷ xs) ≡ time_of (steps_of i steps) + times_from steps (i + 1) xs
    before = sum_by-cons time_of (steps_of i steps) (listed (λ k. steps_of k steps) (i + 1) xs)

    by_test : (b : Bool) → (s.order == i) ≡ b → times_from (s ∷ steps) (i + 1) xs ≤ s.time + times_from steps (i + 1) xs →
        sum_by time_of (map step_of (cond b (s ∷ filter (is_of i) steps) (filter (is_of i) steps)) ∷ listed (λ k. steps_of k (s ∷ steps)) (i + 1) xs) ≤ s.time + times_from steps i (x ∷ xs)
    by_test true at rest =
        let is = eqb-true s.order i at in
        let past = times_past s steps (i + 1) xs (omega (arith, is)) in
        let first = sum_by-cons (λ (y : Step). y.time) (step_of s) (steps_of i steps) in
        let after = sum_by-cons time_of (step_of s ∷ steps_of i steps) (listed (λ k. steps_of k (s ∷ steps)) (i + 1) xs) in
        let b = before in
        omega (arith, past, first, after, b)
    by_test false at rest =
        let after = sum_by-cons time_of (steps_of i steps) (listed (λ k. steps_of k (s ∷ steps)) (i + 1) xs) in
        let b = before in
        omega (arith, after, b, rest)

no_times : {A : Type 0} (i : ℕ) (xs : List A) → times_from [] i xs ≡ 0
no_times i [] = refl
no_times i (x ∷ xs) =
    let rest = no_times (i + 1) xs in
    let whole = sum_by-cons time_of [] (listed (λ k. steps_of k []) (i + 1) xs) in
    omega (arith, rest, whole)

times_low : {A : Type 0} (steps : List ShopStep) (i : ℕ) (xs : List A) → times_from steps i xs ≤ sum_by (λ (s : ShopStep). s.time) steps
times_low [] i xs = let none = no_times i xs in omega (arith, none)
times_low (s ∷ steps) i xs =
    let rest = times_low steps i xs in
    let more = times_more s steps i xs in
    let whole = sum_by-cons (λ (x : ShopStep). x.time) s steps in
    omega (arith, rest, more, whole)

jobs_time : (t : ShopTable) (i : ℕ) (xs : List (List ℕ)) → total_time (listed (shop_job t) i xs) ≡ times_from t.steps i xs
jobs_time t i [] = refl
jobs_time t i (x ∷ xs) =
    let rest = jobs_time t (i + 1) xs in
    let one = padded_time t.machines (steps_of i t.steps) in
    let left = sum_by-cons time_of (shop_job t i) (listed (shop_job t) (i + 1) xs) in
    let right = sum_by-cons time_of (steps_of i t.steps) (listed (λ k. steps_of k t.steps) (i + 1) xs) in
    omega (arith, rest, one, left, right)

-- ---- the shop

pub count_jobs : (t : ShopTable) → length (shop_of t).jobs ≡ length t.orders
count_jobs t = length_listed (shop_job t) 0 t.orders

pub is_shop : (t : ShopTable) → IsShopTable t → IsShop (shop_of t)
is_shop t is =
    let count = count_jobs t in
    let orders = is.orders in
    let total = is.total in
    let time = jobs_time t 0 t.orders in
    let low = times_low t.steps 0 t.orders in
    record {
      jobs = (omega (arith, count, orders.0), omega (arith, count, orders.1));
      machines = is.machines;
      steps = All-from_recursion (IsJob (length t.machines)) (shop_of t).jobs (jobs_good t is 0 t.orders (omega arith));
      total = omega (arith, time, low, total);
    }
