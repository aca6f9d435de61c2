-- The number of letters of words: at most the number of steps, and equal to it if all are placed;
-- and the choices of rules.
use Rattle.std.proofs.Common.{◌≡◌, ℕ, zero, suc, ◌+◌, ◌*◌, ◌≤◌, ◌<◌, true, false, inl, inr, List, [], ◌∷◌, length, get_or, map, refl, sym, ap, subst, arith}
use Rattle.std.specs.List.{Contains, AllPairs}
use Rattle.std.proofs.Math.Nat.{mul_comm, mul-suc}
use Rattle.std.proofs.lemmas.Bool.{cases_eq, cases_Bool}
use Rattle.std.proofs.lemmas.List.{get_or-map, length-map}
use Rattle.plan_sgs.specs.Problem.{total}
use Rattle.plan_sgs.proofs.TotalLemmas.{total_none, total_limit, total_changed}
use Rattle.plan_shop.specs.Shop.{JobShop, IsShop}
use Rattle.plan_shop.specs.Words.{first_least, Placed, steps_done, ready, next_end, place, letter_of, job_of_letter, placed_by, with_zero, with_next, rivals, rivals_of_first, jobs_by, jobs_after, Follows, IsWord, is_full}
use Rattle.plan_shop.specs.Rules.{next_time, time_left, spt, mwkr, fcfs, Chooses, rule_word, giffler}
use Rattle.plan_shop.specs.Laws.{placed_in, FullIsActive, RuleIsFull, RuleIsActive, RulesChoose, ShopLettersRise, ShopWordsAreFinite}
use Rattle.plan_shop.proofs.NumberLemmas.{those_rise, first_least_is, first_greatest_is, first_least_in, first_greatest_in}
use Rattle.plan_shop.proofs.Reached.{Reached, may_follow, choice, letter_there, some_next, full_done, done_same, done_other, done_le}
use Rattle.plan_shop.proofs.FullWords.{reached, full_is_active}

-- the number of placed steps is the sum of those of the jobs
pub placed_count : (s : JobShop) (xs : List Placed) → Reached s xs → total s.jobs (steps_done xs) ≡ length xs
placed_count s [] r = total_none s.jobs (steps_done []) (λ j l. refl)
placed_count s (p ∷ xs) r =
    let m = may_follow s xs p.job r.1 in
    let one : steps_done xs p.job + 1 ≡ steps_done (p ∷ xs) p.job = omega (arith, done_same p xs p.job refl) in
    let more : total s.jobs (steps_done xs) + 1 ≡ total s.jobs (steps_done (p ∷ xs)) =
    total_changed s.jobs (steps_done xs) (steps_done (p ∷ xs)) p.job 1 m.job
    (λ j l other. sym (done_other p xs j (λ e. other (sym e)))) one in
    omega (arith, more, placed_count s xs r.0)

-- it is at most the number of steps
pub count_most : (s : JobShop) (xs : List Placed) → Reached s xs → length xs ≤ s.jobs * s.machines
count_most s xs r = omega (arith, placed_count s xs r, total_limit s.jobs (steps_done xs) s.machines (λ j l. done_le s xs r j), mul_comm s.machines s.jobs)

-- a sum of terms, one of which is less than the limit
total_less : (n : ℕ) (f : ℕ → ℕ) (most i : ℕ) → ((j : ℕ) → f j ≤ most) → i < n → f i < most → total n f < most * n
total_less zero f most i limit l less = absurd (omega (arith, l))
total_less (suc n) f most i limit l less = elim (cases_eq i n) [
  | inl same ↦ omega (arith, total_limit n f most (λ j _. limit j), mul-suc most n, ap f same, less)
  | inr other ↦ omega (arith, total_less n f most i limit (omega (arith, l, other)) less, mul-suc most n, limit n)
]

-- a sum of terms with a lower bound
total_least : (n : ℕ) (f : ℕ → ℕ) (least : ℕ) → ((j : ℕ) → j < n → least ≤ f j) → least * n ≤ total n f
total_least zero f least each = omega arith
total_least (suc n) f least each = omega (arith, total_least n f least (λ j l. each j (omega (arith, l))), each n (omega arith), mul-suc least n)

-- all steps are placed exactly if as many are placed as there are steps
pub count_full : (s : JobShop) (xs : List Placed) → Reached s xs → length xs ≡ s.jobs * s.machines → is_full s xs ≡ true
count_full s xs r e = elim (cases_Bool (is_full s xs)) [
  | inl full ↦ full
  | inr some ↦
      let n = some_next s xs some in
      absurd (omega (arith, e, placed_count s xs r, mul_comm s.machines s.jobs, total_less s.jobs (steps_done xs) s.machines n.0 (λ j. done_le s xs r j) n.1 n.2))
]

pub full_count : (s : JobShop) (xs : List Placed) → Reached s xs → is_full s xs ≡ true → length xs ≡ s.jobs * s.machines
full_count s xs r full = omega (arith, count_most s xs r, placed_count s xs r, mul_comm s.machines s.jobs, total_least s.jobs (steps_done xs) s.machines (λ j l. full_done s xs full j l))

pub short_not_full : (s : JobShop) (xs : List Placed) → Reached s xs → length xs < s.jobs * s.machines → is_full s xs ≡ false
short_not_full s xs r l = elim (cases_Bool (is_full s xs)) [
  | inr some ↦ some
  | inl full ↦ absurd (omega (arith, l, full_count s xs r full))
]

-- if not all steps are placed, some job may follow
pub some_follows : (s : JobShop) (xs : List Placed) → is_full s xs ≡ false → (j : ℕ) × Contains (jobs_after s xs) j
some_follows s xs e =
    let c = choice s xs e in (
      c.0,
      elim c.1 [
        | inl z ↦ z.there
        | inr b ↦ b.rivals c.0 b.job b.next refl (omega (arith, b.positive c.0 b.job b.next))
      ],
    )

-- a word places one step for each letter
pub length_placed : (s : JobShop) (xs : List Placed) (w : List ℕ) → length (placed_by s xs w) ≡ length xs + length w
length_placed s xs [] = omega arith
length_placed s xs (a ∷ w) = omega (arith, length_placed s (place s xs (job_of_letter a)) w)

-- no word has more letters than there are steps
pub words_are_finite : (s : JobShop) → ShopWordsAreFinite s
unfolding ShopWordsAreFinite
words_are_finite s w is = omega (arith, length_placed s [] w, count_most s (placed_in s w) (reached s w is))

-- letters rise
rivals_rise : (s : JobShop) (xs : List Placed) (b : ℕ) → AllPairs (λ a b. a < b) (rivals s xs b)
rivals_rise s xs b = those_rise s.jobs _

jobs_rise : (s : JobShop) (xs : List Placed) (zs ns : List ℕ) → with_zero s xs ≡ zs → with_next s xs ≡ ns → AllPairs (λ a b. a < b) (jobs_by s xs zs)
jobs_rise s xs (z ∷ zs) ns none are = λ i j d l m. absurd (omega (arith, l, m))
jobs_rise s xs [] [] none are = subst (λ (ks : List ℕ). AllPairs (λ a b. a < b) (rivals_of_first s xs ks)) (sym are) (λ i j d l m. absurd (omega (arith, m)))
jobs_rise s xs [] (n ∷ ns) none are = subst (λ (ks : List ℕ). AllPairs (λ a b. a < b) (rivals_of_first s xs ks)) (sym are) (rivals_rise s xs (first_least (next_end s xs) n ns))

jobs_after_rise : (s : JobShop) (xs : List Placed) → AllPairs (λ a b. a < b) (jobs_after s xs)
unfolding jobs_after
jobs_after_rise s xs = jobs_rise s xs (with_zero s xs) (with_next s xs) refl refl

letters_by_jobs : (js : List ℕ) → AllPairs (λ a b. a < b) js → AllPairs (λ a b. a < b) (map letter_of js)
letters_by_jobs js rise i j d l m =
    let inside : j < length js = omega (arith, m, length-map js letter_of) in
    let first : get_or (map letter_of js) i d ≡ letter_of (get_or js i 0) = get_or-map letter_of js i 0 d (omega (arith, l, inside)) in
    let second : get_or (map letter_of js) j d ≡ letter_of (get_or js j 0) = get_or-map letter_of js j 0 d inside in
    omega (arith, first, second, rise i j 0 l inside)

-- the letters that may follow rise
pub letters_rise : (s : JobShop) → ShopLettersRise s
unfolding ShopLettersRise
letters_rise s xs = letters_by_jobs (jobs_after s xs) (jobs_after_rise s xs)

-- the rules choose the first of their key
pub rules_choose : (s : JobShop) → RulesChoose s
unfolding RulesChoose
rules_choose s xs j js = (first_least_is (next_time s xs) j js, first_greatest_is (time_left s xs) j js, first_least_is (ready s xs) j js)

-- and so a rule chooses one of the given jobs
pub spt_chooses : (s : JobShop) → Chooses (spt s)
spt_chooses s xs j js = first_least_in (next_time s xs) j js

pub mwkr_chooses : (s : JobShop) → Chooses (mwkr s)
mwkr_chooses s xs j js = first_greatest_in (time_left s xs) j js

pub fcfs_chooses : (s : JobShop) → Chooses (fcfs s)
fcfs_chooses s xs j js = first_least_in (ready s xs) j js

chosen_there : (rule : List Placed → List ℕ → ℕ) → Chooses rule → (xs : List Placed) (js : List ℕ) (i : ℕ) → Contains js i → Contains js (rule xs js)
chosen_there rule chooses xs [] i (k, l, e) = absurd (omega (arith, l))
chosen_there rule chooses xs (j ∷ js) i c = chooses xs j js

-- if not all steps are placed, the job that a rule chooses may follow
pub rule_follows : (s : JobShop) (rule : List Placed → List ℕ → ℕ) → Chooses rule → (xs : List Placed) → is_full s xs ≡ false → Contains (jobs_after s xs) (rule xs (jobs_after s xs))
rule_follows s rule chooses xs e =
    let f = some_follows s xs e in
    chosen_there rule chooses xs (jobs_after s xs) f.0 f.1

-- the letters that a rule chooses after what is placed, up to the number of steps
pub rule_word_follows : (s : JobShop) (rule : List Placed → List ℕ → ℕ) → Chooses rule →
    (n : ℕ) (xs : List Placed) → Reached s xs → length xs + n ≡ s.jobs * s.machines →
    Follows s xs (rule_word s rule n xs)
rule_word_follows s rule chooses zero xs r e = tt
rule_word_follows s rule chooses (suc n) xs r e =
    let j = rule xs (jobs_after s xs) in
    let c : Contains (jobs_after s xs) j = rule_follows s rule chooses xs (short_not_full s xs r (omega (arith, e))) in
    (letter_there (jobs_after s xs) j c, rule_word_follows s rule chooses n (place s xs j) (r, c, refl, refl) (omega (arith, e)))

pub length_rule_word : (s : JobShop) (rule : List Placed → List ℕ → ℕ) (n : ℕ) (xs : List Placed) → length (rule_word s rule n xs) ≡ n
length_rule_word s rule zero xs = refl
length_rule_word s rule (suc n) xs = ap suc (length_rule_word s rule n (place s xs (rule xs (jobs_after s xs))))

-- the word of a rule is full
pub rule_is_full : (s : JobShop) → RuleIsFull s
unfolding RuleIsFull giffler
rule_is_full s rule chooses =
    let n = s.jobs * s.machines in
    let w = rule_word s rule n [] in
    let is : IsWord s w = rule_word_follows s rule chooses n [] tt (omega arith) in
    let long : length (placed_in s w) ≡ n = omega (arith, length_placed s [] w, length_rule_word s rule n []) in
    (is, count_full s (placed_in s w) (reached s w is) long)

-- and so its schedule is active
pub rule_is_active : (s : JobShop) → IsShop s → RuleIsActive s
unfolding RuleIsActive RuleIsFull FullIsActive
rule_is_active s shop rule chooses =
    let full = rule_is_full s rule chooses in
    full_is_active s shop (giffler s rule) full.0 full.1
