-- The word that follows the ranks: its letters, and the schedule in which no step starts later.
use Rattle.std.proofs.Common.{◌≡◌, ◌≢◌, ℕ, suc, ◌+◌, ◌-◌, ◌*◌, ◌≤◌, ◌<◌, true, inl, inr, List, [], ◌∷◌, ◌++◌, length, get_or, set, map, refl, sym, ◌∙◌, ap, subst, arith}
use Rattle.std.specs.List.{Contains}
use Rattle.std.proofs.lemmas.Bool.{cases_eq, lt-ltb}
use Rattle.std.proofs.lemmas.List.{length-map, get_or-map, length-append, length-set, get_or-set_same, get_or-set_other, get_or_default}
use Rattle.std.specs.List.{All}
use Rattle.plan_profile.specs.Usage.{IsInTime}
use Rattle.plan_sgs.specs.Problem.{IsFeasible, IsActive, makespan}
use Rattle.plan_sgs.specs.declared.schedule.Schedule.{Schedule}
use Rattle.plan_shop.specs.Shop.{JobShop, IsShop, count_steps, job_of, place_of, problem_of}
use Rattle.plan_shop.specs.Words.{Placed, steps_done, next_step, next_end, ready, place, letter_of, jobs_after, letters_after, IsWord, is_placed, is_full, start_in, starts_of, makespan_of}
use Rattle.plan_shop.specs.Continuation.{Continues}
use Rattle.plan_shop.specs.Laws.{placed_in, IsContinued, FullIsActive, LettersAreThese}
use Rattle.plan_shop.specs.Trees.{Standing, standing, placed}
use Rattle.plan_shop.proofs.ShopBasics.{at, job_at, place_at, number_below, IsSound, count_is, sound_from}
use Rattle.plan_shop.proofs.Reached.{Reached, letter_there, done_same, done_other, done_more}
use Rattle.plan_shop.proofs.FullWords.{reached, start_new, full_is_active}
use Rattle.plan_shop.proofs.ShopBound.{placed_append}
use Rattle.plan_shop.proofs.CompetitorLemmas.{letters_are_these}
use Rattle.plan_shop.proofs.WordCount.{count_full, short_not_full, some_follows, length_placed}
use Rattle.plan_shop.proofs.WordsReach.{starts_are, makespan_grows, follows_last}
use Rattle.plan_shop.proofs.Earlier.{IsLeft, moved, moved_no_later, moved_feasible, moved_continues}
use Rattle.plan_active.specs.Ranks.{lesser, rank_of, rank_by, letters_of, IsAtWord, AreNextSteps, IsLeastLetter}
use Rattle.plan_active.specs.Shifts.{StartsNoLater, IsActiveInTime}
use Rattle.plan_active.proofs.LeftLemmas.{IsLeastRank, least_left, moved_rest}

-- a letter that may follow is that of a job with a next step
pub record IsLetterOf (s : JobShop) (xs : List Placed) (a : ℕ) : Type 0 where
  pub is : a ≡ letter_of (a - 1)
  pub job : a - 1 < s.jobs
  pub next : steps_done xs (a - 1) < s.machines

letter_is : (js : List ℕ) (a : ℕ) → Contains (map letter_of js) a → a ≡ letter_of (a - 1)
letter_is js a (k, l, e) =
    let inside : k < length js = omega (arith, l, length-map js letter_of) in
    omega (arith, e, get_or-map letter_of js k 0 a inside)

job_next : (s : JobShop) (xs : List Placed) (j : ℕ) → Contains (letters_after s xs) (letter_of j) → (j < s.jobs) × (steps_done xs j < s.machines)
unfolding LettersAreThese
job_next s xs j there = elim ((letters_are_these s xs j).0 there) [
  | inl z ↦ (z.job, z.next)
  | inr c ↦ (c.job, c.next)
]

pub letter_of_job : (s : JobShop) (xs : List Placed) (a : ℕ) → Contains (letters_after s xs) a → IsLetterOf s xs a
letter_of_job s xs a there =
    let is : a ≡ letter_of (a - 1) = letter_is (jobs_after s xs) a there in
    let c = job_next s xs (a - 1) (subst (Contains (letters_after s xs)) is there) in
    record { is = is; job = c.0; next = c.1 }

-- the next step of a job isn't placed
next_unplaced : (s : JobShop) (xs : List Placed) (j : ℕ) → steps_done xs j < s.machines → steps_done xs (job_of s (next_step s xs j)) ≤ place_of s (next_step s xs j)
next_unplaced s xs j next = omega (arith, place_at s j (steps_done xs j) next, ap (steps_done xs) (job_at s j (steps_done xs j) next))

-- a feasible list that continues a word. No step starts later than in given starts, and each
-- unplaced step starts at the same instant.
pub record IsShifted (s : JobShop) (w starts other : List ℕ) : Type 0 where
  pub continued : IsContinued s w other
  pub same : (x : ℕ) → steps_done (placed_in s w) (job_of s x) ≤ place_of s x → at other x ≡ at starts x
  pub no_later : (x : ℕ) → at other x ≤ at starts x

-- every list continues the empty word
continues_nothing : (s : JobShop) (starts : ℕ → ℕ) → Continues s starts []
continues_nothing s starts = record { placed = tt; unplaced = λ x xl l t. omega arith }

length_last : (w : List ℕ) (a : ℕ) → length (w ++ a ∷ []) ≡ suc (length w)
length_last w a = omega (arith, length-append w (a ∷ []))

shifted_first : (s : JobShop) (starts : List ℕ) → IsFeasible (problem_of s) starts → IsShifted s [] starts starts
shifted_first s starts feasible = record {
  continued = record { feasible = feasible; continues = continues_nothing s (at starts) };
  same = λ x l. refl;
  no_later = λ x. omega arith;
}

shifted_more : (s : JobShop) → IsShop s → (w starts other : List ℕ) (j : ℕ) → IsWord s w → IsShifted s w starts other →
    Contains (letters_after s (placed_in s w)) (letter_of j) → IsLeastRank s (placed_in s w) starts j →
    IsShifted s (w ++ letter_of j ∷ []) starts (moved s other (placed_in s w) j)
shifted_more s shop w starts other j is h there least = record {
  continued = record {
    feasible = moved_feasible s shop other xs j whole r sound h.continued.continues left;
    continues = subst (λ (zs : List Placed). Continues s (at (moved s other xs j)) zs) (sym after)
        (moved_continues s shop (at other) (at (moved s other xs j)) xs j r sound h.continued.continues left);
  };
  same = same;
  no_later = λ x. omega (arith, moved_no_later s shop (at other) (at (moved s other xs j)) xs j r sound h.continued.continues left x, h.no_later x);
} where
  xs : List Placed
  xs = placed_in s w

  r : Reached s xs
  r = reached s w is

  sound : IsSound s (at other)
  sound = sound_from s shop other h.continued.feasible

  whole : length other ≡ count_steps s
  whole = h.continued.feasible.each_started ∙ count_is s

  rank_is : (k : ℕ) → Contains (letters_after s xs) (letter_of k) → rank_of s xs other k ≡ rank_of s xs starts k
  rank_is k c = ap (λ n. lesser n (next_end s xs k)) (h.same (next_step s xs k) (next_unplaced s xs k (job_next s xs k c).1))

  left : IsLeft s (at other) (at (moved s other xs j)) xs j
  left = least_left s shop other xs j whole r sound h.continued.continues there (λ k c. omega (arith, least k c, rank_is k c, rank_is j there))

  after : placed_in s (w ++ letter_of j ∷ []) ≡ place s xs j
  after = placed_append s [] w (letter_of j ∷ [])

  p : Placed
  p = record { job = j; step = next_step s xs j; start = ready s xs j }

  same : (x : ℕ) → steps_done (placed_in s (w ++ letter_of j ∷ [])) (job_of s x) ≤ place_of s x → at (moved s other xs j) x ≡ at starts x
  same x l =
      let later : steps_done (p ∷ xs) (job_of s x) ≤ place_of s x = omega (arith, l, ap (λ (zs : List Placed). steps_done zs (job_of s x)) after) in
      let job : job_of s (next_step s xs j) ≡ j = job_at s j (steps_done xs j) left.next in
      let distinct : x ≢ next_step s xs j = λ e.
      omega (arith, later, ap (place_of s) e, place_at s j (steps_done xs j) left.next, ap (λ z. steps_done (p ∷ xs) (job_of s z)) e, ap (steps_done (p ∷ xs)) job, done_same p xs j refl) in
      moved_rest s other xs j x distinct ∙ h.same x (omega (arith, later, done_more p xs (job_of s x)))

-- a tree that has followed the ranks for some turns, and the next steps of the jobs
pub record IsGuided (s : JobShop) (starts : List ℕ) (t : Standing) (n : ℕ) (next : List ℕ) : Type 0 where
  pub shop : t.shop ≡ s
  pub at_word : IsAtWord t
  pub size : length t.word ≡ n
  pub steps : AreNextSteps t.shop (placed t) next
  pub left : IsFeasible (problem_of t.shop) starts → (other : List ℕ) × IsShifted t.shop t.word starts other

pub guided_first : (s : JobShop) (starts next : List ℕ) (t : Standing) → IsShop s → AreNextSteps s [] next → t ≡ standing s [] → IsGuided s starts t 0 next
guided_first s starts next t shop are is = subst (λ (u : Standing). IsGuided s starts u 0 next) (sym is) (record {
  shop = refl;
  at_word = record { shop = shop; word = tt };
  size = refl;
  steps = are;
  left = λ feasible. (starts, shifted_first s starts feasible);
})

-- the next steps after one more letter
next_more : (s : JobShop) (xs : List Placed) (j : ℕ) (next new : List ℕ) → AreNextSteps s xs next → j < s.jobs → length new ≡ length next
    → get_or new j 0 ≡ suc (get_or next j 0) → ((k : ℕ) → k ≢ j → get_or new k 0 ≡ get_or next k 0) → AreNextSteps s (place s xs j) new
next_more s xs j next new are below size here rest = record {
  size = size ∙ are.size;
  each = λ k l. elim (cases_eq k j) [
    | inl same ↦ omega (arith, here, ap (λ (i : ℕ). get_or new i 0) same, are.each j below, ap (next_step s (place s xs j)) same, done_same p xs j refl)
    | inr other ↦ omega (arith, rest k other, are.each k l, done_other p xs k (λ e. other (sym e)))
  ];
} where
  p : Placed
  p = record { job = j; step = next_step s xs j; start = ready s xs j }

pub guided_more : (s : JobShop) (starts : List ℕ) (t u : Standing) (n a value : ℕ) (next : List ℕ) → IsGuided s starts t n next → IsLeastLetter t starts a →
    u ≡ standing t.shop (t.word ++ a ∷ []) → value ≡ get_or next (a - 1) 0 → IsGuided s starts u (suc n) (set next (a - 1) (value + 1))
guided_more s starts t u n a value next g chosen is read = subst (λ (v : Standing). IsGuided s starts v (suc n) new) (sym (is ∙ ap (λ b. standing t.shop (t.word ++ b ∷ [])) letter.is)) (record {
  shop = g.shop;
  at_word = record { shop = g.at_word.shop; word = follows_last t.shop [] t.word (letter_of j) g.at_word.word there };
  size = omega (arith, g.size, length_last t.word (letter_of j));
  steps = subst (λ (zs : List Placed). AreNextSteps t.shop zs new) (sym (placed_append t.shop [] t.word (letter_of j ∷ []))) (next_more t.shop (placed t) j next new g.steps letter.job
      (length-set next j (value + 1)) (omega (arith, read, get_or-set_same next j (value + 1) 0 inside)) (λ k other. get_or-set_other next j k (value + 1) 0 other));
  left = λ feasible.
      let before = g.left feasible in
      (moved t.shop before.0 (placed t) j, shifted_more t.shop g.at_word.shop t.word starts before.0 j g.at_word.word before.1 there least);
}) where
  letter : IsLetterOf t.shop (placed t) a
  letter = letter_of_job t.shop (placed t) a chosen.follows

  j : ℕ
  j = a - 1

  new : List ℕ
  new = set next j (value + 1)

  inside : j < length next
  inside = omega (arith, letter.job, g.steps.size)

  there : Contains (letters_after t.shop (placed t)) (letter_of j)
  there = subst (Contains (letters_after t.shop (placed t))) letter.is chosen.follows

  least : IsLeastRank t.shop (placed t) starts j
  least k c =
      let here : letter_of k - 1 ≡ k = omega arith in
      omega (arith, chosen.least (letter_of k) c, ap (rank_of t.shop (placed t) starts) here)

-- as long as steps are left some letter may follow
pub guided_some : (s : JobShop) (starts : List ℕ) (t : Standing) (n : ℕ) (next : List ℕ) → IsGuided s starts t n next → n < s.jobs * s.machines → 0 < length (letters_of t)
guided_some s starts t n next g less =
    let r : Reached t.shop (placed t) = reached t.shop t.word g.at_word.word in
    let some = some_follows t.shop (placed t) (short_not_full t.shop (placed t) r (omega (arith, less, g.size, length_placed t.shop [] t.word, ap (λ (v : JobShop). v.jobs * v.machines) g.shop))) in
    let there : Contains (letters_of t) (letter_of some.0) = letter_there (jobs_after t.shop (placed t)) some.0 some.1 in
    omega (arith, there.1)

-- behind all turns all steps are placed
pub guided_full : (s : JobShop) (starts : List ℕ) (t : Standing) (n : ℕ) (next : List ℕ) → IsGuided s starts t n next → n ≡ s.jobs * s.machines → is_full t.shop (placed t) ≡ true
guided_full s starts t n next g all =
    count_full t.shop (placed t) (reached t.shop t.word g.at_word.word) (omega (arith, all, g.size, length_placed t.shop [] t.word, ap (λ (v : JobShop). v.jobs * v.machines) g.shop))

-- the starts of all steps are those of the shifted list
pub guided_starts : (s : JobShop) (starts : List ℕ) (t : Standing) (n : ℕ) (next : List ℕ) → IsGuided s starts t n next →
    is_full t.shop (placed t) ≡ true → IsFeasible (problem_of t.shop) starts → (x : ℕ) → at (starts_of t.shop (placed t)) x ≤ at starts x
guided_starts s starts t n next g full feasible x =
    let h = g.left feasible in
    let c = h.1.continued in
    let same : starts_of t.shop (placed t) ≡ h.0 =
    starts_are t.shop g.at_word.shop h.0 (placed t) (c.feasible.each_started ∙ count_is t.shop) (reached t.shop t.word g.at_word.word) c.continues.placed full in
    omega (arith, h.1.no_later x, ap (λ (zs : List ℕ). at zs x) same)

-- the schedule of the word is active, and if the given starts are feasible no step starts later
pub record IsShownBy (s : JobShop) (starts : List ℕ) (schedule : Schedule) : Type 0 where
  pub active : IsActiveInTime (problem_of s) schedule
  pub no_later : IsFeasible (problem_of s) starts → StartsNoLater starts schedule.starts.items
  pub no_longer : IsFeasible (problem_of s) starts → schedule.makespan ≤ makespan (problem_of s) starts

-- the number of steps is the product of what the shop says
pub steps_counted : (s : JobShop) (jobs machines : ℕ) → jobs ≡ s.jobs → machines ≡ s.machines → jobs * machines ≡ s.jobs * s.machines
steps_counted s jobs machines jobs_is machines_is = ap (λ n. n * machines) jobs_is ∙ ap (λ n. s.jobs * n) machines_is

pub guided_schedule : (s : JobShop) (starts : List ℕ) (t : Standing) (n : ℕ) (next : List ℕ) (schedule : Schedule) → IsGuided s starts t n next →
    n ≡ s.jobs * s.machines → schedule.starts.items ≡ starts_of t.shop (placed t) → schedule.makespan ≡ makespan_of t.shop (placed t) →
    All IsInTime schedule.starts.items → IsShownBy s starts schedule
unfolding FullIsActive makespan_of
guided_schedule s starts t n next schedule g all are span within = subst (λ (v : JobShop). IsShownBy v starts schedule) g.shop (record {
  active = record {
    active = subst (λ (xs : List ℕ). IsActive (problem_of t.shop) xs) (sym are) (full_is_active t.shop g.at_word.shop t.word g.at_word.word full);
    makespan_is = span_is;
    within = within;
  };
  no_later = no_later;
  no_longer = λ feasible. omega (arith, span_is, makespan_grows t.shop schedule.starts.items starts (no_later feasible));
}) where
  full : is_full t.shop (placed t) ≡ true
  full = guided_full s starts t n next g all

  span_is : schedule.makespan ≡ makespan (problem_of t.shop) schedule.starts.items
  span_is = span ∙ ap (makespan (problem_of t.shop)) (sym are)

  no_later : IsFeasible (problem_of t.shop) starts → StartsNoLater starts schedule.starts.items
  no_later feasible x = omega (arith, guided_starts s starts t n next g full feasible x, ap (λ (zs : List ℕ). at zs x) are)

-- a tree after one more letter, and the newest step
pub record IsPushed (t u : Standing) (a x : ℕ) : Type 0 where
  pub inside : x < count_steps t.shop
  pub below : x < count_steps u.shop
  pub there : is_placed u.shop (placed u) x ≡ true
  pub start : start_in (placed u) x ≡ ready t.shop (placed t) (a - 1)

pushed_here : (s : JobShop) (w : List ℕ) (j : ℕ) → IsShop s → j < s.jobs → steps_done (placed_in s w) j < s.machines →
    IsPushed (standing s w) (standing s (w ++ letter_of j ∷ [])) (letter_of j) (next_step s (placed_in s w) j)
pushed_here s w j shop below next = record {
  inside = number_below s shop j (steps_done xs j) below next;
  below = number_below s shop j (steps_done xs j) below next;
  there = subst (λ (zs : List Placed). is_placed s zs y ≡ true) (sym after) (lt-ltb (place_of s y) (steps_done (p ∷ xs) (job_of s y)) new);
  start = ap (λ (zs : List Placed). start_in zs y) after ∙ start_new p xs y refl ∙ ap (ready s xs) (let here : j ≡ letter_of j - 1 = omega arith in here);
} where
  xs : List Placed
  xs = placed_in s w

  y : ℕ
  y = next_step s xs j

  p : Placed
  p = record { job = j; step = y; start = ready s xs j }

  after : placed_in s (w ++ letter_of j ∷ []) ≡ p ∷ xs
  after = placed_append s [] w (letter_of j ∷ [])

  new : place_of s y < steps_done (p ∷ xs) (job_of s y)
  new = omega (arith, place_at s j (steps_done xs j) next, done_same p xs j refl, ap (steps_done (p ∷ xs)) (job_at s j (steps_done xs j) next))

pub pushed : (t u : Standing) (a x : ℕ) → IsAtWord t → Contains (letters_of t) a → x ≡ next_step t.shop (placed t) (a - 1) → u ≡ standing t.shop (t.word ++ a ∷ []) → IsPushed t u a x
pushed t u a x at_word there step is =
    let letter : IsLetterOf t.shop (placed t) a = letter_of_job t.shop (placed t) a there in
    let here : IsPushed t (standing t.shop (t.word ++ letter_of (a - 1) ∷ [])) (letter_of (a - 1)) (next_step t.shop (placed t) (a - 1)) =
    pushed_here t.shop t.word (a - 1) at_word.shop letter.job letter.next in
    let back : IsPushed t (standing t.shop (t.word ++ a ∷ [])) a (next_step t.shop (placed t) (a - 1)) =
    subst (λ (b : ℕ). IsPushed t (standing t.shop (t.word ++ b ∷ [])) b (next_step t.shop (placed t) (a - 1))) (sym letter.is) here in
    subst (λ (v : Standing). IsPushed t v a x) (sym is) (subst (λ (y : ℕ). IsPushed t (standing t.shop (t.word ++ a ∷ [])) a y) (sym step) back)

-- a letter of least rank among all
pub least_letter : (t : Standing) (starts letters : List ℕ) (best least : ℕ) → letters ≡ letters_of t → Contains letters best → least ≡ rank_by t starts best
    → ((k : ℕ) → k < length letters → least ≤ rank_by t starts (get_or letters k 0)) → IsLeastLetter t starts best
least_letter t starts letters best least are there is each = record {
  follows = subst (λ (xs : List ℕ). Contains xs best) are there;
  least = λ other c.
      let place = subst (λ (xs : List ℕ). Contains xs other) (sym are) c in
      omega (arith, each place.0 place.1, ap (rank_by t starts) (get_or_default letters place.0 0 other place.1 ∙ place.2), is);
}
