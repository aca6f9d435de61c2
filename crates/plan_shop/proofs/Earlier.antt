-- A schedule that continues a word can be moved so that it continues the word with one more letter,
-- and no step starts later.
use Rattle.std.proofs.Common.{◌≡◌, ◌≢◌, ℕ, suc, ◌+◌, ◌-◌, ◌*◌, ◌≤◌, ◌<◌, false, ◌⊎◌, inl, inr, List, [], ◌∷◌, length, set, refl, sym, ◌∙◌, ap, subst, arith}
use Rattle.std.specs.List.{Contains}
use Rattle.std.proofs.lemmas.Bool.{cases_lt, cases_eq}
use Rattle.std.proofs.lemmas.List.{length-set, get_or-set_same, get_or-set_other}
use Rattle.plan_sgs.specs.Problem.{IsFeasible}
use Rattle.plan_shop.specs.Shop.{JobShop, IsShop, count_steps, time_of, machine_of, job_of, place_of, times_from, problem_of}
use Rattle.plan_shop.specs.Words.{first_least, Placed, steps_done, machine_free, next_step, ready, next_end, place, letter_of, jobs_after, is_full}
use Rattle.plan_shop.specs.Bound.{pending}
use Rattle.plan_shop.specs.Continuation.{Continues}
use Rattle.plan_shop.specs.Laws.{placed_in, LetterIsThere}
use Rattle.plan_shop.proofs.NumberLemmas.{first_least_in, first_least_below}
use Rattle.plan_shop.proofs.ShopBasics.{at, number_is, job_at, place_at, place_below, job_below, number_below, next_place, IsSound, apart_both, count_is, sound_from, feasible_from}
use Rattle.plan_shop.proofs.Reached.{Reached, IsZero, IsSoonest, choice, letter_there, done_same, done_more, free_cases, ready_end, ready_free, free_of, end_is, ready_le, chain_to, agrees_other}
use Rattle.plan_shop.proofs.FullWords.{reached}
use Rattle.plan_shop.proofs.ShopBound.{IsPending, pending_is, pending_there, placed_append}

-- the next step of a job is moved to its head, and no unplaced step is in its way
pub record IsLeft (s : JobShop) (starts other : ℕ → ℕ) (xs : List Placed) (j : ℕ) : Type 0 where
  pub job : j < s.jobs
  pub next : steps_done xs j < s.machines
  pub start : other (next_step s xs j) ≡ ready s xs j
  pub rest : (x : ℕ) → x ≢ next_step s xs j → other x ≡ starts x
  pub room : (x : ℕ) → x < count_steps s → steps_done xs (job_of s x) ≤ place_of s x → x ≢ next_step s xs j →
      machine_of s x ≡ machine_of s (next_step s xs j) → 0 < time_of s x → 0 < time_of s (next_step s xs j) →
      ready s xs j + time_of s (next_step s xs j) ≤ starts x

-- no step starts later
pub moved_no_later : (s : JobShop) → IsShop s → (starts other : ℕ → ℕ) (xs : List Placed) (j : ℕ) →
    Reached s xs → IsSound s starts → Continues s starts xs → IsLeft s starts other xs j → (x : ℕ) →
    other x ≤ starts x
moved_no_later s shop starts other xs j r sound con left x = elim (cases_eq x (next_step s xs j)) [
  | inl same ↦ omega (arith, ready_le s shop starts xs r sound con j left.job left.next, left.start, ap other same, ap starts same)
  | inr apart ↦ omega (arith, left.rest x apart)
]

-- the moved step and another one on its machine are apart
moved_beside : (s : JobShop) → IsShop s → (starts other : ℕ → ℕ) (xs : List Placed) (j : ℕ) → Reached s xs →
    IsSound s starts → Continues s starts xs → IsLeft s starts other xs j → (x : ℕ) → x < count_steps s →
    x ≢ next_step s xs j
    → machine_of s x ≡ machine_of s (next_step s xs j) → 0 < time_of s x → 0 < time_of s (next_step s xs j) →
    (other x + time_of s x ≤ ready s xs j) ⊎ (ready s xs j + time_of s (next_step s xs j) ≤ other x)
moved_beside s shop starts other xs j r sound con left x l apart same tx ty = elim (cases_lt (place_of s x) (steps_done xs (job_of s x))) [
  | inl placed ↦
      inl (omega (arith, free_of s starts xs r con.placed x placed tx, ready_free s xs j ty, ap (machine_free s xs) same, left.rest x apart))
  | inr unplaced ↦ inr (omega (arith, left.room x l unplaced apart same tx ty, left.rest x apart))
]

-- the moved schedule is sound
pub moved_sound : (s : JobShop) → IsShop s → (starts other : ℕ → ℕ) (xs : List Placed) (j : ℕ) → Reached s xs → IsSound s starts → Continues s starts xs → IsLeft s starts other xs j → IsSound s other
moved_sound s shop starts other xs j r sound con left = record { chain = chain; apart = apart } where
  y : ℕ
  y = next_step s xs j

  chain : (x : ℕ) → suc x < count_steps s → job_of s (suc x) ≡ job_of s x → other x + time_of s x ≤ other (suc x)
  chain x l same = elim (cases_eq (suc x) y) [
    | inr not_after ↦ omega (arith, moved_no_later s shop starts other xs j r sound con left x, sound.chain x l same, left.rest (suc x) not_after)
    | inl after ↦
        let job : job_of s x ≡ j = sym same ∙ ap (job_of s) after ∙ job_at s j (steps_done xs j) left.next in
        let done : steps_done xs j ≡ suc (place_of s x) = omega (arith, next_place s x same, ap (place_of s) after, place_at s j (steps_done xs j) left.next) in
        let last : j * s.machines + place_of s x ≡ x = omega (arith, number_is s x, ap (λ i. i * s.machines) job) in
        let before : x ≢ y = λ e. omega (arith, e, after) in
        omega (arith, end_is s starts xs r con.placed j (place_of s x) done, ap starts last, ap (time_of s) last, ready_end s xs j, left.start, ap other after, left.rest x before)
  ]

  apart : (u v : ℕ) → u < v → v < count_steps s → machine_of s u ≡ machine_of s v → 0 < time_of s u → 0 < time_of s v → (other u + time_of s u ≤ other v) ⊎ (other v + time_of s v ≤ other u)
  apart u v l m same tu tv = elim (cases_eq u y) [
    | inl first ↦
        let distinct : v ≢ y = λ e. omega (arith, e, first, l) in
        elim (moved_beside s shop starts other xs j r sound con left v m distinct (sym same ∙ ap (machine_of s) first) tv (omega (arith, tu, ap (time_of s) first))) [
          | inl before ↦ inr (omega (arith, before, left.start, ap other first))
          | inr after ↦ inl (omega (arith, after, left.start, ap other first, ap (time_of s) first))
        ]
    | inr not_first ↦ elim (cases_eq v y) [
      | inl second ↦
          elim (moved_beside s shop starts other xs j r sound con left u (omega (arith, l, m)) not_first (same ∙ ap (machine_of s) second) tu (omega (arith, tv, ap (time_of s) second))) [
            | inl before ↦ inl (omega (arith, before, left.start, ap other second))
            | inr after ↦ inr (omega (arith, after, left.start, ap other second, ap (time_of s) second))
          ]
      | inr not_second ↦ elim (sound.apart u v l m same tu tv) [
        | inl before ↦ inl (omega (arith, before, left.rest u not_first, left.rest v not_second))
        | inr after ↦ inr (omega (arith, after, left.rest u not_first, left.rest v not_second))
      ]
    ]
  ]

-- and continues the word with the letter
pub moved_continues : (s : JobShop) → IsShop s → (starts other : ℕ → ℕ) (xs : List Placed) (j : ℕ) →
    Reached s xs → IsSound s starts → Continues s starts xs → IsLeft s starts other xs j →
    Continues s other (place s xs j)
moved_continues s shop starts other xs j r sound con left = record {
  placed = (left.start, agrees_other s starts other xs y r new left.rest con.placed);
  unplaced = unplaced;
} where
  y : ℕ
  y = next_step s xs j

  job : job_of s y ≡ j
  job = job_at s j (steps_done xs j) left.next

  new : steps_done xs (job_of s y) ≤ place_of s y
  new = omega (arith, place_at s j (steps_done xs j) left.next, ap (steps_done xs) job)

  p : Placed
  p = record { job = j; step = y; start = ready s xs j }

  unplaced : (x : ℕ) → x < count_steps s → steps_done (p ∷ xs) (job_of s x) ≤ place_of s x → 0 < time_of s x → machine_free s (p ∷ xs) (machine_of s x) ≤ other x
  unplaced x l later t =
      let distinct : x ≢ y = λ e. omega (
        arith,
        later,
        ap (place_of s) e,
        place_at s j
            (steps_done xs j) left.next,
        ap (λ z. steps_done (p ∷ xs) (job_of s z)) e,
        ap
            (steps_done (p ∷ xs)) job,
        done_same p xs j refl,
      ) in
      let before : steps_done xs (job_of s x) ≤ place_of s x = omega (arith, later, done_more p xs (job_of s x)) in
      elim (free_cases s p xs (machine_of s x)) [
        | inl (same, ty, is) ↦ omega (arith, is, con.unplaced x l before t, left.room x l before distinct (sym same) t ty, left.rest x distinct)
        | inr is ↦ omega (arith, is, con.unplaced x l before t, left.rest x distinct)
      ]

-- a list with the next step of a job moved to its head
abbrev pub moved : JobShop → List ℕ → List Placed → ℕ → List ℕ
moved s starts xs j = set starts (next_step s xs j) (ready s xs j)

moved_start : (s : JobShop) → IsShop s → (starts : List ℕ) (xs : List Placed) (j : ℕ) →
    length starts ≡ count_steps s → j < s.jobs → steps_done xs j < s.machines →
    at (moved s starts xs j) (next_step s xs j) ≡ ready s xs j
moved_start s shop starts xs j whole l next = get_or-set_same starts (next_step s xs j) (ready s xs j) 0 (omega (arith, whole, number_below s shop j (steps_done xs j) l next))

moved_rest : (s : JobShop) (starts : List ℕ) (xs : List Placed) (j : ℕ) (x : ℕ) → x ≢ next_step s xs j → at (moved s starts xs j) x ≡ at starts x
moved_rest s starts xs j x apart = get_or-set_other starts (next_step s xs j) x (ready s xs j) 0 apart

-- the moved list is feasible
pub moved_feasible : (s : JobShop) → IsShop s → (starts : List ℕ) (xs : List Placed) (j : ℕ) →
    length starts ≡ count_steps s → Reached s xs → IsSound s (at starts) → Continues s (at starts) xs →
    IsLeft s (at starts) (at (moved s starts xs j)) xs j → IsFeasible (problem_of s) (moved s starts xs j)
moved_feasible s shop starts xs j whole r sound con left =
    feasible_from s shop (moved s starts xs j) (length-set starts (next_step s xs j) (ready s xs j) ∙ whole) (moved_sound s shop (at starts) (at (moved s starts xs j)) xs j r sound con left)

-- if all next steps have positive times, an unplaced step that isn't a next one starts after the
-- first end
later_after : (s : JobShop) → IsShop s → (starts : ℕ → ℕ) (xs : List Placed) (b : ℕ) → Reached s xs →
    IsSound s starts → Continues s starts xs → IsSoonest s xs b → (x : ℕ) → x < count_steps s →
    steps_done xs (job_of s x) < place_of s x → next_end s xs b ≤ starts x
later_after s shop starts xs b r sound con soonest x l later =
    let j = job_of s x in
    let k = steps_done xs j in
    let y = next_step s xs j in
    let job : j < s.jobs = job_below s shop x l in
    let last : place_of s x < s.machines = place_below s shop x in
    let next : k < s.machines = omega (arith, later, last) in
    let n = place_of s x - suc k in
    let there : y + suc n ≡ x = omega (arith, number_is s x, later) in
    let reach : starts y + times_from s y (suc n) ≤ starts (y + suc n) = chain_to s shop starts sound (suc n) y (number_below s shop j k job next) (omega (arith, place_at s j k next, later, last)) in
    omega (arith, reach, ap starts there, ready_le s shop starts xs r sound con j job next, soonest.least j job next)

-- a next step at which a schedule can be moved
pub record Mover (s : JobShop) (starts : List ℕ) (xs : List Placed) (j : ℕ) : Type 0 where
  pub there : Contains (jobs_after s xs) j
  pub left : IsLeft s (at starts) (at (moved s starts xs j)) xs j

-- a next step of time 0 has room at its head
zero_mover : (s : JobShop) → IsShop s → (starts : List ℕ) (xs : List Placed) (j : ℕ) → length starts ≡ count_steps s → IsZero s xs j → Mover s starts xs j
zero_mover s shop starts xs j whole z = record {
  there = z.there;
  left = record {
    job = z.job;
    next = z.next;
    start = moved_start s shop starts xs j whole z.job z.next;
    rest = moved_rest s starts xs j;
    room = λ x l u apart same tx ty. absurd (omega (arith, ty, z.none));
  };
}

-- the pending step on the machine of the first end that starts first moves if it competes,
-- otherwise the step of the first end
soonest_mover : (s : JobShop) → IsShop s → (starts : List ℕ) (xs : List Placed) (b : ℕ) →
    length starts ≡ count_steps s → Reached s xs → IsSound s (at starts) → Continues s (at starts) xs →
    IsSoonest s xs b → (j : ℕ) × Mover s starts xs j
soonest_mover s shop starts xs b whole r sound con soonest = by_list (pending s xs m) refl where
  m : ℕ
  m = machine_of s (next_step s xs b)

  first_there : Contains (pending s xs m) (next_step s xs b)
  first_there =
      let job : job_of s (next_step s xs b) ≡ b = job_at s b (steps_done xs b) soonest.next in
      pending_there s xs m (next_step s xs b) (record {
        below = number_below s shop b (steps_done xs b) soonest.job soonest.next;
        unplaced = omega (arith, place_at s b (steps_done xs b) soonest.next, ap (steps_done xs) job);
        machine = refl;
        positive = soonest.positive b soonest.job soonest.next;
      })

  -- the step of the first end moves, if all others start after it
  by_end : ((x : ℕ) → IsPending s xs m x → next_end s xs b ≤ at starts x) → (j : ℕ) × Mover s starts xs j
  by_end late = (
    b,
    record {
      there = soonest.rivals b soonest.job soonest.next refl (omega (arith, soonest.positive b soonest.job soonest.next));
      left = record {
        job = soonest.job;
        next = soonest.next;
        start = moved_start s shop starts xs b whole soonest.job soonest.next;
        rest = moved_rest s starts xs b;
        room = λ x l u apart same tx ty. late x (record { below = l; unplaced = u; machine = same; positive = tx });
      };
    },
  )

  -- the step that starts first moves, if it is a next step that competes
  by_first : (z : ℕ) → IsPending s xs m z → ((x : ℕ) → IsPending s xs m x → at starts z ≤ at starts x) → (j : ℕ) × Mover s starts xs j
  by_first z p first = elim (cases_lt (steps_done xs (job_of s z)) (place_of s z)) [
    | inl later ↦ by_end (λ x q. omega (arith, first x q, later_after s shop (at starts) xs b r sound con soonest z p.below later))
    | inr next ↦
        let j = job_of s z in
        let done : steps_done xs j ≡ place_of s z = omega (arith, next, p.unplaced) in
        let is : next_step s xs j ≡ z = omega (arith, number_is s z, done) in
        let job : j < s.jobs = job_below s shop z p.below in
        let low : steps_done xs j < s.machines = omega (arith, done, place_below s shop z) in
        let early : ready s xs j ≤ at starts z = omega (arith, ready_le s shop (at starts) xs r sound con j job low, ap (at starts) is) in
        elim (cases_lt (ready s xs j) (next_end s xs b)) [
          | inr behind ↦ by_end (λ x q. omega (arith, first x q, early, behind))
          | inl sooner ↦ (
            j,
            record {
              there = soonest.rivals j job low (ap (machine_of s) is ∙ p.machine) sooner;
              left = record {
                job = job;
                next = low;
                start = moved_start s shop starts xs j whole job low;
                rest = moved_rest s starts xs j;
                room = λ x l u apart same tx ty.
                    let distinct : x ≢ z = λ e. apart (e ∙ sym is) in
                    let q : IsPending s xs m x = record { below = l; unplaced = u; machine = same ∙ ap (machine_of s) is ∙ p.machine; positive = tx } in
                    elim (apart_both s (at starts) sound x z distinct l p.below (q.machine ∙ sym p.machine) tx p.positive) [
                      | inl before ↦ absurd (omega (arith, before, first x q, tx))
                      | inr after ↦ omega (arith, after, early, ap (time_of s) is)
                    ];
              };
            },
          )
        ]
  ]

  by_list : (zs : List ℕ) → pending s xs m ≡ zs → (j : ℕ) × Mover s starts xs j
  by_list [] none = absurd (omega (arith, first_there.1, ap length none))
  by_list (z ∷ zs) are =
      let f = first_least (at starts) z zs in
      let c : Contains (pending s xs m) f = subst (λ (ks : List ℕ). Contains ks f) (sym are) (first_least_in (at starts) z zs) in
      by_first f (pending_is s xs m f c) (λ x q. first_least_below (at starts) z zs x (subst (λ (ks : List ℕ). Contains ks x) are (pending_there s xs m x q)))

-- if not all steps are placed, some next step can move to its head
pub mover : (s : JobShop) → IsShop s → (starts : List ℕ) (xs : List Placed) → length starts ≡ count_steps s →
    Reached s xs → IsSound s (at starts) → Continues s (at starts) xs → is_full s xs ≡ false →
    (j : ℕ) × Mover s starts xs j
mover s shop starts xs whole r sound con some =
    let c = choice s xs some in
    elim c.1 [
      | inl z ↦ (c.0, zero_mover s shop starts xs c.0 whole z)
      | inr b ↦ soonest_mover s shop starts xs c.0 whole r sound con b
    ]

-- if a feasible list continues a word that isn't full, some letter leads to one in which no step
-- starts later
pub letter_is_there : (s : JobShop) → IsShop s → LetterIsThere s
unfolding LetterIsThere
letter_is_there s shop w starts is some c =
    let xs = placed_in s w in
    let r : Reached s xs = reached s w is in
    let sound : IsSound s (at starts) = sound_from s shop starts c.feasible in
    let whole : length starts ≡ count_steps s = c.feasible.each_started ∙ count_is s in
    let m = mover s shop starts xs whole r sound c.continues some in
    let j = m.0 in
    let other = moved s starts xs j in
    let left : IsLeft s (at starts) (at other) xs j = m.1.left in
    record {
      letter = letter_of j;
      other = other;
      follows = letter_there (jobs_after s xs) j m.1.there;
      continued = record {
        feasible = moved_feasible s shop starts xs j whole r sound c.continues left;
        continues = subst (λ (zs : List Placed). Continues s (at other) zs)
            (sym (placed_append s [] w (letter_of j ∷ [])))
            (moved_continues s shop (at starts) (at other) xs j r sound c.continues left);
      };
      no_later = moved_no_later s shop (at starts) (at other) xs j r sound c.continues left;
    }
