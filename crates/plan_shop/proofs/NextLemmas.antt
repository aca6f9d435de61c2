-- A letter that may follow is the number of a job that has a next step.
use Rattle.std.proofs.Common.{◌≡◌, ℕ, zero, suc, ◌<◌, ◌&&◌, inl, inr, Bool, true, cond, List, [], ◌∷◌, length, map, get_or, refl, sym, ap, ◌∙◌, subst, arith}
use Rattle.std.specs.Prelude.{Contains, nat_lt, nat_eq}
use Rattle.std.proofs.lemmas.Bool.{and_parts, cond-true, cond-false, cases_Bool, ltb-true}
use Rattle.std.proofs.lemmas.List.Elements.{Contains-append_cases}
use Rattle.plan_shop.specs.Shop.{JobShop, time_of, machine_of, those_below}
use Rattle.plan_shop.specs.Words.{Placed, steps_done, has_next, next_step, next_end, ready, first_least, letter_of, job_of_letter, with_next, with_zero, rivals_of_first, jobs_by, jobs_after, letters_after}

pub contains_later : (x : ℕ) (xs : List ℕ) (y : ℕ) → Contains xs y → Contains (x ∷ xs) y
contains_later x xs y h = (suc h.0, omega (arith, h.1), h.2)

pub contains_one : (x y : ℕ) → Contains (x ∷ []) y → y ≡ x
contains_one x y h = one h.0 h.1 h.2 where
  one : (k : ℕ) → k < length (x ∷ []) → get_or (x ∷ []) k y ≡ y → y ≡ x
  one zero inside is = sym is
  one (suc k) inside is = absurd (omega (arith, inside))

-- the numbers that pass
pub contains_those : (n : ℕ) (f : ℕ → Bool) (j : ℕ) → Contains (those_below n f) j → (j < n) × (f j ≡ true)
contains_those zero f j h = absurd (omega (arith, h.1))
contains_those (suc n) f j h = elim (Contains-append_cases (those_below n f) (cond (f n) (n ∷ []) []) j h) [
  | inl before ↦ let rest = contains_those n f j before in (omega (arith, rest.0), rest.1)
  | inr last ↦ elim (cases_Bool (f n)) [
    | inl passes ↦
        let Q : List ℕ → Type 0 = λ xs. Contains xs j in
        let is : j ≡ n = contains_one n j (subst Q (cond-true (f n) (n ∷ []) [] passes) last) in
        (omega (arith, is), ap f is ∙ passes)
    | inr fails ↦
        let Q : List ℕ → Type 0 = λ xs. Contains xs j in
        let none : Contains [] j = subst Q (cond-false (f n) (n ∷ []) [] fails) last in
        absurd (omega (arith, none.1))
  ]
]

-- a job that has a next step
pub record HasNext (s : JobShop) (xs : List Placed) (j : ℕ) : Type 0 where
  pub job : j < s.jobs
  pub next : steps_done xs j < s.machines

has_both : (s : JobShop) (xs : List Placed) (f : ℕ → Bool) (j : ℕ) → Contains (those_below s.jobs (λ i. has_next s xs i && f i)) j → HasNext s xs j
has_both s xs f j h =
    let there = contains_those s.jobs (λ i. has_next s xs i && f i) j h in
    record { job = there.0; next = ltb-true (steps_done xs j) s.machines (and_parts (has_next s xs j) (f j) there.1).0 }

rivals_next : (s : JobShop) (xs : List Placed) (js : List ℕ) (j : ℕ) → Contains (rivals_of_first s xs js) j → HasNext s xs j
rivals_next s xs [] j h = absurd (omega (arith, h.1))
rivals_next s xs (b ∷ bs) j h =
    let first : ℕ = first_least (next_end s xs) b bs in
    has_both s xs (λ i. nat_eq (machine_of s (next_step s xs i)) (machine_of s (next_step s xs first)) && nat_lt (ready s xs i) (next_end s xs first)) j h

jobs_by_next : (s : JobShop) (xs : List Placed) (zs : List ℕ) → ((j : ℕ) → Contains zs j → HasNext s xs j) → (j : ℕ) → Contains (jobs_by s xs zs) j → HasNext s xs j
jobs_by_next s xs [] each j h = rivals_next s xs (with_next s xs) j h
jobs_by_next s xs (z ∷ zs) each j h =
    let is : j ≡ z = contains_one z j h in
    let Q : ℕ → Type 0 = λ i. HasNext s xs i in
    subst Q (sym is) (each z (0, omega arith, refl))

pub jobs_after-next : (s : JobShop) (xs : List Placed) (j : ℕ) → Contains (jobs_after s xs) j → HasNext s xs j
unfolding jobs_after
jobs_after-next s xs j h = jobs_by_next s xs (with_zero s xs) (has_both s xs (λ i. nat_eq (time_of s (next_step s xs i)) 0)) j h

letters_at : (js : List ℕ) (a k : ℕ) → k < length (map letter_of js) → get_or (map letter_of js) k a ≡ a → (j : ℕ) × Contains js j × (a ≡ suc j)
letters_at [] a k inside is = absurd (omega (arith, inside))
letters_at (j ∷ js) a zero inside is = (j, (0, omega arith, refl), sym is)
letters_at (j ∷ js) a (suc k) inside is =
    let rest = letters_at js a k (omega (arith, inside)) is in
    (rest.0, contains_later j js rest.0 rest.1, rest.2)

-- a letter that may follow: its job has a next step
pub record IsLetter (s : JobShop) (xs : List Placed) (a : ℕ) : Type 0 where
  pub is : a ≡ suc (job_of_letter a)
  pub job : job_of_letter a < s.jobs
  pub next : steps_done xs (job_of_letter a) < s.machines

pub letter_is : (s : JobShop) (xs : List Placed) (a : ℕ) → Contains (letters_after s xs) a → IsLetter s xs a
letter_is s xs a h =
    let at = letters_at (jobs_after s xs) a h.0 h.1 h.2 in
    let Q : ℕ → Type 0 = λ b. IsLetter s xs b in
    let there = jobs_after-next s xs at.0 at.1 in
    subst Q (sym at.2) (record { is = refl; job = there.job; next = there.next })
