-- Lists of numbers by activity, in which one entry after another is raised or lowered.
use Rattle.std.proofs.Common.{ℕ, max, min, ◌≡◌, ◌+◌, ◌-◌, ◌<◌, ◌⊎◌, inl, inr, List, length, get_or, set, sym, ◌∙◌, ap, subst, arith, below_more, get_or-set_same, get_or-set_other}
use Rattle.std.proofs.lemmas.List.{length-set}
use Rattle.std.proofs.lemmas.Bool.{cases_lt, cases_eq}

-- w is the old number at x, or the value of f for an activity with Q that has the index x
abbrev pub IsOldOrNew : (ℕ → Type 0) → (ℕ → ℕ) → List ℕ → ℕ → ℕ → Type 0
IsOldOrNew Q f before x w = (w ≡ get_or before x 0) ⊎ ((i : ℕ) × Q i × (x ≡ i - 1) × (w ≡ f i))

-- the entries of the first n items were moved by R to their values of f or beyond; the others are
-- unchanged
pub record AreMoved (R : ℕ → ℕ → Type 0) (Q : ℕ → Type 0) (f : ℕ → ℕ) (items : List ℕ) (n : ℕ) (before after : List ℕ) : Type 0 where
  pub whole : length after ≡ length before
  pub kept : (x : ℕ) → R (get_or before x 0) (get_or after x 0)
  pub moved : (m : ℕ) → m < n → R (f (get_or items m 0)) (get_or after (get_or items m 0 - 1) 0)
  pub reached : (x : ℕ) → IsOldOrNew Q f before x (get_or after x 0)

-- one more entry is moved
pub AreMoved-more : (R : ℕ → ℕ → Type 0) (Q : ℕ → Type 0) (f : ℕ → ℕ) (items : List ℕ) (n v : ℕ) (before list : List ℕ) → ((a : ℕ) → R a a)
    → ((a b c : ℕ) → R a b → R b c → R a c) → Q (get_or items n 0) → get_or items n 0 - 1 < length list
    → R (get_or list (get_or items n 0 - 1) 0) v → R (f (get_or items n 0)) v
    → (v ≡ get_or list (get_or items n 0 - 1) 0) ⊎ (v ≡ f (get_or items n 0)) → AreMoved R Q f items n before list → AreMoved R Q f items (n + 1) before (set list (get_or items n 0 - 1) v)
AreMoved-more R Q f items n v before list stays further has within on beyond either so_far = record {
  whole = length-set list (get_or items n 0 - 1) v ∙ so_far.whole;
  kept = λ x. further (get_or before x 0) (get_or list x 0) (get_or (set list (get_or items n 0 - 1) v) x 0) (so_far.kept x) (step x (cases_eq x (get_or items n 0 - 1)));
  moved = below_more (λ m. R (f (get_or items m 0)) (get_or (set list (get_or items n 0 - 1) v) (get_or items m 0 - 1) 0)) n
      (λ m lower. further (f (get_or items m 0)) (get_or list (get_or items m 0 - 1) 0) (get_or (set list (get_or items n 0 - 1) v) (get_or items m 0 - 1) 0) (so_far.moved m lower)
      (step (get_or items m 0 - 1) (cases_eq (get_or items m 0 - 1) (get_or items n 0 - 1))))
      (subst (R (f (get_or items n 0))) (sym here) beyond);
  reached = λ x. reached x (cases_eq x (get_or items n 0 - 1));
} where
  here : get_or (set list (get_or items n 0 - 1) v) (get_or items n 0 - 1) 0 ≡ v
  here = get_or-set_same list (get_or items n 0 - 1) v 0 within

  step : (x : ℕ) → (x ≡ get_or items n 0 - 1) ⊎ (x ≡ get_or items n 0 - 1 → ⊥) → R (get_or list x 0) (get_or (set list (get_or items n 0 - 1) v) x 0)
  step x (inl same) = subst (λ (y : ℕ). R (get_or list y 0) (get_or (set list (get_or items n 0 - 1) v) y 0)) (sym same) (subst (R (get_or list (get_or items n 0 - 1) 0)) (sym here) on)
  step x (inr other) = subst (R (get_or list x 0)) (sym (get_or-set_other list (get_or items n 0 - 1) x v 0 other)) (stays (get_or list x 0))

  reached : (x : ℕ) → (x ≡ get_or items n 0 - 1) ⊎ (x ≡ get_or items n 0 - 1 → ⊥)
      → IsOldOrNew Q f before x (get_or (set list (get_or items n 0 - 1) v) x 0)
  reached x (inr other) = subst (IsOldOrNew Q f before x) (sym (get_or-set_other list (get_or items n 0 - 1) x v 0 other)) (so_far.reached x)
  reached x (inl same) = by_case either where
    value : get_or (set list (get_or items n 0 - 1) v) x 0 ≡ v
    value = ap (λ (y : ℕ). get_or (set list (get_or items n 0 - 1) v) y 0) same ∙ here

    by_case : (v ≡ get_or list (get_or items n 0 - 1) 0) ⊎ (v ≡ f (get_or items n 0))
        → IsOldOrNew Q f before x (get_or (set list (get_or items n 0 - 1) v) x 0)
    by_case (inr as_said) = inr (get_or items n 0, has, same, value ∙ as_said)
    by_case (inl as_it_was) =
        let old : get_or (set list (get_or items n 0 - 1) v) x 0 ≡ get_or list x 0 = value ∙ (as_it_was ∙ ap (λ (y : ℕ). get_or list y 0) (sym same)) in
        subst (IsOldOrNew Q f before x) (sym old) (so_far.reached x)

-- the greater of two numbers is one of them, and so is the smaller
pub max_either : (v a b : ℕ) → v ≡ max a b → (v ≡ a) ⊎ (v ≡ b)
max_either v a b is = elim (cases_lt a b) [ inl lower ↦ inr (omega (arith, is, lower)) | inr higher ↦ inl (omega (arith, is, higher)) ]

pub min_either : (v a b : ℕ) → v ≡ min a b → (v ≡ a) ⊎ (v ≡ b)
min_either v a b is = elim (cases_lt a b) [ inl lower ↦ inl (omega (arith, is, lower)) | inr higher ↦ inr (omega (arith, is, higher)) ]
