-- The starts of all activities.
use Rattle.std.proofs.Common.{◌≡◌, ◌∙◌, ℕ, ◌+◌, ◌≤◌, ◌<◌, inl, inr, List, [], ◌∷◌, ◌++◌, true, cond, length, length-append, get_or, min, refl, sym, ap, subst, arith}
use Rattle.std.specs.Bool.{IsFalse}
use Rattle.std.proofs.lemmas.Bool.{cases_eq, both_ways}
use Rattle.std.proofs.lemmas.List.{get_or_append_left, get_or_push}
use Rattle.plan_sgs.specs.Problem.{count}
use Rattle.plan_week.specs.declared.week.State.{State}
use Rattle.plan_week.specs.declared.week.State.TheVariants.{Open, Begun, Done}
use Rattle.plan_week.specs.declared.week.Week.{Week}
use Rattle.plan_week.specs.Weeks.{project_of, state_of, is_open, KeepsState}
use Rattle.plan_weekverdict.specs.Starts.{open_before, start_by, AreAllStarts}
use Rattle.plan_weekverdict.specs.Verdicts.{HasSettled}

-- a property of each element of a list, and of a list with one element more
pub each_more : {X : Type 0} (P : ℕ → X → Type 0) (xs ys : List X) (x d : X) (n : ℕ) → length xs ≡ n → ys ≡ xs ++ x ∷ []
    → ((i : ℕ) → i < n → P i (get_or xs i d)) → P n x → (i : ℕ) → i < n + 1 → P i (get_or ys i d)
each_more {X} P xs ys x d n whole added before here i below = elim (cases_eq i n) [
  | inl same ↦
      let last : get_or ys n d ≡ x = ap (λ (l : List X). get_or l n d) added ∙ get_or_push xs x d n whole in
      subst (λ (k : ℕ). P k (get_or ys k d)) (sym same) (subst (λ (y : X). P n y) (sym last) here)
  | inr other ↦
      let old : get_or ys i d ≡ get_or xs i d = ap (λ (l : List X). get_or l i d) added ∙ get_or_append_left xs (x ∷ []) d i (omega (arith, below, other, whole)) in
      subst (λ (y : X). P i y) (sym old) (before i (omega (arith, below, other)))
]

-- the length of a list with one element more
pub length_more : {X : Type 0} (xs ys : List X) (x : X) (n : ℕ) → length xs ≡ n → ys ≡ xs ++ x ∷ [] → length ys ≡ n + 1
length_more {X} xs ys x n whole added = omega (arith, whole, ap (λ (l : List X). length l) added, length-append xs (x ∷ []))

-- the start of an activity that isn't open follows from its state
settled_by : (today given : ℕ) (s : State) → IsFalse (is_open s) → KeepsState today (start_by today given s) s
settled_by today given (Open earliest fixed) closed = absurd (both_ways true closed refl)
settled_by today given (Begun began remaining) closed = refl
settled_by today given (Done ended) closed = refl

-- the starts of as many activities as there are
pub all_of : (week : Week) (given starts : List ℕ) (n : ℕ) → n ≡ count (project_of week) → length starts ≡ n
    → ((i : ℕ) → i < n → get_or starts i 0 ≡ start_by week.today (get_or given (open_before week i) 0) (state_of week i)) → AreAllStarts week given starts
all_of week given starts n all whole each = record {
  whole = whole ∙ all;
  each = λ i inside. each i (omega (arith, inside, all));
}

pub all_settled : (week : Week) (given starts : List ℕ) → AreAllStarts week given starts → HasSettled week starts
all_settled week given starts all = record {
  each_started = all.whole;
  settled = λ i inside closed.
      subst (λ (x : ℕ). KeepsState week.today x (state_of week i)) (sym (all.each i inside))
      (settled_by week.today (get_or given (open_before week i) 0) (state_of week i) closed);
}
