-- `best` is the first of least makespan.
use Rattle.std.proofs.Common.{◌≡◌, ℕ, ◌<◌, ◌≤◌, ◌⊎◌, inl, inr, true, false, ◌&&◌, nat_lt, List, [], ◌∷◌, ◌++◌, IsTrue, Option, Some, None, refl, sym, ap, ◌∙◌, append_assoc, append-nil, subst, arith}
use Rattle.std.proofs.lemmas.Bool.{cases_Bool, cond-true, cond-false, and_parts, and_cases, ltb-true, ltb-false, both_ways}
use Rattle.std.proofs.lemmas.List.Elements.{All-nil, All-push, All-weaker}
use Rattle.plan_exact.specs.Words.{WordTree}
use Rattle.plan_exact.specs.Visited.{Found, initial_found, better, best, IsTakenFrom, IsFirstLeast}

-- a result taken from a list is also taken from a longer one
taken_more : (t : WordTree) (initial : ℕ) (ws : List (List ℕ)) (v : List ℕ) (value : ℕ) (word : Option (List ℕ)) → IsTakenFrom t initial ws value word → IsTakenFrom t initial (ws ++ v ∷ []) value word
taken_more t initial ws v value None h = h
taken_more t initial ws v value (Some w) h = record {
  below = h.below;
  is = h.is;
  full = h.full;
  before = h.before;
  after = h.after ++ v ∷ [];
  split = ap (λ us. us ++ v ∷ []) h.split ∙ append_assoc h.before (w ∷ h.after) (v ∷ []);
  greater = h.greater;
}

-- one word more
first_least_push : (t : WordTree) (initial : ℕ) (ws : List (List ℕ)) (f : Found) (v : List ℕ) → IsFirstLeast t initial ws f → IsFirstLeast t initial (ws ++ v ∷ []) (better t f v)
first_least_push t initial ws f v h = by_test (cases_Bool (t.full v && nat_lt (t.makespan v) f.value))
  where
    new : Found
    new = record { value = t.makespan v; word = Some v }

    by_test : ((t.full v && nat_lt (t.makespan v) f.value) ≡ true) ⊎ ((t.full v && nat_lt (t.makespan v) f.value) ≡ false) → IsFirstLeast t initial (ws ++ v ∷ []) (better t f v)
    by_test (inl better_one) =
        let p : (t.full v ≡ true) × (nat_lt (t.makespan v) f.value ≡ true) = and_parts (t.full v) (nat_lt (t.makespan v) f.value) better_one in
        let l : t.makespan v < f.value = ltb-true (t.makespan v) f.value p.1 in
        let first : IsFirstLeast t initial (ws ++ v ∷ []) new = record {
          at_most_initial = omega (arith, l, h.at_most_initial);
          at_most_words = All-push (λ w. IsTrue (t.full w) → t.makespan v ≤ t.makespan w) ws v
              (All-weaker (λ w. IsTrue (t.full w) → f.value ≤ t.makespan w) (λ w. IsTrue (t.full w) → t.makespan v ≤ t.makespan w) (λ w k full. omega (arith, l, k full)) ws h.at_most_words)
              (λ full. omega arith);
          taken = record {
            below = omega (arith, l, h.at_most_initial);
            is = refl;
            full = p.0;
            before = ws;
            after = [];
            split = refl;
            greater = All-weaker (λ w. IsTrue (t.full w) → f.value ≤ t.makespan w) (λ w. IsTrue (t.full w) → t.makespan v < t.makespan w) (λ w k full. omega (arith, l, k full)) ws h.at_most_words;
          };
        } in
        subst (IsFirstLeast t initial (ws ++ v ∷ [])) (sym (cond-true (t.full v && nat_lt (t.makespan v) f.value) new f better_one)) first
    by_test (inr worse) =
        let high : IsTrue (t.full v) → f.value ≤ t.makespan v = at_least (and_cases (t.full v) (nat_lt (t.makespan v) f.value) worse) in
        let kept : IsFirstLeast t initial (ws ++ v ∷ []) f = record {
          at_most_initial = h.at_most_initial;
          at_most_words = All-push (λ w. IsTrue (t.full w) → f.value ≤ t.makespan w) ws v h.at_most_words high;
          taken = taken_more t initial ws v f.value f.word h.taken;
        } in
        subst (IsFirstLeast t initial (ws ++ v ∷ [])) (sym (cond-false (t.full v && nat_lt (t.makespan v) f.value) new f worse)) kept
      where
        at_least : (t.full v ≡ false) ⊎ (nat_lt (t.makespan v) f.value ≡ false) → IsTrue (t.full v) → f.value ≤ t.makespan v
        at_least (inl part) full = absurd (both_ways (t.full v) part full)
        at_least (inr e) full = ltb-false (t.makespan v) f.value e

first_least_from : (t : WordTree) (initial : ℕ) (done ws : List (List ℕ)) (f : Found) → IsFirstLeast t initial done f → IsFirstLeast t initial (done ++ ws) (best t f ws)
first_least_from t initial done [] f h = subst (λ us. IsFirstLeast t initial us f) (sym (append-nil done)) h
first_least_from t initial done (w ∷ ws) f h =
    subst (λ us. IsFirstLeast t initial us (best t (better t f w) ws)) (append_assoc done (w ∷ []) ws)
    (first_least_from t initial (done ++ w ∷ []) ws (better t f w) (first_least_push t initial done f w h))

-- `best` finds the first of least makespan in every list
pub first_least : (t : WordTree) (initial : ℕ) (ws : List (List ℕ)) → IsFirstLeast t initial ws (best t (initial_found initial) ws)
first_least t initial ws =
    first_least_from t initial [] ws (initial_found initial)
    (record { at_most_initial = omega arith; at_most_words = All-nil (λ w. IsTrue (t.full w) → initial ≤ t.makespan w); taken = refl })
