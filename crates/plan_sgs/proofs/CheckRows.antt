-- Verdicts on worked examples: six activities on one resource, with a lag on the third link, and
-- two activities at the last start.
use Rattle.std.proofs.Common.{ℕ, zero, suc, ◌≡◌, ◌≢◌, ◌+◌, ◌≤◌, ◌<◌, inl, inr, List, [], ◌∷◌, get_or, refl, subst, arith}
use Rattle.std.proofs.lemmas.Bool.{cases_lt}
use Rattle.std.proofs.lemmas.List.Elements.{All-from_recursion}
use Rattle.plan_sgs.specs.Problem.{Problem, Link, duration, need, capacity, usage, all_placed, IsFeasible}
use Rattle.plan_sgs.specs.Verdicts.{Breaks, IsNoLater, IsOver, IsFirstVerdict}
use Rattle.plan_sgs.specs.declared.verdict.Verdict.TheVariants.{Arc, Over, Shift, Active}
use Rattle.plan_sgs.proofs.Findings.{over_from_start, keeps_at_starts}
use Rattle.plan_sgs.proofs.Shifts.{CanStartAt, shift_from_start, start_from_shift}

abbrev link : ℕ → ℕ → ℕ → Link
link from to lag = record { from = from; to = to; lag = lag }

-- six activities of durations 0 3 2 4 5 0; the four in the middle need 1
abbrev six : ℕ → ℕ → Problem
six lag capacity = record {
  durations = 0 ∷ 3 ∷ 2 ∷ 4 ∷ 5 ∷ 0 ∷ [];
  links = link 0 1 0 ∷ link 0 2 0 ∷ link 1 3 lag ∷ link 2 3 0 ∷ link 2 4 0 ∷ link 3 5 0 ∷ link 4 5 0 ∷ [];
  needs = (0 ∷ []) ∷ (1 ∷ []) ∷ (1 ∷ []) ∷ (1 ∷ []) ∷ (1 ∷ []) ∷ (0 ∷ []) ∷ [];
  capacities = capacity ∷ [];
}

-- two activities of duration 1 that need the whole capacity
abbrev pair : Problem
pair = record { durations = 1 ∷ 1 ∷ []; links = []; needs = (1 ∷ []) ∷ (1 ∷ []) ∷ []; capacities = 1 ∷ [] }

abbrev kept : Problem → List ℕ → Link → Type 0
kept p s a = get_or s a.from 0 + duration p a.from + a.lag ≤ get_or s a.to 0

abbrev first_of : Problem → List ℕ → ℕ → ℕ → Link → Type 0
first_of p s i j a = Breaks p s a → IsNoLater i j a.from a.to

-- activity 4 starts at 2, before the end of activity 2 at 3
arc_row : IsFirstVerdict (six 0 2) (0 ∷ 0 ∷ 0 ∷ 2 ∷ 2 ∷ 7 ∷ []) (Arc 2 4)
arc_row = (
  omega arith,
  omega arith,
  record {
    broken = (link 1 3 0, (2, omega arith, refl), omega arith, refl, refl);
    first = All-from_recursion (first_of (six 0 2) (0 ∷ 0 ∷ 0 ∷ 2 ∷ 2 ∷ 7 ∷ []) 1 3) (six 0 2).links (
      λ b. absurd (omega (arith, b)),
      (
        λ b. absurd (omega (arith, b)),
        (
          λ b. inr (refl, omega arith),
          (
            λ b. absurd (omega (arith, b)),
            (λ b. absurd (omega (arith, b)), (λ b. inl (omega arith), (λ b. inl (omega arith), tt))),
          ),
        ),
      ),
    );
  },
)

-- with lag 2 from activity 2 to 4 a start at 4 is too soon
lag_row : IsFirstVerdict (six 2 2) (0 ∷ 0 ∷ 0 ∷ 4 ∷ 2 ∷ 9 ∷ []) (Arc 2 4)
lag_row = (
  omega arith,
  omega arith,
  record {
    broken = (link 1 3 2, (2, omega arith, refl), omega arith, refl, refl);
    first = All-from_recursion (first_of (six 2 2) (0 ∷ 0 ∷ 0 ∷ 4 ∷ 2 ∷ 9 ∷ []) 1 3) (six 2 2).links (
      λ b. absurd (omega (arith, b)),
      (
        λ b. absurd (omega (arith, b)),
        (
          λ b. inr (refl, omega arith),
          (
            λ b. absurd (omega (arith, b)),
            (λ b. absurd (omega (arith, b)), (λ b. inl (omega arith), (λ b. inl (omega arith), tt))),
          ),
        ),
      ),
    );
  },
)

-- activities 2 and 3 at once are too many for capacity 1
over_row : IsFirstVerdict (six 0 1) (0 ∷ 0 ∷ 0 ∷ 3 ∷ 2 ∷ 7 ∷ []) (Over 0 1)
unfolding usage
over_row = (
  omega arith,
  record {
    arcs = All-from_recursion (kept (six 0 1) (0 ∷ 0 ∷ 0 ∷ 3 ∷ 2 ∷ 7 ∷ [])) (six 0 1).links (omega arith, (omega arith, (omega arith, (omega arith, (omega arith, (omega arith, (omega arith, tt)))))));
    over = record { inside = omega arith; more = omega arith };
    first = λ u l over. elim (cases_lt 0 u) [ inl later ↦ inl later | inr same ↦ inr (let e : 0 ≡ u = omega (arith, same) in e, omega arith) ];
  },
)

-- both at the last start: the instant is the last start, not one before the end of time
far_row : IsFirstVerdict pair (10000000 ∷ 10000000 ∷ []) (Over 10000000 1)
unfolding usage
far_row = (
  omega arith,
  record {
    arcs = All-from_recursion (kept pair (10000000 ∷ 10000000 ∷ [])) [] tt;
    over = record { inside = omega arith; more = omega arith };
    first = λ u l over.
        let start = over_from_start pair (10000000 ∷ 10000000 ∷ []) refl u l over in
        let late : 10000000 ≤ u = by start.0 start.1 start.2 in
        elim (cases_lt 10000000 u) [ inl later ↦ inl later | inr same ↦ inr (let e : 10000000 ≡ u = omega (arith, same, late) in e, omega arith) ];
  },
) where
  by : (i : ℕ) → i < 2 → {u : ℕ} → get_or (10000000 ∷ 10000000 ∷ []) i 0 ≤ u → 10000000 ≤ u
  by zero inside order = order
  by (suc zero) inside order = order
  by (suc (suc i)) inside order = absurd (omega (arith, inside))

-- activity 5 at 3 can start at 2
abbrev late : List ℕ
late = 0 ∷ 0 ∷ 0 ∷ 3 ∷ 3 ∷ 8 ∷ []

late_under : (i k : ℕ) → i < 6 → IsOver (six 0 2) late (get_or late i 0) k → ⊥
unfolding usage
late_under zero zero inside over = let more : 2 < 2 = over.more in omega (arith, more)
late_under (suc zero) zero inside over = let more : 2 < 2 = over.more in omega (arith, more)
late_under (suc (suc zero)) zero inside over = let more : 2 < 2 = over.more in omega (arith, more)
late_under (suc (suc (suc zero))) zero inside over = let more : 2 < 2 = over.more in omega (arith, more)
late_under (suc (suc (suc (suc zero)))) zero inside over = let more : 2 < 2 = over.more in omega (arith, more)
late_under (suc (suc (suc (suc (suc zero))))) zero inside over = let more : 2 < 0 = over.more in omega (arith, more)
late_under (suc (suc (suc (suc (suc (suc i)))))) zero inside over = omega (arith, inside)
late_under i (suc k) inside over = let within : suc k < 1 = over.inside in omega (arith, within)

late_feasible : IsFeasible (six 0 2) late
late_feasible = record {
  each_started = refl;
  arcs = All-from_recursion (kept (six 0 2) late) (six 0 2).links (omega arith, (omega arith, (omega arith, (omega arith, (omega arith, (omega arith, (omega arith, tt)))))));
  capacities = keeps_at_starts (six 0 2) late refl late_under;
}

abbrev released : Problem → List ℕ → ℕ → ℕ → Link → Type 0
released p s j t a = a.to ≡ j → a.from ≢ j → get_or s a.from 0 + duration p a.from + a.lag ≤ t

shift_row : IsFirstVerdict (six 0 2) late (Shift 5)
unfolding usage
shift_row = (
  omega arith,
  record {
    feasible = late_feasible;
    shift = shift_from_start (six 0 2) late 4 2 late_feasible (omega arith) (record {
      earlier = omega arith;
      released = All-from_recursion (released (six 0 2) late 4 2) (six 0 2).links (
        λ e _. absurd (omega (arith, e)),
        (
          λ e _. absurd (omega (arith, e)),
          (
            λ e _. absurd (omega (arith, e)),
            (
              λ e _. absurd (omega (arith, e)),
              (
                λ e _. omega arith,
                (
                  λ e _. absurd (omega (arith, e)),
                  (λ e _. absurd (omega (arith, e)), tt),
                ),
              ),
            ),
          ),
        ),
      );
      fits = λ u k since lasts before within.
          let at : 2 ≡ u = omega (arith, since, before) in
          let of : 0 ≡ k = omega (arith, within) in
          let room : usage (six 0 2) (all_placed late) 2 0 + need (six 0 2) 4 0 ≤ capacity (six 0 2) 0 = omega arith in
          subst (λ (x : ℕ). usage (six 0 2) (all_placed late) x k + need (six 0 2) 4 k ≤ capacity (six 0 2) k)
          at (subst (λ (x : ℕ). usage (six 0 2) (all_placed late) 2 x + need (six 0 2) 4 x ≤ capacity
          (six 0 2) x) of room);
    });
    first = λ i has. let start = start_from_shift (six 0 2) late i late_feasible has in by i start.0 start.1;
  },
) where
  by : (i t : ℕ) → CanStartAt (six 0 2) late i t → 4 ≤ i
  by zero t can = let earlier : t < 0 = can.earlier in absurd (omega (arith, earlier))
  by (suc zero) t can = let earlier : t < 0 = can.earlier in absurd (omega (arith, earlier))
  by (suc (suc zero)) t can = let earlier : t < 0 = can.earlier in absurd (omega (arith, earlier))
  by (suc (suc (suc zero))) t can =
      let earlier : t < 3 = can.earlier in
      let free : 3 ≤ t = can.released 2 (link 0 0 0) (omega arith) refl (λ e. omega (arith, e)) in
      absurd (omega (arith, earlier, free))
  by (suc (suc (suc (suc i)))) t can = omega arith

-- each activity is at its release
abbrev tight : List ℕ
tight = 0 ∷ 0 ∷ 0 ∷ 3 ∷ 2 ∷ 7 ∷ []

tight_under : (i k : ℕ) → i < 6 → IsOver (six 0 2) tight (get_or tight i 0) k → ⊥
unfolding usage
tight_under zero zero inside over = let more : 2 < 2 = over.more in omega (arith, more)
tight_under (suc zero) zero inside over = let more : 2 < 2 = over.more in omega (arith, more)
tight_under (suc (suc zero)) zero inside over = let more : 2 < 2 = over.more in omega (arith, more)
tight_under (suc (suc (suc zero))) zero inside over = let more : 2 < 2 = over.more in omega (arith, more)
tight_under (suc (suc (suc (suc zero)))) zero inside over = let more : 2 < 2 = over.more in omega (arith, more)
tight_under (suc (suc (suc (suc (suc zero))))) zero inside over = let more : 2 < 0 = over.more in omega (arith, more)
tight_under (suc (suc (suc (suc (suc (suc i)))))) zero inside over = omega (arith, inside)
tight_under i (suc k) inside over = let within : suc k < 1 = over.inside in omega (arith, within)

tight_feasible : IsFeasible (six 0 2) tight
tight_feasible = record {
  each_started = refl;
  arcs = All-from_recursion (kept (six 0 2) tight) (six 0 2).links (omega arith, (omega arith, (omega arith, (omega arith, (omega arith, (omega arith, (omega arith, tt)))))));
  capacities = keeps_at_starts (six 0 2) tight refl tight_under;
}

active_row : IsFirstVerdict (six 0 2) tight Active
active_row = record {
  feasible = tight_feasible;
  no_shift = λ other i inside shift feasible.
      let start = start_from_shift (six 0 2) tight i tight_feasible (record { other = other; inside = inside; shift = shift; feasible = feasible }) in
      by i start.0 inside start.1;
} where
  by : (i t : ℕ) → i < 6 → CanStartAt (six 0 2) tight i t → ⊥
  by zero t inside can = let earlier : t < 0 = can.earlier in omega (arith, earlier)
  by (suc zero) t inside can = let earlier : t < 0 = can.earlier in omega (arith, earlier)
  by (suc (suc zero)) t inside can = let earlier : t < 0 = can.earlier in omega (arith, earlier)
  by (suc (suc (suc zero))) t inside can =
      let earlier : t < 3 = can.earlier in
      let free : 3 ≤ t = can.released 2 (link 0 0 0) (omega arith) refl (λ e. omega (arith, e)) in
      omega (arith, earlier, free)
  by (suc (suc (suc (suc zero)))) t inside can =
      let earlier : t < 2 = can.earlier in
      let free : 2 ≤ t = can.released 4 (link 0 0 0) (omega arith) refl (λ e. omega (arith, e)) in
      omega (arith, earlier, free)
  by (suc (suc (suc (suc (suc zero))))) t inside can =
      let earlier : t < 7 = can.earlier in
      let free : 7 ≤ t = can.released 5 (link 0 0 0) (omega arith) refl (λ e. omega (arith, e)) in
      omega (arith, earlier, free)
  by (suc (suc (suc (suc (suc (suc i)))))) t inside can = omega (arith, inside)
