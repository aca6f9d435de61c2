-- Serial schedule generation: activities are placed one after another, each at the least start that
-- links and capacities allow beside those placed before it (docs/definitions.md, "Schedules";
-- Kelley 1963, Kolisch and Hartmann 1999).
use Rattle.std.specs.Prelude.{◌≡◌, ℕ, zero, suc, ◌+◌, ◌≤◌, max, Bool, true, cond, List, [], ◌∷◌, length, get_or, set, map, replicate, nat_le, nat_eq, Option, Some, None}
use Rattle.std.specs.List.{fold}
use Rattle.plan_sgs.specs.Problem.{Problem, count, duration, need, capacity, all_below, usage}

-- the end of an activity with a given start, 0 if it isn't placed
abbrev pub end_from : ℕ → Option ℕ → ℕ
end_from d None = 0
end_from d (Some start) = start + d

-- the end of an activity, 0 if it isn't placed
abbrev pub end_of : Problem → List (Option ℕ) → ℕ → ℕ
end_of p placed i = end_from (duration p i) (get_or placed i None)

-- the least start that the links allow
abbrev pub release : Problem → List (Option ℕ) → ℕ → ℕ
release p placed j =
    fold (λ m a. cond (nat_eq a.to j) (max m (end_of p placed a.from + a.lag)) m) 0 p.links

-- an activity that starts at t keeps the capacities beside the placed activities
unfoldable pub fits : Problem → List (Option ℕ) → ℕ → ℕ → Bool
fits p placed j t =
    all_below (duration p j) (λ x. all_below (length p.capacities) (λ k.
    nat_le (usage p placed (t + x) k + need p j k) (capacity p k)))

-- the greatest end of the placed activities
abbrev pub horizon_from : Problem → ℕ → ℕ → List (Option ℕ) → ℕ
horizon_from p i m [] = m
horizon_from p i m (None ∷ ss) = horizon_from p (suc i) m ss
horizon_from p i m (Some s ∷ ss) = horizon_from p (suc i) (max m (s + duration p i)) ss

-- the first of n instants from t on that passes f, else the instant after them
abbrev pub first_from : (ℕ → Bool) → ℕ → ℕ → ℕ
first_from f t zero = t
first_from f t (suc n) = cond (f t) t (first_from f (suc t) n)

-- the least start from its release on at which an activity fits
unfoldable pub earliest : Problem → List (Option ℕ) → ℕ → ℕ
earliest p placed j = first_from (fits p placed j) (release p placed j) (horizon_from p 0 0 placed)

-- the least instant from its release on at which an activity fits
pub record IsEarliest (p : Problem) (placed : List (Option ℕ)) (j t : ℕ) : Type 0 where
  pub released : release p placed j ≤ t
  pub fitting : fits p placed j t ≡ true
  pub least : (u : ℕ) → release p placed j ≤ u → fits p placed j u ≡ true → t ≤ u

-- nothing is placed
abbrev pub unplaced : ℕ → List (Option ℕ)
unplaced n = replicate n None

-- the entries of a list are placed in turn, each at its earliest start
abbrev pub serial_from : Problem → List (Option ℕ) → List ℕ → List (Option ℕ)
serial_from p placed [] = placed
serial_from p placed (j ∷ js) = serial_from p (set placed j (Some (earliest p placed j))) js

abbrev pub start_or_zero : Option ℕ → ℕ
start_or_zero None = 0
start_or_zero (Some s) = s

-- the starts of the serial schedule of a list
unfoldable pub serial : Problem → List ℕ → List ℕ
serial p js = map start_or_zero (serial_from p (unplaced (count p)) js)
