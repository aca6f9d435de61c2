-- Worked examples: a project of six activities with one resource, computed by the definitions.
use Rattle.std.proofs.Common.{ℕ, true, false, ◌≡◌, List, [], ◌∷◌, get_or, refl}
use Rattle.plan_sgs.specs.Problem.{Problem, makespan, usage}
use Rattle.plan_sgs.specs.Serial.{serial, earliest, fits}
use Rattle.plan_sgs.specs.Rules.{places, is_activity_list, rule_list}

-- the project, with a lag on the link from the second activity to the fourth, and a capacity
small : ℕ → ℕ → Problem
small lag capacity = record {
  durations = 0 ∷ 3 ∷ 2 ∷ 4 ∷ 5 ∷ 0 ∷ [];
  links =
      record { from = 0; to = 1; lag = 0 } ∷ record { from = 0; to = 2; lag = 0 } ∷ record { from = 1; to = 3; lag = lag } ∷ record { from = 2; to = 3; lag = 0 }
      ∷ record { from = 2; to = 4; lag = 0 } ∷ record { from = 3; to = 5; lag = 0 } ∷ record { from = 4; to = 5; lag = 0 } ∷ [];
  needs = (0 ∷ []) ∷ (1 ∷ []) ∷ (1 ∷ []) ∷ (1 ∷ []) ∷ (1 ∷ []) ∷ (0 ∷ []) ∷ [];
  capacities = capacity ∷ [];
}

-- latest finishes without a lag
late : List ℕ
late = 0 ∷ 3 ∷ 2 ∷ 7 ∷ 7 ∷ 7 ∷ []

-- latest finishes with a lag of 2
late_with_lag : List ℕ
late_with_lag = 0 ∷ 3 ∷ 4 ∷ 9 ∷ 9 ∷ 9 ∷ []

-- the list of the least latest finish
late_list : rule_list (small 0 2) (λ i. get_or late i 0) ≡ places (1 ∷ 3 ∷ 2 ∷ 4 ∷ 5 ∷ 6 ∷ [])
unfolding rule_list small late
late_list = refl

late_list_with_lag : rule_list (small 2 2) (λ i. get_or late_with_lag i 0) ≡ places (1 ∷ 2 ∷ 3 ∷ 4 ∷ 5 ∷ 6 ∷ [])
unfolding rule_list small late_with_lag
late_list_with_lag = refl

-- its schedules
late_schedule : serial (small 0 2) (places (1 ∷ 3 ∷ 2 ∷ 4 ∷ 5 ∷ 6 ∷ [])) ≡ 0 ∷ 0 ∷ 0 ∷ 3 ∷ 2 ∷ 7 ∷ []
unfolding serial earliest fits usage small
late_schedule = refl

late_schedule_of_one : serial (small 0 1) (places (1 ∷ 3 ∷ 2 ∷ 4 ∷ 5 ∷ 6 ∷ [])) ≡ 0 ∷ 2 ∷ 0 ∷ 5 ∷ 9 ∷ 14 ∷ []
unfolding serial earliest fits usage small
late_schedule_of_one = refl

lag_schedule : serial (small 2 2) (places (1 ∷ 2 ∷ 3 ∷ 4 ∷ 5 ∷ 6 ∷ [])) ≡ 0 ∷ 0 ∷ 0 ∷ 5 ∷ 2 ∷ 9 ∷ []
unfolding serial earliest fits usage small
lag_schedule = refl

lag_schedule_of_one : serial (small 2 1) (places (1 ∷ 2 ∷ 3 ∷ 4 ∷ 5 ∷ 6 ∷ [])) ≡ 0 ∷ 0 ∷ 3 ∷ 5 ∷ 9 ∷ 14 ∷ []
unfolding serial earliest fits usage small
lag_schedule_of_one = refl

number_schedule_of_one : serial (small 0 1) (places (1 ∷ 2 ∷ 3 ∷ 4 ∷ 5 ∷ 6 ∷ [])) ≡ 0 ∷ 0 ∷ 3 ∷ 5 ∷ 9 ∷ 14 ∷ []
unfolding serial earliest fits usage small
number_schedule_of_one = refl

-- and the makespan of one
late_makespan : makespan (small 0 2) (0 ∷ 0 ∷ 0 ∷ 3 ∷ 2 ∷ 7 ∷ []) ≡ 7
unfolding small
late_makespan = refl

-- which lists are orders with each activity after its predecessors
an_order : is_activity_list (small 0 2) (places (1 ∷ 2 ∷ 3 ∷ 5 ∷ 4 ∷ 6 ∷ [])) ≡ true
unfolding small
an_order = refl

too_early : is_activity_list (small 0 2) (places (1 ∷ 4 ∷ 2 ∷ 3 ∷ 5 ∷ 6 ∷ [])) ≡ false
unfolding small
too_early = refl

doubled : is_activity_list (small 0 2) (places (1 ∷ 2 ∷ 2 ∷ 3 ∷ 4 ∷ 5 ∷ [])) ≡ false
unfolding small
doubled = refl
