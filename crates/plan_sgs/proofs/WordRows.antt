-- Worked examples: the words of a project of five activities with one resource, computed by the
-- definitions.
use Rattle.std.proofs.Common.{ℕ, true, ◌≡◌, [], ◌∷◌, refl}
use Rattle.plan_net.specs.Network.{Net, unlagged, lag_of}
use Rattle.plan_sgs.specs.Problem.{usage}
use Rattle.plan_sgs.specs.Serial.{serial, earliest, fits}
use Rattle.plan_sgs.specs.Instances.{Planned, problem_of}
use Rattle.plan_sgs.specs.PathTails.{tail_of, longest_of}
use Rattle.plan_sgs.specs.ProjectWords.{letters_after, is_full, starts_by, makespan_by, least_of_all, bound_of}

-- the project: three activities between the first and the last, each with a need of 1
net : Net
net = unlagged (0 ∷ 1 ∷ 1 ∷ 2 ∷ 0 ∷ []) ((1, 2) ∷ (1, 3) ∷ (1, 4) ∷ (2, 5) ∷ (3, 5) ∷ (4, 5) ∷ [])

small : ℕ → Planned
small capacity = record {
  project = record { network = net; needs = (0 ∷ []) ∷ (1 ∷ []) ∷ (1 ∷ []) ∷ (1 ∷ []) ∷ (0 ∷ []) ∷ []; available = capacity ∷ [] };
  capacities = capacity ∷ [];
}

-- the tails, and the longest path
tail_of_4 : tail_of net 4 ≡ 2
unfolding tail_of net lag_of
tail_of_4 = refl

longest : longest_of net ≡ 2
unfolding longest_of tail_of net lag_of
longest = refl

-- letters
first_letters : letters_after (small 2) [] ≡ 1 ∷ []
unfolding letters_after problem_of small net lag_of
first_letters = refl

letters_after_1 : letters_after (small 2) (1 ∷ []) ≡ 2 ∷ 3 ∷ 4 ∷ []
unfolding letters_after problem_of small net lag_of
letters_after_1 = refl

letters_after_1_2_4 : letters_after (small 2) (1 ∷ 2 ∷ 4 ∷ []) ≡ 3 ∷ []
unfolding letters_after problem_of small net lag_of
letters_after_1_2_4 = refl

-- full words
all_placed : is_full (small 2) (1 ∷ 2 ∷ 4 ∷ 3 ∷ 5 ∷ []) ≡ true
unfolding is_full problem_of small net lag_of
all_placed = refl

starts : starts_by (small 2) (1 ∷ 2 ∷ 4 ∷ 3 ∷ 5 ∷ []) ≡ 0 ∷ 0 ∷ 1 ∷ 0 ∷ 2 ∷ []
unfolding serial earliest fits usage problem_of small net lag_of
starts = refl

later_starts : starts_by (small 2) (1 ∷ 2 ∷ 3 ∷ 4 ∷ 5 ∷ []) ≡ 0 ∷ 0 ∷ 0 ∷ 1 ∷ 3 ∷ []
unfolding serial earliest fits usage problem_of small net lag_of
later_starts = refl

least_makespan : makespan_by (small 2) (1 ∷ 2 ∷ 4 ∷ 3 ∷ 5 ∷ []) ≡ 2
unfolding makespan_by serial earliest fits usage problem_of small net lag_of
least_makespan = refl

-- bounds: a work of 4 keeps a capacity of 1 busy for 4 instants and a capacity of 3 for 2 instants;
-- a capacity of 0 has busy time 0
least_of_2 : least_of_all (small 2) ≡ 2
unfolding least_of_all longest_of tail_of problem_of small net lag_of
least_of_2 = refl

least_of_1 : least_of_all (small 1) ≡ 4
unfolding least_of_all longest_of tail_of problem_of small net lag_of
least_of_1 = refl

least_of_3 : least_of_all (small 3) ≡ 2
unfolding least_of_all longest_of tail_of problem_of small net lag_of
least_of_3 = refl

least_of_0 : least_of_all (small 0) ≡ 2
unfolding least_of_all longest_of tail_of problem_of small net lag_of
least_of_0 = refl

bound_after_1_2_3_4 : bound_of (small 2) (1 ∷ 2 ∷ 3 ∷ 4 ∷ []) ≡ 3
unfolding bound_of least_of_all longest_of tail_of earliest fits usage problem_of small net lag_of
bound_after_1_2_3_4 = refl

bound_after_1_2_4 : bound_of (small 2) (1 ∷ 2 ∷ 4 ∷ []) ≡ 2
unfolding bound_of least_of_all longest_of tail_of earliest fits usage problem_of small net lag_of
bound_after_1_2_4 = refl
