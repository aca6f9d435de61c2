-- The bound of a word is at most the makespan of each full word that begins with it.
use Rattle.std.proofs.Common.{ℕ, suc, true, ◌≡◌, ◌≢◌, ◌+◌, ◌-◌, ◌≤◌, ◌<◌, List, [], ◌∷◌, ◌++◌, length, get_or, set, Option, Some, None, refl, sym, ◌∙◌, ap, subst, arith, get_or-set_other}
use Rattle.std.proofs.lemmas.Bool.{both_ways}
use Rattle.std.specs.Option.{is_some}
use Rattle.plan_net.specs.Network.{IsActivity, lag_of}
use Rattle.plan_net.specs.Path.{IsWalk, path_length}
use Rattle.plan_net.specs.Limits.{IsSound}
use Rattle.plan_net.proofs.RowLemmas.{arc_ends}
use Rattle.plan_sgs.specs.Problem.{Problem, count, duration, greatest_below, IsFeasible, makespan}
use Rattle.plan_sgs.specs.Serial.{end_from, earliest, unplaced, serial_from, serial}
use Rattle.plan_sgs.specs.Rules.{places, is_member, takes_in_turn}
use Rattle.plan_sgs.specs.Instances.{Planned, IsInstance, problem_of}
use Rattle.plan_sgs.specs.PathTails.{tail_of, longest_of}
use Rattle.plan_sgs.specs.ProjectWords.{depth_of, placed_by, IsWord, starts_by, makespan_by, busy_of, least_of_all, reach_of, bound_of}
use Rattle.plan_sgs.specs.ProjectLaws.{TailsAreGreatest, LongestIsGreatest, IsFullWord, ProjectBoundHolds, ProjectFullIsActive}
use Rattle.plan_sgs.proofs.TotalLemmas.{greatest_least, greatest_above}
use Rattle.plan_sgs.proofs.InstanceLemmas.{count-problem, capacities-problem}
use Rattle.plan_sgs.proofs.PlaceLemmas.{activity_place, duration_place}
use Rattle.plan_sgs.proofs.BoundedLemmas.{link_at}
use Rattle.plan_sgs.proofs.PlacingLemmas.{IsPartial}
use Rattle.plan_sgs.proofs.SerialLemmas.{TakenIs, taken_first, turn_parts, eligible_not, start_at, member_other, partial_after, partial_first}
use Rattle.plan_sgs.proofs.PathTailLemmas.{tails_are_greatest, longest_is_greatest}
use Rattle.plan_sgs.proofs.WorkLemmas.{busy_fits}
use Rattle.plan_sgs.proofs.WordLemmas.{word_turns, word_split, places_append}
use Rattle.plan_sgs.proofs.FullWordLemmas.{full_is_active}

-- in a feasible schedule the activities after another one on a path start after it
walk_fits : (i : Planned) (s : List ℕ) (j : ℕ) (others : List ℕ) → IsSound i.project.network → IsFeasible (problem_of i) s → IsActivity i.project.network j → IsWalk i.project.network j others
    → get_or s (j - 1) 0 + path_length i.project.network j others ≤ makespan (problem_of i) s
walk_fits i s j [] sound feasible activity walk =
    let end : get_or s (j - 1) 0 + duration (problem_of i) (j - 1) ≤ makespan (problem_of i) s =
    greatest_above (count (problem_of i)) (λ h. get_or s h 0 + duration (problem_of i) h) (j - 1) (activity_place i j activity) in
    omega (arith, end, duration_place i j activity)
walk_fits i s j (k ∷ others) sound feasible activity (arc, walk) =
    let ends = arc_ends i.project.network j k sound.limits arc in
    let rest : get_or s (k - 1) 0 + path_length i.project.network k others ≤ makespan (problem_of i) s = walk_fits i s k others sound feasible ends.1 walk in
    let apart : get_or s (j - 1) 0 + duration (problem_of i) (j - 1) + lag_of i.project.network j k ≤ get_or s (k - 1) 0 =
    link_at i (λ a. get_or s a.from 0 + duration (problem_of i) a.from + a.lag ≤ get_or s a.to 0) feasible.arcs j k arc in
    omega (arith, rest, apart, duration_place i j activity)

-- so do its tail and the longest path
tail_fits : (i : Planned) (s : List ℕ) (j : ℕ) → IsSound i.project.network → IsFeasible (problem_of i) s → IsActivity i.project.network j
    → get_or s (j - 1) 0 + tail_of i.project.network j ≤ makespan (problem_of i) s
unfolding TailsAreGreatest
tail_fits i s j sound feasible activity =
    let path = (tails_are_greatest i.project.network j sound activity).0 in
    let fits = walk_fits i s j path.0 sound feasible activity path.1.1 in
    omega (arith, fits, path.2)

longest_fits : (i : Planned) (s : List ℕ) → IsSound i.project.network → IsFeasible (problem_of i) s → longest_of i.project.network ≤ makespan (problem_of i) s
unfolding LongestIsGreatest
longest_fits i s sound feasible =
    let path = (longest_is_greatest i.project.network sound).0 in
    let fits = walk_fits i s path.0 path.1 sound feasible path.2.0 path.2.1 in
    omega (arith, fits, path.3)

-- the part of the bound that no word changes
least_fits : (i : Planned) (s : List ℕ) → IsInstance i → IsFeasible (problem_of i) s → least_of_all i ≤ makespan (problem_of i) s
unfolding least_of_all
least_fits i s instance feasible =
    let caps : length (problem_of i).capacities ≡ length i.capacities = ap (λ (xs : List ℕ). length xs) (capacities-problem i) in
    let busy : greatest_below (length i.capacities) (busy_of (problem_of i)) ≤ makespan (problem_of i) s =
    greatest_least (length i.capacities) (busy_of (problem_of i)) (makespan (problem_of i) s) (λ k below. busy_fits (problem_of i) s k feasible (omega (arith, below, caps))) in
    omega (arith, busy, longest_fits i s instance.project.network feasible)

-- a placed activity stays at its start while others are placed
placed_stays : (p : Problem) (js taken : List ℕ) (placed : List (Option ℕ)) (h s : ℕ) → takes_in_turn p taken js ≡ true → is_member h taken ≡ true → get_or placed h None ≡ Some s
    → get_or (serial_from p placed js) h None ≡ Some s
placed_stays p [] taken placed h s turns has is = is
placed_stays p (j ∷ js) taken placed h s turns has is =
    let turn = turn_parts p taken j js turns in
    let other : h ≢ j = λ same. both_ways (is_member j taken) (eligible_not p taken j turn.1) (subst (λ (x : ℕ). is_member x taken ≡ true) same has) in
    placed_stays p js (taken ++ j ∷ []) (set placed j (Some (earliest p placed j))) h s turn.2
    (member_other h j taken other ∙ has) (get_or-set_other placed j h
    (Some (earliest p placed j)) None other ∙ is)

-- the activities that a word places, and those of a word that continues it
pub serial_append : (p : Problem) (placed : List (Option ℕ)) (js ks : List ℕ) → serial_from p placed (js ++ ks) ≡ serial_from p (serial_from p placed js) ks
serial_append p placed [] ks = refl
serial_append p placed (j ∷ js) ks = serial_append p (set placed j (Some (earliest p placed j))) js ks

pub placed_append : (i : Planned) (u v : List ℕ) → placed_by i (u ++ v) ≡ serial_from (problem_of i) (placed_by i u) (places v)
placed_append i u v = ap (serial_from (problem_of i) (unplaced (depth_of i))) (places_append u v) ∙ serial_append (problem_of i) (unplaced (depth_of i)) (places u) (places v)

-- the activities that a word places are feasible so far, and are its letters
pub word_partial : (i : Planned) (w : List ℕ) → IsInstance i → IsWord i w → IsPartial (problem_of i) (placed_by i w) × TakenIs (placed_by i w) (places w)
word_partial i w instance word =
    partial_after (problem_of i) (places w) [] (unplaced (depth_of i)) instance.fit (partial_first (problem_of i)) (taken_first (depth_of i)) (word_turns i [] w word).turns

-- each start of a word is one of every full word that begins with it
start_stays : (i : Planned) (u v : List ℕ) (j s : ℕ) → IsInstance i → IsWord i (u ++ v) → get_or (placed_by i u) j None ≡ Some s → get_or (starts_by i (u ++ v)) j 0 ≡ s
unfolding serial
start_stays i u v j s instance word is =
    let parts = word_split i [] u v word in
    let has : is_member j (places u) ≡ true = sym ((word_partial i u instance parts.0).1 j) ∙ ap is_some is in
    let stays : get_or (serial_from (problem_of i) (placed_by i u) (places v)) j None ≡ Some s =
    placed_stays (problem_of i) (places v) (places u) (placed_by i u) j s (word_turns i u v parts.1).turns has is in
    start_at (placed_by i (u ++ v)) j s (ap (λ (xs : List (Option ℕ)). get_or xs j None) (placed_append i u v) ∙ stays)

reach_fits : (i : Planned) (u v : List ℕ) (j : ℕ) → IsInstance i → IsFullWord i (u ++ v) → j < depth_of i → reach_of i (placed_by i u) j ≤ makespan (problem_of i) (starts_by i (u ++ v))
unfolding ProjectFullIsActive
reach_fits i u v j instance full inside = by_start (get_or (placed_by i u) j None) refl where
  feasible : IsFeasible (problem_of i) (starts_by i (u ++ v))
  feasible = (full_is_active i (u ++ v) instance full).feasible

  by_start : (start : Option ℕ) → get_or (placed_by i u) j None ≡ start → reach_of i (placed_by i u) j ≤ makespan (problem_of i) (starts_by i (u ++ v))
  by_start None is = let none : reach_of i (placed_by i u) j ≡ 0 = ap (end_from (tail_of i.project.network (suc j))) is in omega (arith, none)
  by_start (Some s) is =
      let here : reach_of i (placed_by i u) j ≡ s + tail_of i.project.network (suc j) = ap (end_from (tail_of i.project.network (suc j))) is in
      let fits : get_or (starts_by i (u ++ v)) (suc j - 1) 0 + tail_of i.project.network (suc j) ≤ makespan (problem_of i) (starts_by i (u ++ v)) =
      tail_fits i (starts_by i (u ++ v)) (suc j) instance.project.network feasible (omega arith, omega (arith, inside, count-problem i)) in
      let place : suc j - 1 ≡ j = omega arith in
      omega (arith, here, fits, start_stays i u v j s instance full.0 is, ap (λ (x : ℕ). get_or (starts_by i (u ++ v)) x 0) place)

-- the bound is a lower bound
pub bound_holds : ProjectBoundHolds
unfolding ProjectBoundHolds ProjectFullIsActive bound_of makespan_by
bound_holds i u v instance full =
    let reach : greatest_below (depth_of i) (reach_of i (placed_by i u)) ≤ makespan (problem_of i) (starts_by i (u ++ v)) =
    greatest_least (depth_of i) (reach_of i (placed_by i u)) (makespan (problem_of i) (starts_by i (u ++ v))) (λ j inside. reach_fits i u v j instance full inside) in
    omega (arith, reach, least_fits i (starts_by i (u ++ v)) instance (full_is_active i (u ++ v) instance full).feasible)
