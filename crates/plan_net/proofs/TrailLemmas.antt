-- The walk from predecessor to predecessor: one step.
use Rattle.std.proofs.Common.{ℕ, suc, zero, Bool, ◌≡◌, ◌≤◌, ◌<◌, ◌⊎◌, inl, inr, List, [], ◌∷◌, ◌++◌, length, get_or, sym, subst, arith}
use Rattle.std.specs.List.{Contains}
use Rattle.std.proofs.lemmas.List.{length_push, get_or_append_left, get_or_push}
use Rattle.std.proofs.lemmas.Bool.{cases_lt}
use Rattle.plan_net.specs.Network.{Net, IsArc, IsLeast}
use Rattle.plan_net.specs.Cycle.{IsCaught, IsLeastCaughtBefore, Comes}
use Rattle.plan_net.specs.Limits.{IsWithinLimits}
use Rattle.plan_net.specs.Placed.{IsOpen}
use Rattle.plan_net.specs.Trails.{IsCaughtOpen, IsTrail}
use Rattle.plan_net.proofs.RowLemmas.{arc_ends}
use Rattle.plan_net.proofs.RisingLemmas.{HoldsOnce-push, least_once}

-- the least open predecessor is the least one in the largest set, if that set is the open
-- activities
pub least_before : (net : Net) (placed : List Bool) (at i : ℕ) → IsWithinLimits net → IsCaughtOpen net placed → IsLeast (λ h. IsArc net h at × IsOpen placed h) i → IsLeastCaughtBefore net at i
least_before net placed at i limits open_ones least =
    (((open_ones i).1 ((arc_ends net i at limits least.0.0).0, least.0.1), least.0.0), λ v both. least.1 v (both.1, ((open_ones v).0 both.0).1))

-- a step of the walk
pub IsTrail-push : (net : Net) (trail : List ℕ) (at i : ℕ) → IsTrail net trail at → (Contains trail at → ⊥) → IsLeastCaughtBefore net at i → IsTrail net (trail ++ at ∷ []) i
IsTrail-push net trail at i walked fresh before = record {
  once = HoldsOnce-push trail at walked.once fresh;
  steps = λ k within. steps k within (cases_lt k (length trail));
  next = let more : suc (length trail) ≡ length (trail ++ at ∷ []) = omega (arith, length_push trail at) in subst (λ (n : ℕ). Comes net n i) more (at, walked.next, before);
} where
  last : (k : ℕ) → length trail ≤ k → k < length (trail ++ at ∷ []) → length trail ≡ k
  last k higher lower = omega (arith, length_push trail at)

  steps : (k : ℕ) → k < length (trail ++ at ∷ []) → (k < length trail) ⊎ (length trail ≤ k) → Comes net k (get_or (trail ++ at ∷ []) k 0)
  steps k within (inl earlier) = subst (Comes net k) (sym (get_or_append_left trail (at ∷ []) 0 k earlier)) (walked.steps k earlier)
  steps k within (inr higher) =
      subst (Comes net k) (sym (get_or_push trail at 0 k (last k higher within))) (subst (λ (n : ℕ). Comes net n at) (last k higher within) walked.next)

-- the walk reaches exactly one activity by a number of steps
pub comes_once : (net : Net) (steps a b : ℕ) → Comes net steps a → Comes net steps b → a ≡ b
comes_once net zero a b first second = least_once (IsCaught net) a b first second
comes_once net (suc steps) a b (h, comes_h, before_a) (k, comes_k, before_b) =
    let same : h ≡ k = comes_once net steps h k comes_h comes_k in
    let before_a' : IsLeastCaughtBefore net k a = subst (λ (x : ℕ). IsLeastCaughtBefore net x a) same before_a in
    least_once (λ g. IsCaught net g × IsArc net g k) a b before_a' before_b

-- one more step of the walk
pub step_from : (net : Net) (steps k j : ℕ) → Comes net steps k → Comes net (suc steps) j → IsLeastCaughtBefore net k j
step_from net steps k j comes (h, comes_h, before) = subst (λ (x : ℕ). IsLeastCaughtBefore net x j) (comes_once net steps h k comes_h comes) before
