-- Walks and paths: one more arc at the end, two joined, and the named cycle as a cycle.
use Rattle.std.proofs.Common.{ℕ, suc, ◌≡◌, ◌+◌, ◌-◌, ◌<◌, List, [], ◌∷◌, ◌++◌, length, get_or, drop, refl, subst, arith}
use Rattle.std.proofs.lemmas.List.{length-append}
use Rattle.plan_net.specs.Network.{Net, IsArc, duration_of, lag_of}
use Rattle.plan_net.specs.Path.{IsWalk, IsCycle, last_of, length_after}
use Rattle.plan_net.specs.Cycle.{IsNamedCycle}
use Rattle.plan_net.specs.Limits.{IsWithinLimits}
use Rattle.plan_net.proofs.RowLemmas.{arc_ends}

-- the end of two walks, one after the other
pub last_of-append : (i : ℕ) (others more : List ℕ) → last_of i (others ++ more) ≡ last_of (last_of i others) more
last_of-append i [] more = refl
last_of-append i (j ∷ others) more = last_of-append j others more

-- a walk that continues another
pub IsWalk-append : (net : Net) (i : ℕ) (others more : List ℕ) → IsWalk net i others → IsWalk net (last_of i others) more → IsWalk net i (others ++ more)
IsWalk-append net i [] more walk after = after
IsWalk-append net i (j ∷ others) more (arc, walk) after = (arc, IsWalk-append net j others more walk after)

-- the length of two walks, one after the other
pub length_after-append : (net : Net) (i : ℕ) (others more : List ℕ) → length_after net i (others ++ more) ≡ length_after net i others + length_after net (last_of i others) more
length_after-append net i [] more = omega arith
length_after-append net i (j ∷ others) more = omega (arith, length_after-append net j others more)

-- the last arc of a walk, and the walk before it
pub record LastArc (net : Net) (i j : ℕ) (others : List ℕ) : Type 0 where
  pub before : List ℕ
  pub walk : IsWalk net i before
  pub arc : IsArc net (last_of i before) (last_of j others)
  pub longer : length_after net i (j ∷ others) ≡ length_after net i before + lag_of net (last_of i before) (last_of j others) + duration_of net (last_of j others)

pub last_arc : (net : Net) (i j : ℕ) (others : List ℕ) → IsWalk net i (j ∷ others) → LastArc net i j others
last_arc net i j [] (arc, walk) = record { before = []; walk = tt; arc = arc; longer = omega arith }
last_arc net i j (k ∷ others) (arc, walk) =
    let last = last_arc net j k others walk in
    record { before = j ∷ last.before; walk = (arc, last.walk); arc = last.arc; longer = omega (arith, last.longer) }

-- a walk over the members of a list and one more activity
walk_closes : (net : Net) (i : ℕ) (rest : List ℕ) (end : ℕ) →
    ((k : ℕ) → k + 1 < length (i ∷ rest) → IsArc net (get_or (i ∷ rest) k 0) (get_or (i ∷ rest) (k + 1) 0)) →
    IsArc net (get_or (i ∷ rest) (length (i ∷ rest) - 1) 0) end → IsWalk net i (rest ++ end ∷ [])
walk_closes net i [] end along last = (last, tt)
walk_closes net i (j ∷ rest) end along last = (along 0 (omega arith), walk_closes net j rest end after last') where
  after : (k : ℕ) → k + 1 < length (j ∷ rest) → IsArc net (get_or (j ∷ rest) k 0) (get_or (j ∷ rest) (k + 1) 0)
  after k within =
      let next : suc k + 1 ≡ suc (k + 1) = omega arith in
      subst (λ (x : ℕ). IsArc net (get_or (j ∷ rest) k 0) (get_or (i ∷ j ∷ rest) x 0)) next (along (suc k) (omega arith))

  last' : IsArc net (get_or (j ∷ rest) (length (j ∷ rest) - 1) 0) end
  last' =
      let place : length (i ∷ j ∷ rest) - 1 ≡ suc (length (j ∷ rest) - 1) = omega arith in
      subst (λ (x : ℕ). IsArc net (get_or (i ∷ j ∷ rest) x 0) end) place last

-- the named cycle, followed by its first member, is a cycle
pub IsCycle-from_named : (net : Net) (members : List ℕ) → IsWithinLimits net → IsNamedCycle net members → IsCycle net (get_or members 0 0) (drop 1 members ++ get_or members 0 0 ∷ [])
IsCycle-from_named net [] limits named = absurd (omega (arith, named.some))
IsCycle-from_named net (i ∷ rest) limits named = (
  ((arc_ends net (get_or (i ∷ rest) (length (i ∷ rest) - 1) 0) i limits named.around.0.1).1, walk_closes net i rest i (λ k within. (named.along k within).0.1) named.around.0.1),
  omega (arith, length-append rest (i ∷ [])),
  last_of-append i rest (i ∷ []),
)
