-- A network is sound if its order contains all activities, and remains sound after a change of a
-- lag.
use Rattle.std.proofs.Common.{ℕ, Bool, ◌≡◌, ◌≤◌, List, [], ◌∷◌, length, Result, Ok, Err, sym, ◌∙◌, ap, subst, arith}
use Rattle.std.specs.Result.{OnOk, OnErr}
use Rattle.plan_net.specs.Network.{Net, count_of, IsArc, IsLeast, lag_of, with_lag}
use Rattle.plan_net.specs.Path.{IsWalk}
use Rattle.plan_net.specs.Order.{IsLeastOrder}
use Rattle.plan_net.specs.Cycle.{IsCaught}
use Rattle.plan_net.specs.Limits.{IsWithinLimits, IsSound}
use Rattle.plan_net.specs.Placed.{IsPlaced, IsOpen, IsPlacedOrder}
use Rattle.plan_net.specs.Trails.{IsCaughtOpen}
use Rattle.plan_net.specs.declared.fault.NetFault.{NetFault}
use Rattle.plan_net.specs.declared.limits.TheConstants.{LONGEST_LAG}
use Rattle.plan_net.proofs.IndexLemmas.{IsWithinLimits-with_lag}
use Rattle.plan_net.proofs.LagLemmas.{lag_of-with_lag, lag_of-with_lag_other}
use Rattle.plan_net.proofs.CaughtLemmas.{IsLeastOrder-from_turns, IsAcyclic-from_order}

-- lags don't affect walks
IsWalk-without_lag : (net : Net) (i j w h : ℕ) (others : List ℕ) → IsWalk (with_lag net i j w) h others → IsWalk net h others
IsWalk-without_lag net i j w h [] walk = tt
IsWalk-without_lag net i j w h (k ∷ others) (arc, walk) = (arc, IsWalk-without_lag net i j w k others walk)

pub IsSound-with_lag : (net : Net) (i j w : ℕ) → w ≤ LONGEST_LAG → IsSound net → IsSound (with_lag net i j w)
IsSound-with_lag net i j w good sound = record {
  limits = IsWithinLimits-with_lag net i j w good sound.limits;
  acyclic = λ h others cycle. sound.acyclic h others ((cycle.0.0, IsWalk-without_lag net i j w h others cycle.0.1), cycle.1, cycle.2);
}

pub IsLeastOrder-with_lag : (net : Net) (i j w : ℕ) (order : List ℕ) → IsLeastOrder net order → IsLeastOrder (with_lag net i j w) order
IsLeastOrder-with_lag net i j w order least = record { whole = least.whole; each = least.each; least = least.least }

-- whether a lag was changed or not, the network is sound and its order the same
pub sound_after : (net after : Net) (order : List ℕ) (i j w : ℕ) (result : Result (Unit {0}) NetFault) →
    OnOk result (IsArc net i j × (w ≤ LONGEST_LAG) × (after ≡ with_lag net i j w)) →
    OnErr result (after ≡ net) → IsSound net × IsLeastOrder net order →
    IsSound after × IsLeastOrder after order
sound_after net after order i j w (Ok done) ok err sound =
    subst (λ (n : Net). IsSound n × IsLeastOrder n order) (sym ok.2) (IsSound-with_lag net i j w ok.1 sound.0, IsLeastOrder-with_lag net i j w order sound.1)
sound_after net after order i j w (Err fault) ok err sound = subst (λ (n : Net). IsSound n × IsLeastOrder n order) (sym err) sound

-- the lag after a change is the one that was set
pub lag_after : (net after : Net) (i j w : ℕ) (result : Result (Unit {0}) NetFault) → IsSound net →
    OnOk result (IsArc net i j × (w ≤ LONGEST_LAG) × (after ≡ with_lag net i j w)) →
    OnOk result (lag_of after i j ≡ w)
lag_after net after i j w (Ok done) sound ok = ap (λ (n : Net). lag_of n i j) ok.2 ∙ lag_of-with_lag net i j w sound.limits.lags ok.0
lag_after net after i j w (Err fault) sound ok = ok

-- and all other lags are as they were
pub lags_after : (net after : Net) (i j w : ℕ) (result : Result (Unit {0}) NetFault) →
    OnOk result (IsArc net i j × (w ≤ LONGEST_LAG) × (after ≡ with_lag net i j w)) →
    OnOk result ((h k : ℕ) → ((h ≡ i) × (k ≡ j) → ⊥) → lag_of after h k ≡ lag_of net h k)
lags_after net after i j w (Ok done) ok = λ h k other. ap (λ (n : Net). lag_of n h k) ok.2 ∙ lag_of-with_lag_other net i j w h k other
lags_after net after i j w (Err fault) ok = ok

-- an order without a mark left shows that the network is sound
pub sound_from_turns : (net : Net) (order : List ℕ) (placed : List Bool) → IsWithinLimits net →
    IsPlacedOrder net order placed → ((j : ℕ) → 1 ≤ j → j ≤ length placed → IsPlaced placed j) →
    IsSound net × IsLeastOrder net order
sound_from_turns net order placed limits turns each =
    let whole : IsLeastOrder net order = IsLeastOrder-from_turns net order placed turns (λ j activity. each j activity.0 (omega (arith, activity.1, turns.whole))) in
    (record { limits = limits; acyclic = IsAcyclic-from_order net order whole }, whole)

-- the least open activity is the least caught one
pub least_caught : (net : Net) (placed : List Bool) (first : ℕ) → length placed ≡ count_of net →
    IsCaughtOpen net placed → IsLeast (λ h. (1 ≤ h) × (h ≤ length placed) × IsOpen placed h) first →
    IsLeast (IsCaught net) first
least_caught net placed first whole open_ones least = (
  (open_ones first).1 ((least.0.0, omega (arith, least.0.1, whole)), least.0.2),
  λ v caught. let here = (open_ones v).0 caught in least.1 v (here.0.0, omega (arith, here.0.1, whole), here.1),
)
