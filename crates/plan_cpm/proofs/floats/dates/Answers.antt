use Rattle.std.proofs.Common.{ℕ, ◌≡◌, ◌+◌, ◌*◌, ◌-◌, ◌<◌, ◌≤◌, List, length, get_or, sum, sym, subst, ap, arith}
use Rattle.plan_net.specs.Network.{count_of}
use Rattle.plan_net.specs.declared.limits.TheConstants.{LONGEST_LAG}
use Rattle.plan_cpm.specs.Dates.{DateTable, AreDates, AreFreeFloats, KeepRecurrences, LeavesTails}
use Rattle.plan_cpm.proofs.DateLemmas.{duration_greatest, AreParts, IsConsistent-from_parts, AreDates-from_parts, KeepRecurrences-from_parts, LeavesTails-from_parts}
use Rattle.plan_cpm.proofs.BoundLemmas.{duration_bound, duration_bound_without_lags}
use Rattle.plan_cpm.proofs.floats.dates.Goals as goal

pub greatest-duration-requires : goal.greatest-duration-requires
greatest-duration-requires c =
    let whole : length c.in_ok-finishes.finishes.items ≡ count_of c.args.network.now = c.in_ok-finishes.ensures.whole in
    let some : 2 ≤ count_of c.args.network.now = c.len-count.ensures.sound.limits.size.0 in
    let read : length c.deref.result.now ≡ length c.in_ok-finishes.finishes.items = ap length c.deref.ensures.value in
    omega arith

pub free_floats-requires-clause-duration : goal.free_floats-requires-clause-duration
free_floats-requires-clause-duration c =
    duration_greatest c.args.network.now c.in_ok-finishes.finishes.items c.greatest-duration.result c.len-count.ensures.sound.limits c.in_ok-finishes.ensures
    (subst (λ (xs : List ℕ). (k : ℕ) × (k < length xs) × (get_or xs k 0 ≡ c.greatest-duration.result)) c.deref.ensures.value c.greatest-duration.ensures.reached)
    (subst (λ (xs : List ℕ). (k : ℕ) → k < length xs → get_or xs k 0 ≤ c.greatest-duration.result) c.deref.ensures.value c.greatest-duration.ensures.above)

pub from_parts-requires : goal.from_parts-requires
from_parts-requires c =
    let net = c.args.network.now in
    let table : DateTable = record {
      duration = c.greatest-duration.result;
      durations =
          c.in_ok-durations.durations.items;
      finishes = c.in_ok-finishes.finishes.items;
      tails =
          c.in_ok-after.after.items;
      free_floats = c.in_ok-floats.floats.items;
    } in
    let top = subst (λ (xs : List ℕ). (k : ℕ) × (k < length xs) × (get_or xs k 0 ≡ c.greatest-duration.result)) c.deref.ensures.value c.greatest-duration.ensures.reached in
    let high = subst (λ (xs : List ℕ). (k : ℕ) → k < length xs → get_or xs k 0 ≤ c.greatest-duration.result) c.deref.ensures.value c.greatest-duration.ensures.above in
    let floats = subst (λ (xs : List ℕ). AreFreeFloats net xs c.greatest-duration.result c.in_ok-floats.floats.items) c.deref-2.ensures.value c.in_ok-floats.ensures in
    IsConsistent-from_parts net table
    (record {
      limits = c.len-count.ensures.sound.limits;
      durations = c.in_ok-durations.ensures;
      finishes = c.in_ok-finishes.ensures;
      tails = c.in_ok-after.ensures;
      duration = duration_greatest net c.in_ok-finishes.finishes.items c.greatest-duration.result c.len-count.ensures.sound.limits c.in_ok-finishes.ensures top high;
      free_floats = floats;
    })

pub returns : goal.returns
returns c =
    let net = c.args.network.now in
    let table : DateTable = record {
      duration = c.greatest-duration.result;
      durations =
          c.in_ok-durations.durations.items;
      finishes = c.in_ok-finishes.finishes.items;
      tails =
          c.in_ok-after.after.items;
      free_floats = c.in_ok-floats.floats.items;
    } in
    let top : (k : ℕ) × (k < length c.in_ok-finishes.finishes.items)
    × (get_or c.in_ok-finishes.finishes.items k 0 ≡ c.greatest-duration.result) =
    subst (λ (xs : List ℕ). (k : ℕ) × (k < length xs) × (get_or xs k 0 ≡ c.greatest-duration.result))
    c.deref.ensures.value c.greatest-duration.ensures.reached in
    let high = subst (λ (xs : List ℕ). (k : ℕ) → k < length xs → get_or xs k 0 ≤ c.greatest-duration.result) c.deref.ensures.value c.greatest-duration.ensures.above in
    let floats = subst (λ (xs : List ℕ). AreFreeFloats net xs c.greatest-duration.result c.in_ok-floats.floats.items) c.deref-2.ensures.value c.in_ok-floats.ensures in
    let parts : AreParts net table =
    record {
      limits = c.len-count.ensures.sound.limits;
      durations = c.in_ok-durations.ensures;
      finishes = c.in_ok-finishes.ensures;
      tails = c.in_ok-after.ensures;
      duration = duration_greatest net c.in_ok-finishes.finishes.items c.greatest-duration.result c.len-count.ensures.sound.limits c.in_ok-finishes.ensures top high;
      free_floats = floats;
    } in
    let same : c.from_parts.result ≡ table = c.from_parts.ensures in
    record {
      dates = subst (AreDates net) (sym same) (AreDates-from_parts net table parts);
      recurrences = subst (KeepRecurrences net) (sym same) (KeepRecurrences-from_parts net table parts top);
      tails = subst (LeavesTails net) (sym same) (LeavesTails-from_parts net table parts);
      bound = subst (λ (made : DateTable). made.duration ≤ sum net.durations + LONGEST_LAG *
          (count_of net - 1)) (sym same) (duration_bound net table.duration c.len-count.ensures.sound
          parts.duration);
      bound_without_lags = λ none. subst (λ (made : DateTable). made.duration ≤ sum net.durations) (sym same)
          (duration_bound_without_lags net table.duration c.len-count.ensures.sound parts.duration none);
    }
