-- A path without a cycle is at most as long as all durations and the lags between them.
use Rattle.std.proofs.Common.{ℕ, suc, zero, ◌≡◌, ◌≢◌, ◌+◌, ◌-◌, ◌*◌, ◌≤◌, ◌<◌, ◌⊎◌, inl, inr, List, [], ◌∷◌, length, get_or, set, sum, refl, sym, ap, arith, get_or-set_other}
use Rattle.std.specs.List.{Contains}
use Rattle.std.proofs.lemmas.List.{length-set, set_past, get_or_past}
use Rattle.std.proofs.lemmas.List.Sums.{sum_by-set, sum_by-cons}
use Rattle.std.proofs.lemmas.Bool.{cases_lt}
use Rattle.std.proofs.Math.Nat.{mul-suc}
use Rattle.plan_net.specs.Network.{Net, count_of, IsArc, IsActivity, IsGreatest, lag_of}
use Rattle.plan_net.specs.Path.{IsWalk, IsPath, IsAcyclic, last_of, length_after, path_length}
use Rattle.plan_net.specs.Limits.{IsWithinLimits, IsSound}
use Rattle.plan_net.specs.declared.limits.TheConstants.{LONGEST_LAG}
use Rattle.plan_net.proofs.RowLemmas.{arc_ends}
use Rattle.plan_net.proofs.LagLemmas.{lag_of-limit}
use Rattle.plan_cpm.specs.Lengths.{IsLength, HasNoLag}

-- no number of the list recurs
AreDistinct : List ℕ → Type 0
AreDistinct [] = Unit {0}
AreDistinct (j ∷ js) = (Contains js j → ⊥) × AreDistinct js

-- each number of the list is an index of another list, counted from 1
ArePlaces : List ℕ → List ℕ → Type 0
ArePlaces xs [] = Unit {0}
ArePlaces xs (j ∷ js) = (1 ≤ j) × (j ≤ length xs) × ArePlaces xs js

-- the sum of the entries at the indices of those activities
total_at : List ℕ → List ℕ → ℕ
total_at xs [] = 0
total_at xs (j ∷ js) = get_or xs (j - 1) 0 + total_at xs js

-- one element of a sum is removed
sum-without : (xs : List ℕ) (k : ℕ) → sum (set xs k 0) + get_or xs k 0 ≡ sum xs
sum-without [] k = refl
sum-without (x ∷ xs) k = by_case (cases_lt k (length (x ∷ xs))) where
  by_case : (k < length (x ∷ xs)) ⊎ (length (x ∷ xs) ≤ k) → sum (set (x ∷ xs) k 0) + get_or (x ∷ xs) k 0 ≡ sum (x ∷ xs)
  by_case (inl within) = let taken : sum (set (x ∷ xs) k 0) + get_or (x ∷ xs) k 0 ≡ sum (x ∷ xs) + 0 = sum_by-set (λ y. y) (x ∷ xs) k 0 0 within in omega (arith, taken)
  by_case (inr past) = omega (arith, ap sum (set_past (x ∷ xs) k 0 past), get_or_past (x ∷ xs) k 0 past)

Contains-nil : {x : ℕ} → Contains [] x → ⊥
Contains-nil (k, within, is) = omega arith

-- an element outside the list doesn't affect the sum
total_at-set : (xs js : List ℕ) (j v : ℕ) → 1 ≤ j → ArePlaces xs js → (Contains js j → ⊥) → total_at (set xs (j - 1) v) js ≡ total_at xs js
unfolding total_at ArePlaces
total_at-set xs [] j v low places misses = refl
total_at-set xs (h ∷ js) j v low places misses =
    let apart : h - 1 ≢ j - 1 = λ same. let e : h ≡ j = omega (arith, same, places.0) in misses (0, omega arith, e) in
    omega (arith, get_or-set_other xs (j - 1) (h - 1) v 0 apart, total_at-set xs js j v low places.2 (λ has. misses (suc has.0, omega (arith, has.1), has.2)))

ArePlaces-set : (xs js : List ℕ) (k v : ℕ) → ArePlaces xs js → ArePlaces (set xs k v) js
unfolding ArePlaces
ArePlaces-set xs [] k v places = tt
ArePlaces-set xs (j ∷ js) k v places = (places.0, omega (arith, places.1, length-set xs k v), ArePlaces-set xs js k v places.2)

-- the entries at distinct indices add up to at most the whole sum
total_at-most : (xs js : List ℕ) → AreDistinct js → ArePlaces xs js → total_at xs js ≤ sum xs
unfolding AreDistinct ArePlaces total_at
total_at-most xs [] distinct places = omega arith
total_at-most xs (j ∷ js) distinct places =
    let rest : total_at (set xs (j - 1) 0) js ≤ sum (set xs (j - 1) 0) = total_at-most (set xs (j - 1) 0) js distinct.1 (ArePlaces-set xs js (j - 1) 0 places.2) in
    let same : total_at (set xs (j - 1) 0) js ≡ total_at xs js = total_at-set xs js j 0 places.0 places.2 distinct.0 in
    omega (arith, rest, same, sum-without xs (j - 1))

-- as many distinct indices need as long a list
ones : ℕ → List ℕ
ones zero = []
ones (suc n) = 1 ∷ ones n

length-ones : (n : ℕ) → length (ones n) ≡ n
unfolding ones
length-ones zero = refl
length-ones (suc n) = ap suc (length-ones n)

get_or-ones : (n k : ℕ) → k < n → get_or (ones n) k 0 ≡ 1
unfolding ones
get_or-ones zero k within = absurd (omega arith)
get_or-ones (suc n) zero within = refl
get_or-ones (suc n) (suc k) within = get_or-ones n k (omega arith)

sum-ones : (n : ℕ) → sum (ones n) ≡ n
unfolding ones
sum-ones zero = refl
sum-ones (suc n) = let rest : sum (1 ∷ ones n) ≡ 1 + sum (ones n) = sum_by-cons (λ y. y) 1 (ones n) in omega (arith, rest, sum-ones n)

total_at-ones : (n : ℕ) (js : List ℕ) → ArePlaces (ones n) js → total_at (ones n) js ≡ length js
unfolding ArePlaces total_at
total_at-ones n [] places = refl
total_at-ones n (j ∷ js) places =
    let long : length (ones n) ≡ n = length-ones n in
    let one : get_or (ones n) (j - 1) 0 ≡ 1 = get_or-ones n (j - 1) (omega (arith, places.0, places.1, long)) in
    omega (arith, one, total_at-ones n js places.2)

ArePlaces-same : (xs ys js : List ℕ) → length xs ≡ length ys → ArePlaces xs js → ArePlaces ys js
unfolding ArePlaces
ArePlaces-same xs ys [] same places = tt
ArePlaces-same xs ys (j ∷ js) same places = (places.0, omega (arith, places.1, same), ArePlaces-same xs ys js same places.2)

few : (xs js : List ℕ) → AreDistinct js → ArePlaces xs js → length js ≤ length xs
few xs js distinct places =
    let n = length xs in
    let places' : ArePlaces (ones (length xs)) js = ArePlaces-same xs (ones (length xs)) js (sym (length-ones (length xs))) places in
    omega (arith, total_at-most (ones (length xs)) js distinct places', total_at-ones (length xs) js places', sum-ones (length xs))

-- a walk over an activity contains a walk to it
walk_to : (net : Net) (i : ℕ) (others : List ℕ) (x : ℕ) → IsWalk net i others → Contains others x → (front : List ℕ) × IsWalk net i front × (1 ≤ length front) × (last_of i front ≡ x)
walk_to net i [] x walk has = absurd (Contains-nil has)
walk_to net i (j ∷ others) x (arc, walk) (zero, within, is) = (j ∷ [], (arc, tt), omega arith, is)
walk_to net i (j ∷ others) x (arc, walk) (suc k, within, is) =
    let rest = walk_to net j others x walk (k, omega arith, is) in
    (j ∷ rest.0, (arc, rest.1), omega arith, rest.3)

-- on a path without a cycle no activity recurs
path_distinct : (net : Net) (i : ℕ) (others : List ℕ) → IsWithinLimits net → IsAcyclic net → IsActivity net i → IsWalk net i others → AreDistinct (i ∷ others)
unfolding AreDistinct
path_distinct net i [] limits acyclic activity walk = (Contains-nil, tt)
path_distinct net i (j ∷ others) limits acyclic activity (arc, walk) = (again, path_distinct net j others limits acyclic (arc_ends net i j limits arc).1 walk) where
  again : Contains (j ∷ others) i → ⊥
  again has =
      let back = walk_to net i (j ∷ others) i (arc, walk) has in
      acyclic i back.0 ((activity, back.1), back.2, back.3)

path_places : (net : Net) (i : ℕ) (others : List ℕ) → IsWithinLimits net → IsActivity net i → IsWalk net i others → ArePlaces net.durations (i ∷ others)
unfolding ArePlaces
path_places net i [] limits activity walk = (activity.0, activity.1, tt)
path_places net i (j ∷ others) limits activity (arc, walk) = (activity.0, activity.1, path_places net j others limits (arc_ends net i j limits arc).1 walk)

-- a walk lasts at most its durations plus the greatest lag for each arc
length_after-most : (net : Net) (most i : ℕ) (others : List ℕ) →
    ((h k : ℕ) → IsArc net h k → lag_of net h k ≤ most) → IsWalk net i others →
    length_after net i others ≤ total_at net.durations others + most * length others
unfolding total_at
length_after-most net most i [] lags walk = omega arith
length_after-most net most i (j ∷ others) lags (arc, walk) =
    let lag : lag_of net i j ≤ most = lags i j arc in
    let rest : length_after net j others ≤ total_at net.durations others + most * length others = length_after-most net most j others lags walk in
    let more : most * suc (length others) ≡ most * length others + most = mul-suc most (length others) in
    omega (arith, lag, rest, more)

-- a path is at most as long as all durations plus the greatest lag for each activity but one
pub path_bound : (net : Net) (i : ℕ) (others : List ℕ) → IsSound net → IsPath net i others → path_length net i others ≤ sum net.durations + LONGEST_LAG * (count_of net - 1)
unfolding total_at
path_bound net i others sound path =
    let distinct = path_distinct net i others sound.limits sound.acyclic path.0 path.1 in
    let places = path_places net i others sound.limits path.0 path.1 in
    let most : length_after net i others ≤ total_at net.durations others + 10000 * length others = length_after-most net 10000 i others (λ h k arc. lag_of-limit net h k sound.limits.lags) path.1 in
    let all : total_at net.durations (i ∷ others) ≤ sum net.durations = total_at-most net.durations (i ∷ others) distinct places in
    let count : length (i ∷ others) ≤ count_of net = few net.durations (i ∷ others) distinct places in
    omega (arith, most, all, count)

-- without lags a path is at most as long as all durations
pub path_bound_without_lags : (net : Net) (i : ℕ) (others : List ℕ) → IsSound net → HasNoLag net → IsPath net i others → path_length net i others ≤ sum net.durations
unfolding total_at
path_bound_without_lags net i others sound none path =
    let distinct = path_distinct net i others sound.limits sound.acyclic path.0 path.1 in
    let places = path_places net i others sound.limits path.0 path.1 in
    let most : length_after net i others ≤ total_at net.durations others + 0 * length others = length_after-most net 0 i others (λ h k arc. omega (arith, none h k arc)) path.1 in
    let all : total_at net.durations (i ∷ others) ≤ sum net.durations = total_at-most net.durations (i ∷ others) distinct places in
    omega (arith, most, all)

-- so is the longest path
pub duration_bound : (net : Net) (duration : ℕ) → IsSound net → IsGreatest (IsLength net) duration → duration ≤ sum net.durations + LONGEST_LAG * (count_of net - 1)
duration_bound net duration sound greatest =
    let path = greatest.0 in
    let most : path_length net path.0 path.1 ≤ sum net.durations + LONGEST_LAG * (count_of net - 1) = path_bound net path.0 path.1 sound path.2 in
    omega (arith, most, path.3)

pub duration_bound_without_lags : (net : Net) (duration : ℕ) → IsSound net → IsGreatest (IsLength net) duration → HasNoLag net → duration ≤ sum net.durations
duration_bound_without_lags net duration sound greatest none =
    let path = greatest.0 in
    let most : path_length net path.0 path.1 ≤ sum net.durations = path_bound_without_lags net path.0 path.1 sound none path.2 in
    omega (arith, most, path.3)

-- and has at most as many activities as the network
pub path_count : (net : Net) (i : ℕ) (others : List ℕ) → IsSound net → IsPath net i others → length others < count_of net
path_count net i others sound path = omega (
  arith,
  few net.durations (i ∷ others)
      (path_distinct net i others sound.limits sound.acyclic path.0 path.1)
      (path_places net i others sound.limits path.0 path.1),
)
