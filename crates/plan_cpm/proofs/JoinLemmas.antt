-- Paths joined at an activity, with consequences for finishes, tails and starts.
use Rattle.std.proofs.Common.{ℕ, ◌≡◌, ◌+◌, ◌-◌, ◌≤◌, ◌<◌, ◌⊎◌, inl, inr, List, [], ◌∷◌, ◌++◌, length, get_or, refl, sym, ap, subst, arith, below_more}
use Rattle.std.proofs.lemmas.List.{get_or_append_left, get_or_push}
use Rattle.plan_net.specs.Network.{Net, IsArc, IsActivity, IsGreatest, lag_of, duration_of}
use Rattle.plan_net.specs.Path.{IsWalk, last_of, length_after, path_length}
use Rattle.plan_net.specs.Limits.{IsWithinLimits}
use Rattle.plan_net.proofs.PathLemmas.{last_of-append, IsWalk-append, length_after-append}
use Rattle.plan_net.proofs.RowLemmas.{arc_ends}
use Rattle.plan_cpm.specs.Lengths.{IsLength, IsLengthTo, IsLengthFrom, AreFinishes}
use Rattle.plan_cpm.specs.Dates.{IsNextStart}

-- an activity finishes no earlier than its duration
pub lasts : (net : Net) (j finish : ℕ) → IsActivity net j → IsGreatest (IsLengthTo net j) finish → duration_of net j ≤ finish
lasts net j finish activity greatest =
    let alone : duration_of net j + 0 ≤ finish = greatest.1 (duration_of net j + 0) (j, [], (activity, tt), refl, refl) in
    omega (arith, alone)

-- the tail of an activity is no shorter than its duration
pub remains : (net : Net) (j tail : ℕ) → IsActivity net j → IsGreatest (IsLengthFrom net j) tail → duration_of net j ≤ tail
remains net j tail activity greatest =
    let alone : duration_of net j + 0 ≤ tail = greatest.1 (duration_of net j + 0) ([], (activity, tt), refl) in
    omega (arith, alone)

-- a successor finishes no earlier than after its predecessor, the lag and its duration
pub after_finish : (net : Net) (j k early late : ℕ) → IsArc net j k → IsGreatest (IsLengthTo net j) early → IsGreatest (IsLengthTo net k) late → early + lag_of net j k + duration_of net k ≤ late
after_finish net j k early late arc first second =
    let path = first.0 in
    let arc' : IsArc net (last_of path.0 path.1) k = subst (λ (x : ℕ). IsArc net x k) (sym path.3) arc in
    let same : lag_of net (last_of path.0 path.1) k ≡ lag_of net j k = ap (λ (x : ℕ). lag_of net x k) path.3 in
    let longer : path_length net path.0 (path.1 ++ k ∷ []) ≤ late =
    second.1 (path_length net path.0 (path.1 ++ k ∷ [])) (
      path.0,
      path.1 ++ k ∷ [],
      (path.2.0, IsWalk-append net path.0 path.1 (k ∷ []) path.2.1 (arc', tt)),
      last_of-append path.0 path.1 (k ∷ []),
      refl,
    ) in
    omega (arith, longer, length_after-append net path.0 path.1 (k ∷ []), path.4, same)

-- a predecessor's tail is no shorter than its duration, the lag and the tail after it
pub before_tail : (net : Net) (j k long short : ℕ) → IsActivity net j → IsArc net j k →
    IsGreatest (IsLengthFrom net j) long → IsGreatest (IsLengthFrom net k) short →
    duration_of net j + lag_of net j k + short ≤ long
before_tail net j k long short activity arc first second =
    let path = second.0 in
    let longer : path_length net j (k ∷ path.0) ≤ long = first.1 (path_length net j (k ∷ path.0)) (k ∷ path.0, (activity, (arc, path.1.1)), refl) in
    omega (arith, longer, path.2)

-- a path to an activity and one from it make a path
pub through : (net : Net) (j finish tail duration : ℕ) → IsGreatest (IsLengthTo net j) finish →
    IsGreatest (IsLengthFrom net j) tail → IsGreatest (IsLength net) duration →
    tail + finish ≤ duration + duration_of net j
through net j finish tail duration first second all =
    let to = first.0 in
    let from = second.0 in
    let on : IsWalk net (last_of to.0 to.1) from.0 = subst (λ (x : ℕ). IsWalk net x from.0) (sym to.3) from.1.1 in
    let same : length_after net (last_of to.0 to.1) from.0 ≡ length_after net j from.0 = ap (λ (x : ℕ). length_after net x from.0) to.3 in
    let whole : path_length net to.0 (to.1 ++ from.0) ≤ duration = all.1 (path_length net to.0 (to.1 ++ from.0)) (to.0, to.1 ++ from.0, (to.2.0, IsWalk-append net to.0 to.1 from.0 to.2.1 on), refl) in
    omega (arith, whole, length_after-append net to.0 to.1 from.0, to.4, from.2, same)

-- no activity finishes after the project duration
pub within_all : (net : Net) (j finish duration : ℕ) → IsGreatest (IsLengthTo net j) finish → IsGreatest (IsLength net) duration → finish ≤ duration
within_all net j finish duration first all = let to = first.0 in all.1 finish (to.0, to.1, to.2, to.4)

-- an activity finishes no later than the next has to start
pub finish_at_most_next : (net : Net) (finishes : List ℕ) (duration j v : ℕ) → IsWithinLimits net →
    AreFinishes net finishes → IsGreatest (IsLength net) duration → IsActivity net j →
    IsNextStart net finishes duration j v → get_or finishes (j - 1) 0 ≤ v
finish_at_most_next net finishes duration j v limits are all activity next = by_case next.reached where
  by_case : (v ≡ duration) ⊎ ((k : ℕ) × IsArc net j k × (v + lag_of net j k + duration_of net k ≡ get_or finishes (k - 1) 0)) → get_or finishes (j - 1) 0 ≤ v
  by_case (inl last) = omega (arith, last, within_all net j (get_or finishes (j - 1) 0) duration (are.greatest j activity) all)
  by_case (inr (k, arc, is)) =
      let late = are.greatest k (arc_ends net j k limits arc).1 in
      let after = after_finish net j k (get_or finishes (j - 1) 0) (get_or finishes (k - 1) 0) arc (are.greatest j activity) late in
      omega (arith, is, after)

-- one more free float is appended to the list
pub IsNextStart-push : (net : Net) (finishes list : List ℕ) (duration k value : ℕ) → length list ≡ k →
    IsNextStart net finishes duration (k + 1) (get_or finishes k 0 + value) →
    ((i : ℕ) → i < k → IsNextStart net finishes duration (i + 1) (get_or finishes i 0 + get_or list i 0)) →
    (i : ℕ) → i < k + 1 → IsNextStart net finishes duration (i + 1)
    (get_or finishes i 0 + get_or (list ++ value ∷ []) i 0)
IsNextStart-push net finishes list duration k value whole here before =
    below_more (λ i. IsNextStart net finishes duration (i + 1) (get_or finishes i 0 + get_or (list ++ value ∷ []) i 0)) k earlier
    (subst (λ (x : ℕ). IsNextStart net finishes duration (k + 1) (get_or finishes k 0 + x)) (sym (get_or_push list value 0 k whole)) here) where
      earlier : (i : ℕ) → i < k → IsNextStart net finishes duration (i + 1) (get_or finishes i 0 + get_or (list ++ value ∷ []) i 0)
      earlier i lower = subst (λ (x : ℕ). IsNextStart net finishes duration (i + 1) (get_or finishes i 0 + x)) (sym (get_or_append_left list (value ∷ []) 0 i (omega arith))) (before i lower)
