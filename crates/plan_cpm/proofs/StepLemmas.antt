-- One step of each pass, over plain numbers.
use Rattle.std.proofs.Common.{ℕ, max, below_more, get_or, ◌≡◌, ◌+◌, ◌-◌, ◌≤◌, ◌<◌, ◌⊎◌, inl, inr, List, [], ◌∷◌, ◌++◌, refl, sym, ap, subst, arith}
use Rattle.plan_net.specs.Network.{Net, IsArc, IsActivity, IsGreatest, lag_of, duration_of}
use Rattle.std.proofs.lemmas.Bool.{cases_lt}
use Rattle.plan_net.specs.Path.{last_of, path_length}
use Rattle.plan_net.specs.Limits.{HasGoodLags}
use Rattle.plan_net.proofs.LagLemmas.{lag_of-limit}
use Rattle.plan_net.proofs.PathLemmas.{last_of-append, IsWalk-append, length_after-append, LastArc, last_arc}
use Rattle.plan_cpm.specs.Lengths.{IsLengthTo, IsLengthFrom}

-- one step of the forward pass: `start` is the greatest finish and lag of a predecessor, or 0
pub finish_step : (net : Net) (j : ℕ) (finish : ℕ → ℕ) (start : ℕ) → IsActivity net j →
    ((i : ℕ) → IsArc net i j → IsGreatest (IsLengthTo net i) (finish i)) →
    ((i : ℕ) → IsArc net i j → finish i + lag_of net i j ≤ start) →
    (start ≡ 0) ⊎ ((i : ℕ) × IsArc net i j × (start ≡ finish i + lag_of net i j)) →
    IsGreatest (IsLengthTo net j) (start + duration_of net j)
finish_step net j finish start activity done above reached = (some reached, every) where
  some : (start ≡ 0) ⊎ ((i : ℕ) × IsArc net i j × (start ≡ finish i + lag_of net i j)) → IsLengthTo net j (start + duration_of net j)
  some (inl none) = (j, [], (activity, tt), refl, omega (arith, none))
  some (inr (i, arc, is)) =
      let path = (done i arc).0 in
      let arc' : IsArc net (last_of path.0 path.1) j = subst (λ (x : ℕ). IsArc net x j) (sym path.3) arc in
      let same : lag_of net (last_of path.0 path.1) j ≡ lag_of net i j = ap (λ (x : ℕ). lag_of net x j) path.3 in (
        path.0,
        path.1 ++ j ∷ [],
        (path.2.0, IsWalk-append net path.0 path.1 (j ∷ []) path.2.1 (arc', tt)),
        last_of-append path.0 path.1 (j ∷ []),
        omega
            (arith, length_after-append net path.0 path.1 (j ∷ []), path.4, is, same),
      )

  every : (v : ℕ) → IsLengthTo net j v → v ≤ start + duration_of net j
  every v (i, [], path, ends, long) = let same : duration_of net i ≡ duration_of net j = ap (duration_of net) ends in omega (arith, long, same)
  every v (i, h ∷ others, path, ends, long) =
      let last : LastArc net i h others = last_arc net i h others path.1 in
      let before = last_of i last.before in
      let arc : IsArc net before j = subst (λ (x : ℕ). IsArc net before x) ends last.arc in
      let a : path_length net i last.before ≤ finish before = (done before arc).1 (path_length net i last.before) (i, last.before, (path.0, last.walk), refl, refl) in
      let d : duration_of net (last_of h others) ≡ duration_of net j = ap (duration_of net) ends in
      let l : lag_of net before (last_of h others) ≡ lag_of net before j = ap (lag_of net before) ends in
      omega (arith, above before arc, a, last.longer, long, d, l)

-- one step of the backward pass: `rest` is the greatest lag and tail of a successor, or 0
pub tail_step : (net : Net) (j : ℕ) (tail : ℕ → ℕ) (rest : ℕ) → IsActivity net j →
    ((k : ℕ) → IsArc net j k → IsGreatest (IsLengthFrom net k) (tail k)) →
    ((k : ℕ) → IsArc net j k → lag_of net j k + tail k ≤ rest) →
    (rest ≡ 0) ⊎ ((k : ℕ) × IsArc net j k × (rest ≡ lag_of net j k + tail k)) →
    ((k : ℕ) → IsArc net j k → IsActivity net k) → IsGreatest (IsLengthFrom net j) (duration_of net j + rest)
tail_step net j tail rest activity done above reached ends = (some reached, every) where
  some : (rest ≡ 0) ⊎ ((k : ℕ) × IsArc net j k × (rest ≡ lag_of net j k + tail k)) → IsLengthFrom net j (duration_of net j + rest)
  some (inl none) = ([], (activity, tt), omega (arith, none))
  some (inr (k, arc, is)) =
      let path = (done k arc).0 in
      (k ∷ path.0, (activity, (arc, path.1.1)), omega (arith, path.2, is))

  every : (v : ℕ) → IsLengthFrom net j v → v ≤ duration_of net j + rest
  every v ([], path, long) = omega (arith, long)
  every v (k ∷ others, path, long) =
      let arc = path.1.0 in
      let a : path_length net k others ≤ tail k = (done k arc).1 (path_length net k others) (others, (ends k arc, path.1.1), refl) in
      omega (arith, above k arc, a, long)

-- a running maximum: it is at least one more value, and is still attained
pub greatest_more : (Q : ℕ → Type 0) (f : ℕ → ℕ) (items : List ℕ) (n latest ready new : ℕ) →
    new ≡ max latest ready → Q (get_or items n 0) → ready ≡ f (get_or items n 0) →
    ((m : ℕ) → m < n → f (get_or items m 0) ≤ latest) → (latest ≡ 0) ⊎ ((i : ℕ) × Q i × (latest ≡ f i)) →
    ((m : ℕ) → m < n + 1 → f (get_or items m 0) ≤ new) × ((new ≡ 0) ⊎ ((i : ℕ) × Q i × (new ≡ f i)))
greatest_more Q f items n latest ready new is here value above reached = (
  below_more (λ m. f (get_or items m 0) ≤ new) n (λ m lower. omega (arith, above m lower))
      (omega (arith, value)),
  by_case (cases_lt latest ready),
) where
  kept : ready ≤ latest → (latest ≡ 0) ⊎ ((i : ℕ) × Q i × (latest ≡ f i)) → (new ≡ 0) ⊎ ((i : ℕ) × Q i × (new ≡ f i))
  kept low (inl none) = inl (omega (arith, is, none))
  kept low (inr (i, has, same)) = inr (i, has, omega (arith, is, same))

  by_case : (latest < ready) ⊎ (ready ≤ latest) → (new ≡ 0) ⊎ ((i : ℕ) × Q i × (new ≡ f i))
  by_case (inl higher) = inr (get_or items n 0, here, omega (arith, is, value))
  by_case (inr lower) = kept lower reached

-- a start that is attained is bounded by the finish that attains it
pub start_bound : (net : Net) (list : List ℕ) (j start most : ℕ) → HasGoodLags net →
    ((k : ℕ) → get_or list k 0 ≤ most) → (start ≡ 0)
    ⊎ ((i : ℕ) × IsArc net i j × (start ≡ get_or list (i - 1) 0 + lag_of net i j)) → start ≤ most + 10000
start_bound net list j start most good bound (inl none) = omega (arith, none)
start_bound net list j start most good bound (inr (i, arc, is)) = let lag : lag_of net i j ≤ 10000 = lag_of-limit net i j good in omega (arith, is, bound (i - 1), lag)
