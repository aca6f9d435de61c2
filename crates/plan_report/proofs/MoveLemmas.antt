-- A list of starts in which one activity has moved to a later start.
use Rattle.std.proofs.Common.{ℕ, suc, ◌≡◌, ◌≢◌, ◌+◌, ◌-◌, ◌≤◌, ◌<◌, inl, inr, List, length, get_or, set, Some, sym, ◌∙◌, ap, arith}
use Rattle.std.proofs.lemmas.Bool.{cases_lt, cases_eq}
use Rattle.std.proofs.lemmas.List.{length-set, get_or-set_same, get_or-set_other}
use Rattle.plan_profile.specs.Usage.{Fits}
use Rattle.plan_sgs.specs.Problem.{Problem, Link, count, duration, need, capacity, amount_of, usage, all_placed, makespan, KeepsArcs, KeepsCapacities}
use Rattle.plan_sgs.proofs.TotalLemmas.{total_changed, greatest_above, greatest_least}
use Rattle.plan_sgs.proofs.AmountLemmas.{amount_during, amount_before}
use Rattle.plan_sgs.proofs.StartLemmas.{amount_at, amount_late, usage_is}
use Rattle.plan_report.specs.Slack.{HasRoomAt, LetEnd}

pub length_moved : (p : Problem) (s : List ℕ) (j t : ℕ) → length s ≡ count p → length (set s j t) ≡ count p
length_moved p s j t whole = length-set s j t ∙ whole

-- its start
pub start_moved : (p : Problem) (s : List ℕ) (j t : ℕ) → length s ≡ count p → j < count p → get_or (set s j t) j 0 ≡ t
start_moved p s j t whole inside = get_or-set_same s j t 0 (omega (arith, inside, whole))

-- the starts of all others
pub start_kept : (s : List ℕ) (j t i : ℕ) → i ≢ j → get_or (set s j t) i 0 ≡ get_or s i 0
start_kept s j t i apart = get_or-set_other s j i t 0 apart

-- the usage changes by what the activity needs
pub usage_moved : (p : Problem) (s : List ℕ) (j t u k : ℕ) → length s ≡ count p → j < count p
    → usage p (all_placed (set s j t)) u k + amount_at p s u k j ≡ usage p (all_placed s) u k + amount_of p u k j (Some t)
usage_moved p s j t u k whole inside =
    let same : (i : ℕ) → i < count p → i ≢ j → amount_at p s u k i ≡ amount_at p (set s j t) u k i = λ i below apart. ap (λ (x : ℕ). amount_of p u k i (Some x)) (sym (start_kept s j t i apart)) in
    let here : amount_at p (set s j t) u k j ≡ amount_of p u k j (Some t) = ap (λ (x : ℕ). amount_of p u k j (Some x)) (start_moved p s j t whole inside) in
    let was = usage_is p s u k whole in
    let is = usage_is p (set s j t) u k (length_moved p s j t whole) in
    elim (cases_lt (amount_at p s u k j) (amount_at p (set s j t) u k j)) [
      | inl more ↦
          let changed = total_changed (count p) (amount_at p s u k) (amount_at p (set s j t) u k) j (amount_at p (set s j t) u k j - amount_at p s u k j) inside same (omega (arith, more)) in
          omega (arith, changed, here, was, is, more)
      | inr less ↦
          let changed = total_changed (count p) (amount_at p (set s j t) u k) (amount_at p s u k) j (amount_at p s u k j - amount_at p
          (set s j t) u k j) inside (λ i below apart. sym (same i below apart)) (omega (arith, less)) in
          omega (arith, changed, here, was, is, less)
    ]

-- from its end on, all activities leave room for one more interval of the activity from t on
abbrev pub HasRoomAfter : Problem → List ℕ → ℕ → ℕ → Type 0
HasRoomAfter p s j t =
    (u k : ℕ) → t ≤ u → get_or s j 0 + duration p j ≤ u → u < t + duration p j → k < length p.capacities
    → usage p (all_placed s) u k + need p j k ≤ capacity p k

-- then the capacities are kept if it starts at t
pub room_from_after : (p : Problem) (s : List ℕ) (j t : ℕ) → length s ≡ count p → j < count p → KeepsCapacities p (all_placed s) → get_or s j 0 ≤ t → HasRoomAfter p s j t → HasRoomAt p s j t
room_from_after p s j t whole inside kept since after u k within =
    let moved = usage_moved p s j t u k whole inside in
    let before = kept u k within in
    elim (cases_lt u t) [
      | inl early ↦ omega (arith, moved, before, amount_before p u k j t early)
      | inr begun ↦ elim (cases_lt u (t + duration p j)) [
        | inr late ↦ omega (arith, moved, before, amount_late p u k j t late)
        | inl lasts ↦ elim (cases_lt u (get_or s j 0 + duration p j)) [
          | inl still ↦ omega (arith, moved, before, amount_during p u k j (get_or s j 0) (omega (arith, since, begun)) still, amount_during p u k j t begun lasts)
          | inr done ↦ omega (arith, moved, amount_late p u k j (get_or s j 0) done, amount_during p u k j t begun lasts, after u k begun done lasts within)
        ]
      ]
    ]

-- and the reverse
pub after_from_room : (p : Problem) (s : List ℕ) (j t : ℕ) → length s ≡ count p → j < count p → HasRoomAt p s j t → HasRoomAfter p s j t
after_from_room p s j t whole inside room u k begun done lasts within =
    omega (arith, usage_moved p s j t u k whole inside, amount_late p u k j (get_or s j 0) done, amount_during p u k j t begun lasts, room u k within)

-- a profile that holds all activities before an instant answers whether there is room
pub record IsAskedFor (p : Problem) (s : List ℕ) (j end : ℕ) (caps : List ℕ) (used : ℕ → ℕ → ℕ) (d : ℕ) (needs : List ℕ) : Type 0 where
  pub capacities : caps ≡ p.capacities
  pub held : (t k : ℕ) → t < end → k < length p.capacities → used t k ≡ usage p (all_placed s) t k
  pub lasts : d ≡ duration p j
  pub each : (k : ℕ) → need p j k ≡ get_or needs k 0

-- needs that fit behind the end of the activity leave room at each delay
pub after_from_fits : (p : Problem) (s : List ℕ) (j x end : ℕ) (caps : List ℕ) (used : ℕ → ℕ → ℕ) (d : ℕ) (needs : List ℕ) → IsAskedFor p s j end caps used d needs
    → get_or s j 0 + duration p j + x ≤ end → Fits caps used (get_or s j 0 + duration p j) x needs → (z : ℕ) → z ≤ x → HasRoomAfter p s j (get_or s j 0 + z)
after_from_fits p s j x end caps used d needs asked ends fits z most u k begun done lasts within =
    let from = get_or s j 0 + duration p j in
    let at : from + (u - from) ≡ u = omega (arith, done) in
    let room : used (from + (u - from)) k + get_or needs k 0 ≤ get_or caps k 0 = fits (u - from) k (omega (arith, done, lasts, most)) (omega (arith, within, ap length asked.capacities)) in
    let held : used u k ≡ usage p (all_placed s) u k = asked.held u k (omega (arith, lasts, most, ends)) within in
    omega (arith, room, ap (λ (x : ℕ). used x k) at, held, asked.each k, ap (λ (xs : List ℕ). get_or xs k 0) asked.capacities)

-- and the reverse, if the activity takes time
pub fits_from_after : (p : Problem) (s : List ℕ) (j x end : ℕ) (caps : List ℕ) (used : ℕ → ℕ → ℕ) (d : ℕ) (needs : List ℕ) → IsAskedFor p s j end caps used d needs
    → 0 < duration p j → get_or s j 0 + duration p j + x ≤ end → ((z : ℕ) → z ≤ x → HasRoomAfter p s j (get_or s j 0 + z)) → Fits caps used (get_or s j 0 + duration p j) x needs
fits_from_after p s j x end caps used d needs asked some ends after y k below within =
    let from = get_or s j 0 + duration p j in
    let within' : k < length p.capacities = omega (arith, within, ap length asked.capacities) in
    let room = after (suc y) (omega (arith, below)) (from + y) k (omega (arith, some)) (omega arith) (omega arith) within' in
    let held : used (from + y) k ≡ usage p (all_placed s) (from + y) k = asked.held (from + y) k (omega (arith, below, ends)) within' in
    omega (arith, room, held, asked.each k, ap (λ (xs : List ℕ). get_or xs k 0) asked.capacities)

-- the arcs are kept if the successors let the activity end that late
link_moved : (p : Problem) (s : List ℕ) (j t : ℕ) (a : Link) → get_or (set s j t) j 0 ≡ t → get_or s j 0 ≤ t
    → (a.from ≡ j → a.to ≢ j → t + duration p j + a.lag ≤ get_or s a.to 0) → get_or s a.from 0 + duration p a.from + a.lag ≤ get_or s a.to 0
    → get_or (set s j t) a.from 0 + duration p a.from + a.lag ≤ get_or (set s j t) a.to 0
link_moved p s j t a here since lets kept = elim (cases_eq a.from j) [
  | inl from ↦
      let from_is : get_or (set s j t) a.from 0 ≡ t = ap (λ (i : ℕ). get_or (set s j t) i 0) from ∙ here in
      let from_was : get_or s a.from 0 ≡ get_or s j 0 = ap (λ (i : ℕ). get_or s i 0) from in
      elim (cases_eq a.to j) [
        | inl to ↦
            let to_is : get_or (set s j t) a.to 0 ≡ t = ap (λ (i : ℕ). get_or (set s j t) i 0) to ∙ here in
            let to_was : get_or s a.to 0 ≡ get_or s j 0 = ap (λ (i : ℕ). get_or s i 0) to in
            omega (arith, from_is, from_was, to_is, to_was, kept)
        | inr apart ↦ omega (arith, from_is, start_kept s j t a.to apart, lets from apart, ap (duration p) from)
      ]
  | inr from ↦ elim (cases_eq a.to j) [
    | inl to ↦
        let to_is : get_or (set s j t) a.to 0 ≡ t = ap (λ (i : ℕ). get_or (set s j t) i 0) to ∙ here in
        let to_was : get_or s a.to 0 ≡ get_or s j 0 = ap (λ (i : ℕ). get_or s i 0) to in
        omega (arith, start_kept s j t a.from from, to_is, to_was, kept, since)
    | inr apart ↦ omega (arith, start_kept s j t a.from from, start_kept s j t a.to apart, kept)
  ]
]

pub arcs_moved : (p : Problem) (s : List ℕ) (j t : ℕ) → length s ≡ count p → j < count p → KeepsArcs p s → get_or s j 0 ≤ t → LetEnd p s j (t + duration p j) → KeepsArcs p (set s j t)
arcs_moved p s j t whole inside kept since lets n d within =
    link_moved p s j t (get_or p.links n d) (start_moved p s j t whole inside) since (lets n d within) (kept n d within)

-- and the reverse
pub ends_from_arcs : (p : Problem) (s : List ℕ) (j t : ℕ) → length s ≡ count p → j < count p → KeepsArcs p (set s j t) → LetEnd p s j (t + duration p j)
ends_from_arcs p s j t whole inside kept n d within from apart =
    let a = get_or p.links n d in
    let from_is : get_or (set s j t) a.from 0 ≡ t = ap (λ (i : ℕ). get_or (set s j t) i 0) from ∙ start_moved p s j t whole inside in
    omega (arith, kept n d within, from_is, start_kept s j t a.to apart, ap (duration p) from)

-- an earlier end is allowed too
pub ends_earlier : (p : Problem) (s : List ℕ) (j end late : ℕ) → end ≤ late → LetEnd p s j late → LetEnd p s j end
ends_earlier p s j end late order lets n d within from apart = omega (arith, order, lets n d within from apart)

-- the schedule gets no longer if the activity ends by its makespan
pub makespan_moved : (p : Problem) (s : List ℕ) (j t : ℕ) → length s ≡ count p → j < count p → t + duration p j ≤ makespan p s → makespan p (set s j t) ≤ makespan p s
makespan_moved p s j t whole inside ends = greatest_least (count p) (λ i. get_or (set s j t) i 0 + duration p i) (makespan p s) (λ i below. elim (cases_eq i j) [
  | inl same ↦ omega (arith, ap (λ (x : ℕ). get_or (set s j t) x 0 + duration p x) same, start_moved p s j t whole inside, ends)
  | inr apart ↦ omega (arith, start_kept s j t i apart, greatest_above (count p) (λ i. get_or s i 0 + duration p i) i below)
])

-- and the reverse
pub ends_by_makespan : (p : Problem) (s : List ℕ) (j t : ℕ) → length s ≡ count p → j < count p → makespan p (set s j t) ≤ makespan p s → t + duration p j ≤ makespan p s
ends_by_makespan p s j t whole inside no_longer =
    omega (arith, greatest_above (count p) (λ i. get_or (set s j t) i 0 + duration p i) j inside, start_moved p s j t whole inside, no_longer)
