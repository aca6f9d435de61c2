-- Queues of activities by their keys: what is added, and the entry that comes out first.
use Rattle.std.proofs.Common.{ℕ, Bool, true, false, cond, nat_eq, nat_lt, ◌&&◌, ◌≡◌, ◌+◌, ◌-◌, ◌≤◌, ◌<◌, ◌⊎◌, inl, inr, List, [], ◌∷◌, length, get_or, set, take, refl, sym, ◌∙◌, ap, subst, arith, get_or-set_same, get_or-set_other}
use Rattle.std.specs.List.{All}
use Rattle.std.specs.List.Sorted.{IsPermutation, IsStrictlyIncreasing}
use Rattle.std.specs.BinaryHeap.{IsHeap, KeepsHeap, PopsGreatest}
use Rattle.std.specs.Ordering.{MatchOrdering, is_lt, nat_cmp, ordering_then}
use Rattle.std.specs.declared.cmp.Ordering.{Ordering}
use Rattle.std.specs.declared.cmp.Ordering.TheVariants.{Less, Equal, Greater}
use Rattle.std.proofs.ByRecursion.{All-get_or}
use Rattle.std.proofs.lemmas.Cmp.{ranked}
use Rattle.std.proofs.lemmas.List.{length-set, take_all}
use Rattle.std.proofs.lemmas.List.Elements.{All-nil, All-cons, All-tail, Contains-get_or}
use Rattle.std.proofs.lemmas.List.Sorted.{All-permutation, sum_by_pushed, sum_by_popped}
use Rattle.std.proofs.lemmas.List.Sums.{sum_by_more}
use Rattle.std.proofs.lemmas.Bool.{cases_eq, cases_order, cases_lt, cases_Bool, true≢false, lt-ltb, le-ltb, ne_eqb, eq-eqb, and_left, and_right}
use Rattle.plan_net.specs.Network.{Net, count_of, IsActivity, IsArc, ListsRising}
use Rattle.plan_net.specs.Limits.{IsWithinLimits}
use Rattle.plan_sgs.specs.Eligibility.{Entry, by_key, IsKeyed, IsQueue, times_in, QueuesFree, Joins, Lowers}
use Rattle.plan_sgs.proofs.CountLemmas.{tally, times_in_row, row_once, row_not_before, row_as_arcs}

-- one entry is added to a queue
pub queue_pushed : (keys : List ℕ) (e : Entry) (old new : List Entry) → IsQueue keys old → IsKeyed keys e → IsPermutation (e ∷ old) new → KeepsHeap by_key old new → IsQueue keys new
queue_pushed keys e old new queue keyed same kept = record {
  ordered = kept queue.ordered;
  keyed = All-permutation (IsKeyed keys) (e ∷ old) new same (All-cons (IsKeyed keys) e old keyed queue.keyed);
}

pub times_pushed : (e : Entry) (old new : List Entry) → IsPermutation (e ∷ old) new → (h : ℕ) → times_in new h ≡ times_in old h + tally (nat_eq (e.0.1 - 1) h)
times_pushed e old new same h = omega (arith, sum_by_pushed (λ (x : Entry). tally (nat_eq (x.0.1 - 1) h)) e old new same)

-- one entry is removed from a queue
pub queue_popped : (keys : List ℕ) (e : Entry) (old new : List Entry) → IsQueue keys old → IsPermutation old (e ∷ new) → PopsGreatest by_key old e new → IsQueue keys new
queue_popped keys e old new queue same pops = record {
  ordered = (pops queue.ordered).0;
  keyed = All-tail (IsKeyed keys) e new (All-permutation (IsKeyed keys) old (e ∷ new) same queue.keyed);
}

pub popped_keyed : (keys : List ℕ) (e : Entry) (old new : List Entry) → IsQueue keys old → IsPermutation old (e ∷ new) → IsKeyed keys e
popped_keyed keys e old new queue same = All-permutation (IsKeyed keys) old (e ∷ new) same queue.keyed 0 e (omega arith)

pub times_popped : (e : Entry) (old new : List Entry) → IsPermutation old (e ∷ new) → (h : ℕ) → times_in new h + tally (nat_eq (e.0.1 - 1) h) ≡ times_in old h
times_popped e old new same h = sum_by_popped (λ (x : Entry). tally (nat_eq (x.0.1 - 1) h)) e old new same

-- exactly those of the first n activities that wait for none are in the queue, each once
pub record AreQueued (keys waits : List ℕ) (n : ℕ) (entries : List Entry) : Type 0 where
  pub queue : IsQueue keys entries
  pub free : (h : ℕ) → times_in entries h ≡ tally (nat_lt h n && nat_eq (get_or waits h 0) 0)

pub queued_none : (keys waits : List ℕ) (entries : List Entry) → IsHeap by_key entries → entries ≡ [] → AreQueued keys waits 0 entries
queued_none keys waits entries ordered none = record {
  queue = record { ordered = ordered; keyed = subst (All (IsKeyed keys)) (sym none) (All-nil (IsKeyed keys)) };
  free = λ h. ap (λ (es : List Entry). times_in es h) none ∙ sym (ap (λ (b : Bool). tally (b && nat_eq (get_or waits h 0) 0)) (le-ltb h 0 (omega arith)));
}

below_next : (h n : ℕ) (b : Bool) → tally (nat_lt h (n + 1) && b) ≡ tally (nat_lt h n && b) + tally (nat_eq n h && b)
below_next h n b = elim (cases_order h n) [
  | inl same ↦ rw (lt-ltb h (n + 1) (omega (arith, same)), le-ltb h n (omega (arith, same)), eq-eqb n h (sym same)) (omega arith)
  | inr other ↦ elim other [
    | inl less ↦ rw (lt-ltb h (n + 1) (omega (arith, less)), lt-ltb h n less, ne_eqb n h (λ same. omega (arith, same, less))) (omega arith)
    | inr more ↦ rw (le-ltb h (n + 1) (omega (arith, more)), le-ltb h n (omega (arith, more)), ne_eqb n h (λ same. omega (arith, same, more))) (omega arith)
  ]
]

-- the next activity waits for some
pub queued_skip : (keys waits : List ℕ) (n : ℕ) (entries : List Entry) → AreQueued keys waits n entries → (get_or waits n 0 ≡ 0 → ⊥) → AreQueued keys waits (n + 1) entries
queued_skip keys waits n entries are some = record {
  queue = are.queue;
  free = λ h. omega (arith, are.free h, below_next h n (nat_eq (get_or waits h 0) 0), none h);
} where
  none : (h : ℕ) → tally (nat_eq n h && nat_eq (get_or waits h 0) 0) ≡ 0
  none h = elim (cases_eq n h) [
    | inl same ↦ ap tally (and_right (nat_eq n h) (nat_eq (get_or waits h 0) 0) (ne_eqb (get_or waits h 0) 0 (λ is. some (ap (λ (k : ℕ). get_or waits k 0) same ∙ is))))
    | inr other ↦ ap tally (and_left (nat_eq n h) (nat_eq (get_or waits h 0) 0) (ne_eqb n h other))
  ]

-- the next activity waits for none, and is queued
pub queued_push : (keys waits : List ℕ) (n : ℕ) (e : Entry) (old new : List Entry) →
    AreQueued keys waits n old → get_or waits n 0 ≡ 0 → IsKeyed keys e → e.0.1 - 1 ≡ n →
    IsPermutation (e ∷ old) new → KeepsHeap by_key old new → AreQueued keys waits (n + 1) new
queued_push keys waits n e old new are none keyed place same kept = record {
  queue = queue_pushed keys e old new are.queue keyed same kept;
  free = λ h. omega (arith, are.free h, below_next h n (nat_eq (get_or waits h 0) 0), one h, times_pushed e old new same h, ap (λ (k : ℕ). tally (nat_eq k h)) place);
} where
  one : (h : ℕ) → tally (nat_eq n h && nat_eq (get_or waits h 0) 0) ≡ tally (nat_eq n h)
  one h = elim (cases_eq n h) [
    | inl same ↦ rw (eq-eqb n h same, eq-eqb (get_or waits h 0) 0 (ap (λ (k : ℕ). get_or waits k 0) (sym same) ∙ none)) refl
    | inr other ↦ rw (ne_eqb n h other) refl
  ]

-- once all were tested
pub queued_all : (keys waits : List ℕ) (n : ℕ) (entries : List Entry) → AreQueued keys waits n entries → length waits ≤ n → QueuesFree waits entries
queued_all keys waits n entries are all h below = are.free h ∙ ap (λ (b : Bool). tally (b && nat_eq (get_or waits h 0) 0)) (lt-ltb h n (omega (arith, below, all)))

-- the order by two comparisons, the first before the second
not_less : (o r : Ordering) (a b c d : ℕ) → MatchOrdering o (a < b) (a ≡ b) (b < a) → MatchOrdering r (c < d) (c ≡ d) (d < c) → is_lt (ordering_then o r) ≡ false → (b < a) ⊎ ((b ≡ a) × (d ≤ c))
not_less Less r a b c d one two is = absurd (true≢false is)
not_less Equal Less a b c d one two is = absurd (true≢false is)
not_less Equal Equal a b c d one two is = inr (sym one, omega (arith, two))
not_less Equal Greater a b c d one two is = inr (sym one, omega (arith, two))
not_less Greater r a b c d one two is = inl one

-- the entry that comes out has the least key, and among those with that key the least number
pub popped_first : (keys : List ℕ) (e : Entry) (old new : List Entry) → IsQueue keys old →
    PopsGreatest by_key old e new → (k : ℕ) → k < length old →
    (e.0.0 < (get_or old k e).0.0) ⊎ ((e.0.0 ≡ (get_or old k e).0.0) × (e.0.1 ≤ (get_or old k e).0.1))
popped_first keys e old new queue pops k within =
    let x = get_or old k e in
    let least : is_lt (by_key e x) ≡ false = All-get_or (λ (y : Entry). is_lt (by_key e y) ≡ false) old k e within (pops queue.ordered).1 in
    not_less (nat_cmp x.0.0 e.0.0) (nat_cmp x.0.1 e.0.1) x.0.0 e.0.0 x.0.1 e.0.1 (ranked x.0.0 e.0.0 (nat_cmp x.0.0 e.0.0) refl) (ranked x.0.1 e.0.1 (nat_cmp x.0.1 e.0.1) refl) least

-- the counts of predecessors after they were lowered for the first k entries of a row
pub record AreLowered (row : List ℕ) (k : ℕ) (old now : List ℕ) : Type 0 where
  pub size : length now ≡ length old
  pub each : (h : ℕ) → h < length old → get_or now h 0 + times_in_row (take k row) h ≡ get_or old h 0

-- the next of the row waits for one at least, if it did before
pub next_waits : (row : List ℕ) (k : ℕ) (old now : List ℕ) → IsStrictlyIncreasing row →
    ((m : ℕ) → m < length row → 1 ≤ get_or row m 0) → k < length row → get_or row k 0 - 1 < length old →
    AreLowered row k old now → 1 ≤ get_or old (get_or row k 0 - 1) 0 → 1 ≤ get_or now (get_or row k 0 - 1) 0
next_waits row k old now rising from_one within inside lowered waits = omega (arith, waits, row_not_before row rising from_one k within, lowered.each (get_or row k 0 - 1) inside)

-- and is lowered next
pub lowered_more : (row : List ℕ) (k : ℕ) (old now : List ℕ) → k < length row → get_or row k 0 - 1 < length old → 1 ≤ get_or now (get_or row k 0 - 1) 0 → AreLowered row k old now
    → AreLowered row (k + 1) old (set now (get_or row k 0 - 1) (get_or now (get_or row k 0 - 1) 0 - 1))
lowered_more row k old now within inside waits lowered = record {
  size = length-set now i (get_or now i 0 - 1) ∙ lowered.size;
  each = λ h below.
      let more : times_in_row (take (k + 1) row) h ≡ times_in_row (take k row) h + tally (nat_eq i h) = sum_by_more (λ j. tally (nat_eq (j - 1) h)) row k 0 within in
      elim (cases_eq i h) [
        | inl same ↦
            let here : get_or (set now i (get_or now i 0 - 1)) h 0 ≡ get_or now i 0 - 1 =
            subst (λ (m : ℕ). get_or (set now i (get_or now i 0 - 1)) m 0 ≡ get_or now i 0 - 1) same
            (get_or-set_same now i (get_or now i 0 - 1) 0 (omega (arith, inside, lowered.size))) in
            let one : tally (nat_eq i h) ≡ 1 = ap tally (eq-eqb i h same) in
            omega (arith, here, more, one, waits, lowered.each h below, ap (λ (m : ℕ). get_or now m 0) same)
        | inr other ↦
            let none : tally (nat_eq i h) ≡ 0 = ap tally (ne_eqb i h other) in
            omega (arith, more, none, lowered.each h below, get_or-set_other now i h (get_or now i 0 - 1) 0 (λ same. other (sym same)))
      ];
} where
  i : ℕ
  i = get_or row k 0 - 1

-- the next of the row is unchanged, and is raised next
pub raised_more : (row : List ℕ) (k : ℕ) (old now : List ℕ) → IsStrictlyIncreasing row →
    ((m : ℕ) → m < length row → 1 ≤ get_or row m 0) → k < length row → get_or row k 0 - 1 < length old →
    AreLowered row k now old
    → (get_or now (get_or row k 0 - 1) 0 ≡ get_or old (get_or row k 0 - 1) 0) × AreLowered row (k + 1) (set now (get_or row k 0 - 1) (get_or now (get_or row k 0 - 1) 0 + 1)) old
raised_more row k old now rising from_one within inside raised = (
  omega (arith, raised.each i inside', row_not_before row rising from_one k within),
  record {
    size = raised.size ∙ sym (length-set now i (get_or now i 0 + 1));
    each = λ h below.
        let more : times_in_row (take (k + 1) row) h ≡ times_in_row (take k row) h + tally (nat_eq i h) = sum_by_more (λ j. tally (nat_eq (j - 1) h)) row k 0 within in
        let before = raised.each h (omega (arith, below, length-set now i (get_or now i 0 + 1))) in
        elim (cases_eq i h) [
          | inl same ↦
              let here : get_or (set now i (get_or now i 0 + 1)) h 0 ≡ get_or now i 0 + 1 =
              subst (λ (m : ℕ). get_or (set now i (get_or now i 0 + 1)) m 0 ≡ get_or now i 0 + 1) same
              (get_or-set_same now i (get_or now i 0 + 1) 0 inside') in
              let one : tally (nat_eq i h) ≡ 1 = ap tally (eq-eqb i h same) in
              omega (arith, here, more, one, before, ap (λ (m : ℕ). get_or now m 0) same)
          | inr other ↦
              let none : tally (nat_eq i h) ≡ 0 = ap tally (ne_eqb i h other) in
              omega (arith, more, none, before, get_or-set_other now i h (get_or now i 0 + 1) 0 (λ same. other (sym same)))
        ];
  },
) where
  i : ℕ
  i = get_or row k 0 - 1

  inside' : i < length now
  inside' = omega (arith, inside, raised.size)

-- the first k of a row are in a queue if they wait for none
pub record AreJoining (row : List ℕ) (k : ℕ) (now keys : List ℕ) (first entries : List Entry) : Type 0 where
  pub queue : IsQueue keys entries
  pub free : (h : ℕ) → times_in entries h ≡ times_in first h + cond (nat_eq (get_or now h 0) 0) (times_in_row (take k row) h) 0

pub joining_none : (row now keys : List ℕ) (first : List Entry) → IsQueue keys first → AreJoining row 0 now keys first first
joining_none row now keys first queue = record {
  queue = queue;
  free = λ h. elim (cases_Bool (nat_eq (get_or now h 0) 0)) [
    | inl is ↦ rw is (omega arith)
    | inr isnt ↦ rw isnt (omega arith)
  ];
}

-- one time more, if the place waits for none
one_more : (b a : Bool) (n : ℕ) → cond b (n + tally a) 0 ≡ cond b n 0 + tally (a && b)
one_more true true n = refl
one_more true false n = refl
one_more false true n = refl
one_more false false n = refl

-- the next of the row is queued if it waits for none
joining_more : (row : List ℕ) (k : ℕ) (now keys : List ℕ) (first before after : List Entry) → k < length row → AreJoining row k now keys first before → IsQueue keys after
    → ((h : ℕ) → times_in after h ≡ times_in before h + tally (nat_eq (get_or row k 0 - 1) h && nat_eq (get_or now (get_or row k 0 - 1) 0) 0)) → AreJoining row (k + 1) now keys first after
joining_more row k now keys first before after within joining queue comes = record {
  queue = queue;
  free = λ h.
      let more : times_in_row (take (k + 1) row) h ≡ times_in_row (take k row) h + tally (nat_eq i h) = sum_by_more (λ j. tally (nat_eq (j - 1) h)) row k 0 within in
      let next : cond (free h) (times_in_row (take (k + 1) row) h) 0 ≡ cond (free h) (times_in_row (take k row) h) 0 + tally (nat_eq i h && free h) =
      ap (λ (n : ℕ). cond (free h) n 0) more ∙ one_more (free h) (nat_eq i h) (times_in_row (take k row) h) in
      omega (arith, comes h, joining.free h, next, here h);
} where
  i : ℕ
  i = get_or row k 0 - 1

  free : ℕ → Bool
  free h = nat_eq (get_or now h 0) 0

  here : (h : ℕ) → tally (nat_eq i h && free i) ≡ tally (nat_eq i h && free h)
  here h = elim (cases_eq i h) [
    | inl same ↦ ap (λ (m : ℕ). tally (nat_eq i h && free m)) same
    | inr other ↦ ap tally (and_left (nat_eq i h) (free i) (ne_eqb i h other)) ∙ sym (ap tally (and_left (nat_eq i h) (free h) (ne_eqb i h other)))
  ]

and_true : (a b : Bool) → b ≡ true → (a && b) ≡ a
and_true true b is = is
and_true false b is = refl

-- the next waits for none, and is queued
pub joining_push : (row : List ℕ) (k : ℕ) (now keys : List ℕ) (first before after : List Entry) (e : Entry) →
    k < length row → AreJoining row k now keys first before → get_or now (get_or row k 0 - 1) 0 ≡ 0 →
    IsKeyed keys e → e.0.1 ≡ get_or row k 0
    → IsPermutation (e ∷ before) after → KeepsHeap by_key before after → AreJoining row (k + 1) now keys first after
joining_push row k now keys first before after e within joining none keyed is same kept =
    joining_more row k now keys first before after within joining (queue_pushed keys e before after joining.queue keyed same kept) comes where
      i : ℕ
      i = get_or row k 0 - 1

      comes : (h : ℕ) → times_in after h ≡ times_in before h + tally (nat_eq i h && nat_eq (get_or now i 0) 0)
      comes h =
          let place : tally (nat_eq (e.0.1 - 1) h) ≡ tally (nat_eq i h) = ap (λ (n : ℕ). tally (nat_eq (n - 1) h)) is in
          let both : tally (nat_eq i h && nat_eq (get_or now i 0) 0) ≡ tally (nat_eq i h) = ap tally (and_true (nat_eq i h) (nat_eq (get_or now i 0) 0) (eq-eqb (get_or now i 0) 0 none)) in
          omega (arith, times_pushed e before after same h, place, both)

-- the next waits for some
pub joining_skip : (row : List ℕ) (k : ℕ) (now keys : List ℕ) (first before : List Entry) → k < length row →
    AreJoining row k now keys first before → (get_or now (get_or row k 0 - 1) 0 ≡ 0 → ⊥) →
    AreJoining row (k + 1) now keys first before
joining_skip row k now keys first before within joining some = joining_more row k now keys first before before within joining joining.queue (λ h.
    let i = get_or row k 0 - 1 in
    let none : tally (nat_eq i h && nat_eq (get_or now i 0) 0) ≡ 0 = ap tally (and_right (nat_eq i h) (nat_eq (get_or now i 0) 0) (ne_eqb (get_or now i 0) 0 some)) in
    omega (arith, none))

-- once the whole row was tested, those are queued that wait for none now and did for some before
pub joined_all : (net : Net) (j : ℕ) (row : List ℕ) (k : ℕ) (old now keys : List ℕ)
    (first entries : List Entry) → IsWithinLimits net → IsActivity net j → ListsRising (IsArc net j) row →
    ((m : ℕ) → m < length row → IsActivity net (get_or row m 0)) → length row ≤ k
    → Lowers net j old now → AreJoining row k now keys first entries → Joins old now first entries
joined_all net j row k old now keys first entries limits activity listed activities all lowers joining h below =
    let whole : times_in_row (take k row) h ≡ times_in_row row h = ap (λ (xs : List ℕ). times_in_row xs h) (take_all k row all) in
    let times = row_as_arcs net j row limits activity listed (λ m low. (activities m low).0) h in
    let once = row_once row listed.rising (λ m low. (activities m low).0) h in
    let lowered = lowers.each h (omega (arith, below, lowers.size)) in
    elim (cases_eq (get_or now h 0) 0) [
      | inl none ↦
          let came : times_in entries h ≡ times_in first h + times_in_row (take k row) h =
          joining.free h ∙ ap (λ (b : Bool). times_in first h + cond b (times_in_row (take k row) h) 0) (eq-eqb (get_or now h 0) 0 none) in
          elim (cases_lt 0 (get_or old h 0)) [
            | inl waited ↦ rw (lt-ltb 0 (get_or old h 0) waited, eq-eqb (get_or now h 0) 0 none) (omega (arith, came, whole, times, once, lowered, none, waited))
            | inr free ↦ rw (le-ltb 0 (get_or old h 0) free) (omega (arith, came, whole, times, lowered, free))
          ]
      | inr some ↦
          let came : times_in entries h ≡ times_in first h + 0 =
          joining.free h ∙ ap (λ (b : Bool). times_in first h + cond b (times_in_row (take k row) h) 0) (ne_eqb (get_or now h 0) 0 some) in
          let none : tally (nat_lt 0 (get_or old h 0) && nat_eq (get_or now h 0) 0) ≡ 0 =
          ap tally (and_right (nat_lt 0 (get_or old h 0)) (nat_eq (get_or now h 0) 0)
          (ne_eqb (get_or now h 0) 0 some)) in
          omega (arith, came, none)
    ]

-- the next of the successors is an activity, and waits for at least one
pub next_known : (net : Net) (j : ℕ) (row : List ℕ) (k : ℕ) (old now : List ℕ) → length old ≡ count_of net →
    ListsRising (IsArc net j) row → ((m : ℕ) → m < length row → IsActivity net (get_or row m 0)) →
    ((h : ℕ) → IsArc net j h → 1 ≤ get_or old (h - 1) 0) → k < length row
    → AreLowered row k old now → IsActivity net (get_or row k 0) × (get_or row k 0 - 1 < length old) × (1 ≤ get_or now (get_or row k 0 - 1) 0)
next_known net j row k old now size listed activities waiting within lowered = (
  activities k within,
  inside,
  next_waits row k old now listed.rising
      (λ m low. (activities m low).0) within inside lowered waits,
) where
  inside : get_or row k 0 - 1 < length old
  inside = omega (arith, activities k within, size)

  waits : 1 ≤ get_or old (get_or row k 0 - 1) 0
  waits = waiting (get_or row k 0) ((listed.exact (get_or row k 0)).0 (Contains-get_or row k 0 within))

-- once the whole row was lowered
pub lowered_all : (net : Net) (j : ℕ) (row : List ℕ) (k : ℕ) (old now : List ℕ) → IsWithinLimits net →
    IsActivity net j → ListsRising (IsArc net j) row →
    ((m : ℕ) → m < length row → IsActivity net (get_or row m 0)) → length row ≤ k → AreLowered row k old now →
    Lowers net j old now
lowered_all net j row k old now limits activity listed activities all lowered = record {
  size = lowered.size;
  each = λ h below.
      let whole : times_in_row (take k row) h ≡ times_in_row row h = ap (λ (xs : List ℕ). times_in_row xs h) (take_all k row all) in
      omega (arith, lowered.each h below, whole, row_as_arcs net j row limits activity listed (λ m low. (activities m low).0) h);
}
