-- Entries of a list, taken one after another: from a given list, and by a rule.
use Rattle.std.proofs.Common.{ℕ, suc, Bool, true, false, nat_eq, nat_lt, ◌&&◌, ◌≡◌, ◌≢◌, ◌+◌, ◌-◌, ◌≤◌, ◌<◌, ◌⊎◌, inl, inr, List, [], ◌∷◌, ◌++◌, length, get_or, set, take, replicate, refl, sym, ◌∙◌, ap, subst, arith}
use Rattle.std.specs.List.{All}
use Rattle.std.specs.List.Sorted.{IsPermutation}
use Rattle.std.specs.BinaryHeap.{PopsGreatest}
use Rattle.std.proofs.lemmas.List.{take_more, take_all, map_push, take-map}
use Rattle.std.proofs.lemmas.List.Elements.{All-nil, All-push, All-more}
use Rattle.std.proofs.lemmas.List.Sums.{count_by-le-length}
use Rattle.std.proofs.lemmas.Bool.{false≢true, and_from, eqb-true, eq-eqb}
use Rattle.plan_net.specs.Network.{IsArc, count_of}
use Rattle.plan_net.specs.Limits.{IsSound}
use Rattle.plan_net.specs.Order.{IsLeastOrder, IsTopological}
use Rattle.plan_net.proofs.RowLemmas.{arc_ends}
use Rattle.plan_sgs.specs.Problem.{count}
use Rattle.plan_sgs.specs.Rules.{places, is_member, is_eligible, takes_in_turn, is_activity_list, rule_list_from, rule_list}
use Rattle.plan_sgs.specs.Instances.{Planned, IsInstance, problem_of}
use Rattle.plan_sgs.specs.Placement.{IsTurnList}
use Rattle.plan_sgs.specs.Eligibility.{AreMarksOf, CanCome, Entry, by_key, IsKeyed, IsQueue, AreInDegrees, Lowers, QueuesFree, Joins, times_in, open_links}
use Rattle.plan_sgs.proofs.InstanceLemmas.{count-problem}
use Rattle.plan_sgs.proofs.SerialLemmas.{taken_count, taken_none, taken_more, list_parts, eligible_not}
use Rattle.plan_sgs.proofs.ListLemmas.{turn_at, turns_push}
use Rattle.plan_sgs.proofs.RuleLemmas.{IsFirstBelow, next_of, next_first, first_once, next_there, rule_list_is}
use Rattle.plan_sgs.proofs.BoundedLemmas.{bounded}
use Rattle.plan_sgs.proofs.RunLemmas.{entry_place, length-places}
use Rattle.plan_sgs.proofs.MarkLemmas.{marks_first, marks_set, can_come_eligible, eligible_can_come, order_ranks, rank_in}
use Rattle.plan_sgs.proofs.CountLemmas.{tally, count_place, between_some}
use Rattle.plan_sgs.proofs.OpenLemmas.{eligible_open, open_first, open_more, links_as_arcs, settled_more, queued_more}
use Rattle.plan_sgs.proofs.QueueLemmas.{popped_keyed, popped_first, times_popped}

-- the first k numbers of a list came in their turns, and are marked
pub record AreTaken (i : Planned) (list : List ℕ) (k : ℕ) (marks : List Bool) : Type 0 where
  pub marked : AreMarksOf (count_of i.project.network) marks (places (take k list))
  pub from_one : All (λ j. 1 ≤ j) (take k list)
  pub turns : takes_in_turn (problem_of i) [] (places (take k list)) ≡ true

pub taken_at_first : (i : Planned) (list : List ℕ) (marks : List Bool) → marks ≡ replicate (count_of i.project.network) false → AreTaken i list 0 marks
taken_at_first i list marks none = subst (AreTaken i list 0) (sym none) (record {
  marked = marks_first (count_of i.project.network);
  from_one = All-nil (λ j. 1 ≤ j);
  turns = refl;
})

-- the places of one number more
places_more : (list : List ℕ) (k : ℕ) → k < length list → places (take (k + 1) list) ≡ places (take k list) ++ (get_or list k 0 - 1) ∷ []
places_more list k within = ap places (take_more list k 0 within) ∙ map_push (λ (j : ℕ). j - 1) (take k list) (get_or list k 0)

pub taken_one_more : (i : Planned) (list : List ℕ) (k : ℕ) (marks : List Bool) → IsSound i.project.network →
    AreTaken i list k marks → k < length list → CanCome i.project.network marks (get_or list k 0) →
    AreTaken i list (k + 1) (set marks (get_or list k 0 - 1) true)
taken_one_more i list k marks sound taken within comes =
    let eligible = can_come_eligible i marks (places (take k list)) (get_or list k 0) sound taken.marked comes in
    record {
      marked = subst (AreMarksOf (count_of i.project.network) (set marks (get_or list k 0 - 1) true))
          (sym (places_more list k within)) (marks_set (count_of i.project.network) marks
          (places (take k list)) (get_or list k 0 - 1) taken.marked
          (omega (arith, eligible.0, count-problem i)));
      from_one = All-more (λ j. 1 ≤ j) list k 0 within taken.from_one comes.0.0;
      turns = subst (λ (xs : List ℕ). takes_in_turn (problem_of i) [] xs ≡ true)
          (sym (places_more list k within)) (turns_push (problem_of i) (places (take k list)) []
          (get_or list k 0 - 1) taken.turns eligible.0 eligible.1);
    }

-- in an order each number may come in its turn
pub comes_in_turn : (i : Planned) (list : List ℕ) (k : ℕ) (marks : List Bool) → IsSound i.project.network →
    AreTaken i list k marks → k < length list → IsTurnList (problem_of i) list →
    CanCome i.project.network marks (get_or list k 0)
comes_in_turn i list k marks sound taken within (from_one, order) =
    let turns = (list_parts (problem_of i) (places list) order).1 in
    let here = turn_at (problem_of i) (places list) [] k turns (omega (arith, within, length-places list)) in
    let place = entry_place list k within in
    let front : take k (places list) ≡ places (take k list) = take-map (λ (j : ℕ). j - 1) k list in
    let eligible : is_eligible (problem_of i) (places (take k list)) (get_or (places list) k 0) ≡ true =
    subst (λ (xs : List ℕ). is_eligible (problem_of i) xs (get_or (places list) k 0) ≡ true) front
    here.1 in
    eligible_can_come i marks (places (take k list)) (get_or list k 0) sound taken.marked
    (from_one k 0 within) (omega (arith, here.0, place))
    (subst (λ (x : ℕ). is_eligible (problem_of i) (places (take k list)) x ≡ true) place eligible)

-- once all have come the list is an order
pub all_taken : (i : Planned) (list : List ℕ) (k : ℕ) (marks : List Bool) → length list ≡ count_of i.project.network → length list ≤ k → AreTaken i list k marks → IsTurnList (problem_of i) list
all_taken i list k marks size all taken =
    let whole : take k list ≡ list = take_all k list all in (
      subst (All (λ j. 1 ≤ j)) whole taken.from_one,
      and_from (nat_eq (length (places list)) (count (problem_of i)))
          (takes_in_turn (problem_of i) [] (places list))
          (eq-eqb (length (places list)) (count (problem_of i))
          (omega (arith, length-places list, size, count-problem i)))
          (subst (λ (xs : List ℕ). takes_in_turn (problem_of i) [] (places xs) ≡ true) whole taken.turns),
    )

-- a list of another length isn't an activity list
pub other_length : (i : Planned) (list : List ℕ) → length list ≢ count_of i.project.network → IsTurnList (problem_of i) list → ⊥
other_length i list other (from_one, order) = other (omega (arith, (list_parts (problem_of i) (places list) order).0, length-places list, count-problem i))

-- the entries so far and those that a rule takes after them are its whole list
pub record IsTaking (i : Planned) (keys : List ℕ) (turn : ℕ) (list waits : List ℕ) (entries : List Entry) : Type 0 where
  pub rest : rule_list_from (problem_of i) (λ h. get_or keys h 0) (places list) (count_of i.project.network - turn) ≡ rule_list (problem_of i) (λ h. get_or keys h 0)
  pub counted : taken_count (problem_of i) (places list) ≡ turn
  pub from_one : All (λ j. 1 ≤ j) list
  -- no taken activity waits for one that isn't taken
  pub settled : (h : ℕ) → is_member h (places list) ≡ true → open_links (problem_of i) (places list) h ≡ 0
  pub size : length waits ≡ count_of i.project.network
  pub waiting : (h : ℕ) → h < count_of i.project.network → get_or waits h 0 ≡ open_links (problem_of i) (places list) h
  pub queue : IsQueue keys entries
  pub queued : (h : ℕ) → h < count_of i.project.network → times_in entries h ≡ tally (is_eligible (problem_of i) (places list) h)

pub taking_first : (i : Planned) (keys list waits : List ℕ) (entries : List Entry) → list ≡ [] →
    AreInDegrees (count_of i.project.network) i.project.network.arcs waits → IsQueue keys entries →
    QueuesFree waits entries → IsTaking i keys 0 list waits entries
unfolding rule_list
taking_first i keys list waits entries none degrees queue free = subst (λ (xs : List ℕ). IsTaking i keys 0 xs waits entries) (sym none) (record {
  rest = let size : count_of i.project.network - 0 ≡ count (problem_of i) = omega (arith, count-problem i) in ap (rule_list_from (problem_of i) (λ h. get_or keys h 0) []) size;
  counted = taken_none (problem_of i);
  from_one = All-nil (λ j. 1 ≤ j);
  settled = λ h taken. absurd (false≢true taken);
  size = degrees.size;
  waiting = waiting;
  queue = queue;
  queued = λ h inside.
      free h (omega (arith, inside, degrees.size)) ∙ ap (λ (n : ℕ). tally (nat_eq n 0)) (waiting h inside) ∙ ap (λ (b : Bool). tally b) (sym (eligible_open (problem_of i) [] h));
}) where
  waiting : (h : ℕ) → h < count_of i.project.network → get_or waits h 0 ≡ open_links (problem_of i) [] h
  waiting h inside = degrees.each h inside ∙ sym (open_first i h)

-- while some activity isn't taken one is in the queue
pub taking_some : (i : Planned) (keys order : List ℕ) (turn : ℕ) (list waits : List ℕ)
    (entries : List Entry) → IsInstance i → IsLeastOrder i.project.network order →
    IsTopological i.project.network order → turn < count_of i.project.network
    → IsTaking i keys turn list waits entries → length entries ≡ 0 → ⊥
taking_some i keys order turn list waits entries instance least topological some taking none =
    let next = next_there (problem_of i) (rank_in order) (λ h. get_or keys h 0) (places list)
    (bounded i instance).inside (order_ranks i order instance.project.network least topological)
    (omega (arith, taking.counted, some, count-problem i)) in
    let g = next_of (problem_of i) (λ h. get_or keys h 0) (places list) in
    let once : times_in entries g ≡ 1 = taking.queued g (omega (arith, next.first.inside, count-problem i)) ∙ ap (λ (b : Bool). tally b) next.first.eligible in
    absurd (omega (arith, once, none, count_by-le-length (λ (e : Entry). nat_eq (e.0.1 - 1) g) entries))

passes : (b : Bool) → 1 ≤ tally b → b ≡ true
passes true some = refl
passes false some = absurd (omega (arith, some))

-- the entry that comes out of the queue is the next one that the rule takes
pub popped_next : (i : Planned) (keys : List ℕ) (turn : ℕ) (list waits : List ℕ) (entries after : List Entry)
    (e : Entry) → length keys ≡ count_of i.project.network → IsTaking i keys turn list waits entries →
    IsPermutation entries (e ∷ after) → PopsGreatest by_key entries e after
    → IsFirstBelow (problem_of i) (λ k. get_or keys k 0) (places list) (count (problem_of i)) (e.0.1 - 1)
popped_next i keys turn list waits entries after e long taking same pops = record { inside = inside; eligible = eligible; first = first } where
  keyed : IsKeyed keys e
  keyed = popped_keyed keys e entries after taking.queue same

  inside : e.0.1 - 1 < count (problem_of i)
  inside = omega (arith, keyed.0, keyed.1, long, count-problem i)

  eligible : is_eligible (problem_of i) (places list) (e.0.1 - 1) ≡ true
  eligible =
      let one : tally (nat_eq (e.0.1 - 1) (e.0.1 - 1)) ≡ 1 = ap (λ (b : Bool). tally b) (eq-eqb (e.0.1 - 1) (e.0.1 - 1) refl) in
      passes (is_eligible (problem_of i) (places list) (e.0.1 - 1))
      (omega (
        arith,
        one,
        times_popped e entries after same (e.0.1 - 1),
        taking.queued (e.0.1 - 1)
            (omega (arith, inside, count-problem i)),
      ))

  first : (h : ℕ) → h < count (problem_of i) → is_eligible (problem_of i) (places list) h ≡ true →
      (get_or keys (e.0.1 - 1) 0 < get_or keys h 0)
      ⊎ ((get_or keys (e.0.1 - 1) 0 ≡ get_or keys h 0) × (e.0.1 - 1 ≤ h))
  first h below is =
      let once : times_in entries h ≡ 1 = taking.queued h (omega (arith, below, count-problem i)) ∙ ap (λ (b : Bool). tally b) is in
      let at = count_place (λ (x : Entry). nat_eq (x.0.1 - 1) h) entries e (omega (arith, once)) in
      let x = get_or entries at.0 e in
      let place : x.0.1 - 1 ≡ h = eqb-true (x.0.1 - 1) h at.2 in
      let key : x.0.0 ≡ get_or keys h 0 = (taking.queue.keyed at.0 e at.1).2 ∙ ap (λ (k : ℕ). get_or keys k 0) place in
      elim (popped_first keys e entries after taking.queue pops at.0 at.1) [
        | inl up ↦ inl (omega (arith, up, key, keyed.2))
        | inr level ↦ inr (sym keyed.2 ∙ level.0 ∙ key, omega (arith, level.1, place))
      ]

-- each of its successors waits for at least one
pub successor_waits : (i : Planned) (keys : List ℕ) (turn : ℕ) (list waits : List ℕ) (entries : List Entry)
    (j : ℕ) → IsSound i.project.network → IsTaking i keys turn list waits entries →
    is_eligible (problem_of i) (places list) (j - 1) ≡ true
    → (k : ℕ) → IsArc i.project.network j k → 1 ≤ get_or waits (k - 1) 0
successor_waits i keys turn list waits entries j sound taking eligible k arc =
    let ends = arc_ends i.project.network j k sound.limits arc in
    let more = open_more (problem_of i) (places list) (j - 1) (k - 1) (eligible_not (problem_of i) (places list) (j - 1) eligible) in
    omega (arith, taking.waiting (k - 1) (omega (arith, ends.1)), more, links_as_arcs i (j - 1) (k - 1), between_some i.project.network j k arc)

-- the counts after one more is taken
pub waiting_more : (i : Planned) (keys : List ℕ) (turn : ℕ) (list waits new : List ℕ) (entries : List Entry)
    (j h : ℕ) → IsTaking i keys turn list waits entries →
    is_eligible (problem_of i) (places list) (j - 1) ≡ true → Lowers i.project.network j waits new →
    h < count_of i.project.network
    → get_or new h 0 ≡ open_links (problem_of i) (places list ++ (j - 1) ∷ []) h
waiting_more i keys turn list waits new entries j h taking eligible lowers inside =
    let more = open_more (problem_of i) (places list) (j - 1) h (eligible_not (problem_of i) (places list) (j - 1) eligible) in
    omega (arith, lowers.each h (omega (arith, inside, taking.size)), taking.waiting h inside, more, links_as_arcs i (j - 1) h)

-- the entry that comes out of the queue is taken, and the activities that then wait for none are
-- queued
pub taking_more : (i : Planned) (keys : List ℕ) (turn : ℕ) (list waits new : List ℕ)
    (entries between after : List Entry) (e : Entry) → length keys ≡ count_of i.project.network →
    turn < count_of i.project.network → IsTaking i keys turn list waits entries
    → IsPermutation entries (e ∷ between) → PopsGreatest by_key entries e between →
    Lowers i.project.network e.0.1 waits new → IsQueue keys after → Joins waits new between after →
    IsTaking i keys (turn + 1) (list ++ e.0.1 ∷ []) new after
taking_more i keys turn list waits new entries between after e long some taking same pops lowers queue joins = record {
  rest = rest;
  counted = ap (taken_count (problem_of i)) pushed
      ∙ sym (taken_more (problem_of i) (places list) g first.inside
      (eligible_not (problem_of i) (places list) g first.eligible)) ∙ ap (λ (n : ℕ). n + 1) taking.counted;
  from_one = All-push (λ j. 1 ≤ j) list e.0.1 taking.from_one (popped_keyed keys e entries between taking.queue same).0;
  settled = subst (λ (xs : List ℕ). (h : ℕ) → is_member h xs ≡ true → open_links (problem_of i) xs h ≡ 0) (sym pushed) (settled_more (problem_of i) (places list) g taking.settled first.eligible);
  size = lowers.size ∙ taking.size;
  waiting = λ h inside. waiting h inside ∙ ap (λ (xs : List ℕ). open_links (problem_of i) xs h) (sym pushed);
  queue = queue;
  queued = λ h inside. queued h inside ∙ ap (λ (xs : List ℕ). tally (is_eligible (problem_of i) xs h)) (sym pushed);
} where
  g : ℕ
  g = e.0.1 - 1

  first : IsFirstBelow (problem_of i) (λ k. get_or keys k 0) (places list) (count (problem_of i)) g
  first = popped_next i keys turn list waits entries between e long taking same pops

  pushed : places (list ++ e.0.1 ∷ []) ≡ places list ++ g ∷ []
  pushed = map_push (λ (j : ℕ). j - 1) list e.0.1

  waiting : (h : ℕ) → h < count_of i.project.network → get_or new h 0 ≡ open_links (problem_of i) (places list ++ g ∷ []) h
  waiting h inside = waiting_more i keys turn list waits new entries e.0.1 h taking first.eligible lowers inside

  queued : (h : ℕ) → h < count_of i.project.network → times_in after h ≡ tally (is_eligible (problem_of i) (places list ++ g ∷ []) h)
  queued h inside =
      let came = tally (nat_lt 0 (open_links (problem_of i) (places list) h) && nat_eq (open_links (problem_of i) (places list ++ g ∷ []) h) 0) in
      let joined : times_in after h ≡ times_in between h + came =
      joins h (omega (arith, inside, lowers.size, taking.size))
      ∙ ap (λ (n : ℕ). times_in between h + tally (nat_lt 0 n && nat_eq (get_or new h 0) 0)) (taking.waiting h inside)
      ∙ ap (λ (n : ℕ). times_in between h + tally (nat_lt 0 (open_links (problem_of i) (places list) h) && nat_eq n 0)) (waiting h inside) in
      joined ∙ queued_more (problem_of i) (places list) g h (times_in between h) came first.eligible (taking.settled h) (times_popped e entries between same h ∙ taking.queued h inside) refl

  is_next : next_of (problem_of i) (λ k. get_or keys k 0) (places list) ≡ g
  is_next = first_once (problem_of i) (λ k. get_or keys k 0) (places list) (count (problem_of i))
      (next_of (problem_of i) (λ k. get_or keys k 0) (places list)) g
      (next_first (problem_of i) (λ k. get_or keys k 0) (places list) g first.inside first.eligible) first

  rest : rule_list_from (problem_of i) (λ k. get_or keys k 0) (places (list ++ e.0.1 ∷ [])) (count_of i.project.network - (turn + 1)) ≡ rule_list (problem_of i) (λ k. get_or keys k 0)
  rest =
      let left : count_of i.project.network - turn ≡ suc (count_of i.project.network - (turn + 1)) = omega (arith, some) in
      let step : rule_list_from (problem_of i) (λ k. get_or keys k 0) (places list)
      (count_of i.project.network - turn) ≡ rule_list_from (problem_of i) (λ k. get_or keys k 0)
      (places list ++ next_of (problem_of i) (λ k. get_or keys k 0) (places list) ∷ [])
      (count_of i.project.network - (turn + 1)) =
      ap (rule_list_from (problem_of i) (λ k. get_or keys k 0) (places list)) left in
      let to_it : places (list ++ e.0.1 ∷ []) ≡ places list ++ next_of (problem_of i) (λ k. get_or keys k 0) (places list) ∷ [] = pushed ∙ ap (λ (x : ℕ). places list ++ x ∷ []) (sym is_next) in
      ap (λ (xs : List ℕ). rule_list_from (problem_of i) (λ k. get_or keys k 0) xs (count_of i.project.network - (turn + 1))) to_it ∙ sym step ∙ taking.rest

-- once all are taken the list is the rule's
pub taking_last : (i : Planned) (keys : List ℕ) (turn : ℕ) (list waits : List ℕ) (entries : List Entry) →
    count_of i.project.network ≤ turn → IsTaking i keys turn list waits entries →
    places list ≡ rule_list (problem_of i) (λ h. get_or keys h 0)
taking_last i keys turn list waits entries all taking =
    let none : count_of i.project.network - turn ≡ 0 = omega (arith, all) in
    sym (ap (rule_list_from (problem_of i) (λ h. get_or keys h 0) (places list)) none) ∙ taking.rest

-- the list of a rule is an order
pub rule_turns : (i : Planned) (keys order list : List ℕ) → IsInstance i →
    IsLeastOrder i.project.network order → IsTopological i.project.network order → All (λ j. 1 ≤ j) list →
    places list ≡ rule_list (problem_of i) (λ h. get_or keys h 0) → IsTurnList (problem_of i) list
rule_turns i keys order list instance least topological from_one is = (
  from_one,
  ap (is_activity_list (problem_of i)) is
      ∙ rule_list_is (problem_of i) (rank_in order) (λ h. get_or keys h 0) (bounded i instance).inside
      (order_ranks i order instance.project.network least topological),
)
