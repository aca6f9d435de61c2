-- The invariant of the tree of a project gives the results of its calls, and each push and pop
-- keeps it.
use Rattle.std.proofs.Common.{ℕ, zero, suc, max, true, ◌≡◌, ◌≢◌, ◌+◌, ◌-◌, ◌≤◌, ◌<◌, inl, inr, List, [], ◌∷◌, ◌++◌, length, get_or, set, take, Option, Some, None, refl, sym, ◌∙◌, ap, subst, arith, length-append, get_or-set_same, get_or-set_other}
use Rattle.std.specs.List.{Contains, slice_get}
use Rattle.std.proofs.lemmas.Bool.{cases_eq}
use Rattle.std.proofs.lemmas.List.{length-map, length_push, length-take-le, take_more, take-append-le, get_or-take, get_or_push, get_or_append_left, append-nil, append_assoc, length-set, map_push, set-set, set-get_or, take_all, get_or_default}
use Rattle.std.proofs.lemmas.Option.{none-some, slice_get_within, slice_get-get_or, same_Some}
use Rattle.plan_net.specs.Network.{count_of, IsActivity}
use Rattle.plan_cpm.specs.Lengths.{AreTails}
use Rattle.plan_profile.specs.declared.profile.Profile.{Profile}
use Rattle.plan_sgs.specs.Problem.{Problem, count, duration, greatest_below}
use Rattle.plan_sgs.specs.Serial.{end_from, end_of, earliest, unplaced, serial_from}
use Rattle.plan_sgs.specs.Rules.{places, takes_in_turn}
use Rattle.plan_sgs.specs.Instances.{Planned, IsInstance, problem_of}
use Rattle.plan_sgs.specs.Placement.{EndsBy, Holds}
use Rattle.plan_sgs.specs.PathTails.{tail_of}
use Rattle.plan_sgs.specs.Eligibility.{Lowers}
use Rattle.plan_sgs.specs.ProjectWords.{depth_of, placed_by, letters_after, Follows, IsWord, reach_of}
use Rattle.plan_sgs.specs.ProjectTrees.{Standing, standing, word_of, end_by, reach_by, IsTurn, AreTurns, AreProfiles, AreWaits, IsTree}
use Rattle.plan_sgs.specs.declared.project_tree.Turn.{Turn}
use Rattle.plan_sgs.proofs.Bounds.{IsBounded, bound_of}
use Rattle.plan_sgs.proofs.TotalLemmas.{greatest_least, greatest_above}
use Rattle.plan_sgs.proofs.InstanceLemmas.{count-problem}
use Rattle.plan_sgs.proofs.BoundedLemmas.{bounded}
use Rattle.plan_sgs.proofs.PlacingLemmas.{IsPartial}
use Rattle.plan_sgs.proofs.SerialLemmas.{TakenIs, taken_open, turn_parts, eligible_not, unplaced_at}
use Rattle.plan_sgs.proofs.StepLemmas.{ends_set, bound_more, bound_within, end_of-limit}
use Rattle.plan_sgs.proofs.RunLemmas.{length-places}
use Rattle.plan_sgs.proofs.WordLemmas.{IsLetter, letter_is, word_turns, word_push, word_split}
use Rattle.plan_sgs.proofs.FullWordLemmas.{words_most}
use Rattle.plan_sgs.proofs.WordBoundLemmas.{word_partial, placed_append}
use Rattle.plan_sgs.proofs.ProjectTreeLemmas.{tail_read, tail_short}
use Rattle.plan_sgs.proofs.ProjectWaitLemmas.{waits_push, waits_pop}

-- the instant by which activities that are placed in turn have ended
ends_after : (p : Problem) (js taken : List ℕ) (placed : List (Option ℕ)) → IsBounded p → length placed ≡ count p → takes_in_turn p taken js ≡ true → EndsBy p placed (bound_of p taken)
    → EndsBy p (serial_from p placed js) (bound_of p (taken ++ js))
ends_after p [] taken placed limits size turns ends h s is = let same : bound_of p (taken ++ []) ≡ bound_of p taken = ap (bound_of p) (append-nil taken) in omega (arith, same, ends h s is)
ends_after p (j ∷ js) taken placed limits size turns ends h s is =
    let turn = turn_parts p taken j js turns in
    let after = set placed j (Some (earliest p placed j)) in
    let next : EndsBy p (set placed j (Some (earliest p placed j))) (bound_of p (taken ++ j ∷ [])) = λ g r there.
    omega (arith, ends_set p placed j (bound_of p taken) limits size turn.0 ends g r there, bound_more p taken j turn.0 (eligible_not p taken j turn.1)) in
    let rest = ends_after p js (taken ++ j ∷ []) after limits (length-set placed j (Some (earliest p placed j)) ∙ size) turn.2 next h s is in
    let same : bound_of p ((taken ++ j ∷ []) ++ js) ≡ bound_of p (taken ++ j ∷ js) = ap (bound_of p) (append_assoc taken (j ∷ []) js) in
    omega (arith, rest, same)

-- the activities of a word end in time
pub word_ends : (i : Planned) (w : List ℕ) → IsInstance i → IsWord i w → EndsBy (problem_of i) (placed_by i w) 6020000
word_ends i w instance word h s is =
    let limits = bounded i instance in
    let partial = word_partial i [] instance tt in
    let all = ends_after (problem_of i) (places w) [] (unplaced (depth_of i)) limits partial.0.size
    (word_turns i [] w word).turns (λ g r there. absurd
    (none-some r (sym (unplaced_at (depth_of i) g) ∙ there))) h s is in
    let most : bound_of (problem_of i) (places w) ≤ 6020000 = bound_within (problem_of i) (places w) limits (omega (arith, words_most i w word, length-places w)) in
    omega (arith, all, most)

-- facts for the calls of a tree
pub record TreeFacts (v : Standing) (placed : List (Option ℕ)) : Type 0 where
  pub instance : IsInstance v.instance
  pub word : IsWord v.instance v.word
  pub placed_are : placed ≡ placed_by v.instance v.word
  pub size : length placed ≡ depth_of v.instance
  pub count : length placed ≡ count_of v.instance.project.network
  pub few : length placed ≤ 502
  pub taken : TakenIs placed (places v.word)
  pub ends : EndsBy (problem_of v.instance) placed 6020000

pub facts_of : (i : Planned) (w : List ℕ) (placed : List (Option ℕ)) → IsInstance i → IsWord i w → placed ≡ placed_by i w → TreeFacts (standing i w) placed
facts_of i w placed instance word are = subst (TreeFacts (standing i w)) (sym are) (record {
  instance = instance;
  word = word;
  placed_are = refl;
  size = partial.0.size;
  count = omega (arith, partial.0.size, count-problem i);
  few = omega (arith, partial.0.size, count-problem i, instance.project.network.limits.size.1);
  taken = partial.1;
  ends = word_ends i w instance word;
}) where
  partial : IsPartial (problem_of i) (placed_by i w) × TakenIs (placed_by i w) (places w)
  partial = word_partial i w instance word

pub tree_facts : (i : Planned) (tails : List ℕ) (least : ℕ) (placed : List (Option ℕ)) (profiles : List Profile) (turns : List Turn) (v : Standing) {waits : List ℕ} → standing i (word_of turns) ≡ v
    → IsTree i tails least placed waits profiles turns → TreeFacts v placed
tree_facts i tails least placed profiles turns v is tree = subst (λ (x : Standing). TreeFacts x placed) is (facts_of i (word_of turns) placed tree.instance tree.word tree.placed_are)

-- the turn of a place
turn_at : (i : Planned) (u : List ℕ) (turns : List Turn) (k : ℕ) (turn : Turn) → slice_get turns k ≡ Some turn → AreTurns i u turns → IsTurn i (u ++ word_of (take (suc k) turns)) turn
turn_at i u [] k turn is are = absurd (none-some turn is)
turn_at i u (t ∷ ts) zero turn is are = subst (IsTurn i (u ++ t.letter ∷ [])) (same_Some t turn is) are.0
turn_at i u (t ∷ ts) (suc k) turn is are = subst (λ (xs : List ℕ). IsTurn i xs turn) (append_assoc u (t.letter ∷ []) (word_of (take (suc k) ts))) (turn_at i (u ++ t.letter ∷ []) ts k turn is are.1)

-- the last turn is that of the word
pub last_turn : (i : Planned) (turns ys : List Turn) (v : Standing) (turn : Turn) → standing i (word_of turns) ≡ v → AreTurns i [] turns → ys ≡ turns
    → Some turn ≡ slice_get ys (length ys - 1) → IsTurn v.instance v.word turn
last_turn i turns ys v turn is are same last =
    let there : slice_get turns (length turns - 1) ≡ Some turn = sym (last ∙ ap (λ (xs : List Turn). slice_get xs (length xs - 1)) same) in
    let within = slice_get_within turns (length turns - 1) turn there in
    let whole : take (suc (length turns - 1)) turns ≡ turns = take_all (suc (length turns - 1)) turns (omega (arith, within)) in
    subst (λ (x : Standing). IsTurn x.instance x.word turn) is (subst (λ (xs : List Turn). IsTurn i (word_of xs) turn) whole (turn_at i [] turns (length turns - 1) turn there are))

-- without a turn the word is empty
pub no_turn : (i : Planned) (turns ys : List Turn) (v : Standing) → standing i (word_of turns) ≡ v → ys ≡ turns → None ≡ slice_get ys (length ys - 1) → standing i [] ≡ v
no_turn i turns ys v is same none = ap (standing i) (sym (empty turns (sym (none ∙ ap (λ (xs : List Turn). slice_get xs (length xs - 1)) same)))) ∙ is where
  empty : (xs : List Turn) → slice_get xs (length xs - 1) ≡ None → word_of xs ≡ []
  empty [] e = refl
  empty (t ∷ ts) e =
      let place : length (t ∷ ts) - 1 < length (t ∷ ts) = omega arith in
      absurd (none-some (get_or (t ∷ ts) (length (t ∷ ts) - 1) t) (sym e ∙ slice_get-get_or (t ∷ ts) (length (t ∷ ts) - 1) t place))

-- the greatest of no numbers is 0
none_greatest : (n : ℕ) (f : ℕ → ℕ) → ((h : ℕ) → f h ≡ 0) → 0 ≡ greatest_below n f
none_greatest n f none = let low : greatest_below n f ≤ 0 = greatest_least n f 0 (λ h below. omega (arith, none h)) in omega (arith, low)

pub no_end : (i : Planned) (v : Standing) → standing i [] ≡ v → 0 ≡ end_by v.instance v.word
no_end i v is = subst (λ (x : Standing). 0 ≡ end_by x.instance x.word) is
    (none_greatest (depth_of i) (end_of (problem_of i) (placed_by i []))
    (λ h. ap (end_from (duration (problem_of i) h)) (unplaced_at (depth_of i) h)))

pub no_reach : (i : Planned) (v : Standing) → standing i [] ≡ v → 0 ≡ reach_by v.instance v.word
no_reach i v is = subst (λ (x : Standing). 0 ≡ reach_by x.instance x.word) is
    (none_greatest (depth_of i) (reach_of i (placed_by i []))
    (λ h. ap (end_from (tail_of i.project.network (suc h))) (unplaced_at (depth_of i) h)))

-- the greatest end is no later than all ends
pub end_limit : (v : Standing) (placed : List (Option ℕ)) → TreeFacts v placed → end_by v.instance v.word ≤ 6020000
end_limit v placed facts = greatest_least (depth_of v.instance) (end_of (problem_of v.instance) (placed_by v.instance v.word)) 6020000 (λ h below.
    end_of-limit (problem_of v.instance) (placed_by v.instance v.word) h 6020000 (word_ends v.instance v.word facts.instance facts.word))

-- facts for a letter that may follow
pub record CanPlace (v : Standing) (placed : List (Option ℕ)) (a : ℕ) : Type 0 where
  pub activity : IsActivity v.instance.project.network a
  pub inside : a - 1 < length placed
  pub none : get_or placed (a - 1) None ≡ None

pub can_place : (v : Standing) (placed : List (Option ℕ)) (a : ℕ) → TreeFacts v placed → Contains (letters_after v.instance v.word) a → CanPlace v placed a
can_place v placed a facts may =
    let letter = letter_is v.instance v.word a may in
    record {
      activity = (letter.from_one, omega (arith, letter.inside, letter.from_one, facts.size, facts.count));
      inside = omega (arith, letter.inside, facts.size);
      none = taken_open placed (places v.word) (a - 1) facts.taken (eligible_not (problem_of v.instance) (places v.word) (a - 1) letter.eligible);
    }

-- a letter may follow the word inside
pub may_inside : (i : Planned) (w : List ℕ) (v : Standing) (a : ℕ) → standing i w ≡ v → Contains (letters_after v.instance v.word) a → Contains (letters_after i w) a
may_inside i w v a is = subst (λ (x : Standing). Contains (letters_after x.instance x.word) a) (sym is)

-- the placed activities with one more letter
pub placed_push : (i : Planned) (w : List ℕ) (a : ℕ) → placed_by i (w ++ a ∷ []) ≡ set (placed_by i w) (a - 1) (Some (earliest (problem_of i) (placed_by i w) (a - 1)))
placed_push i w a = placed_append i w (a ∷ [])

-- the greatest value if one value rises
greatest_changed : (n : ℕ) (f g : ℕ → ℕ) (j : ℕ) → j < n → f j ≤ g j → ((h : ℕ) → h ≢ j → f h ≡ g h) → max (greatest_below n f) (g j) ≡ greatest_below n g
greatest_changed n f g j inside rise rest =
    let low : greatest_below n f ≤ greatest_below n g = greatest_least n f (greatest_below n g) (λ h below. elim (cases_eq h j) [
      | inl same ↦ omega (arith, ap f same, rise, greatest_above n g j inside)
      | inr other ↦ omega (arith, rest h other, greatest_above n g h below)
    ]) in
    let high : greatest_below n g ≤ max (greatest_below n f) (g j) = greatest_least n g (max (greatest_below n f) (g j)) (λ h below. elim (cases_eq h j) [
      | inl same ↦ omega (arith, ap g same)
      | inr other ↦ omega (arith, rest h other, greatest_above n f h below)
    ]) in
    omega (arith, low, high, greatest_above n g j inside)

-- the same if one more activity is placed
greatest_placed : (n : ℕ) (length_of : ℕ → ℕ) (placed : List (Option ℕ)) (j s : ℕ) → j < n → j < length placed → get_or placed j None ≡ None
    → max (greatest_below n (λ h. end_from (length_of h) (get_or placed h None))) (s + length_of j) ≡ greatest_below n (λ h. end_from (length_of h) (get_or (set placed j (Some s)) h None))
greatest_placed n length_of placed j s inside within none =
    let here : end_from (length_of j) (get_or (set placed j (Some s)) j None) ≡ s + length_of j = ap (end_from (length_of j)) (get_or-set_same placed j (Some s) None within) in
    let before : end_from (length_of j) (get_or placed j None) ≡ 0 = ap (end_from (length_of j)) none in
    let all = greatest_changed n (λ h. end_from (length_of h) (get_or placed h None))
    (λ h. end_from (length_of h) (get_or (set placed j (Some s)) h None)) j inside
    (omega (arith, here, before)) (λ h other.
    ap (end_from (length_of h)) (sym (get_or-set_other placed j h (Some s) None other))) in
    omega (arith, all, here)

-- the turn of one letter more
pub next_turn : (v : Standing) (placed : List (Option ℕ)) (a start end reach : ℕ) → TreeFacts v placed → CanPlace v placed a → start ≡ earliest (problem_of v.instance) placed (a - 1)
    → end ≡ max (end_by v.instance v.word) (start + duration (problem_of v.instance) (a - 1)) → reach ≡ max (reach_by v.instance v.word) (start + tail_of v.instance.project.network (suc (a - 1)))
    → IsTurn v.instance (v.word ++ a ∷ []) (record { letter = a; end = end; reach = reach })
next_turn v placed a start end reach facts can is ends reaches = record {
  latest = omega (
    arith,
    ends,
    before_end,
    greatest_placed (depth_of v.instance)
        (duration (problem_of v.instance)) placed (a - 1) start
        (omega (arith, can.inside, facts.size)) can.inside can.none,
    after_end,
  );
  farthest = omega (
    arith,
    reaches,
    before_reach,
    greatest_placed (depth_of v.instance)
        (λ h. tail_of v.instance.project.network (suc h)) placed (a - 1) start
        (omega (arith, can.inside, facts.size)) can.inside can.none,
    after_reach,
  );
} where
  after : set placed (a - 1) (Some start) ≡ placed_by v.instance (v.word ++ a ∷ [])
  after = ap (λ (t : ℕ). set placed (a - 1) (Some t)) is
      ∙ ap (λ (xs : List (Option ℕ)). set xs (a - 1) (Some (earliest (problem_of v.instance) xs (a - 1))))
      facts.placed_are ∙ sym (placed_push v.instance v.word a)

  before_end : greatest_below (depth_of v.instance) (end_of (problem_of v.instance) placed) ≡ end_by v.instance v.word
  before_end = ap (λ (xs : List (Option ℕ)). greatest_below (depth_of v.instance) (end_of (problem_of v.instance) xs)) facts.placed_are

  after_end : greatest_below (depth_of v.instance) (end_of (problem_of v.instance) (set placed (a - 1) (Some start))) ≡ end_by v.instance (v.word ++ a ∷ [])
  after_end = ap (λ (xs : List (Option ℕ)). greatest_below (depth_of v.instance) (end_of (problem_of v.instance) xs)) after

  before_reach : greatest_below (depth_of v.instance) (reach_of v.instance placed) ≡ reach_by v.instance v.word
  before_reach = ap (λ (xs : List (Option ℕ)). greatest_below (depth_of v.instance) (reach_of v.instance xs)) facts.placed_are

  after_reach : greatest_below (depth_of v.instance) (reach_of v.instance (set placed (a - 1) (Some start))) ≡ reach_by v.instance (v.word ++ a ∷ [])
  after_reach = ap (λ (xs : List (Option ℕ)). greatest_below (depth_of v.instance) (reach_of v.instance xs)) after

-- one turn more
pub word_of-push : (turns : List Turn) (turn : Turn) → word_of (turns ++ turn ∷ []) ≡ word_of turns ++ turn.letter ∷ []
word_of-push turns turn = map_push (λ (t : Turn). t.letter) turns turn

turns_push : (i : Planned) (u : List ℕ) (turns : List Turn) (turn : Turn) → AreTurns i u turns → IsTurn i (u ++ word_of turns ++ turn.letter ∷ []) turn → AreTurns i u (turns ++ turn ∷ [])
turns_push i u [] turn are is = (subst (λ (xs : List ℕ). IsTurn i (xs ++ turn.letter ∷ []) turn) (append-nil u) is, tt)
turns_push i u (t ∷ ts) turn are is = (
  are.0,
  turns_push i (u ++ t.letter ∷ []) ts turn are.1
      (subst (λ (xs : List ℕ). IsTurn i (xs ++ turn.letter ∷ []) turn)
      (sym (append_assoc u (t.letter ∷ []) (word_of ts))) is),
)

turns_front : (i : Planned) (u : List ℕ) (turns : List Turn) (turn : Turn) → AreTurns i u (turns ++ turn ∷ []) → AreTurns i u turns
turns_front i u [] turn are = tt
turns_front i u (t ∷ ts) turn are = (are.0, turns_front i (u ++ t.letter ∷ []) ts turn are.1)

-- one letter more leaves the profiles those of the words on the way
profiles_push : (i : Planned) (w : List ℕ) (a : ℕ) (profiles : List Profile) → AreProfiles i w profiles → length profiles ≡ length w + 1 → AreProfiles i (w ++ a ∷ []) profiles
profiles_push i w a profiles are made = record {
  some = are.some;
  enough = omega (arith, made, length_push w a);
  most = omega (arith, made, length_push w a);
  held = λ k profile within is. subst (λ (xs : List ℕ). Holds profile (problem_of i) (placed_by i xs)) (sym (take-append-le k w (a ∷ []) (omega (arith, within, made)))) (are.held k profile within is);
}

-- with one letter less, the profiles up to the shorter word remain
profiles_pop : (i : Planned) (w : List ℕ) (a n : ℕ) (profiles after : List Profile) → AreProfiles i (w ++ a ∷ []) profiles → n ≡ length w + 1 → after ≡ take n profiles → AreProfiles i w after
profiles_pop i w a n profiles after are size cut = subst (AreProfiles i w) (sym cut) (record {
  some = omega (arith, long, size);
  enough = omega (arith, long, size);
  most = omega (arith, long, size);
  held = λ k profile within is.
      let low : k < n = omega (arith, within, long) in
      subst (λ (xs : List ℕ). Holds profile (problem_of i) (placed_by i xs)) (take-append-le k w (a ∷ []) (omega (arith, low, size)))
      (are.held k profile (omega (arith, low, size, are.enough, length_push w a)) (is ∙ get_or-take n profiles k profile low));
}) where
  long : length (take n profiles) ≡ n
  long = length-take-le n profiles (omega (arith, size, are.enough, length_push w a))

-- a push keeps the tree
pub tree_push : (i : Planned) (tails : List ℕ) (least : ℕ) (placed : List (Option ℕ)) (profiles made : List Profile) (turns after : List Turn) (turn : Turn) (a start : ℕ) (waits lowered : List ℕ)
    → IsTree i tails least placed waits profiles turns
    → Contains (letters_after i (word_of turns)) a → AreProfiles i (word_of turns) made → length made ≡ length turns + 1
    → after ≡ turns ++ turn ∷ [] → turn.letter ≡ a → start ≡ earliest (problem_of i) (placed_by i (word_of turns)) (a - 1) → IsTurn i (word_of turns ++ a ∷ []) turn
    → Lowers i.project.network a waits lowered → IsTree i tails least (set placed (a - 1) (Some start)) lowered made after
tree_push i tails least placed profiles made turns after turn a start waits lowered tree may are size all letter is here lowers = record {
  instance = tree.instance;
  tails_are = tree.tails_are;
  least_is = tree.least_is;
  word = subst (IsWord i) (sym word) (word_push i [] (word_of turns) a tree.word may);
  placed_are = ap (λ (t : ℕ). set placed (a - 1) (Some t)) is ∙ ap (λ (xs : List (Option ℕ)). set xs (a - 1) (Some (earliest (problem_of i) (placed_by i (word_of turns)) (a - 1)))) tree.placed_are
      ∙ sym (placed_push i (word_of turns) a) ∙ ap (placed_by i) (sym word);
  waits_are = subst (λ (xs : List ℕ). AreWaits i xs lowered) (sym word) (waits_push i (word_of turns) a waits lowered tree.waits_are may lowers);
  profiles_are = subst (λ (xs : List ℕ). AreProfiles i xs made) (sym word) (profiles_push i (word_of turns) a made are (omega (arith, size, length-map turns (λ (t : Turn). t.letter))));
  turns_are = subst (AreTurns i []) (sym all) (turns_push i [] turns turn tree.turns_are (subst (λ (b : ℕ). IsTurn i (word_of turns ++ b ∷ []) turn) (sym letter) here));
} where
  word : word_of after ≡ word_of turns ++ a ∷ []
  word = ap (λ (xs : List Turn). word_of xs) all ∙ word_of-push turns turn ∙ ap (λ (b : ℕ). word_of turns ++ b ∷ []) letter

-- facts of the last letter of a word, and of the word before it
pub record IsLast (i : Planned) (u : List ℕ) (placed : List (Option ℕ)) (a : ℕ) : Type 0 where
  pub activity : IsActivity i.project.network a
  pub inside : a - 1 < length placed
  pub word : IsWord i u
  pub letter : Contains (letters_after i u) a
  pub undone : set placed (a - 1) None ≡ placed_by i u
  pub last : get_or placed (a - 1) None ≡ Some (earliest (problem_of i) (set placed (a - 1) None) (a - 1))

pub last_is : (i : Planned) (w u : List ℕ) (placed : List (Option ℕ)) (a : ℕ) → IsInstance i → IsWord i w → placed ≡ placed_by i w → w ≡ u ++ a ∷ [] → IsLast i u placed a
last_is i w u placed a instance is_word are word = record {
  activity = (letter.from_one, omega (arith, letter.from_one, letter.inside, count-problem i));
  inside = inside;
  word = parts.0;
  letter = parts.1.0;
  undone = undone;
  last = ap (λ (xs : List (Option ℕ)). get_or xs (a - 1) None) pushed
      ∙ get_or-set_same (placed_by i u) (a - 1) (Some (earliest (problem_of i) (placed_by i u) (a - 1))) None
      (omega (arith, letter.inside, (word_partial i u instance parts.0).0.size))
      ∙ ap (λ (xs : List (Option ℕ)). Some (earliest (problem_of i) xs (a - 1))) (sym undone);
} where
  parts : Follows i [] u × Follows i ([] ++ u) (a ∷ [])
  parts = word_split i [] u (a ∷ []) (subst (IsWord i) word is_word)

  letter : IsLetter i u a
  letter = letter_is i u a parts.1.0

  inside : a - 1 < length placed
  inside = omega (arith, letter.inside, ap (λ (xs : List (Option ℕ)). length xs) are, (word_partial i w instance is_word).0.size)

  none : get_or (placed_by i u) (a - 1) None ≡ None
  none = taken_open (placed_by i u) (places u) (a - 1) (word_partial i u instance parts.0).1 (eligible_not (problem_of i) (places u) (a - 1) letter.eligible)

  pushed : placed ≡ set (placed_by i u) (a - 1) (Some (earliest (problem_of i) (placed_by i u) (a - 1)))
  pushed = are ∙ ap (placed_by i) word ∙ placed_push i u a

  undone : set placed (a - 1) None ≡ placed_by i u
  undone = ap (λ (xs : List (Option ℕ)). set xs (a - 1) None) pushed ∙ set-set (placed_by i u) (a - 1) (Some (earliest (problem_of i) (placed_by i u) (a - 1))) None
      ∙ ap (λ (o : Option ℕ). set (placed_by i u) (a - 1) o) (sym none) ∙ set-get_or (placed_by i u) (a - 1) None

-- facts for a pop
pub can_pop : (i : Planned) (tails : List ℕ) (least : ℕ) (placed : List (Option ℕ)) (profiles : List Profile) (turns whole : List Turn) (turn : Turn)
    → {waits : List ℕ} → IsTree i tails least placed waits profiles whole → whole ≡ turns ++ turn ∷ [] → IsLast i (word_of turns) placed turn.letter
can_pop i tails least placed profiles turns whole turn tree all =
    last_is i (word_of whole) (word_of turns) placed turn.letter tree.instance tree.word tree.placed_are (ap (λ (xs : List Turn). word_of xs) all ∙ word_of-push turns turn)

pub tree_pop : (i : Planned) (tails : List ℕ) (least : ℕ) (placed : List (Option ℕ)) (profiles after : List Profile) (turns whole : List Turn) (turn : Turn) (n : ℕ) (waits raised : List ℕ)
    → IsTree i tails least placed waits profiles whole → whole ≡ turns ++ turn ∷ []
    → n ≡ length turns + 1 → after ≡ take n profiles → Lowers i.project.network turn.letter raised waits → IsTree i tails least (set placed (turn.letter - 1) None) raised after turns
tree_pop i tails least placed profiles after turns whole turn n waits raised tree all size cut lowers = record {
  instance = tree.instance;
  tails_are = tree.tails_are;
  least_is = tree.least_is;
  word = can.word;
  placed_are = can.undone;
  waits_are = waits_pop i (word_of turns) turn.letter waits raised (subst (λ (xs : List ℕ). AreWaits i xs waits) word tree.waits_are) can.letter lowers;
  profiles_are = profiles_pop i (word_of turns) turn.letter n profiles after
      (subst (λ (xs : List ℕ). AreProfiles i xs profiles) word tree.profiles_are)
      (omega (arith, size, length-map turns (λ (t : Turn). t.letter))) cut;
  turns_are = turns_front i [] turns turn (subst (AreTurns i []) all tree.turns_are);
} where
  word : word_of whole ≡ word_of turns ++ turn.letter ∷ []
  word = ap (λ (xs : List Turn). word_of xs) all ∙ word_of-push turns turn

  can : IsLast i (word_of turns) placed turn.letter
  can = can_pop i tails least placed profiles turns whole turn tree all

-- the last turn by its place
pub turns_split : (turns : List Turn) (at : ℕ) (turn : Turn) → at ≡ length turns → 0 < at → turn ≡ get_or turns (at - 1) turn → word_of turns ≡ word_of (take (at - 1) turns) ++ turn.letter ∷ []
turns_split turns at turn size some is =
    let whole : take (at - 1 + 1) turns ≡ turns = take_all (at - 1 + 1) turns (omega (arith, size, some)) in
    let more : take (at - 1 + 1) turns ≡ take (at - 1) turns ++ turn ∷ [] = take_more turns (at - 1) turn (omega (arith, size, some)) ∙ ap (λ (t : Turn). take (at - 1) turns ++ t ∷ []) (sym is) in
    ap (λ (xs : List Turn). word_of xs) (sym whole ∙ more) ∙ word_of-push (take (at - 1) turns) turn

-- the profile of the word before the last letter
pub held_before : (i : Planned) (w u : List ℕ) (a at : ℕ) (profiles : List Profile) (profile : Profile) → AreProfiles i w profiles → w ≡ u ++ a ∷ [] → at ≡ length u
    → profile ≡ get_or profiles at profile → Holds profile (problem_of i) (placed_by i u)
held_before i w u a at profiles profile are word size is =
    let long : length w ≡ length u + 1 = ap (λ (xs : List ℕ). length xs) word ∙ length_push u a in
    let cut : take at w ≡ u = ap (λ (xs : List ℕ). take at xs) word ∙ take-append-le at u (a ∷ []) (omega (arith, size)) ∙ take_all at u (omega (arith, size)) in
    subst (λ (xs : List ℕ). Holds profile (problem_of i) (placed_by i xs)) cut (are.held at profile (omega (arith, long, size, are.enough)) is)

-- the profile of the word itself
pub held_here : (i : Planned) (w : List ℕ) (at : ℕ) (profiles : List Profile) (profile : Profile) → AreProfiles i w profiles → at ≡ length w → at < length profiles
    → profile ≡ get_or profiles at profile → Holds profile (problem_of i) (placed_by i w)
held_here i w at profiles profile are size within is =
    subst (λ (xs : List ℕ). Holds profile (problem_of i) (placed_by i xs)) (take_all at w (omega (arith, size))) (are.held at profile within is)

-- the values for a word whose own profile is missing
abbrev pub no_turn_yet : Turn
no_turn_yet = record { letter = 0; end = 0; reach = 0 }

pub record IsBehind (i : Planned) (turns : List Turn) (placed : List (Option ℕ)) (profiles : List Profile) : Type 0 where
  pub last : IsLast i (word_of (take (length turns - 1) turns)) placed (get_or turns (length turns - 1) no_turn_yet).letter
  pub held : (profile : Profile) → profile ≡ get_or profiles (length turns - 1) profile → Holds profile (problem_of i) (set placed ((get_or turns (length turns - 1) no_turn_yet).letter - 1) None)

pub behind : (i : Planned) (turns : List Turn) (placed : List (Option ℕ)) (profiles : List Profile) → IsInstance i → IsWord i (word_of turns) → placed ≡ placed_by i (word_of turns)
    → AreProfiles i (word_of turns) profiles → length profiles ≡ length turns
    → IsBehind i turns placed profiles
behind i turns placed profiles instance word are kept size = record {
  last = last;
  held = λ profile is. subst (Holds profile (problem_of i)) (sym last.undone)
      (held_before i (word_of turns) (word_of (take (length turns - 1) turns))
      (get_or turns (length turns - 1) no_turn_yet).letter
      (length turns - 1) profiles profile kept split short is);
} where
  split : word_of turns ≡ word_of (take (length turns - 1) turns) ++ (get_or turns (length turns - 1) no_turn_yet).letter ∷ []
  split = turns_split turns (length turns) (get_or turns (length turns - 1) no_turn_yet) refl
      (omega (arith, kept.some, size)) (get_or_default turns (length turns - 1) no_turn_yet
      (get_or turns (length turns - 1) no_turn_yet) (omega (arith, kept.some, size)))

  last : IsLast i (word_of (take (length turns - 1) turns)) placed (get_or turns (length turns - 1) no_turn_yet).letter
  last = last_is i (word_of turns) (word_of (take (length turns - 1) turns)) placed (get_or turns (length turns - 1) no_turn_yet).letter instance word are split

  short : length turns - 1 ≡ length (word_of (take (length turns - 1) turns))
  short = omega (arith, length-map (take (length turns - 1) turns) (λ (t : Turn). t.letter), length-take-le (length turns - 1) turns (omega arith))

-- the profile of the empty word alone
held_first : (i : Planned) (first : Profile) (k : ℕ) (profile : Profile) → Holds first (problem_of i) (placed_by i []) → k < 1 → profile ≡ get_or (first ∷ []) k profile
    → Holds profile (problem_of i) (placed_by i (take k []))
held_first i first zero profile held low is = subst (λ (x : Profile). Holds x (problem_of i) (placed_by i [])) (sym is) held
held_first i first (suc k) profile held low is = absurd (omega (arith, low))

pub first_profile : (i : Planned) (first : Profile) (profiles : List Profile) → Holds first (problem_of i) (placed_by i []) → profiles ≡ first ∷ [] → AreProfiles i [] profiles
first_profile i first profiles held all = subst (AreProfiles i []) (sym all) (record {
  some = omega arith;
  enough = omega arith;
  most = omega arith;
  held = λ k profile within is. held_first i first k profile held within is;
})

-- one profile more, that of the word
pub profiles_more : (i : Planned) (w : List ℕ) (profiles after : List Profile) (made : Profile) → AreProfiles i w profiles → length profiles ≡ length w
    → Holds made (problem_of i) (placed_by i w) → after ≡ profiles ++ made ∷ [] → AreProfiles i w after
profiles_more i w profiles after made are size held more = subst (AreProfiles i w) (sym more) (record {
  some = omega (arith, length_push profiles made);
  enough = omega (arith, length_push profiles made, size);
  most = omega (arith, length_push profiles made, size);
  held = λ k profile within is. elim (cases_eq k (length profiles)) [
    | inl last ↦
        let same : profile ≡ made = is ∙ get_or_push profiles made profile k (sym last) in
        subst (λ (x : Profile). Holds x (problem_of i) (placed_by i (take k w))) (sym same)
        (subst (λ (xs : List ℕ). Holds made (problem_of i) (placed_by i xs))
        (sym (take_all k w (omega (arith, last, size)))) held)
    | inr other ↦
        let before : k < length profiles = omega (arith, within, other, length_push profiles made) in
        are.held k profile before (is ∙ get_or_append_left profiles (made ∷ []) profile k before)
  ];
})

-- lists that agree with one more at the end agree before it
same_front : (xs ys : List ℕ) (a b : ℕ) → xs ++ a ∷ [] ≡ ys ++ b ∷ [] → xs ≡ ys
same_front [] [] a b is = refl
same_front [] (y ∷ ys) a b is = absurd (omega (arith, ap (λ (v : List ℕ). length v) is, length-append ys (b ∷ [])))
same_front (x ∷ xs) [] a b is = absurd (omega (arith, ap (λ (v : List ℕ). length v) is, length-append xs (a ∷ [])))
same_front (x ∷ xs) (y ∷ ys) a b is =
    let heads : x ≡ y = cc in
    let rests : xs ++ a ∷ [] ≡ ys ++ b ∷ [] = cc in
    let same = same_front xs ys a b rests in
    cc

-- the word without its last letter
pub popped : (i : Planned) (turns whole : List Turn) (turn : Turn) (v : Standing) → standing i (word_of whole) ≡ v → whole ≡ turns ++ turn ∷ [] → (u : List ℕ) (a : ℕ) → v.word ≡ u ++ a ∷ []
    → word_of turns ≡ u
popped i turns whole turn v is all u a word =
    same_front (word_of turns) u turn.letter a (sym (word_of-push turns turn) ∙ ap (λ (xs : List Turn). word_of xs) (sym all) ∙ ap (λ (x : Standing). x.word) is ∙ word)

-- the tail that a push reads
pub tail_at : (v : Standing) (i : Planned) (tails : List ℕ) {w : List ℕ} → standing i w ≡ v → AreTails i.project.network tails → (a tail : ℕ) {placed : List (Option ℕ)} → TreeFacts v placed
    → CanPlace v placed a → tail ≡ get_or tails (a - 1) tail
    → (tail ≡ tail_of v.instance.project.network (suc (a - 1))) × (tail ≤ 6010000)
tail_at v i tails is are a tail facts can read =
    let net = v.instance.project.network in
    let here : AreTails v.instance.project.network tails = subst (λ (x : Standing). AreTails x.instance.project.network tails) is are in
    let inside : a - 1 < count_of v.instance.project.network = omega (arith, can.activity) in
    let same : tail ≡ get_or tails (a - 1) 0 = read ∙ get_or_default tails (a - 1) tail 0 (omega (arith, inside, here.whole)) in
    let is_tail = tail_read net tails (a - 1) facts.instance.project.network here inside in
    let short = tail_short net (suc (a - 1)) facts.instance.project.network (omega arith, omega (arith, inside)) in
    (same ∙ is_tail, omega (arith, same, is_tail, short))
