-- The dates together: the results of the passes, and the recurrences of the textbook.
use Rattle.std.proofs.Common.{ℕ, ◌≡◌, ◌+◌, ◌-◌, ◌≤◌, ◌<◌, ◌⊎◌, inl, inr, List, [], ◌∷◌, length, get_or, refl, sym, ◌∙◌, ap, subst, arith}
use Rattle.plan_net.specs.Network.{Net, count_of, IsArc, IsActivity, IsGreatest, IsLeast, lag_of, duration_of}
use Rattle.plan_net.specs.Path.{IsWalk, last_of, path_length}
use Rattle.plan_net.specs.Limits.{IsWithinLimits}
use Rattle.plan_net.proofs.RowLemmas.{arc_ends}
use Rattle.plan_net.proofs.PathLemmas.{LastArc, last_arc}
use Rattle.plan_cpm.specs.Lengths.{IsLength, IsLengthTo, IsLengthFrom, AreFinishes, AreTails}
use Rattle.plan_cpm.specs.Dates.{DateTable, AreDates, AreFreeFloats, IsConsistent, IsNextStart, IsSuccessorStart, IsPredecessorFinish, IsSuccessorLateStart, KeepRecurrences, LeavesTails, early_start_of, early_finish_of, late_start_of, late_finish_of, free_float_of}
use Rattle.plan_cpm.proofs.JoinLemmas.{lasts, remains, after_finish, before_tail, through, within_all}

-- a path ends with an activity
pub last_activity : (net : Net) (i : ℕ) (others : List ℕ) → IsWithinLimits net → IsActivity net i → IsWalk net i others → IsActivity net (last_of i others)
last_activity net i [] limits activity walk = activity
last_activity net i (j ∷ others) limits activity (arc, walk) = last_activity net j others limits (arc_ends net i j limits arc).1 walk

-- the greatest finish is the greatest length of all
pub duration_greatest : (net : Net) (finishes : List ℕ) (duration : ℕ) → IsWithinLimits net →
    AreFinishes net finishes → (k : ℕ) × (k < length finishes) × (get_or finishes k 0 ≡ duration) →
    ((k : ℕ) → k < length finishes → get_or finishes k 0 ≤ duration) → IsGreatest (IsLength net) duration
duration_greatest net finishes duration limits are (k, within, is) above = (some, every) where
  some : IsLength net duration
  some =
      let same : k + 1 - 1 ≡ k = omega arith in
      let path = (are.greatest (k + 1) (omega arith, omega (arith, are.whole))).0 in
      (path.0, path.1, path.2, path.4 ∙ (ap (λ (x : ℕ). get_or finishes x 0) same ∙ is))

  every : (v : ℕ) → IsLength net v → v ≤ duration
  every v (i, others, path, long) =
      let activity = last_activity net i others limits path.0 path.1 in
      let low : v ≤ get_or finishes (last_of i others - 1) 0 = (are.greatest (last_of i others) activity).1 v (i, others, path, refl, long) in
      omega (arith, low, above (last_of i others - 1) (omega (arith, activity, are.whole)))

-- the parts of a table of dates
pub record AreParts (net : Net) (dates : DateTable) : Type 0 where
  pub limits : IsWithinLimits net
  pub durations : dates.durations ≡ net.durations
  pub finishes : AreFinishes net dates.finishes
  pub tails : AreTails net dates.tails
  pub duration : IsGreatest (IsLength net) dates.duration
  pub free_floats : AreFreeFloats net dates.finishes dates.duration dates.free_floats

-- the numbers of one activity
record AreNumbers (net : Net) (dates : DateTable) (j : ℕ) : Type 0 where
  lasting : get_or dates.durations (j - 1) 0 ≡ duration_of net j
  begun : duration_of net j ≤ get_or dates.finishes (j - 1) 0
  kept : duration_of net j ≤ get_or dates.tails (j - 1) 0
  joined : get_or dates.tails (j - 1) 0 + get_or dates.finishes (j - 1) 0 ≤ dates.duration + duration_of net j

numbers : (net : Net) (dates : DateTable) (j : ℕ) → AreParts net dates → IsActivity net j → AreNumbers net dates j
numbers net dates j parts activity = record {
  lasting = ap (λ (xs : List ℕ). get_or xs (j - 1) 0) parts.durations;
  begun = lasts net j (get_or dates.finishes (j - 1) 0) activity (parts.finishes.greatest j activity);
  kept = remains net j (get_or dates.tails (j - 1) 0) activity (parts.tails.greatest j activity);
  joined = through net j (get_or dates.finishes (j - 1) 0) (get_or dates.tails (j - 1) 0) dates.duration (parts.finishes.greatest j activity) (parts.tails.greatest j activity) parts.duration;
}

pub IsConsistent-from_parts : (net : Net) (dates : DateTable) → AreParts net dates → IsConsistent dates
IsConsistent-from_parts net dates parts = record {
  finishes = parts.finishes.whole ∙ sym whole;
  tails = parts.tails.whole ∙ sym whole;
  free_floats = parts.free_floats.whole ∙ sym whole;
  begun = λ i within. omega (arith, (at i within).lasting, (at i within).begun, (at i within).same);
  kept = λ i within. omega (arith, (at i within).lasting, (at i within).kept, (at i within).same);
  bounded = λ i within. omega (arith, (at i within).lasting, (at i within).joined, (at i within).same);
} where
  whole : length dates.durations ≡ count_of net
  whole = ap length parts.durations

  at : (i : ℕ) → i < length dates.durations → record {
    lasting : get_or dates.durations i 0 ≡ duration_of net (i + 1);
    begun : duration_of net
        (i + 1) ≤ get_or dates.finishes i 0;
    kept : duration_of net
        (i + 1) ≤ get_or dates.tails i 0;
    joined : get_or dates.tails i 0 + get_or dates.finishes i 0 ≤
        dates.duration + duration_of net (i + 1);
    same : i + 1 - 1 ≡ i;
  }
  at i within =
      let same : i + 1 - 1 ≡ i = omega arith in
      let n = numbers net dates (i + 1) parts (omega arith, omega (arith, whole)) in
      record {
        lasting = subst (λ (k : ℕ). get_or dates.durations k 0 ≡ duration_of net (i + 1)) same n.lasting;
        begun = subst (λ (k : ℕ). duration_of net (i + 1) ≤ get_or dates.finishes k 0) same n.begun;
        kept = subst (λ (k : ℕ). duration_of net (i + 1) ≤ get_or dates.tails k 0) same n.kept;
        joined = subst (λ (k : ℕ). get_or dates.tails k 0 + get_or dates.finishes k 0 ≤ dates.duration + duration_of net (i + 1)) same n.joined;
        same = same;
      }

pub AreDates-from_parts : (net : Net) (dates : DateTable) → AreParts net dates → AreDates net dates
AreDates-from_parts net dates parts = record {
  durations = parts.durations;
  finishes = parts.finishes;
  tails = parts.tails;
  duration = parts.duration;
  free_count = parts.free_floats.whole;
  free = λ j k arc. free j k arc (next j (arc_ends net j k parts.limits arc).0).reached;
  free_last = λ j activity none. last j none (next j activity).reached;
} where
  next : (j : ℕ) → IsActivity net j → IsNextStart net dates.finishes dates.duration j (early_finish_of dates j + free_float_of dates j)
  next j activity = parts.free_floats.next j activity

  free : (j k : ℕ) → IsArc net j k → (early_finish_of dates j + free_float_of dates j ≡ dates.duration)
      ⊎ ((h : ℕ) × IsArc net j h × (early_finish_of dates j + free_float_of dates j + lag_of net j h +
      duration_of net h ≡ get_or dates.finishes (h - 1) 0)) →
      IsLeast (IsSuccessorStart net dates j) (early_finish_of dates j + free_float_of dates j)
  free j k arc reached = (some reached, least) where
    least : (v : ℕ) → IsSuccessorStart net dates j v → early_finish_of dates j + free_float_of dates j ≤ v
    least v (h, arc', is) =
        let n = numbers net dates h parts (arc_ends net j h parts.limits arc').1 in
        omega (arith, is, n.lasting, n.begun, (next j (arc_ends net j h parts.limits arc').0).below h arc')

    some : (early_finish_of dates j + free_float_of dates j ≡ dates.duration)
        ⊎ ((h : ℕ) × IsArc net j h × (early_finish_of dates j + free_float_of dates j + lag_of net j h +
        duration_of net h ≡ get_or dates.finishes (h - 1) 0)) →
        IsSuccessorStart net dates j (early_finish_of dates j + free_float_of dates j)
    some (inl whole) =
        let activity = (arc_ends net j k parts.limits arc).1 in
        let n = numbers net dates k parts activity in
        let below = (next j (arc_ends net j k parts.limits arc).0).below k arc in
        let within = within_all net k (get_or dates.finishes (k - 1) 0) dates.duration (parts.finishes.greatest k activity) parts.duration in
        (k, arc, omega (arith, whole, n.lasting, below, within))
    some (inr (h, arc', is)) =
        let n = numbers net dates h parts (arc_ends net j h parts.limits arc').1 in
        (h, arc', omega (arith, is, n.lasting))

  last : (j : ℕ) → ((k : ℕ) → IsArc net j k → ⊥) →
      (early_finish_of dates j + free_float_of dates j ≡ dates.duration)
      ⊎ ((h : ℕ) × IsArc net j h × (early_finish_of dates j + free_float_of dates j + lag_of net j h +
      duration_of net h ≡ get_or dates.finishes (h - 1) 0)) →
      early_finish_of dates j + free_float_of dates j ≡ dates.duration
  last j none (inl whole) = whole
  last j none (inr (h, arc, is)) = absurd (none h arc)

pub LeavesTails-from_parts : (net : Net) (dates : DateTable) → AreParts net dates → LeavesTails net dates
LeavesTails-from_parts net dates parts j activity =
    let n = numbers net dates j parts activity in
    let same : get_or dates.tails (j - 1) 0 ≡ dates.duration - late_start_of dates j = omega (arith, n.joined, n.begun) in
    subst (IsGreatest (IsLengthFrom net j)) same (parts.tails.greatest j activity)

pub KeepRecurrences-from_parts : (net : Net) (dates : DateTable) → AreParts net dates → (k : ℕ) × (k < length dates.finishes) × (get_or dates.finishes k 0 ≡ dates.duration) → KeepRecurrences net dates
KeepRecurrences-from_parts net dates parts top = record {
  first = λ j activity none. first j activity none (parts.finishes.greatest j activity).0;
  start = λ i j arc. start i j arc;
  finish = λ j activity. let n = numbers net dates j parts activity in omega (arith, n.lasting, n.begun);
  last = λ j activity none. last j activity none (parts.tails.greatest j activity).0;
  late_finish = λ j k arc. late_finish j k arc;
  late_start = λ j activity. let n = numbers net dates j parts activity in omega (arith, n.lasting);
  float = λ j activity. let n = numbers net dates j parts activity in omega (arith, n.lasting, n.begun, n.joined);
  reached = reached;
  within = λ j activity. let n = numbers net dates j parts activity in omega (arith, n.lasting, n.begun, n.kept, n.joined);
} where
  first : (j : ℕ) → IsActivity net j → ((i : ℕ) → IsArc net i j → ⊥) → IsLengthTo net j (get_or dates.finishes (j - 1) 0) → early_start_of dates j ≡ 0
  first j activity none (i, [], path, ends, long) =
      let n = numbers net dates j parts activity in
      let same : duration_of net i ≡ duration_of net j = ap (duration_of net) ends in
      omega (arith, n.lasting, long, same)
  first j activity none (i, h ∷ others, path, ends, long) =
      let lastly : LastArc net i h others = last_arc net i h others path.1 in
      absurd (none (last_of i lastly.before) (subst (λ (x : ℕ). IsArc net (last_of i lastly.before) x) ends lastly.arc))

  after : (i j : ℕ) → IsArc net i j → early_finish_of dates i + lag_of net i j + duration_of net j ≤ early_finish_of dates j
  after i j arc =
      let ends = arc_ends net i j parts.limits arc in
      after_finish net i j (early_finish_of dates i) (early_finish_of dates j) arc (parts.finishes.greatest i ends.0) (parts.finishes.greatest j ends.1)

  start : (i j : ℕ) → IsArc net i j → IsGreatest (IsPredecessorFinish net dates j) (early_start_of dates j)
  start i j arc = (some (parts.finishes.greatest j (arc_ends net i j parts.limits arc).1).0, every) where
    n : AreNumbers net dates j
    n = numbers net dates j parts (arc_ends net i j parts.limits arc).1

    every : (v : ℕ) → IsPredecessorFinish net dates j v → v ≤ early_start_of dates j
    every v (h, arc', is) = omega (arith, is, n.lasting, after h j arc')

    some : IsLengthTo net j (get_or dates.finishes (j - 1) 0) → IsPredecessorFinish net dates j (early_start_of dates j)
    some (h, [], path, ends, long) =
        let same : duration_of net h ≡ duration_of net j = ap (duration_of net) ends in
        (i, arc, omega (arith, n.lasting, long, same, after i j arc))
    some (h, g ∷ others, path, ends, long) =
        let lastly : LastArc net h g others = last_arc net h g others path.1 in
        let before = last_of h lastly.before in
        let arc' : IsArc net before j = subst (λ (x : ℕ). IsArc net before x) ends lastly.arc in
        let activity = (arc_ends net before j parts.limits arc').0 in
        let low : path_length net h lastly.before ≤ early_finish_of dates before =
        (parts.finishes.greatest before activity).1 (path_length net h lastly.before)
        (h, lastly.before, (path.0, lastly.walk), refl, refl) in
        let d : duration_of net (last_of g others) ≡ duration_of net j = ap (duration_of net) ends in
        let l : lag_of net before (last_of g others) ≡ lag_of net before j = ap (lag_of net before) ends in
        (before, arc', omega (arith, n.lasting, n.begun, long, lastly.longer, low, d, l, after before j arc'))

  last : (j : ℕ) → IsActivity net j → ((k : ℕ) → IsArc net j k → ⊥) → IsLengthFrom net j (get_or dates.tails (j - 1) 0) → late_finish_of dates j ≡ dates.duration
  last j activity none ([], path, long) = let n = numbers net dates j parts activity in omega (arith, n.lasting, n.begun, n.joined, long)
  last j activity none (k ∷ others, path, long) = absurd (none k path.1.0)

  ahead : (j k : ℕ) → IsArc net j k → duration_of net j + lag_of net j k + get_or dates.tails (k - 1) 0 ≤ get_or dates.tails (j - 1) 0
  ahead j k arc =
      let ends = arc_ends net j k parts.limits arc in
      before_tail net j k (get_or dates.tails (j - 1) 0) (get_or dates.tails (k - 1) 0) ends.0 arc (parts.tails.greatest j ends.0) (parts.tails.greatest k ends.1)

  late_finish : (j k : ℕ) → IsArc net j k → IsLeast (IsSuccessorLateStart net dates j) (late_finish_of dates j)
  late_finish j k arc = (some (parts.tails.greatest j (arc_ends net j k parts.limits arc).0).0, least) where
    n : AreNumbers net dates j
    n = numbers net dates j parts (arc_ends net j k parts.limits arc).0

    least : (v : ℕ) → IsSuccessorLateStart net dates j v → late_finish_of dates j ≤ v
    least v (h, arc', is) = omega (arith, is, n.lasting, n.begun, n.joined, ahead j h arc')

    some : IsLengthFrom net j (get_or dates.tails (j - 1) 0) → IsSuccessorLateStart net dates j (late_finish_of dates j)
    some ([], path, long) = (k, arc, omega (arith, n.lasting, n.begun, n.joined, long, ahead j k arc))
    some (h ∷ others, path, long) =
        let arc' = path.1.0 in
        let low : path_length net h others ≤ get_or dates.tails (h - 1) 0 =
        (parts.tails.greatest h (arc_ends net j h parts.limits arc').1).1 (path_length net h others)
        (others, ((arc_ends net j h parts.limits arc').1, path.1.1), refl) in
        (h, arc', omega (arith, n.lasting, n.begun, n.joined, long, low, ahead j h arc'))

  reached : (j : ℕ) × IsActivity net j × (early_finish_of dates j ≡ dates.duration)
  reached =
      let same : top.0 + 1 - 1 ≡ top.0 = omega arith in
      (top.0 + 1, (omega arith, omega (arith, top.1, parts.finishes.whole)), ap (λ (x : ℕ). get_or dates.finishes x 0) same ∙ top.2)
