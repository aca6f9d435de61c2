-- A network has at most one table of dates and one list of total successors.
use Rattle.std.proofs.Common.{ℕ, ◌≡◌, ◌+◌, ◌-◌, ◌⊎◌, inl, inr, List, length, get_or, sym, ◌∙◌, ap, subst, arith}
use Rattle.plan_net.specs.Network.{Net, count_of, IsArc, IsActivity, IsLeast}
use Rattle.plan_net.proofs.RisingLemmas.{least_once}
use Rattle.plan_net.proofs.OnceLemmas.{greatest_once, same_entries, rising_once, next_or_none}
use Rattle.plan_cpm.specs.Lengths.{IsLength, IsLengthTo, IsLengthFrom, AreFinishes, AreTails}
use Rattle.plan_cpm.specs.Dates.{DateTable, AreDates, IsSuccessorStart, early_start_of, early_finish_of, free_float_of}
use Rattle.plan_cpm.specs.Successors.{IsTotalSuccessor, IsCountOf, AreTotals}

-- lists with equal numbers for all activities are equal
by_activity : (net : Net) (xs ys : List ℕ) → length xs ≡ count_of net → length ys ≡ count_of net → ((j : ℕ) → IsActivity net j → get_or xs (j - 1) 0 ≡ get_or ys (j - 1) 0) → xs ≡ ys
by_activity net xs ys long_x long_y each =
    same_entries xs ys (long_x ∙ sym long_y) (λ k within.
    let place : k + 1 - 1 ≡ k = omega arith in
    subst (λ (p : ℕ). get_or xs p 0 ≡ get_or ys p 0) place (each (k + 1) (omega arith, omega (arith, long_x))))

-- a network has one list of greatest lengths to its activities
pub finishes_once : (net : Net) (xs ys : List ℕ) → AreFinishes net xs → AreFinishes net ys → xs ≡ ys
finishes_once net xs ys first second =
    by_activity net xs ys first.whole second.whole (λ j activity. greatest_once (IsLengthTo net j) _ _ (first.greatest j activity) (second.greatest j activity))

-- and one of those from them
pub tails_once : (net : Net) (xs ys : List ℕ) → AreTails net xs → AreTails net ys → xs ≡ ys
tails_once net xs ys first second =
    by_activity net xs ys first.whole second.whole (λ j activity. greatest_once (IsLengthFrom net j) _ _ (first.greatest j activity) (second.greatest j activity))

-- the least number with P is the least with an equivalent property
least_as : (P Q : ℕ → Type 0) (w : ℕ) → ((v : ℕ) → P v → Q v) → ((v : ℕ) → Q v → P v) → IsLeast P w → IsLeast Q w
least_as P Q w to from least = (to w least.0, λ v holds. least.1 v (from v holds))

-- the starts of successors are the same if the early starts are
starts_as : (net : Net) (a b : DateTable) (j : ℕ) → ((k : ℕ) → early_start_of a k ≡ early_start_of b k) → (v : ℕ) → IsSuccessorStart net a j v → IsSuccessorStart net b j v
starts_as net a b j same v (k, arc, is) = (k, arc, is ∙ same k)

-- the free floats of an activity are the same if all other dates are
floats_once : (net : Net) (a b : DateTable) → AreDates net a → AreDates net b → a.duration ≡ b.duration → a.durations ≡ b.durations → a.finishes ≡ b.finishes
    → (j : ℕ) → IsActivity net j → free_float_of a j ≡ free_float_of b j
floats_once net a b first second long lasting ends j activity = by_next (next_or_none net j) where
  early : (k : ℕ) → early_start_of a k ≡ early_start_of b k
  early k = ap (λ (xs : List ℕ). get_or xs (k - 1) 0 - get_or a.durations (k - 1) 0) ends ∙ ap (λ (xs : List ℕ). get_or b.finishes (k - 1) 0 - get_or xs (k - 1) 0) lasting

  finish : early_finish_of a j ≡ early_finish_of b j
  finish = ap (λ (xs : List ℕ). get_or xs (j - 1) 0) ends

  by_next : ((k : ℕ) × IsArc net j k) ⊎ ((k : ℕ) → IsArc net j k → ⊥) → free_float_of a j ≡ free_float_of b j
  by_next (inl (k, arc)) =
      let P = IsSuccessorStart net a j in
      let other = least_as (IsSuccessorStart net b j) P (early_finish_of b j + free_float_of b j) (starts_as net b a j (λ k. sym (early k))) (starts_as net a b j early) (second.free j k arc) in
      let both = least_once P (early_finish_of a j + free_float_of a j) (early_finish_of b j + free_float_of b j) (first.free j k arc) other in
      omega (arith, both, finish)
  by_next (inr none) =
      let end_a = first.free_last j activity none in
      let end_b = second.free_last j activity none in
      omega (arith, end_a, end_b, finish, long)

-- a table of dates by its parts
table : ℕ → List ℕ → List ℕ → List ℕ → List ℕ → DateTable
table duration durations finishes tails free_floats = record { duration = duration; durations = durations; finishes = finishes; tails = tails; free_floats = free_floats }

same_table : (a b : DateTable) → a.duration ≡ b.duration → a.durations ≡ b.durations → a.finishes ≡ b.finishes → a.tails ≡ b.tails → a.free_floats ≡ b.free_floats → a ≡ b
unfolding table
same_table a b p q r s t =
    ap (λ (n : ℕ). table n a.durations a.finishes a.tails a.free_floats) p
    ∙ ap (λ (xs : List ℕ). table b.duration xs a.finishes a.tails a.free_floats) q
    ∙ ap (λ (xs : List ℕ). table b.duration b.durations xs a.tails a.free_floats) r
    ∙ ap (λ (xs : List ℕ). table b.duration b.durations b.finishes xs a.free_floats) s
    ∙ ap (λ (xs : List ℕ). table b.duration b.durations b.finishes b.tails xs) t

-- a network has one table of dates
pub dates_once : (net : Net) (a b : DateTable) → AreDates net a → AreDates net b → a ≡ b
dates_once net a b first second =
    let long : a.duration ≡ b.duration = greatest_once (IsLength net) a.duration b.duration first.duration second.duration in
    let lasting : a.durations ≡ b.durations = first.durations ∙ sym second.durations in
    let ends = finishes_once net a.finishes b.finishes first.finishes second.finishes in
    let floats = by_activity net a.free_floats b.free_floats first.free_count second.free_count (floats_once net a b first second long lasting ends) in
    same_table a b long lasting ends (tails_once net a.tails b.tails first.tails second.tails) floats

-- the count of numbers with P is unique
pub count_once : (P : ℕ → Type 0) (m n : ℕ) → IsCountOf P m → IsCountOf P n → m ≡ n
count_once P m n first second =
    sym first.long ∙ ap (λ (xs : List ℕ). length xs) (rising_once P first.members second.members first.lists second.lists) ∙ second.long

-- a network has one list of the numbers of total successors
pub totals_once : (net : Net) (xs ys : List ℕ) → AreTotals net xs → AreTotals net ys → xs ≡ ys
totals_once net xs ys first second =
    by_activity net xs ys first.whole second.whole (λ j activity. count_once (IsTotalSuccessor net j) _ _ (first.each j activity) (second.each j activity))
