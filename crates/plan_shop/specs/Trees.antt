-- The current word of the tree of a shop, and the data that the tree keeps for it
-- (docs/definitions.md, "Job shops").
use Rattle.std.specs.Prelude.{◌≡◌, ℕ, ◌≤◌, ◌<◌, ◌⊎◌, Bool, ◌&&◌, ◌*◌, not, nat_lt, nat_eq, List, [], ◌∷◌, Option, Some, None, length, map, slice_index, Contains}
use Rattle.std.specs.List.{sum_by}
use Rattle.plan_shop.specs.Shop.{JobShop, count_steps, time_of, machine_of, job_of, place_of, those_below}
use Rattle.plan_shop.specs.Words.{least_of, first_least, Placed, steps_done, has_next, is_placed, job_end, machine_free, next_step, next_end, ready, place, job_of_letter, with_next, with_zero, jobs_after, letters_after, start_in}
use Rattle.plan_shop.specs.Bound.{tail_of, head_of}
use Rattle.plan_shop.specs.Laws.{placed_in}
use Rattle.plan_shop.specs.Docs.{IsSmallShop}
use Rattle.plan_shop.specs.declared.tree.Turn.{Turn}
use Rattle.plan_shop.specs.declared.tree.bound.Pending.{Pending}
use Rattle.plan_shop.specs.declared.tree.letters.Front.{Front}
use Rattle.plan_shop.specs.declared.tree.letters.Front.TheVariants.{AtOnce, ToEnd, Full}

-- a shop and the current word of its tree
pub record Standing : Type 0 where
  pub shop : JobShop
  pub word : List ℕ

abbrev pub standing : JobShop → List ℕ → Standing
standing shop word = record { shop = shop; word = word }

-- the placed steps of the current word
abbrev pub placed : Standing → List Placed
placed t = placed_in t.shop t.word

-- the letters of the turns
abbrev pub word_of : List Turn → List ℕ
word_of turns = map (λ turn. turn.letter) turns

-- the letter of a turn may follow, and the turn has the end of its job and the free instant of its
-- machine before it
pub record IsTurn (s : JobShop) (xs : List Placed) (turn : Turn) : Type 0 where
  pub follows : Contains (letters_after s xs) turn.letter
  pub end : turn.end ≡ job_end s xs (job_of_letter turn.letter)
  pub free : turn.free
      ≡ machine_free s xs (machine_of s (next_step s xs (job_of_letter turn.letter)))

-- each turn follows the steps that the turns before it place
abbrev pub AreTurns : JobShop → List Placed → List Turn → Type 0
AreTurns s xs [] = Unit {0}
AreTurns s xs (turn ∷ turns) =
    IsTurn s xs turn × AreTurns s (place s xs (job_of_letter turn.letter)) turns

-- the lists of a tree: the numbers of placed steps and the ends by job, the free instants by
-- machine, and the starts of the placed steps
pub record Keeps (s : JobShop) (xs : List Placed) (done ends free starts : List ℕ) : Type 0 where
  pub done_size : length done ≡ s.jobs
  pub ends_size : length ends ≡ s.jobs
  pub free_size : length free ≡ s.machines
  pub starts_size : length starts ≡ count_steps s
  pub done_is : (j : ℕ) → j < s.jobs → slice_index done j ≡ steps_done xs j
  pub end_is : (j : ℕ) → j < s.jobs → slice_index ends j ≡ job_end s xs j
  pub free_is : (m : ℕ) → m < s.machines → slice_index free m ≡ machine_free s xs m
  pub start_is : (x : ℕ) → x < count_steps s → place_of s x < steps_done xs (job_of s x)
      → slice_index starts x ≡ start_in xs x

-- the tails of all steps
pub record AreTails (s : JobShop) (tails : List ℕ) : Type 0 where
  pub size : length tails ≡ count_steps s
  pub each : (x : ℕ) → x < count_steps s → slice_index tails x ≡ tail_of s x

-- the data of a tree
pub record IsKept (s : JobShop) (tails done ends free starts : List ℕ) (turns : List Turn) : Type 0 where
  pub small : IsSmallShop s
  pub tails_are : AreTails s tails
  pub turns_are : AreTurns s [] turns
  pub kept : Keeps s (placed_in s (word_of turns)) done ends free starts

-- the invariant of a tree: its data, and memory for the turns of all words
pub record IsTree (s : JobShop) (tails done ends free starts : List ℕ) (turns : List Turn)
    (capacity : ℕ) : Type 0 where
  pub kept : IsKept s tails done ends free starts turns
  pub room : count_steps s ≤ capacity

-- the next step of a job is on a machine and could start before an instant
abbrev pub is_rival : Standing → ℕ → ℕ → ℕ → Bool
is_rival t machine end j =
    has_next t.shop (placed t) j
    && (nat_eq (machine_of t.shop (next_step t.shop (placed t) j)) machine
    && nat_lt (ready t.shop (placed t) j) end)

-- the first of some jobs whose next step would end first, and that end
pub record IsFirstIn (t : Standing) (js : List ℕ) (first : ℕ × ℕ) : Type 0 where
  pub head : ℕ
  pub rest : List ℕ
  pub list : js ≡ head ∷ rest
  pub job : first.0 ≡ first_least (next_end t.shop (placed t)) head rest
  pub end : first.1 ≡ next_end t.shop (placed t) first.0

-- the first of all jobs whose next step would end first, and that end
abbrev pub IsFirstToEnd : Standing → ℕ × ℕ → Type 0
IsFirstToEnd t first = IsFirstIn t (with_next t.shop (placed t)) first

-- what decides the letters that may follow
abbrev pub IsFront : Standing → Front → Type 0
IsFront t (AtOnce job) =
    (jobs_after t.shop (placed t) ≡ job ∷ []) × (job < t.shop.jobs)
IsFront t (ToEnd first end) =
    (with_zero t.shop (placed t) ≡ []) × IsFirstToEnd t (first, end)
IsFront t Full = letters_after t.shop (placed t) ≡ []

-- the one of two jobs that ends first, with its end; the first one if both end together
abbrev pub IsSooner : Option (ℕ × ℕ) → ℕ × ℕ → ℕ × ℕ → Type 0
IsSooner None next chosen = chosen ≡ next
IsSooner (Some first) next chosen =
    ((first.1 ≤ next.1) × (chosen ≡ first)) ⊎ ((next.1 < first.1) × (chosen ≡ next))

-- an unplaced step has positive time and is on a machine
abbrev pub is_pending : Standing → ℕ → ℕ → Bool
is_pending t m x =
    not (is_placed t.shop (placed t) x)
    && (nat_eq (machine_of t.shop x) m && nat_lt 0 (time_of t.shop x))

-- the least head, the total time and the least tail of the pending steps of a machine
pub record OnMachine : Type 0 where
  pub head : ℕ
  pub times : ℕ
  pub tail : ℕ

abbrev pub on_machine : Pending → ℕ → OnMachine
on_machine pending m =
    record {
      head = slice_index pending.heads m;
      times = slice_index pending.times m;
      tail = slice_index pending.tails m;
    }

-- the total time, the least head and the least tail of some steps; if there is none, the time is 0
-- and head and tail are beyond all others
abbrev pub IsPendingOf : Standing → List ℕ → OnMachine → Type 0
IsPendingOf t [] p = (p.times ≡ 0) × (20000000 ≤ p.head) × (1000000 ≤ p.tail)
IsPendingOf t (x ∷ zs) p =
    (0 < p.times) × (p.times ≡ sum_by (time_of t.shop) (x ∷ zs))
    × (p.head ≡ least_of (head_of t.shop (placed t)) x zs)
    × (p.tail ≡ least_of (tail_of t.shop) x zs)
    × (p.head ≤ 20000000) × (p.tail ≤ 1000000)

-- the pending steps among the first n, machine by machine
pub record IsGathered (t : Standing) (n : ℕ) (pending : Pending) : Type 0 where
  pub heads_size : length pending.heads ≡ 20
  pub times_size : length pending.times ≡ 20
  pub tails_size : length pending.tails ≡ 20
  pub each : (m : ℕ) → m < t.shop.machines
      → IsPendingOf t (those_below n (is_pending t m)) (on_machine pending m)
  pub few : (m : ℕ) → m < t.shop.machines → slice_index pending.times m ≤ n * 10000
