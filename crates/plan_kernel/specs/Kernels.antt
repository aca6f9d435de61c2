-- The facts and clauses of a kernel about a problem (docs/definitions.md, "Clauses").
use Rattle.std.specs.Prelude.{◌≡◌, ℕ, suc, ◌+◌, ◌-◌, ◌*◌, max, min, ◌≤◌, ◌<◌, ◌⊎◌, true, List, [], Vec, Option, Some, None, ◌∷◌, All, Contains, length, get_or}
use Rattle.std.specs.declared.alloc.Global.{Global}
use Rattle.std.specs.List.Sorted.{IsPermutation}
use Rattle.plan_sgs.specs.Problem.{greatest_below}
use Rattle.plan_kernel.specs.declared.literal.TheConstants.{LIMIT}
use Rattle.plan_kernel.specs.declared.input.Input.{Input}
use Rattle.plan_kernel.specs.declared.literal.Literal.{Literal}
use Rattle.plan_kernel.specs.declared.known.Known.{Known}
use Rattle.plan_kernel.specs.declared.known.Lesson.{Lesson}
use Rattle.plan_kernel.specs.declared.known.Lesson.TheVariants.{Refuted, Fact, Clause}
use Rattle.plan_kernel.specs.Literals.{at}
use Rattle.plan_kernel.specs.declared.conflict.Conflict.{Conflict}
use Rattle.plan_kernel.specs.Plans.{IsPlan, cost}
pub use Rattle.plan_kernel.specs.Plans.{IsLowerBound}
use Rattle.plan_kernel.specs.Clauses.{IsShorter, IsConsequence, AreFacts, IsConflict, NoneIsShorter, IsListed, IsNegated}

-- a plan with its cost
pub record IsBest (input : Input) (starts : List ℕ) (upper : ℕ) : Type 0 where
  pub plan : IsPlan input starts
  pub cost_is : cost input starts ≡ upper

-- each plan that costs less than the upper bound costs at least a number
abbrev pub IsCostReached : Input → ℕ → ℕ → Type 0
IsCostReached input upper end =
    (starts : List ℕ) → IsShorter input upper starts → end ≤ cost input starts

-- a place for a clause: the clause that is kept there, if there is one
abbrev pub Kept : Type 0
Kept = Option (Vec Literal Global)

-- a clause that is kept holds
abbrev pub IsKept : Input → ℕ → Kept → Type 0
IsKept input upper None = Unit {0}
IsKept input upper (Some clause) = IsConsequence input upper clause.items

-- A kernel is true: its facts and clauses hold in each plan that costs less than the upper bound.
-- If the upper bound is refuted, there is no such plan. The best list, if one was found, is a plan,
-- and its cost is the upper bound.
pub record AreKnown (known : Known) : Type 0 where
  pub limit : known.upper ≤ LIMIT
  pub best : known.found ≡ true → IsBest known.input known.best.items known.upper
  pub facts : AreFacts known.input known.upper known.facts.items
  pub clauses : All (IsKept known.input known.upper) known.clauses.items
  pub refuted : known.refuted ≡ true → NoneIsShorter known.input known.upper

-- what is known is what was known
pub record IsUnchanged (old new : Known) : Type 0 where
  pub input : new.input ≡ old.input
  pub upper : new.upper ≡ old.upper
  pub found : new.found ≡ old.found
  pub best : new.best ≡ old.best
  pub facts : new.facts ≡ old.facts
  pub clauses : new.clauses.items ≡ old.clauses.items
  pub free : new.free ≡ old.free
  pub literals : new.literals ≡ old.literals
  pub refuted : new.refuted ≡ old.refuted

-- what is known is true, and the literals of the conflict, if it is open, hold together in no plan
-- that costs less
pub record IsTrueOf (known : Known) (conflict : Conflict) : Type 0 where
  pub holds : AreKnown known
  pub apart : conflict.open ≡ true → IsConflict known.input known.upper conflict.values.items
  pub listed : IsListed conflict.values.items conflict.touched.items

-- how many halves there are: two for each activity, for the cost and for each order
abbrev pub count_halves : Input → ℕ
count_halves input = 2 * (suc (length input.durations.items) + length input.orders.items)

-- the facts say of the first n activities that they end, with their tails, before the upper bound,
-- as far as numbers go
abbrev pub AreLatest : Input → ℕ → List ℕ → ℕ → Type 0
AreLatest input upper facts n =
    (i : ℕ) → i < n → 2 * i + 1 < length facts
    → min (LIMIT - upper + 1 + at input.durations.items i + at input.tails.items i) 4294967295
    ≤ at facts (2 * i + 1)

-- the greatest known start with its duration and tail, or the known cost if that is greater
abbrev pub cost_in : Input → List ℕ → ℕ
cost_in input facts =
    let n = length input.durations.items in
    max
    (greatest_below n
    (λ i. at facts (2 * i) + at input.durations.items i + at input.tails.items i))
    (at facts (2 * n))

abbrev pub known_cost : Known → ℕ
known_cost known = cost_in known.input known.facts.items

-- what became of a clause: without literals it refutes, with one it is a fact, unless there is no
-- such half, and else it is kept
abbrev pub IsLesson : Known → Vec Literal Global → Lesson → Type 0
IsLesson new clause Refuted = (clause.items ≡ []) × (new.refuted ≡ true)
IsLesson new clause (Fact half) =
    (l : Literal) × (clause.items ≡ l ∷ []) × (half ≡ l.half)
    × (half < length new.facts.items → l.value ≤ at new.facts.items half)
IsLesson new clause (Clause number) = get_or new.clauses.items number None ≡ Some clause

-- the lesson of a conflict: the clause of its negation
abbrev pub HasLearned : Known → List ℕ → Lesson → Type 0
HasLearned new values lesson =
    (clause : Vec Literal Global) × IsNegated values clause.items × IsLesson new clause lesson

-- what a kernel keeps
pub record State : Type 0 where
  pub known : Known
  pub conflict : Conflict

-- no literals, or those of a kept clause
abbrev pub IsAmong : List Kept → List Literal → Type 0
IsAmong clauses literals =
    (literals ≡ [])
    ⊎ ((kept : Vec Literal Global) × Contains clauses (Some kept) × (kept.items ≡ literals))

-- one clause was stored among others
abbrev pub HasStored : List Kept → List Kept → Vec Literal Global → Type 0
HasStored old new clause = All (λ kept. Contains old kept ⊎ (kept ≡ Some clause)) new

-- a clause has the literals of another in another order
abbrev pub IsReordered : Kept → Kept → Type 0
IsReordered None new = ⊥
IsReordered (Some old) None = ⊥
IsReordered (Some old) (Some new) = IsPermutation old.items new.items

-- each clause is one of before, or has the literals of one in another order
abbrev pub HasReordered : List Kept → List Kept → Type 0
HasReordered old new =
    All (λ kept. Contains old kept ⊎ ((other : Kept) × Contains old other × IsReordered other kept))
    new
