-- Facts about all bytes behind the head that follow from the pieces of a body, for private clauses
-- only (docs/definitions.md, "Connections").
use Rattle.std.specs.Prelude.{◌≡◌, ℕ, ◌+◌, ◌<◌, ◌≤◌, Bool, true, false, List, [], length, take, drop, Option, Some, ⊤, Result, Ok, Err}
use Rattle.plan_http.specs.declared.body.BodyEnd.{BodyEnd}
use Rattle.plan_http.specs.declared.body.BodyEnd.TheVariants.{Read, Short, NoMemory, Failed}
use Rattle.plan_http.specs.Pieces.{IsSplit}

-- a body was filled with the first bytes, or the bytes ended too early
abbrev pub RestOutcome : List ℕ → List ℕ → Option (List ℕ) → Bool → Type 0
RestOutcome bytes body left true = IsSplit bytes body left
RestOutcome bytes body left false = (length bytes < length body) × (left ≡ Some [])

-- A body of `count` bytes, whose first bytes were read with the head. It is the first bytes behind
-- the head, or there are too few bytes. If not all of it was read with the head, exactly the bytes
-- after it are left.
abbrev pub BodyOutcome : List ℕ → List ℕ → ℕ → Option (List ℕ) → BodyEnd → Type 0
BodyOutcome after got count left (Read body) =
    (count ≤ length after) × (body.items ≡ take count after)
    × (length got ≤ count → left ≡ Some (drop count after))
BodyOutcome after got count left Short = (length after < count) × (left ≡ Some [])
BodyOutcome after got count left NoMemory = ⊤
BodyOutcome after got count left Failed = ⊤

-- the body that was read is this one
abbrev pub IfRead : BodyEnd → List ℕ → Type 0
IfRead (Read body) text = body.items ≡ text
IfRead Short text = ⊥
IfRead NoMemory text = ⊤
IfRead Failed text = ⊥

-- one fault was counted if the reader failed, else none
abbrev pub BodyFaults : ℕ → ℕ → BodyEnd → Type 0
BodyFaults faults after (Read body) = after ≡ faults
BodyFaults faults after Short = after ≡ faults
BodyFaults faults after NoMemory = after ≡ faults
BodyFaults faults after Failed = after ≡ faults + 1

-- the rest of `total` bytes after some were skipped
pub record HasLeft (total skipped : ℕ) (left : Option (List ℕ)) : Type 0 where
  pub rest : List ℕ
  pub left_is : left ≡ Some rest
  pub sum : total ≡ skipped + length rest

-- a read whose bytes are discarded
abbrev pub Skips : {E : Type 0} → Option (List ℕ) → Option (List ℕ) → Result ℕ E → Type 0
Skips had left (Ok came) = (total skipped : ℕ) → HasLeft total skipped had
    → HasLeft total (skipped + came) left × (came ≡ 0 → left ≡ Some [])
Skips had left (Err e) = ⊤

-- whether `total` bytes contain a whole body
abbrev pub IsWhole : ℕ → ℕ → Bool → Type 0
IsWhole total count true = count ≤ total
IsWhole total count false = total < count
