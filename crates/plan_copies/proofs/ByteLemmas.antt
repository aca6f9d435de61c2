-- Bytes that are copied in parts.
use Rattle.std.proofs.Common.{◌+◌, ℕ, List, [], Option, Result, Ok, Err, subst, sym, length, take}
use Rattle.std.specs.Prelude.{IfErr}
use Rattle.std.proofs.Math.Seq.{take-length, take-append-add}
use Rattle.std.proofs.KnownBytes.{Appends-nil, Appends-trans, Consumes-kept, Consumes-nil, Consumes-trans}
use Rattle.std.specs.Io.KnownBytes.{Appends, Consumes, Keeps}
use Rattle.plan_copies.specs.Bytes.{AreMoved, AreMovedInPart}

-- two copies, one after the other, are one
pub moved_next : (remaining between rest taken during after : Option (List ℕ)) →
    AreMoved remaining between taken during → AreMoved between rest during after →
    AreMoved remaining rest taken after
moved_next remaining between rest taken during after first next = (
  _,
  Consumes-trans remaining between rest first.0 next.0 first.1 next.1,
  Appends-trans taken during after first.0 next.0 first.2 next.2,
)

-- a whole copy is a copy in part
pub moved_part : (remaining rest taken after : Option (List ℕ)) →
    AreMoved remaining rest taken after → AreMovedInPart remaining rest taken after
moved_part remaining rest taken after moved = (
  moved.0,
  length moved.0,
  moved.1,
  subst (Appends taken after) (sym (take-length moved.0)) moved.2,
)

-- a whole copy and a copy in part, one after the other, are a copy in part
pub part_next : (remaining between rest taken during after : Option (List ℕ)) →
    AreMoved remaining between taken during → AreMovedInPart between rest during after →
    AreMovedInPart remaining rest taken after
part_next remaining between rest taken during after first next = (
  _,
  length first.0 + next.1,
  Consumes-trans remaining between rest first.0 next.0 first.1 next.2,
  subst (Appends taken after) (sym (take-append-add first.0 next.0 next.1))
      (Appends-trans taken during after first.0 (take next.1 next.0) first.2 next.3),
)

-- a read that failed moved nothing
pub none_moved : (remaining rest taken : Option (List ℕ)) → Keeps remaining rest →
    AreMovedInPart remaining rest taken taken
none_moved remaining rest taken kept =
    ([], 0, Consumes-kept remaining remaining rest [] (Consumes-nil remaining) kept, Appends-nil taken)

-- a fact that each error has
pub any_err : {X E : Type 0} (result : Result X E) (P : Type 0) → P → IfErr result (λ _. P)
any_err (Ok x) P p = tt
any_err (Err e) P p = p
