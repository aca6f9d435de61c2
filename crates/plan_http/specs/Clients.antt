-- The knowledge of a client's bytes (docs/definitions.md, "Connections").
use Rattle.std.specs.Prelude.{◌≡◌, ℕ, ◌<◌, Bool, true, false, List, [], ◌++◌, length, take, Option, Some, Result, Ok, Err}
use Rattle.std.specs.Io.KnownBytes.{Consumes}

-- The bytes of a client: those that its reads returned in order, whether the end was seen, and
-- those that are left, if known.
pub record Known : Type 0 where
  pub heard : List ℕ
  pub ended : Bool
  pub left : Option (List ℕ)

-- these bytes were read, and none after the end
pub record Comes (old new : Known) (came : List ℕ) : Type 0 where
  pub grown : new.heard ≡ old.heard ++ came
  pub consumed : Consumes old.left new.left came
  pub shut : old.ended ≡ true → (came ≡ []) × (new.ended ≡ true)
  -- if the rest is known, the end is seen only if the rest is empty
  pub at_end : (rest : List ℕ) → old.left ≡ Some rest → (old.ended ≡ true → rest ≡ [])
      → new.ended ≡ true → new.left ≡ Some []

-- One read to the front of a buffer. The bytes that it returned were read, and 0 bytes for a buffer
-- with room mean the end. A fault reads nothing.
abbrev pub Hears : {E : Type 0} → Known → Known → Result ℕ E → List ℕ → Type 0
Hears old new (Ok n) buf = Comes old new (take n buf) × (n ≡ 0 → 0 < length buf → new.ended ≡ true)
Hears old new (Err e) buf = Comes old new []

-- The fact holds for all bytes of the client from now on, whatever they are. They begin with the
-- bytes that were read, and any bytes may follow unless the end was seen.
pub record OfBytes (old new : Known) (P : List ℕ → Type 0) : Type 0 where
  pub came : List ℕ
  pub comes : Comes old new came
  pub holds : (more : List ℕ) → (new.ended ≡ true → more ≡ []) → P (came ++ more)

-- nothing was read from the client yet
pub record IsFresh (known : Known) : Type 0 where
  pub silent : known.heard ≡ []
  pub unended : known.ended ≡ false
