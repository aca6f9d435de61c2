-- Bytes that go from a source to a sink (docs/definitions.md, "Copies of an office").
use Rattle.std.specs.Prelude.{ℕ, List, Option, take}
use Rattle.std.specs.Io.KnownBytes.{Consumes, Appends, IsAtEnd}
use Rattle.plan_io.specs.Devices.{HasFailed}

-- the sink took the bytes that left the source
abbrev pub AreMoved : Option (List ℕ) → Option (List ℕ) → Option (List ℕ) → Option (List ℕ)
    → Type 0
AreMoved remaining rest taken after =
    (bytes : List ℕ) × Consumes remaining rest bytes × Appends taken after bytes

-- the same, and the source has no more
abbrev pub AreCopied : Option (List ℕ) → Option (List ℕ) → Option (List ℕ) → Option (List ℕ)
    → Type 0
AreCopied remaining rest taken after = AreMoved remaining rest taken after × IsAtEnd rest

-- the sink took the first of the bytes that left the source
abbrev pub AreMovedInPart : Option (List ℕ) → Option (List ℕ) → Option (List ℕ)
    → Option (List ℕ) → Type 0
AreMovedInPart remaining rest taken after =
    (bytes : List ℕ) × (n : ℕ) × Consumes remaining rest bytes × Appends taken after (take n bytes)

-- a write of all bytes that began at some call has failed
abbrev pub HasMissed : ℕ → ℕ → ℕ → Type 0
HasMissed calls_after faults faults_after =
    (calls : ℕ) × HasFailed calls calls_after faults faults_after
