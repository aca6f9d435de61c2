-- The first value of a kind that a walk finds.
use Rattle.std.specs.Prelude.{Bool, true, false, Option, Some, None}

-- the note after one more value: the first value of the kind is kept
abbrev pub noted : {A : Type 0} → Bool → Option A → A → Option A
noted fits (Some first) value = Some first
noted true None value = Some value
noted false None value = None

-- the note, or else the later one
abbrev pub noted_or : {A : Type 0} → Option A → Option A → Option A
noted_or (Some first) later = Some first
noted_or None later = later
