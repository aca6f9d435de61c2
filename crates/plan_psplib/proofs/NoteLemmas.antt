-- The note of a walk, value after value.
use Rattle.std.proofs.Common.{◌≡◌, Bool, true, false, Option, Some, None, refl, cond}
use Rattle.plan_psplib.specs.Noted.{noted, noted_or}

-- a value that is noted is the next that would be found
pub noted_or-noted : {A : Type 0} (fits : Bool) (note : Option A) (value : A) (later : Option A) → noted_or (noted fits note value) later ≡ noted_or note (cond fits (Some value) later)
noted_or-noted true (Some first) value later = refl
noted_or-noted true None value later = refl
noted_or-noted false (Some first) value later = refl
noted_or-noted false None value later = refl

-- if no value is left, the note is final
pub noted_or-None : {A : Type 0} (note : Option A) → noted_or note None ≡ note
noted_or-None (Some first) = refl
noted_or-None None = refl

pub ruleset notes = (noted_or-noted, noted_or-None)
