-- The instants at which the use of a resource changes (docs/definitions.md, "Sheets").
use Rattle.std.specs.Prelude.{◌≢◌, ℕ, if◌then◌else◌, nat_lt, List, All, fold, min}
use Rattle.plan_sheet.specs.declared.uses.Use.{Use}

-- no use begins or ends at an instant
abbrev pub IsQuiet : List Use → ℕ → Type 0
IsQuiet uses t = All (λ one. (one.from ≢ t) × (one.to ≢ t)) uses

-- the lesser of an instant and another one, if that is after t. No public clause cites this word or
-- those below.
abbrev pub least_after : ℕ → ℕ → ℕ → ℕ
least_after t at next = if nat_lt t at then min next at else next

-- the least of an instant and of the ends of a use that are after t
unfoldable pub earlier : ℕ → Use → ℕ → ℕ
earlier t one next = least_after t one.to (least_after t one.from next)

-- the first instant after t at which a use begins or ends, at most the last one
abbrev pub change_after : ℕ → ℕ → List Use → ℕ
change_after t last uses = fold (λ next one. earlier t one next) last uses
