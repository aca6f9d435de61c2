-- The changes of an office by decisions (docs/definitions.md, "Connections").
use Rattle.std.specs.Prelude.{◌≡◌, List, [], ◌∷◌}
use Rattle.plan_rows.specs.Books.{Shelf}
use Rattle.plan_http.specs.Answers.{Decision}
use Rattle.plan_http.specs.Connections.{Moves}

-- the office changed by decisions, one after another
abbrev pub MovedBy : {B : Type 0} → Shelf B → B → List Decision → B → Type 0
MovedBy shelf old [] new = new ≡ old
MovedBy {B} shelf old (d ∷ decisions) new =
    (middle : B) × Moves shelf old middle d × MovedBy shelf middle decisions new
