-- Numbers behind markup (docs/definitions.md, "Sheets").
use Rattle.std.specs.Prelude.{ℕ, List, ◌++◌}
use Rattle.std.specs.Fmt.{decimal}

-- markup, and a number
unfoldable pub counted : List ℕ → ℕ → List ℕ
counted before n = before ++ decimal n
