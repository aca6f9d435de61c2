-- Places on a chart, in the units of its viewBox (docs/definitions.md, "Sheets").
use Rattle.std.specs.Prelude.{ℕ, ◌+◌, ◌-◌, ◌*◌, ◌/◌, max}

-- the place of a point of the axis: names have 330 units, the axis 1,000
unfoldable pub place : ℕ → ℕ → ℕ
place span at = 330 + at * 1000 / max span 1

-- the length from one place to another, at least 3
unfoldable pub extent : ℕ → ℕ → ℕ
extent from to = max (to - from) 3
