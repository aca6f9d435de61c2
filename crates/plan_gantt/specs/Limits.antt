-- The greatest times in texts of schedules, in whole time units (docs/definitions.md, "Texts").
use Rattle.std.specs.Prelude.{ℕ}

-- the latest start
abbrev pub latest_start : ℕ
latest_start = 10000000

-- the latest end: that of the latest start with the longest duration
abbrev pub latest_end : ℕ
latest_end = 10010000
