use Rattle.std.proofs.Common.{◌≡◌, ℕ, drop, min}
use Rattle.std.specs.Str.Parse.{digits_value, digits_value_after}
use Rattle.plan_http.proofs.lengths.capped_value.Given as goal

-- the value is the number so far, capped at its limit
abbrev pub invariant-loop-byte : goal.invariant-loop-byte
invariant-loop-byte l = (n : ℕ) × (digits_value 10 l.text ≡ digits_value_after 10 n (drop l.byte-index l.text)) × (l.value ≡ min n 1048577)
