-- Texts that a sentence quotes (docs/definitions.md, "Runs").
use Rattle.std.specs.Prelude.{ℕ, zero, suc, Bool, ◌&&◌, List, ◌++◌, codes, if◌then◌else◌}
use Rattle.std.specs.Prelude.{length, nat_le, nat_lt, slice_index, take}

-- a byte of UTF-8 that isn't the first one of its character
abbrev pub is_inner : ℕ → Bool
is_inner byte = nat_le 128 byte && nat_lt byte 192

-- the end of the last character that ends within so many bytes of a longer text
unfoldable pub last_boundary : ℕ → List ℕ → ℕ
last_boundary zero text = 0
last_boundary (suc n) text =
    if is_inner (slice_index text (suc n)) then last_boundary n text else suc n

-- a text, or its whole characters within the first 60 bytes with two dots behind them
unfoldable pub quoted : List ℕ → List ℕ
quoted text = if nat_le (length text) 60 then text
    else take (last_boundary 60 text) text ++ codes ".."
