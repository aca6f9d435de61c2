-- The characters of Windows-1252 (WHATWG, Encoding Standard, index windows-1252).
use Rattle.std.specs.Prelude.{ℕ, ◌-◌, ◌&&◌, nat_le, nat_lt, List, [], ◌∷◌, slice_index, if◌then◌else◌}

-- the characters of the bytes 0x80 to 0x9F: € ‚ ƒ „ … † ‡ ˆ ‰ Š ‹ Œ Ž, ‘ ’ “ ” • – — ˜ ™ š › œ ž Ÿ,
-- and controls at 0x81, 0x8D, 0x8F, 0x90 and 0x9D
abbrev pub high_chars : List ℕ
high_chars =
    0x20AC ∷ 0x81 ∷ 0x201A ∷ 0x192 ∷ 0x201E ∷ 0x2026 ∷ 0x2020 ∷ 0x2021
    ∷ 0x2C6 ∷ 0x2030 ∷ 0x160 ∷ 0x2039 ∷ 0x152 ∷ 0x8D ∷ 0x17D ∷ 0x8F
    ∷ 0x90 ∷ 0x2018 ∷ 0x2019 ∷ 0x201C ∷ 0x201D ∷ 0x2022 ∷ 0x2013 ∷ 0x2014
    ∷ 0x2DC ∷ 0x2122 ∷ 0x161 ∷ 0x203A ∷ 0x153 ∷ 0x9D ∷ 0x17E ∷ 0x178 ∷ []

-- the character of a byte: each other byte is its own character
unfoldable pub windows_1252_char : ℕ → ℕ
windows_1252_char byte =
    if nat_le 0x80 byte && nat_lt byte 0xA0 then slice_index high_chars (byte - 0x80) else byte
