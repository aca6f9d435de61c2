-- Labels that are cut to the room that they have (docs/definitions.md, "Sheets"). Room is counted in
-- columns of 0.6 em.
use Rattle.std.specs.Prelude.{ℕ, ◌-◌, Bool, true, ◌&&◌, if◌then◌else◌, nat_le, nat_lt, List, [], ◌∷◌}
use Rattle.std.specs.Prelude.{◌++◌}
use Rattle.std.specs.Char.{encode_utf8}
use Rattle.std.specs.Str.{chars}

-- the columns of a character: from U+1100 on characters can be wide
abbrev pub columns_of : ℕ → ℕ
columns_of c = if nat_lt c 0x1100 then 1 else 2

-- characters have room in so many columns
abbrev pub fits : ℕ → List ℕ → Bool
fits room [] = true
fits room (c ∷ cs) = nat_le (columns_of c) room && fits (room - columns_of c) cs

-- the first characters that have room
abbrev pub front_of : ℕ → List ℕ → List ℕ
front_of room [] = []
front_of room (c ∷ cs) =
    if nat_le (columns_of c) room then encode_utf8 c ++ front_of (room - columns_of c) cs else []

-- a text, or its first characters and an ellipsis if it has no room
unfoldable pub cut : ℕ → List ℕ → List ℕ
cut room text =
    if fits room (chars text) then text
    else front_of (room - 2) (chars text) ++ encode_utf8 0x2026
