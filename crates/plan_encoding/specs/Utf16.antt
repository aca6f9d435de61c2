-- The characters of bytes in UTF-16 (The Unicode Standard, 3.9). A surrogate without a partner and
-- an odd last byte become U+FFFD.
use Rattle.std.specs.Prelude.{ℕ, ◌+◌, ◌*◌, ◌/◌, ◌%◌, ◌==◌, List, [], ◌∷◌, ◌++◌, length, if◌then◌else◌}
use Rattle.std.specs.Char.Escape.{encode_utf16}
use Rattle.std.specs.Char.Utf16.{utf16_lossy_chars}
use Rattle.std.specs.List.{flat_map}
use Rattle.plan_encoding.specs.declared.utf16.ByteOrder.{ByteOrder}
use Rattle.plan_encoding.specs.declared.utf16.ByteOrder.TheVariants.{Little, Big}

-- the unit that two bytes spell
abbrev pub unit_of : ByteOrder → ℕ → ℕ → ℕ
unit_of Little first second = second * 256 + first
unit_of Big first second = first * 256 + second

-- the units of the bytes, one for each two of them; an odd last byte belongs to none
unfoldable pub units_of : ByteOrder → List ℕ → List ℕ
units_of order [] = []
units_of order (last ∷ []) = []
units_of order (first ∷ second ∷ rest) = unit_of order first second ∷ units_of order rest

-- the character for what isn't in UTF-16
abbrev pub REPLACEMENT : ℕ
REPLACEMENT = 0xFFFD

-- the characters of the bytes
abbrev pub utf16_text : ByteOrder → List ℕ → List ℕ
utf16_text order bytes =
    utf16_lossy_chars (units_of order bytes)
    ++ (if length bytes % 2 == 1 then REPLACEMENT ∷ [] else [])

-- the bytes of a unit
abbrev pub unit_bytes : ByteOrder → ℕ → List ℕ
unit_bytes Little unit = unit % 256 ∷ unit / 256 ∷ []
unit_bytes Big unit = unit / 256 ∷ unit % 256 ∷ []

-- how a program writes characters in UTF-16
abbrev pub utf16_bytes : ByteOrder → List ℕ → List ℕ
utf16_bytes order chars = flat_map (unit_bytes order) (flat_map encode_utf16 chars)
