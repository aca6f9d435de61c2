-- Text inside markup (docs/definitions.md, "Sheets"; WHATWG HTML, "Escaping a string"; XML 1.0,
-- sections 2.2 and 4.6).
use Rattle.std.specs.Prelude.{ℕ, ◌==◌, Bool, ◌&&◌, ◌||◌, if◌then◌else◌, nat_le, nat_lt, Option, Some, None, List, [], ◌∷◌, ◌++◌, codes}
use Rattle.std.specs.List.{filter, flat_map}
use Rattle.std.specs.Char.{encode_utf8}
use Rattle.std.specs.Str.{chars, bytes_eq}

-- a control character, or a noncharacter that XML excludes
abbrev pub is_hidden : ℕ → Bool
is_hidden c = nat_lt c 32 || (nat_le 127 c && nat_le c 159) || (c == 0xFFFE) || (c == 0xFFFF)

-- the character that is shown for another one
abbrev pub shown : ℕ → ℕ
shown c = if is_hidden c then 0xFFFD else c

-- the bytes of a character in markup
unfoldable pub escaped_char : ℕ → List ℕ
escaped_char c =
    if c == 38 then codes "&amp;" else if c == 60 then codes "&lt;" else if c == 62 then codes "&gt;"
    else if c == 34 then codes "&quot;" else if c == 39 then codes "&#39;" else encode_utf8 (shown c)

-- a text in markup
abbrev pub escaped : List ℕ → List ℕ
escaped text = flat_map escaped_char (chars text)

-- a byte that opens or closes a tag or a quoted attribute
abbrev pub is_markup : ℕ → Bool
is_markup b = (b == 60) || (b == 62) || (b == 34) || (b == 39)

-- the bytes of a document that open or close tags and quoted attributes, in order
abbrev pub markup_of : List ℕ → List ℕ
markup_of bytes = filter is_markup bytes

-- the text that is shown: control characters and noncharacters as U+FFFD
abbrev pub shown_text : List ℕ → List ℕ
shown_text text = flat_map (λ c. encode_utf8 (shown c)) (chars text)

-- the character that an entity names, by what is between & and ;
abbrev pub named_char : List ℕ → Option ℕ
named_char name =
    if bytes_eq name (codes "amp") then Some 38 else if bytes_eq name (codes "lt") then Some 60
    else if bytes_eq name (codes "gt") then Some 62 else if bytes_eq name (codes "quot") then Some 34
    else if bytes_eq name (codes "#39") then Some 39 else None

-- a character before a text; none if there is no character or no text
abbrev pub with_char : Option ℕ → Option (List ℕ) → Option (List ℕ)
with_char None text = None
with_char (Some c) None = None
with_char (Some c) (Some rest) = Some (c ∷ rest)

-- the text that a reader of markup gets; none if an & begins none of the five entities. The first
-- argument is what it has of an entity's name.
abbrev pub read_from : Option (List ℕ) → List ℕ → Option (List ℕ)
read_from None [] = Some []
read_from (Some name) [] = None
read_from None (b ∷ bytes) = if b == 38 then read_from (Some []) bytes else with_char (Some b) (read_from None bytes)
read_from (Some name) (b ∷ bytes) =
    if b == 59 then with_char (named_char name) (read_from None bytes) else read_from (Some (name ++ b ∷ [])) bytes
