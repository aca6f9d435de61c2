-- The encoding of a file, and its text in UTF-8. See specs/README.md.
use Rattle.std.specs.Prelude.{◌≡◌, ℕ, true, List, [], ◌∷◌, map, drop, if◌then◌else◌, chars, encode_utf8_all}
use Rattle.std.specs.Str.{all_scalars, is_utf8}
use Rattle.plan_encoding.specs.Marks.{begins}
use Rattle.plan_encoding.specs.Utf16.{utf16_bytes, utf16_text}
use Rattle.plan_encoding.specs.Windows1252.{windows_1252_char}
use Rattle.plan_encoding.specs.declared.encoding.Encoding.{Encoding}
use Rattle.plan_encoding.specs.declared.encoding.Encoding.TheVariants.{Utf8, Utf16Le, Utf16Be, Windows1252}
use Rattle.plan_encoding.specs.declared.utf16.ByteOrder.{ByteOrder}
use Rattle.plan_encoding.specs.declared.utf16.ByteOrder.TheVariants.{Little, Big}

-- the encoding of a file: UTF-8 if it is valid, else UTF-16 after its mark, else Windows-1252
unfoldable pub encoding : List ℕ → Encoding
encoding bytes =
    if is_utf8 bytes then Utf8
    else if begins bytes (0xFF ∷ 0xFE ∷ []) then Utf16Le
    else if begins bytes (0xFE ∷ 0xFF ∷ []) then Utf16Be
    else Windows1252

-- the characters of a file in an encoding; the mark of UTF-16 is none of them
unfoldable pub chars_in : Encoding → List ℕ → List ℕ
chars_in Utf8 bytes = chars bytes
chars_in Utf16Le bytes = utf16_text Little (drop 2 bytes)
chars_in Utf16Be bytes = utf16_text Big (drop 2 bytes)
chars_in Windows1252 bytes = map windows_1252_char bytes

-- the text of a file in UTF-8
abbrev pub utf8_of : List ℕ → List ℕ
utf8_of bytes = encode_utf8_all (chars_in (encoding bytes) bytes)

-- a file that a program saves in UTF-16: the mark, and the characters
abbrev pub utf16_file : ByteOrder → List ℕ → List ℕ
utf16_file Little written = 0xFF ∷ 0xFE ∷ utf16_bytes Little written
utf16_file Big written = 0xFE ∷ 0xFF ∷ utf16_bytes Big written

-- if the bytes are characters that a program has saved in UTF-16, the text is these characters
abbrev pub ReadsUtf16 : List ℕ → List ℕ → Type 0
ReadsUtf16 bytes text =
    (order : ByteOrder) (written : List ℕ) → all_scalars written ≡ true
    → bytes ≡ utf16_file order written → text ≡ encode_utf8_all written
