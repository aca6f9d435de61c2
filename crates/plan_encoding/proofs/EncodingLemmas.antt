-- The tests of an encoding, and the text of a file in UTF-8 or UTF-16.
use Rattle.std.proofs.Common.{◌≡◌, ◌∙◌, ℕ, ◌+◌, ◌-◌, ◌*◌, ◌≤◌, Bool, true, false, ◌&&◌, List, [], ◌∷◌, ap, refl, IsUtf8, bytes_eq, encode_utf8_all, arith}
use Rattle.std.proofs.lemmas.Bool.{and_left, le-ltb, le-leb}
use Rattle.std.proofs.lemmas.Str.{IsUtf8-from_is_utf8, is_utf8-from_IsUtf8, encodes-chars}
use Rattle.std.specs.Str.{all_scalars, chars, chars_after, continuation_len, lead_bits, is_utf8}
use Rattle.plan_encoding.specs.Encodings.{ReadsUtf16, encoding, chars_in, utf8_of, utf16_file}
use Rattle.plan_encoding.specs.declared.encoding.Encoding.TheVariants.{Utf16Le, Utf16Be}
use Rattle.plan_encoding.specs.declared.utf16.ByteOrder.{ByteOrder}
use Rattle.plan_encoding.specs.declared.utf16.ByteOrder.TheVariants.{Little, Big}
use Rattle.plan_encoding.proofs.RoundTripLemmas.{utf16_text-bytes}

-- what isn't UTF-8 fails the test
pub is_utf8-not : (bytes : List ℕ) (t : Bool) → is_utf8 bytes ≡ t → ¬ (IsUtf8 bytes) → false ≡ t
is_utf8-not bytes false is invalid = refl
is_utf8-not bytes true is invalid = absurd (invalid (IsUtf8-from_is_utf8 bytes is))

-- the text of a file in UTF-8 is its bytes
pub utf8_of-same : (bytes : List ℕ) → IsUtf8 bytes → bytes ≡ utf8_of bytes
unfolding encoding chars_in
utf8_of-same bytes valid = rw (is_utf8-from_IsUtf8 bytes valid, encodes-chars bytes valid)

-- a number above all characters is none
scalars-above : (c : ℕ) (cs : List ℕ) → 0x11_0000 ≤ c → all_scalars (c ∷ cs) ≡ false
scalars-above c cs above = rw (le-ltb c 55296 (omega (arith, above)), le-leb 57344 c (omega (arith, above)), le-ltb c 1114112 above)

-- numbers of which the first is above all characters are no text
first-above : (c : ℕ) (cs bytes : List ℕ) → 0x11_0000 ≤ c → (all_scalars (c ∷ cs) && bytes_eq (encode_utf8_all (c ∷ cs)) bytes) ≡ false
first-above c cs bytes above = and_left (all_scalars (c ∷ cs)) (bytes_eq (encode_utf8_all (c ∷ cs)) bytes) (scalars-above c cs above)

-- what follows a byte from 0xF8 on spells no character
lead-invalid : (lead bits : ℕ) (rest : List ℕ) → 8 ≤ bits →
    (all_scalars (chars_after 3 bits rest) && bytes_eq (encode_utf8_all (chars_after 3 bits rest)) (lead ∷ rest)) ≡ false
lead-invalid lead bits [] high = refl
lead-invalid lead bits (a ∷ []) high = refl
lead-invalid lead bits (a ∷ b ∷ []) high = refl
lead-invalid lead bits (a ∷ b ∷ c ∷ []) high =
    first-above (((bits * 64 + (a - 128)) * 64 + (b - 128)) * 64 + (c - 128)) [] (lead ∷ a ∷ b ∷ c ∷ []) (omega (arith, high))
lead-invalid lead bits (a ∷ b ∷ c ∷ d ∷ rest) high =
    first-above (((bits * 64 + (a - 128)) * 64 + (b - 128)) * 64 + (c - 128)) (chars_after (continuation_len d) (lead_bits d) rest)
    (lead ∷ a ∷ b ∷ c ∷ d ∷ rest) (omega (arith, high))

-- no text in UTF-8 begins with a mark of UTF-16
is_utf8-FF : (rest : List ℕ) → is_utf8 (0xFF ∷ rest) ≡ false
unfolding is_utf8 chars
is_utf8-FF rest = lead-invalid 0xFF 15 rest (omega arith)

is_utf8-FE : (rest : List ℕ) → is_utf8 (0xFE ∷ rest) ≡ false
unfolding is_utf8 chars
is_utf8-FE rest = lead-invalid 0xFE 14 rest (omega arith)

-- the encoding of a file with a mark of UTF-16
encoding-little : (rest : List ℕ) → encoding (0xFF ∷ 0xFE ∷ rest) ≡ Utf16Le
unfolding encoding
encoding-little rest = rw (is_utf8-FF (0xFE ∷ rest))

encoding-big : (rest : List ℕ) → encoding (0xFE ∷ 0xFF ∷ rest) ≡ Utf16Be
unfolding encoding
encoding-big rest = rw (is_utf8-FE (0xFF ∷ rest))

-- the text of a file in UTF-16 is the characters that were saved
utf8_of-saved : (order : ByteOrder) (written : List ℕ) → all_scalars written ≡ true → utf8_of (utf16_file order written) ≡ encode_utf8_all written
unfolding chars_in
utf8_of-saved Little written valid = rw (encoding-little _, utf16_text-bytes Little written valid)
utf8_of-saved Big written valid = rw (encoding-big _, utf16_text-bytes Big written valid)

pub reads_utf16 : (bytes text : List ℕ) → text ≡ utf8_of bytes → ReadsUtf16 bytes text
reads_utf16 bytes text is order written valid saved = is ∙ ap utf8_of saved ∙ utf8_of-saved order written valid
