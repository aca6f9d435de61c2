-- The units of bytes in UTF-16, two bytes at a time.
use Rattle.std.proofs.Common.{◌≡◌, ◌∙◌, ℕ, ◌+◌, ◌*◌, ◌%◌, ◌<◌, List, [], ◌∷◌, ◌++◌, length, drop, get_or, encode_utf8_all, refl, sym, ap, arith}
use Rattle.std.proofs.Math.Utf8.{encode}
use Rattle.std.proofs.lemmas.List.{append-nil, append_assoc, drop_more}
use Rattle.std.proofs.lemmas.Str.{encodes-append}
use Rattle.std.specs.Char.Utf16.{utf16_lossy_chars}
use Rattle.plan_encoding.specs.Utf16.{REPLACEMENT, unit_of, units_of, utf16_text}
use Rattle.plan_encoding.specs.declared.utf16.ByteOrder.{ByteOrder}

module _ (order : ByteOrder) where
  units_of-two : (first second : ℕ) (tail : List ℕ) → units_of order (first ∷ second ∷ tail) ≡ unit_of order first second ∷ units_of order tail
  unfolding units_of
  units_of-two first second tail = refl

  -- fewer than two bytes spell no unit
  pub units_of-few : (bytes : List ℕ) → length bytes < 2 → units_of order bytes ≡ []
  unfolding units_of
  units_of-few [] few = refl
  units_of-few (last ∷ []) few = refl
  units_of-few (a ∷ b ∷ tail) few = absurd (omega (arith, few))

  -- the unit at an index, and those behind it
  pub units_of-more : (bytes : List ℕ) (i : ℕ) → i * 2 + 1 < length bytes →
      units_of order (drop (i * 2) bytes) ≡ unit_of order (get_or bytes (i * 2) 0) (get_or bytes (i * 2 + 1) 0) ∷ units_of order (drop ((i + 1) * 2) bytes)
  units_of-more bytes i h =
      let next : drop (i * 2) bytes ≡ get_or bytes (i * 2) 0 ∷ get_or bytes (i * 2 + 1) 0 ∷ drop (i * 2 + 1 + 1) bytes =
      drop_more bytes (i * 2) 0 (omega arith) ∙ ap (λ t. get_or bytes (i * 2) 0 ∷ t) (drop_more bytes (i * 2 + 1) 0 h) in
      let place : i * 2 + 1 + 1 ≡ (i + 1) * 2 = omega arith in
      ap (units_of order) next
      ∙ units_of-two _ _ _
      ∙ ap (λ k. unit_of order (get_or bytes (i * 2) 0) (get_or bytes (i * 2 + 1) 0) ∷ units_of order (drop k bytes)) place

  -- one more unit is read
  pub units_of-step : (bytes done : List ℕ) (i : ℕ) → i * 2 + 1 < length bytes →
      done ++ units_of order (drop (i * 2) bytes) ≡ units_of order bytes →
      (done ++ unit_of order (get_or bytes (i * 2) 0) (get_or bytes (i * 2 + 1) 0) ∷ []) ++ units_of order (drop ((i + 1) * 2) bytes) ≡ units_of order bytes
  units_of-step bytes done i h before =
      append_assoc done _ _ ∙ ap (λ t. done ++ t) (sym (units_of-more bytes i h)) ∙ before

  -- the text of the units, with the character for an odd last byte
  pub utf16_text-odd : (bytes text : List ℕ) → length bytes % 2 ≡ 1 → text ≡ encode_utf8_all (utf16_lossy_chars (units_of order bytes)) →
      text ++ encode REPLACEMENT ≡ encode_utf8_all (utf16_text order bytes)
  utf16_text-odd bytes text odd is =
      rw odd
      (ap (λ t. t ++ encode REPLACEMENT) is
      ∙ ap (λ t. encode_utf8_all (utf16_lossy_chars (units_of order bytes)) ++ t) (sym (append-nil (encode REPLACEMENT)))
      ∙ sym (encodes-append (utf16_lossy_chars (units_of order bytes)) (REPLACEMENT ∷ [])))

  -- there is no odd byte
  pub utf16_text-even : (bytes text : List ℕ) → length bytes % 2 ≡ 0 → text ≡ encode_utf8_all (utf16_lossy_chars (units_of order bytes)) →
      text ≡ encode_utf8_all (utf16_text order bytes)
  utf16_text-even bytes text even is = rw (even, append-nil) is
