-- Characters that are written in UTF-16 are read as themselves.
use Rattle.std.proofs.Common.{◌≡◌, ◌∙◌, ◌⊎◌, ℕ, ◌+◌, ◌-◌, ◌*◌, ◌/◌, ◌%◌, ◌<◌, ◌≤◌, true, List, [], ◌∷◌, map, length, Some, inl, inr, ⊎_elim, refl, ap, ap₂, arith}
use Rattle.std.proofs.Math.Utf8.{scalar_cases}
use Rattle.std.specs.Str.{all_scalars}
use Rattle.std.proofs.lemmas.Bool.{and_parts, cases_lt, lt-ltb, le-ltb, le-leb, lt-leb}
use Rattle.std.proofs.lemmas.List.{append-nil}
use Rattle.std.proofs.lemmas.Str.{utf16_chars-nil, utf16_chars_lone, utf16_chars_pair}
use Rattle.std.specs.Char.Escape.{encode_utf16}
use Rattle.std.specs.Char.Utf16.{utf16_chars, lone_unit_char}
use Rattle.std.specs.List.{flat_map}
use Rattle.std.specs.Option.{unwrap_or}
use Rattle.plan_encoding.specs.Utf16.{unit_bytes, units_of, utf16_bytes, utf16_text}
use Rattle.plan_encoding.specs.declared.utf16.ByteOrder.{ByteOrder}
use Rattle.plan_encoding.specs.declared.utf16.ByteOrder.TheVariants.{Little, Big}

-- the units of the bytes of units
units_of-bytes : (order : ByteOrder) (units : List ℕ) → units_of order (flat_map (unit_bytes order) units) ≡ units
unfolding units_of
units_of-bytes Little [] = refl
units_of-bytes Little (u ∷ us) = ap₂ (λ x xs. x ∷ xs) {x = u / 256 * 256 + u % 256} {y = u} (omega arith) (units_of-bytes Little us)
units_of-bytes Big [] = refl
units_of-bytes Big (u ∷ us) = ap₂ (λ x xs. x ∷ xs) {x = u / 256 * 256 + u % 256} {y = u} (omega arith) (units_of-bytes Big us)

-- there are two bytes for each unit
length-bytes : (order : ByteOrder) (units : List ℕ) → length (flat_map (unit_bytes order) units) ≡ length units * 2
length-bytes Little [] = refl
length-bytes Little (u ∷ us) = omega (arith, length-bytes Little us)
length-bytes Big [] = refl
length-bytes Big (u ∷ us) = omega (arith, length-bytes Big us)

-- a unit that is a character
lone-scalar : (c : ℕ) → (c < 0xD800) ⊎ ((0xE000 ≤ c) × (c < 0x11_0000)) → lone_unit_char c ≡ Some c
lone-scalar c (inl low) = rw (lt-leb 0xD800 c low)
lone-scalar c (inr high) = rw (le-leb 0xD800 c (omega (arith, high.0)), le-ltb c 0xE000 high.0)

-- the characters of the units of characters
utf16_chars-encoded : (chars : List ℕ) → all_scalars chars ≡ true → utf16_chars (flat_map encode_utf16 chars) ≡ map Some chars
utf16_chars-encoded [] valid = utf16_chars-nil
utf16_chars-encoded (c ∷ cs) valid =
    let parts = and_parts _ _ valid in
    let later = utf16_chars-encoded cs parts.1 in
    ⊎_elim (λ low. one c cs low (scalar_cases c parts.0) later) (λ high. two c cs high (scalar_cases c parts.0) later) (cases_lt c 0x1_0000)
  where
    one : (c : ℕ) (cs : List ℕ) → c < 0x1_0000 → (c < 0xD800) ⊎ ((0xE000 ≤ c) × (c < 0x11_0000)) → utf16_chars (flat_map encode_utf16 cs) ≡ map Some cs →
        utf16_chars (flat_map encode_utf16 (c ∷ cs)) ≡ map Some (c ∷ cs)
    one c cs low (inl below) later =
        rw (lt-ltb c 0x1_0000 low) (utf16_chars_lone c (flat_map encode_utf16 cs) (λ pair. omega (arith, pair.0, below)) ∙ ap₂ (λ x xs. x ∷ xs) (lone-scalar c (inl below)) later)
    one c cs low (inr above) later =
        rw (lt-ltb c 0x1_0000 low) (utf16_chars_lone c (flat_map encode_utf16 cs) (λ pair. omega (arith, pair.1, above.0)) ∙ ap₂ (λ x xs. x ∷ xs) (lone-scalar c (inr above)) later)

    two : (c : ℕ) (cs : List ℕ) → 0x1_0000 ≤ c → (c < 0xD800) ⊎ ((0xE000 ≤ c) × (c < 0x11_0000)) → utf16_chars (flat_map encode_utf16 cs) ≡ map Some cs →
        utf16_chars (flat_map encode_utf16 (c ∷ cs)) ≡ map Some (c ∷ cs)
    two c cs high (inl below) later = absurd (omega (arith, high, below))
    two c cs high (inr range) later =
        let first : ℕ = 0xD800 + (c - 0x1_0000) / 0x400 in
        let second : ℕ = 0xDC00 + (c - 0x1_0000) % 0x400 in
        rw (le-ltb c 0x1_0000 high)
        (utf16_chars_pair (0xD800 + (c - 0x1_0000) / 0x400) (0xDC00 + (c - 0x1_0000) % 0x400) (flat_map encode_utf16 cs)
        (omega arith, omega (arith, range.1), omega arith, omega arith)
        ∙ ap₂ (λ x xs. Some x ∷ xs) {x = 0x1_0000 + ((0xD800 + (c - 0x1_0000) / 0x400) - 0xD800) * 0x400 + ((0xDC00 + (c - 0x1_0000) % 0x400) - 0xDC00)} {y = c}
        (omega (arith, high)) later)

-- no character is replaced
replaced-none : (chars : List ℕ) → map (λ o. unwrap_or o 0xFFFD) (map Some chars) ≡ chars
replaced-none [] = refl
replaced-none (c ∷ cs) = ap (λ t. c ∷ t) (replaced-none cs)

-- characters that are written in UTF-16 are read as themselves
pub utf16_text-bytes : (order : ByteOrder) (chars : List ℕ) → all_scalars chars ≡ true → utf16_text order (utf16_bytes order chars) ≡ chars
utf16_text-bytes order chars valid =
    let even : length (utf16_bytes order chars) % 2 ≡ 0 = omega (arith, length-bytes order (flat_map encode_utf16 chars)) in
    rw (even, units_of-bytes order (flat_map encode_utf16 chars), utf16_chars-encoded chars valid)
    (append-nil _ ∙ replaced-none chars)
