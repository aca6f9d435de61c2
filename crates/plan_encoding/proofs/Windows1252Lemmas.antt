-- The characters of Windows-1252 by ranges of bytes.
use Rattle.std.proofs.Common.{◌≡◌, ◌∙◌, ℕ, ◌+◌, ◌-◌, ◌<◌, ◌≤◌, List, ◌++◌, map, length, drop, get_or, slice_index, encode_utf8_all, sym, ap, arith}
use Rattle.std.proofs.Math.Utf8.{encode}
use Rattle.std.proofs.lemmas.List.{append-nil, append_assoc, at_drop_more, at_drop_all}
use Rattle.std.proofs.lemmas.Bool.{lt-ltb, le-ltb, le-leb, lt-leb}
use Rattle.plan_encoding.specs.Windows1252.{high_chars, windows_1252_char}

-- a byte in the table
pub windows_1252_char-high : (byte : ℕ) → 128 ≤ byte → byte < 160 → slice_index high_chars (byte - 128) ≡ windows_1252_char byte
unfolding windows_1252_char
windows_1252_char-high byte low high = rw (le-leb 128 byte low, lt-ltb byte 160 high)

-- a byte before the table
pub windows_1252_char-below : (byte : ℕ) → byte < 128 → byte ≡ windows_1252_char byte
unfolding windows_1252_char
windows_1252_char-below byte low = rw (lt-leb 128 byte low)

-- a byte after the table
pub windows_1252_char-above : (byte : ℕ) → 160 ≤ byte → byte ≡ windows_1252_char byte
unfolding windows_1252_char
windows_1252_char-above byte high = rw (le-leb 128 byte (omega arith), le-ltb byte 160 high)

-- the text of bytes
abbrev pub all_text : List ℕ → List ℕ
all_text bytes = encode_utf8_all (map windows_1252_char bytes)

-- one more byte is read
pub all_text-step : (bytes text : List ℕ) (i : ℕ) → i < length bytes → text ++ all_text (drop i bytes) ≡ all_text bytes →
    (text ++ encode (windows_1252_char (get_or bytes i 0))) ++ all_text (drop (i + 1) bytes) ≡ all_text bytes
all_text-step bytes text i h before = append_assoc text _ _ ∙ ap (λ t. text ++ t) (sym (at_drop_more all_text bytes i 0 h)) ∙ before

-- all bytes are read
pub all_text-end : (bytes text : List ℕ) (i : ℕ) → length bytes ≤ i → text ++ all_text (drop i bytes) ≡ all_text bytes → text ≡ all_text bytes
all_text-end bytes text i h before = sym (append-nil text) ∙ ap (λ t. text ++ t) (sym (at_drop_all all_text bytes i h)) ∙ before
