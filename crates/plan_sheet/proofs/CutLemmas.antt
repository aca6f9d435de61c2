-- Labels that are cut to the room that they have.
use Rattle.std.proofs.Common.{◌≡◌, ℕ, ◌-◌, ◌<◌, Bool, true, false, ◌&&◌, nat_le, List, [], ◌++◌, length, chars, encode_utf8, IsUtf8, sym, ap, ◌∙◌, arith, append_assoc, append-nil, cond}
use Rattle.std.proofs.lemmas.Bool.Decides.{nat_tests}
use Rattle.std.proofs.lemmas.Str.{chars_past_char, chars-nil}
use Rattle.std.proofs.lemmas.List.{nil_from_length}
use Rattle.plan_sheet.specs.Cuts.{columns_of, fits, front_of}

has_room : (n left : ℕ) → (left < n → ⊥) → nat_le n left ≡ true
has_room n left room = grind (arith, nat_tests)

no_room : (n left : ℕ) → left < n → nat_le n left ≡ false
no_room n left full = grind (arith, nat_tests)

-- a character that has room
pub fits_step : (rest after : List ℕ) (left now c : ℕ) (whole : Bool) → IsUtf8 rest → rest ≡ encode_utf8 c ++ after →
    (left < columns_of c → ⊥) → now ≡ left - columns_of c → fits left (chars rest) ≡ whole → fits now (chars after) ≡ whole
fits_step rest after left now c whole utf8 parts room count held =
    ap (λ n. fits n (chars after)) count
    ∙ sym (ap (λ b. b && fits (left - columns_of c) (chars after)) (has_room (columns_of c) left room))
    ∙ sym (ap (fits left) (chars_past_char rest after c utf8 parts))
    ∙ held

-- a character that has no room
pub fits_stop : (rest after : List ℕ) (left c : ℕ) (whole : Bool) → IsUtf8 rest → rest ≡ encode_utf8 c ++ after →
    left < columns_of c → fits left (chars rest) ≡ whole → false ≡ whole
fits_stop rest after left c whole utf8 parts full held =
    sym (ap (λ b. b && fits (left - columns_of c) (chars after)) (no_room (columns_of c) left full))
    ∙ sym (ap (fits left) (chars_past_char rest after c utf8 parts))
    ∙ held

-- all characters have room
pub fits_end : (rest : List ℕ) (left : ℕ) (whole : Bool) → length rest ≡ 0 → fits left (chars rest) ≡ whole → true ≡ whole
fits_end rest left whole none held = sym (ap (λ cs. fits left cs) (ap chars (nil_from_length rest none) ∙ chars-nil)) ∙ held

-- the same for the front
pub front_step : (old new rest after : List ℕ) (left now c : ℕ) (whole : List ℕ) → IsUtf8 rest → rest ≡ encode_utf8 c ++ after →
    (left < columns_of c → ⊥) → now ≡ left - columns_of c → new ≡ old ++ encode_utf8 c →
    old ++ front_of left (chars rest) ≡ whole → new ++ front_of now (chars after) ≡ whole
front_step old new rest after left now c whole utf8 parts room count step held =
    ap (λ bytes. bytes ++ front_of now (chars after)) step
    ∙ ap (λ n. (old ++ encode_utf8 c) ++ front_of n (chars after)) count
    ∙ append_assoc old (encode_utf8 c) (front_of (left - columns_of c) (chars after))
    ∙ ap (λ b. old ++ cond b (encode_utf8 c ++ front_of (left - columns_of c) (chars after)) []) (sym (has_room (columns_of c) left room))
    ∙ ap (λ cs. old ++ front_of left cs) (sym (chars_past_char rest after c utf8 parts))
    ∙ held

pub front_stop : (written rest after : List ℕ) (left c : ℕ) (whole : List ℕ) → IsUtf8 rest → rest ≡ encode_utf8 c ++ after →
    left < columns_of c → written ++ front_of left (chars rest) ≡ whole → written ≡ whole
front_stop written rest after left c whole utf8 parts full held =
    sym (append-nil written)
    ∙ ap (λ b. written ++ cond b (encode_utf8 c ++ front_of (left - columns_of c) (chars after)) []) (sym (no_room (columns_of c) left full))
    ∙ ap (λ cs. written ++ front_of left cs) (sym (chars_past_char rest after c utf8 parts))
    ∙ held

pub front_end : (written rest : List ℕ) (left : ℕ) (whole : List ℕ) → length rest ≡ 0 → written ++ front_of left (chars rest) ≡ whole → written ≡ whole
front_end written rest left whole none held =
    sym (append-nil written) ∙ ap (λ cs. written ++ front_of left cs) (sym (ap chars (nil_from_length rest none) ∙ chars-nil)) ∙ held
