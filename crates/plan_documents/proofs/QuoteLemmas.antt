-- The end of a quoted text: its last character boundary within the limit.
use Rattle.std.proofs.Common.{◌≡◌, ◌<◌, ◌≤◌, ◌-◌, ◌+◌, inl, inr, ℕ, zero, suc, List, length, slice_index, subst, true, false, IsCharBoundary, refl, sym, ◌++◌, take, codes, arith}
use Rattle.std.proofs.lemmas.Bool.{cases_lt, lt-ltb, le-ltb, lt-leb, le-leb}
use Rattle.plan_documents.specs.Quotes.{is_inner, last_boundary, quoted}

-- an end is the last character boundary of a text within a limit
abbrev pub IsLastBoundary : List ℕ → ℕ → ℕ → Type 0
IsLastBoundary text most end =
    (end ≤ most) × IsCharBoundary text end × ((i : ℕ) → end < i → i ≤ most → IsCharBoundary text i → ⊥)

-- the first byte of a character isn't inside one
first_byte : (byte : ℕ) → (128 ≤ byte → 192 ≤ byte) → is_inner byte ≡ false
first_byte byte first = elim (cases_lt byte 128) [
  | inl low ↦ rw (lt-leb 128 byte low) refl
  | inr high ↦ rw (le-leb 128 byte high, le-ltb byte 192 (first high)) refl
]

-- any other byte is
inner_byte : (byte : ℕ) → ((128 ≤ byte → 192 ≤ byte) → ⊥) → is_inner byte ≡ true
inner_byte byte inner = elim (cases_lt byte 128) [
  | inl low ↦ absurd (inner (λ high. omega arith))
  | inr high ↦ elim (cases_lt byte 192) [
    | inl below ↦ rw (le-leb 128 byte high, lt-ltb byte 192 below) refl
    | inr first ↦ absurd (inner (λ _. first))
  ]
]

-- the facts about an end determine it
pub last_is : (text : List ℕ) (most end : ℕ) → most < length text → IsLastBoundary text most end → last_boundary most text ≡ end
unfolding last_boundary
last_is text zero end long last = omega arith
last_is text (suc n) end long last = elim (cases_lt end (suc n)) [
  | inl before ↦ rw (inner_byte (slice_index text (suc n)) (λ first. last.2 (suc n) before (omega arith) (omega arith, λ _. first)))
      (last_is text n end (omega arith) (omega arith, last.1, λ i above within. last.2 i above (omega arith)))
  | inr beyond ↦ let same : end ≡ suc n = omega arith in
      rw (first_byte (slice_index text (suc n)) ((subst (IsCharBoundary text) same last.1).1 long)) (sym same)
]

-- a text that isn't long is quoted whole
pub short : (text : List ℕ) → length text ≤ 60 → quoted text ≡ text
unfolding quoted
short text few = rw (le-leb (length text) 60 few) refl

-- a longer one is cut
pub long : (text : List ℕ) (end : ℕ) → 60 < length text → IsLastBoundary text 60 end → quoted text ≡ take end text ++ codes ".."
unfolding quoted
long text end more last = rw (lt-leb (length text) 60 more, last_is text 60 end more last) refl
