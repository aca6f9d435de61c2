-- The copies of a folder that a backup removes (docs/definitions.md, "Copies of an office"). A name
-- is the list of its bytes.
use Rattle.std.specs.Prelude.{◌≡◌, ◌&&◌, ◌+◌, ◌⊎◌, ℕ, List, Bool, true, false, cond, nat_le, map, filter}
use Rattle.std.specs.Prelude.{nat_eq, count_by, take, drop, length, All, Contains, string_bytes, String}
use Rattle.std.specs.Cmp.Lexicographic.{slice_cmp, pointwise}
use Rattle.std.specs.Ordering.{nat_cmp, is_lt}
use Rattle.plan_copies.specs.declared.choice.TheConstants.{FORM}
use Rattle.plan_copies.specs.declared.choice.ChoiceFault.{ChoiceFault}
use Rattle.plan_copies.specs.declared.choice.ChoiceFault.TheVariants as fault

-- a byte, with the digit 0 in the place of each digit
abbrev pub form_of : ℕ → ℕ
form_of byte = cond (nat_le 48 byte && nat_le byte 57) 48 byte

-- the bytes are a time and the ending of a database: the form, with any digits
abbrev pub is_time : List ℕ → Bool
is_time bytes = pointwise nat_eq (map form_of bytes) FORM.now

-- the name is the prefix of a database's copies, followed by a time
abbrev pub is_copy_name : List ℕ → List ℕ → Bool
is_copy_name prefix name =
    pointwise nat_eq (take (length prefix) name) prefix && is_time (drop (length prefix) name)

-- the first name is before the second one in the order of bytes
abbrev pub is_before : List ℕ → List ℕ → Bool
is_before name other = is_lt (slice_cmp nat_cmp name other)

module _ (prefix new : List ℕ) where
  -- the name is that of a copy later than the new one
  abbrev pub is_later : List ℕ → Bool
  is_later name = is_copy_name prefix name && is_before new name

  -- the name is that of a copy earlier than the new one
  abbrev pub is_earlier : List ℕ → Bool
  is_earlier name = is_copy_name prefix name && is_before name new

  -- the number of copies later than this name and earlier than the new one
  abbrev pub count_between : List (List ℕ) → List ℕ → ℕ
  count_between names name = count_by (λ other. is_earlier other && is_before name other) names

  -- the name is that of an earlier copy, and at least `keep` copies are later, the new one counted
  abbrev pub is_expired : ℕ → List (List ℕ) → List ℕ → Bool
  is_expired keep names name =
      is_earlier name && nat_le keep (count_between names name + 1)

  -- the error names a copy of the list that is later than the new one
  abbrev pub IsLate : List (List ℕ) → ChoiceFault → Type 0
  IsLate names fault.Memory = Unit {0}
  IsLate names (fault.Later name) =
      Contains names (string_bytes name) × (is_later (string_bytes name) ≡ true)
