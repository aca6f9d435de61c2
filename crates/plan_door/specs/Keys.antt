-- The key of an office in the first line of a text (docs/definitions.md, "Keys in files").
use Rattle.std.specs.Prelude.{◌≡◌, ℕ, ◌-◌, ◌≤◌, bytes_eq, if◌then◌else◌, [], ◌∷◌, length, take, drop, Option, Some, None, IfSome, Result, Ok, Err}
use Rattle.std.specs.List.{before_first}
use Rattle.std.specs.Io.KnownBytes.{Consumes}
use Rattle.plan_psplib.specs.Lines.{is_line_feed}
use Rattle.plan_rows.specs.World.{Text, Digest}
use Rattle.plan_rows.specs.Names.{key_digest_of}
use Rattle.plan_door.specs.declared.fault.ServeFault.{ServeFault}
use Rattle.plan_door.specs.declared.fault.ServeFault.TheVariants as fault

-- the greatest number of bytes that are read: the longest key, a carriage return and a line feed
abbrev pub longest_line : ℕ
longest_line = 66

-- a text without a carriage return at its end
abbrev pub without_return : Text → Text
without_return text =
    if bytes_eq (drop (length text - 1) text) (13 ∷ []) then take (length text - 1) text else text

-- the first line of a text, without its end
unfoldable pub first_line : Text → Text
first_line text = without_return (before_first is_line_feed text)

-- the digest of some key
abbrev pub IsDigestOfKey : Digest → Type 0
IsDigestOfKey digest = (key : Text) × (key_digest_of key ≡ Some digest)

-- the digest of the key in the first line of a text, or the fault if the line isn't a key
abbrev pub SaysKey : Text → Result Digest ServeFault → Type 0
SaysKey text (Ok digest) = key_digest_of (first_line text) ≡ Some digest
SaysKey text (Err fault.Key) = key_digest_of (first_line text) ≡ None
SaysKey text (Err e) = ⊥

-- A front of a text was read, at most the longest line. Its first line is the first line of the
-- first `longest_line` bytes of the text.
pub record IsFront (remaining rest : Option Text) (front : Text) : Type 0 where
  pub short : length front ≤ longest_line
  pub consumed : Consumes remaining rest front
  pub first : IfSome remaining (λ text. first_line front ≡ first_line (take longest_line text))

-- a front was read, and this is its key or fault
abbrev pub ReadsKey : Option Text → Option Text → Result Digest ServeFault → Type 0
ReadsKey remaining rest result =
    (front : Text) × IsFront remaining rest front × SaysKey front result

-- a key was read, or the line was no key; or memory ran out, or the input failed
abbrev pub TakesKey : Option Text → Option Text → Result Digest ServeFault → Type 0
TakesKey remaining rest (Ok digest) = ReadsKey remaining rest (Ok digest)
TakesKey remaining rest (Err fault.Key) = ReadsKey remaining rest (Err fault.Key)
TakesKey remaining rest (Err fault.Memory) = Unit {0}
TakesKey remaining rest (Err fault.Input) = Unit {0}
TakesKey remaining rest (Err e) = ⊥
