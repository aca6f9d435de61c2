-- The names of desks, codes and their kinds, keys, and the numbers of plans
-- (docs/definitions.md, "Desks").
use Rattle.std.specs.Prelude.{ℕ, Bool, false, ◌&&◌, ◌||◌, ◌==◌, not, nat_le, nat_lt, if◌then◌else◌, [], ◌∷◌, length, Option, Some, None, codes}
use Rattle.std.specs.List.{list_all}
use Rattle.sha2.specs.Sha256.{sha256}
use Rattle.plan_rows.specs.declared.kinds.Kind.{Kind}
use Rattle.plan_rows.specs.declared.kinds.PlanKind.{PlanKind}
use Rattle.plan_rows.specs.declared.kinds.Kind.TheVariants.{Crew, Machine}
use Rattle.plan_rows.specs.declared.kinds.PlanKind.TheVariants.{Project, Shop}
use Rattle.plan_rows.specs.World.{Text, Digest, Desk, same_text}

-- a number from the first to the second, inclusive
abbrev pub is_from_to : ℕ → ℕ → ℕ → Bool
is_from_to least most n = nat_le least n && nat_le n most

-- `a` to `z`, `0` to `9` or `-`
abbrev pub is_name_byte : ℕ → Bool
is_name_byte b = is_from_to 97 122 b || (is_from_to 48 57 b || (b == 45))

abbrev pub begins_with : ℕ → Text → Bool
begins_with byte [] = false
begins_with byte (b ∷ bs) = b == byte

-- the name of a desk, or a code: 1–32 such bytes, the first of which isn't `-`
abbrev pub is_name : Text → Bool
is_name text =
    is_from_to 1 32 (length text) && (list_all is_name_byte text && not (begins_with 45 text))

abbrev pub kind_text : Kind → Text
kind_text Crew = codes "crew"
kind_text Machine = codes "machine"

abbrev pub plan_kind_text : PlanKind → Text
plan_kind_text Project = codes "project"
plan_kind_text Shop = codes "shop"

-- 8–64 printable characters without blanks
abbrev pub is_key : Text → Bool
is_key text = is_from_to 8 64 (length text) && list_all (is_from_to 33 126) text

-- 32 bytes
abbrev pub is_digest : Digest → Bool
is_digest digest = (length digest == 32) && list_all (λ b. nat_lt b 256) digest

-- the SHA-256 of a key, or none if the text isn't a valid key
abbrev pub key_digest_of : Text → Option Digest
key_digest_of text = if is_key text then Some (sha256 text) else None

-- a key was sent, and the digest is the key's
abbrev pub has_key : Option Text → Digest → Bool
has_key None digest = false
has_key (Some key) digest = is_key key && same_text (sha256 key) digest

-- there is a digest, and it is the key's
abbrev pub unlocks_by : Option Text → Option Digest → Bool
unlocks_by key None = false
unlocks_by key (Some digest) = has_key key digest

-- the desk exists, and the key is the desk's
abbrev pub unlocks : Option Text → Option Desk → Bool
unlocks key None = false
unlocks key (Some desk) = has_key key desk.digest
