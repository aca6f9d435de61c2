-- The checks between a request's head and its body (docs/definitions.md, "Connections").
use Rattle.std.specs.Prelude.{ℕ, Bool, if◌then◌else◌, nat_lt, List, [], ◌∷◌, length, Option, Some, None, codes}
use Rattle.plan_http.specs.declared.checks.Check.{Check}
use Rattle.plan_http.specs.declared.checks.Check.TheVariants.{Message, TooLarge, Coding}
use Rattle.plan_http.specs.Fields.{NamedValue, values_of, is_host_wrong, is_length_wrong, body_length}

-- the first failing check of a list of checks, each with whether it fails
abbrev pub first_failing : List (Bool × Check) → Option Check
first_failing [] = None
first_failing (row ∷ rows) = if row.0 then Some row.1 else first_failing rows

-- the values of the fields that give the length of the body
abbrev pub lengths_in : List NamedValue → List (List ℕ)
lengths_in fields = values_of (codes "content-length") fields

-- the most bytes of a body
abbrev pub longest_body : ℕ
longest_body = 1048576

-- the checks of a head, in their order, by its version and fields
abbrev pub head_checks : ℕ → List NamedValue → List (Bool × Check)
head_checks minor fields =
    (is_host_wrong minor (values_of (codes "host") fields), Message)
    ∷ (is_length_wrong (lengths_in fields), Message)
    ∷ (nat_lt longest_body (body_length (lengths_in fields)), TooLarge)
    ∷ (nat_lt 0 (length (values_of (codes "transfer-encoding") fields)), Coding)
    ∷ []
