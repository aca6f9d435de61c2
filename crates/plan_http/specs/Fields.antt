-- The fields of a head, by their names, and the meaning of their values (docs/definitions.md,
-- "Connections").
use Rattle.std.specs.Prelude.{ℕ, Bool, not, ◌&&◌, ◌||◌, ◌==◌, nat_lt, List, [], ◌∷◌, length, map, filter, Option, Some, None}
use Rattle.std.specs.List.{list_all, list_any}
use Rattle.std.specs.Char.{is_ascii_digit}
use Rattle.std.specs.Str.{str_eq_ignore_ascii_case}
use Rattle.std.specs.Str.Parse.{digits_value}
use Rattle.httparse.specs.Spans.{header_bytes}
use Rattle.httparse.specs.declared.spans.HeaderSpan.{HeaderSpan}

-- a field: its name, and its value without white space at its ends
abbrev pub NamedValue : Type 0
NamedValue = List ℕ × List ℕ

-- the fields that spans of a head cover
abbrev pub fields_in : List ℕ → List HeaderSpan → List NamedValue
fields_in front headers = map (header_bytes front) headers

-- the field has this name, in upper or lower case
abbrev pub has_name : List ℕ → NamedValue → Bool
has_name name field = str_eq_ignore_ascii_case name field.0

-- the values of the fields with this name, in order
unfoldable pub values_of : List ℕ → List NamedValue → List (List ℕ)
values_of name fields = map (λ field. field.1) (filter (has_name name) fields)

-- a request of HTTP/1.1 has no Host field, or any request has several (RFC 9112, section 3.2)
abbrev pub is_host_wrong : ℕ → List (List ℕ) → Bool
is_host_wrong minor hosts = (nat_lt 0 minor && (length hosts == 0)) || nat_lt 1 (length hosts)

-- one or more digits
abbrev pub is_length_text : List ℕ → Bool
is_length_text text = nat_lt 0 (length text) && list_all is_ascii_digit text

-- the number of the first value, or 0 if there is no value
abbrev pub body_length : List (List ℕ) → ℕ
body_length [] = 0
body_length (v ∷ vs) = digits_value 10 v

-- a value isn't one or more digits, or two values differ as numbers: then one differs from the
-- first
abbrev pub is_length_wrong : List (List ℕ) → Bool
is_length_wrong vs =
    not (list_all is_length_text vs)
    || list_any (λ v. not (digits_value 10 v == body_length vs)) vs

-- the only value: None if there is no value or several
abbrev pub only_of : List (List ℕ) → Option (List ℕ)
only_of [] = None
only_of (v ∷ []) = Some v
only_of (v ∷ w ∷ vs) = None
