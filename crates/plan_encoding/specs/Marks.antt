-- Bytes that others begin with or contain.
use Rattle.std.specs.Prelude.{ℕ, Bool, List, nat_eq}
use Rattle.std.specs.List.{starts_with}
use Rattle.std.specs.Option.{is_some}
use Rattle.memchr.specs.Find.{first_of, matches}

-- whether the bytes begin with the part
abbrev pub begins : List ℕ → List ℕ → Bool
begins bytes part = starts_with nat_eq bytes part

-- whether the part occurs in the bytes
abbrev pub occurs : List ℕ → List ℕ → Bool
occurs bytes part = is_some (first_of (matches bytes part 0))
