-- The head of a request at the front of a connection's bytes (docs/definitions.md, "Connections").
use Rattle.std.specs.Prelude.{ℕ, ◌≤◌, List, length, take, drop}
use Rattle.httparse.specs.Grammar.{RequestHead, ReadsRequest, print_request}

-- the first 8,192 bytes begin with this head, which has at most 64 fields
pub record BeginsWithHead (bytes : List ℕ) (h : RequestHead) : Type 0 where
  pub rest : List ℕ
  pub reads : ReadsRequest (take 8192 bytes) h rest
  pub fields : length h.fields ≤ 64

-- the bytes begin with no such head
abbrev pub HasNoHead : List ℕ → Type 0
HasNoHead bytes = (h : RequestHead) → ¬ (BeginsWithHead bytes h)

-- the bytes behind the head
abbrev pub after_head : List ℕ → RequestHead → List ℕ
after_head bytes h = drop (length (print_request h)) bytes
