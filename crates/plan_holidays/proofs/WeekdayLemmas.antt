-- An item that is cut at its first hyphen.
use Rattle.std.proofs.Common.{◌≡◌, ◌+◌, ◌-◌, ℕ, List, length, take, drop}
use Rattle.std.proofs.lemmas.List.{take_rest}

-- the text behind the hyphen
pub behind : (item : List ℕ) (end : ℕ) → take (length item - (end + 1)) (drop (end + 1) item) ≡ drop (end + 1) item
behind item end = take_rest item (end + 1)
