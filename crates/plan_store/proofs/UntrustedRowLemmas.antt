-- From the cells of a row to the row, and from the rows of an answer to a table.
use Rattle.std.proofs.Common.{◌≡◌, ℕ, true, List, [], length, Option, Some, MatchOption, Ok, Err, Result, refl, sym, ap, subst, ◌∙◌}
use Rattle.std.specs.Result.{MatchResult}
use Rattle.hex.specs.Hex.{encode_lower, decode_sized}
use Rattle.hex.specs.declared.error.FromHexError.{FromHexError}
use Rattle.sqlite_value.specs.Order.{Row}
use Rattle.plan_rows.specs.World.{Digest}
use Rattle.plan_rows.specs.Names.{is_digest}
use Rattle.plan_store.proofs.CodecLemmas.{digest_decoded}
use Rattle.plan_store.proofs.NumberedRowLemmas.{cells, cells_all}

-- a fact about a value that was found
pub found_is : {X : Type 0} (P : Type 0) (Q : X → Type 0) (o : Option X) (x : X) → o ≡ Some x → MatchOption o P Q → Q x
found_is P Q o x is h = subst (λ k. MatchOption k P Q) is h

-- the text of a digest is decoded
pub decodes : (text : List ℕ) (digest : Digest) → is_digest digest ≡ true → text ≡ encode_lower digest → (r : Result (Unit {0}) FromHexError) (out : List ℕ)
    → MatchResult (decode_sized text 32) (λ bytes. (r ≡ Ok tt) × (out ≡ bytes)) (λ e. r ≡ Err e) → (r ≡ Ok tt) × (out ≡ digest)
decodes text digest good is r out h =
    subst (λ k. MatchResult k (λ bytes. (r ≡ Ok tt) × (out ≡ bytes)) (λ e. r ≡ Err e)) (ap (λ t. decode_sized t 32) is ∙ digest_decoded digest good) h

-- a row is its cells
pub shape : (row : Row) (n : ℕ) → length row ≡ n → row ≡ cells row 0 n
shape row n size = sym (cells_all [] row 0 refl) ∙ ap (cells row 0) size
