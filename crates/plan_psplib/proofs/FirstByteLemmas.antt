-- The first byte that passes a test: what memchr says of it, and its index in a text.
use Rattle.std.proofs.Common.{◌≡◌, ℕ, Bool, true, false, List, Option, Some, None, length, refl, sym, ap, ◌∙◌, arith, cond}
use Rattle.std.proofs.lemmas.Bool.{lt-ltb, le-ltb}
use Rattle.std.proofs.lemmas.List.Sums.{position_or_len_is}
use Rattle.std.specs.List.{position, position_or_len}
use Rattle.std.specs.Prelude.{nat_lt}
use Rattle.memchr.specs.Find.{IsFirstByte}

not_true : (b : Bool) → ¬ (b ≡ true) → b ≡ false
not_true true never = absurd (never refl)
not_true false never = refl

module _ (p : ℕ → Bool) (xs : List ℕ) where
  -- the index that this length of a prefix without a byte that passes stands for
  abbrev index_at : ℕ → Option ℕ
  index_at n = cond (nat_lt n (length xs)) (Some n) None

  -- the index that memchr returns is the position of the first byte that passes
  pub first_byte : (r : Option ℕ) → IsFirstByte p xs r → r ≡ position p xs
  first_byte None none =
      let all : position_or_len p xs ≡ length xs =
      position_or_len_is p xs (length xs) 0 (omega arith) (λ k l. not_true _ (none k (omega arith) l)) (λ l. absurd (omega (arith, l))) in
      sym (ap index_at all ∙ ap (λ b. cond b (Some (length xs)) None) (le-ltb (length xs) (length xs) (omega arith)))
  first_byte (Some k) some =
      let high = some.0.high in
      let here : position_or_len p xs ≡ k =
      position_or_len_is p xs k 0 (omega (arith, high)) (λ j l. not_true _ (some.0.before j (omega arith) l)) (λ l. some.1) in
      sym (ap index_at here ∙ ap (λ b. cond b (Some k) None) (lt-ltb k (length xs) high))
