-- The first line of a text, and of its front.
use Rattle.std.proofs.Common.{◌≡◌, ◌<◌, ◌≤◌, ◌+◌, ◌-◌, ℕ, suc, Bool, true, false, List, [], ◌∷◌, ◌++◌, Option, Some, None, length, take, refl, sym, ap, ◌∙◌, subst, arith, cond}
use Rattle.std.proofs.lemmas.Option.{cond_some}
use Rattle.std.proofs.lemmas.Bool.{ltb-false}
use Rattle.std.proofs.lemmas.List.{take_all, append-nil, length-append}
use Rattle.std.proofs.Math.Seq.{take-append-add, take-append_seam}
use Rattle.std.specs.List.{position, position_or_len, before_first}
use Rattle.std.specs.Io.KnownBytes.{Consumes, IsAtEnd}
use Rattle.std.specs.Prelude.{IfSome, MatchOption}
use Rattle.std.proofs.KnownBytes.{Consumes-trans}
use Rattle.plan_psplib.specs.Lines.{is_line_feed}
use Rattle.plan_door.specs.Keys.{IsFront, first_line, without_return, longest_line}

none_of : (b : Bool) (n : ℕ) → cond b (Some n) None ≡ None → b ≡ false
none_of true n e = cc
none_of false n e = refl

-- a text is cut at its first line feed
pub cut_at : (text : List ℕ) (i : ℕ) → position is_line_feed text ≡ Some i → take i text ≡ before_first is_line_feed text
cut_at text i e =
    let h = cond_some _ _ i e in
    ap (λ n. take n text) (sym h.1)

-- a text without a line feed is one line
pub uncut : (text : List ℕ) → position is_line_feed text ≡ None → text ≡ before_first is_line_feed text
uncut text e =
    let long : length text ≤ position_or_len is_line_feed text = ltb-false _ _ (none_of _ _ e) in
    sym (take_all (position_or_len is_line_feed text) text long)

take_next : (n x : ℕ) (xs : List ℕ) → take (1 + n) (x ∷ xs) ≡ x ∷ take n xs
take_next n x xs =
    let e : suc n ≡ 1 + n = omega arith in
    subst (λ m. take m (x ∷ xs) ≡ x ∷ take n xs) e refl

by_feed : (b : ℕ) (line more : List ℕ) (is : Bool) → is_line_feed b ≡ is
    → before_first is_line_feed ((line ++ 10 ∷ []) ++ more) ≡ before_first is_line_feed (line ++ 10 ∷ [])
    → before_first is_line_feed (((b ∷ line) ++ 10 ∷ []) ++ more) ≡ before_first is_line_feed ((b ∷ line) ++ 10 ∷ [])
by_feed b line more true e same = rw e refl
by_feed b line more false e same =
    let long = position_or_len is_line_feed ((line ++ 10 ∷ []) ++ more) in
    let short = position_or_len is_line_feed (line ++ 10 ∷ []) in
    rw e (take_next long b ((line ++ 10 ∷ []) ++ more) ∙ ap (λ bs. b ∷ bs) same ∙ sym (take_next short b (line ++ 10 ∷ [])))

-- the bytes after a line feed aren't part of the first line
before_feed : (line more : List ℕ) → before_first is_line_feed ((line ++ 10 ∷ []) ++ more) ≡ before_first is_line_feed (line ++ 10 ∷ [])
before_feed [] more = refl
before_feed (b ∷ line) more = by_feed b line more (is_line_feed b) refl (before_feed line more)

-- a text's first line is that of its part before the line feed
same_first : (xs ys : List ℕ) → before_first is_line_feed xs ≡ before_first is_line_feed ys → first_line xs ≡ first_line ys
unfolding first_line
same_first xs ys e = ap without_return e

all_read : (old mid new : Option (List ℕ)) (line : List ℕ) → length line ≤ longest_line → Consumes old mid line → Consumes mid new [] → IsAtEnd new
    → IfSome old (λ text. first_line line ≡ first_line (take longest_line text))
all_read None mid new line short first then end = tt
all_read (Some text) None new line short first then end = absurd first
all_read (Some text) (Some more) None line short first then end = absurd then
all_read (Some text) (Some more) (Some rest) line short first then end =
    let none : more ≡ [] = then ∙ end in
    let is : text ≡ line = first ∙ ap (λ xs. line ++ xs) none ∙ append-nil line in
    sym (ap (λ xs. first_line (take longest_line xs)) is ∙ ap first_line (take_all longest_line line short))

feed_read : (old new : Option (List ℕ)) (line : List ℕ) (byte : ℕ) → length line < longest_line → Consumes old new (line ++ byte ∷ []) → byte ≡ 10
    → IfSome old (λ text. first_line (line ++ byte ∷ []) ≡ first_line (take longest_line text))
feed_read None new line byte short read is = tt
feed_read (Some text) None line byte short read is = absurd read
feed_read (Some text) (Some rest) line byte short read is =
    let n = length-append line (byte ∷ []) in
    let sum : length (line ++ byte ∷ []) + (longest_line - length (line ++ byte ∷ [])) ≡ longest_line = omega (arith, n, short) in
    let more = take (longest_line - length (line ++ byte ∷ [])) rest in
    let front : take longest_line text ≡ (line ++ byte ∷ []) ++ more =
    ap (take longest_line) read ∙ subst (λ m. take m ((line ++ byte ∷ []) ++ rest) ≡ (line ++ byte ∷ []) ++ more) sum
    (take-append-add (line ++ byte ∷ []) rest (longest_line - length (line ++ byte ∷ []))) in
    let same : before_first is_line_feed (line ++ byte ∷ []) ≡ before_first is_line_feed ((line ++ byte ∷ []) ++ more) =
    subst (λ b. before_first is_line_feed (line ++ b ∷ []) ≡ before_first is_line_feed ((line ++ b ∷ []) ++ more)) (sym is) (sym (before_feed line more)) in
    same_first (line ++ byte ∷ []) (take longest_line text) (same ∙ ap (before_first is_line_feed) (sym front))

front_read : (old new : Option (List ℕ)) (line : List ℕ) → length line ≡ longest_line → Consumes old new line
    → IfSome old (λ text. first_line line ≡ first_line (take longest_line text))
front_read None new line long read = tt
front_read (Some text) None line long read = absurd read
front_read (Some text) (Some rest) line long read =
    sym (ap first_line (ap (take longest_line) read ∙ subst (λ n. take n (line ++ rest) ≡ line) long (take-append_seam line rest)))

-- a text that was read to its end is its own front
pub at_end : (old mid new : Option (List ℕ)) (line : List ℕ) → length line ≤ longest_line → Consumes old mid line → Consumes mid new [] → IsAtEnd new → IsFront old new line
at_end old mid new line short first then end = record {
  short = short;
  consumed = subst (Consumes old new) (append-nil line) (Consumes-trans old mid new line [] first then);
  first = all_read old mid new line short first then end;
}

-- a front that ends with a line feed
pub with_feed : (old mid new : Option (List ℕ)) (line : List ℕ) (byte : ℕ) → length line < longest_line →
    Consumes old mid line → Consumes mid new (byte ∷ []) → byte ≡ 10 → IsFront old new (line ++ byte ∷ [])
with_feed old mid new line byte short first then is = record {
  short = let n = length-append line (byte ∷ []) in omega (arith, n, short);
  consumed = Consumes-trans old mid new line (byte ∷ []) first then;
  first = feed_read old new line byte short (Consumes-trans old mid new line (byte ∷ []) first then) is;
}

-- a front as long as a line may be
pub as_long : (old new : Option (List ℕ)) (line : List ℕ) → length line ≡ longest_line → Consumes old new line → IsFront old new line
as_long old new line long read = record {
  short = omega (arith, long);
  consumed = read;
  first = front_read old new line long read;
}

-- the two cases of an optional byte
pub of_none : (P : Type 0) (Q : ℕ → Type 0) (next : Option ℕ) → MatchOption next P Q → next ≡ None → P
of_none P Q None m is = m
of_none P Q (Some byte) m is = absurd cc

pub of_some : (P : Type 0) (Q : ℕ → Type 0) (next : Option ℕ) (byte : ℕ) → MatchOption next P Q → next ≡ Some byte → Q byte
of_some P Q next byte m is = subst (λ o. MatchOption o P Q) is m
