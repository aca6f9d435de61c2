-- Facts about all bytes of a connection, from the pieces that were read.
use Rattle.std.proofs.Common.{◌≡◌, ℕ, ◌+◌, ◌-◌, ◌<◌, ◌≤◌, ◌⊎◌, List, [], ◌++◌, length, take, drop, Option, None, Some, refl, ap, sym, ◌∙◌, subst, inl, inr}
use Rattle.std.proofs.Common.{arith, Result, Ok, Err, IfOk, Bool, true, false, nat_eq, append_assoc}
use Rattle.std.proofs.Math.Seq.{take-append-add, take-nil}
use Rattle.std.proofs.lemmas.List.{take-append-le, length-take, length-take-le, length-map, append-nil}
use Rattle.std.proofs.lemmas.Bool.Decides.{nat_tests}
use Rattle.std.specs.Io.KnownBytes.{Consumes, ReadConsumes, IsAtEnd}
use Rattle.httparse.specs.Grammar.{RequestHead, ReadsRequest, HasNoRequest}
use Rattle.httparse.specs.Spans.{IsRequestAt, IsRequestOf, RequestOverflows, header_bytes, name_and_value}
use Rattle.httparse.specs.declared.spans.HeaderSpan.{HeaderSpan}
use Rattle.httparse.specs.declared.spans.RequestSpans.{RequestSpans}
use Rattle.httparse.proofs.GrammarLemmas.{ReadsRequest-append}
use Rattle.plan_http.specs.Head.{BeginsWithHead, HasNoHead}
use Rattle.plan_http.specs.Pieces.{IsSplit, HasHeadAt, Fills}
use borrow.Rule.Slice.PartMut.{put_mid}

-- a known stream stays known, and loses the bytes that were read
pub consumed : (more came : List ℕ) (left : Option (List ℕ)) → Consumes (Some more) left came
    → (rest : List ℕ) × (left ≡ Some rest) × (more ≡ came ++ rest)
consumed more came None h = absurd h
consumed more came (Some rest) h = (rest, refl, h)

-- the front of a buffer after a read behind its first bytes
pub take_put : (filled k n : ℕ) (buf new : List ℕ) → filled ≤ length buf → n ≤ length new
    → take (filled + n) (put_mid filled k buf new) ≡ take filled buf ++ take n new
take_put filled k n buf new fits room =
    let front : length (take filled buf) ≡ filled = length-take-le filled buf fits in
    let tail = drop k (drop filled buf) in
    subst (λ m. take (m + n) (take filled buf ++ (new ++ tail)) ≡ take filled buf ++ take n new) front
    (take-append-add (take filled buf) (new ++ tail) n ∙ ap (λ xs. take filled buf ++ xs) (take-append-le n new tail room))

-- a read moves bytes from the reader to the buffer
pub moved : (bytes more : List ℕ) (left : Option (List ℕ)) (filled k n : ℕ) (buf new : List ℕ)
    → filled ≤ length buf → n ≤ length new
    → bytes ≡ take filled buf ++ more → Consumes (Some more) left (take n new)
    → (rest : List ℕ) × (left ≡ Some rest) × (bytes ≡ take (filled + n) (put_mid filled k buf new) ++ rest)
moved bytes more left filled k n buf new fits room whole took =
    let x = consumed more (take n new) left took in (
      x.0,
      x.1,
      whole ∙ ap (λ xs. take filled buf ++ xs) x.2 ∙ sym (append_assoc (take filled buf) (take n new) x.0)
          ∙ ap (λ xs. xs ++ x.0) (sym (take_put filled k n buf new fits room)),
    )

-- the first 8,192 bytes begin with the bytes that were read, if these aren't more
pub front_of : (bytes front more : List ℕ) → bytes ≡ front ++ more → length front ≤ 8192
    → take 8192 bytes ≡ front ++ take (8192 - length front) more
front_of bytes front more whole short =
    let sum : length front + (8192 - length front) ≡ 8192 = omega arith in
    ap (take 8192) whole ∙ subst (λ m. take m (front ++ more) ≡ front ++ take (8192 - length front) more) sum
    (take-append-add front more (8192 - length front))

-- an error is one for all bytes that may follow
pub missing_by_error : (bytes front more : List ℕ) → bytes ≡ front ++ more → length front ≤ 8192
    → RequestOverflows 64 front → HasNoHead bytes
missing_by_error bytes front more whole short over h b =
    let reads : ReadsRequest (front ++ take (8192 - length front) more) h b.rest =
    subst (λ xs. ReadsRequest xs h b.rest) (front_of bytes front more whole short) b.reads in
    let many : 64 < length h.fields = over (take (8192 - length front) more) h b.rest reads in
    let few : length h.fields ≤ 64 = b.fields in
    absurd (omega arith)

-- a front without a head has none in all bytes, if nothing can follow
pub missing_by_end : (bytes front more : List ℕ) → bytes ≡ front ++ more → length front ≤ 8192
    → (more ≡ []) ⊎ (length front ≡ 8192) → HasNoRequest front → HasNoHead bytes
missing_by_end bytes front more whole short end none h b =
    let all : take (8192 - length front) more ≡ [] = elim end [
      | inl e ↦ rw e (take-nil {A = ℕ} (8192 - length front))
      | inr e ↦ let zero_room : 8192 - length front ≡ 0 = omega arith in rw zero_room refl
    ] in
    let is : take 8192 bytes ≡ front = front_of bytes front more whole short ∙ ap (λ xs. front ++ xs) all ∙ append-nil front in
    none h b.rest (subst (λ xs. ReadsRequest xs h b.rest) is b.reads)

-- a head of the front is a head of all bytes
pub found_head : (bytes front more : List ℕ) (headers : List HeaderSpan) (spans : RequestSpans) (h : RequestHead)
    → bytes ≡ front ++ more → length front ≤ 8192 → length headers ≤ 64
    → IsRequestAt front headers spans h → BeginsWithHead bytes h
found_head bytes front more headers spans h whole short room at = record {
  rest = drop spans.len front ++ take (8192 - length front) more;
  reads = subst (λ xs. ReadsRequest xs h (drop spans.len front ++ take (8192 - length front) more)) (sym (front_of bytes front more whole short))
      (ReadsRequest-append front h (drop spans.len front) (take (8192 - length front) more) at.reads);
  fields =
      let same : length (take spans.headers headers) ≡ length h.fields =
      sym (length-map (take spans.headers headers) (header_bytes front)) ∙ ap length at.fields ∙ length-map h.fields name_and_value in
      let some : length (take spans.headers headers) ≤ length headers = omega (arith, length-take spans.headers headers) in
      omega arith;
}

pub has_head : (bytes front more : List ℕ) (headers : List HeaderSpan) (spans : RequestSpans)
    → bytes ≡ front ++ more → length front ≤ 8192 → length headers ≤ 64
    → IsRequestOf front headers spans → HasHeadAt bytes front headers spans
has_head bytes front more headers spans whole short room of = record {
  head = of.0;
  begins = found_head bytes front more headers spans of.0 whole short room of.1;
  at = of.1;
}

-- a read behind the front of a buffer splits all bytes anew
pub split_on : (bytes : List ℕ) (left new_left : Option (List ℕ)) (filled k n : ℕ) (buf new : List ℕ)
    → filled ≤ length buf → n ≤ length new → IsSplit bytes (take filled buf) left → Consumes left new_left (take n new)
    → IsSplit bytes (take (filled + n) (put_mid filled k buf new)) new_left
split_on bytes left new_left filled k n buf new fits room s took =
    let m = moved bytes s.more new_left filled k n buf new fits room s.whole (subst (λ o. Consumes o new_left (take n new)) s.left_is took) in
    record { more = m.0; left_is = m.1; whole = m.2 }

-- at the end nothing is left
pub nothing_left : (bytes front : List ℕ) (left : Option (List ℕ)) → IsSplit bytes front left → IsAtEnd left → left ≡ Some []
nothing_left bytes front left s end =
    let none : s.more ≡ [] = subst (λ o. IsAtEnd o) s.left_is end in
    s.left_is ∙ ap Some none

-- the facts about one read
pub fills : {E : Type 0} (old new : List ℕ) (filled k : ℕ) (had left : Option (List ℕ)) (r : Result ℕ E)
    → filled ≤ length old → 0 < length new → IfOk r (λ n. n ≤ length new) → ReadConsumes had left r new
    → Fills old filled had (put_mid filled k old new) left r
fills old new filled k had left (Err e) fits some bound took = tt
fills old new filled k had left (Ok n) fits some bound took = λ bytes s.
    let after = split_on bytes had left filled k n old new fits bound s took.0 in
    (after, λ zero. nothing_left bytes (take (filled + n) (put_mid filled k old new)) left after (took.1 zero some))

-- if a read returned nothing, the front is all bytes
pub nothing_more : (bytes front : List ℕ) (left : Option (List ℕ)) (s : IsSplit bytes front left) (is_end : Bool) (came : ℕ)
    → is_end ≡ nat_eq came 0 → (came ≡ 0 → left ≡ Some []) → is_end ≡ true → s.more ≡ []
nothing_more bytes front left s is_end came e end holds =
    let zero : came ≡ 0 = grind (arith, nat_tests) in
    let none = end zero in
    let same : Some s.more ≡ Some [] = sym s.left_is ∙ none in
    cc

-- a read that isn't the end returned a byte
pub came_some : (came : ℕ) → nat_eq came 0 ≡ false → 0 < came
came_some came is = grind (arith, nat_tests)

-- the first read splits all bytes
pub first_split : (bytes new : List ℕ) (had left : Option (List ℕ)) (came : ℕ) → had ≡ Some bytes
    → ((all : List ℕ) → IsSplit all [] had → IsSplit all (take (0 + came) new) left × (came ≡ 0 → left ≡ Some []))
    → IsSplit bytes (take came new) left × (came ≡ 0 → left ≡ Some [])
first_split bytes new had left came is fill =
    let after = fill bytes (record { more = bytes; left_is = is; whole = refl }) in
    let same : 0 + came ≡ came = omega arith in
    (subst (λ n. IsSplit bytes (take n new) left) same after.0, after.1)
