-- A body in pieces.
use Rattle.std.proofs.Common.{◌≡◌, ℕ, ◌+◌, ◌<◌, ◌≤◌, List, [], ◌++◌, length, take, drop, Option, Some, Result, Ok, Err, IfOk, refl, sym, ap, ◌∙◌, subst, arith}
use Rattle.std.proofs.Math.Seq.{take-append_seam, drop-append_seam}
use Rattle.std.proofs.lemmas.List.{append-nil, length-take-le, length-append, take-append-le}
use Rattle.plan_http.specs.Pieces.{IsSplit, Fills}
use Rattle.plan_http.specs.BodyPieces.{BodyOutcome, IfRead, HasLeft, Skips}
use Rattle.plan_http.specs.declared.body.BodyEnd.{BodyEnd}
use Rattle.plan_http.specs.declared.body.BodyEnd.TheVariants.{Read, Short, NoMemory, Failed}

-- the end comes before the body is full
pub ended : (bytes body : List ℕ) (left : Option (List ℕ)) (filled came : ℕ) → IsSplit bytes (take (filled + came) body) left
    → came ≡ 0 → left ≡ Some [] → filled < length body → length bytes < length body
ended bytes body left filled came s zero end short =
    let same : Some s.more ≡ Some [] = sym s.left_is ∙ end in
    let none : s.more ≡ [] = cc in
    let is : bytes ≡ take (filled + came) body = s.whole ∙ ap (λ more. take (filled + came) body ++ more) none ∙ append-nil (take (filled + came) body) in
    let fits : filled + came ≤ length body = omega arith in
    let len : length (take (filled + came) body) ≡ filled + came = length-take-le (filled + came) body fits in
    let all : length bytes ≡ filled + came = ap length is ∙ len in
    omega arith

-- a full body is the front of all bytes, and the bytes after it are left
pub full : (bytes body : List ℕ) (left : Option (List ℕ)) (count : ℕ) → IsSplit bytes body left → length body ≡ count
    → (count ≤ length bytes) × (body ≡ take count bytes) × (left ≡ Some (drop count bytes))
full bytes body left count s len =
    let sum : length bytes ≡ length body + length s.more = ap length s.whole ∙ length-append body s.more in (
      omega arith,
      subst (λ n. body ≡ take n bytes) len (sym (ap (take (length body)) s.whole ∙ take-append_seam body s.more)),
      s.left_is ∙ ap Some (subst (λ n. s.more ≡ drop n bytes) len (sym (ap (drop (length body)) s.whole ∙ drop-append_seam body s.more))),
    )

-- a list that is overwritten as a whole is the new one
pub written_over : (body old : List ℕ) (len : ℕ) → length body ≡ length old → len ≡ length old → take len (body ++ drop (length body) old) ≡ body
written_over body old len same is =
    let n : len ≡ length body = is ∙ sym same in
    rw n (take-append_seam body (drop (length body) old))

-- a body that was read with the head is the front of all bytes
pub came_whole : (after got : List ℕ) (left : Option (List ℕ)) (count : ℕ) → IsSplit after got left → count < length got
    → (count ≤ length after) × (take count got ≡ take count after) × (length got ≤ count → left ≡ Some (drop count after))
came_whole after got left count s short =
    let sum : length after ≡ length got + length s.more = ap length s.whole ∙ length-append got s.more in
    let fits : count ≤ length got = omega arith in (
      omega arith,
      sym (ap (take count) s.whole ∙ take-append-le count got s.more fits),
      λ long. absurd (omega arith),
    )

-- a read whose bytes aren't kept
pub skipped : {E : Type 0} (old new : List ℕ) (had left : Option (List ℕ)) (r : Result ℕ E) → IfOk r (λ came. 0 + came ≤ length new) → Fills old 0 had new left r → Skips had left r
skipped old new had left (Ok came) within fills = λ total before h.
    let s = fills h.rest (record { more = h.rest; left_is = h.left_is; whole = refl }) in
    let len : length (take (0 + came) new) ≡ 0 + came = length-take-le (0 + came) new within in
    let all : length h.rest ≡ length (take (0 + came) new) + length s.0.more = ap length s.0.whole ∙ length-append (take (0 + came) new) s.0.more in
    let sum : total ≡ before + length h.rest = h.sum in (
      record { rest = s.0.more; left_is = s.0.left_is; sum = omega (arith, len, all, sum) },
      s.1,
    )
skipped old new had left (Err e) within fills = tt

-- the bytes that were read with the head, and those that are left
pub left_behind : (after got : List ℕ) (left : Option (List ℕ)) → IsSplit after got left → HasLeft (length after) (length got) left
left_behind after got left s = record { rest = s.more; left_is = s.left_is; sum = ap length s.whole ∙ length-append got s.more }

-- the total is at least the number of skipped bytes
pub at_least : (total before count : ℕ) (left : Option (List ℕ)) → HasLeft total before left → count ≤ before → count ≤ total
at_least total before count left h within =
    let sum : total ≡ before + length h.rest = h.sum in
    omega (arith, sum, within)

-- if nothing is left and too few bytes were skipped, the total is too small
pub too_few : (total before came count : ℕ) (left : Option (List ℕ)) → HasLeft total (before + came) left → came ≡ 0 → left ≡ Some [] → before < count → total < count
too_few total before came count left h zero end short =
    let same : Some h.rest ≡ Some [] = sym h.left_is ∙ end in
    let none : h.rest ≡ [] = cc in
    let sum : total ≡ before + came + length h.rest = h.sum in
    let nothing : length h.rest ≡ 0 = ap length none in
    omega (arith, sum, nothing, zero, short)

pub copied_whole : (after got : List ℕ) (left : Option (List ℕ)) (count : ℕ) (result : BodyEnd) → IsSplit after got left → count < length got
    → IfRead result (take count got) → BodyOutcome after got count left result
copied_whole after got left count (Read body) s short is =
    let whole = came_whole after got left count s short in (whole.0, is ∙ whole.1, whole.2)
copied_whole after got left count Short s short is = absurd is
copied_whole after got left count NoMemory s short is = tt
copied_whole after got left count Failed s short is = tt
