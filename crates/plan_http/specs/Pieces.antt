-- Facts about all bytes of a connection that follow from the pieces that were read, for private
-- clauses only (docs/definitions.md, "Connections").
use Rattle.std.specs.Prelude.{◌≡◌, ℕ, ◌+◌, ◌<◌, ◌≤◌, Bool, true, false, List, [], ◌++◌, length, take, Option, Some, ⊤, Result, Ok, Err}
use Rattle.httparse.specs.Grammar.{RequestHead, MayBecomeRequest}
use Rattle.httparse.specs.Spans.{IsRequestAt, IsRequestWithin}
use Rattle.httparse.specs.declared.spans.HeaderSpan.{HeaderSpan}
use Rattle.httparse.specs.declared.spans.RequestSpans.{RequestSpans}
use Rattle.plan_http.specs.declared.head.HeadEnd.{HeadEnd}
use Rattle.plan_http.specs.declared.head.HeadEnd.TheVariants.{Found, Missing, Failed}
use Rattle.plan_http.specs.declared.head.Judged.{Judged}
use Rattle.plan_http.specs.declared.head.Judged.TheVariants.{Whole, Hopeless, Unfinished}
use Rattle.plan_http.specs.Head.{BeginsWithHead, HasNoHead}
use Rattle.plan_http.specs.Clients.{Known, Comes}

-- A client was read: whatever follows, the fact holds for the bytes that were left before and the
-- bytes that are left now.
pub record Reads (old new : Known) (P : Option (List ℕ) → Option (List ℕ) → Type 0) : Type 0 where
  pub came : List ℕ
  pub comes : Comes old new came
  pub holds : (more : List ℕ) → (new.ended ≡ true → more ≡ []) → P (Some (came ++ more)) (Some more)

-- all bytes are the front followed by the bytes that are left
pub record IsSplit (bytes front : List ℕ) (left : Option (List ℕ)) : Type 0 where
  pub more : List ℕ
  pub left_is : left ≡ Some more
  pub whole : bytes ≡ front ++ more

-- the bytes begin with a head, and the spans cover it in the front
pub record HasHeadAt (bytes front : List ℕ) (headers : List HeaderSpan) (spans : RequestSpans)
    : Type 0 where
  pub head : RequestHead
  pub begins : BeginsWithHead bytes head
  pub at : IsRequestAt front headers spans head

-- the fact about all bytes that follows from the front
abbrev pub JudgedOf : List ℕ → List ℕ → List HeaderSpan → Judged → Type 0
JudgedOf bytes front headers (Whole spans) = HasHeadAt bytes front headers spans
JudgedOf bytes front headers Hopeless = HasNoHead bytes
JudgedOf bytes front headers Unfinished = ⊤

-- The spans lie in the front. A front is unfinished only if there is room behind it, more bytes may
-- come, and they can complete a head.
abbrev pub JudgedWithin : List ℕ → Bool → List HeaderSpan → Judged → Type 0
JudgedWithin front is_end headers (Whole spans) = IsRequestWithin front headers spans
JudgedWithin front is_end headers Hopeless = ⊤
JudgedWithin front is_end headers Unfinished =
    (length front < 8192) × (is_end ≡ false) × MayBecomeRequest front

-- a read behind the first bytes of a buffer
abbrev pub Fills : {E : Type 0} → List ℕ → ℕ → Option (List ℕ) → List ℕ → Option (List ℕ)
    → Result ℕ E → Type 0
Fills old filled had new left (Ok came) = (bytes : List ℕ) → IsSplit bytes (take filled old) had
    → IsSplit bytes (take (filled + came) new) left × (came ≡ 0 → left ≡ Some [])
Fills old filled had new left (Err e) = ⊤

-- the result of reading a head
abbrev pub HeadOutcome : List ℕ → Option (List ℕ) → List ℕ → List HeaderSpan → HeadEnd → Type 0
HeadOutcome bytes left buf headers (Found spans filled) =
    HasHeadAt bytes (take filled buf) headers spans × IsSplit bytes (take filled buf) left
HeadOutcome bytes left buf headers Missing = HasNoHead bytes
HeadOutcome bytes left buf headers Failed = ⊤

-- the spans that were found lie in the filled front of the buffer
abbrev pub HeadWithin : List ℕ → List HeaderSpan → HeadEnd → Type 0
HeadWithin buf headers (Found spans filled) =
    (filled ≤ length buf) × IsRequestWithin (take filled buf) headers spans
HeadWithin buf headers Missing = ⊤
HeadWithin buf headers Failed = ⊤

-- one fault was counted if the reader failed, else none
abbrev pub HeadFaults : ℕ → ℕ → HeadEnd → Type 0
HeadFaults faults after (Found spans filled) = after ≡ faults
HeadFaults faults after Missing = after ≡ faults
HeadFaults faults after Failed = after ≡ faults + 1
