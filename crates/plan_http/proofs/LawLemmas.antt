-- Bytes have one verdict.
use Rattle.std.proofs.Common.{◌≡◌, ℕ, List, Option, None, false, take, refl, sym, ◌∙◌, ap, inl, inr}
use Rattle.httparse.specs.Grammar.{RequestHead}
use Rattle.httparse.specs.declared.spans.HeaderSpan.{HeaderSpan}
use Rattle.httparse.proofs.GrammarLemmas.{request_unique}
use Rattle.plan_http.specs.declared.checks.Check.TheVariants.{Message}
use Rattle.plan_http.specs.declared.head.HeadEnd.{HeadEnd}
use Rattle.plan_http.specs.declared.head.HeadEnd.TheVariants.{Found, Missing, Failed}
use Rattle.plan_http.specs.Head.{BeginsWithHead, after_head}
use Rattle.plan_http.specs.Pieces.{HeadOutcome, HeadFaults}
use Rattle.plan_http.specs.Judges.{Verdict, verdict_of, fails, Judges}
use Rattle.plan_http.specs.Laws.{OneVerdict, SpellsSomething}

-- bytes begin with one head
pub one_head : (bytes : List ℕ) (h g : RequestHead) → BeginsWithHead bytes h → BeginsWithHead bytes g → h ≡ g
one_head bytes h g x y = (request_unique (take 8192 bytes) h g x.rest y.rest x.reads y.reads).0

judges_once : (bytes : List ℕ) (x y : Verdict) → Judges bytes x → Judges bytes y → x ≡ y
judges_once bytes x y (inl p) (inl q) = p.2 ∙ ap (λ h. verdict_of h (after_head bytes h)) (one_head bytes p.0 q.0 p.1 q.1) ∙ sym q.2
judges_once bytes x y (inl p) (inr q) = absurd (q.0 p.0 p.1)
judges_once bytes x y (inr p) (inl q) = absurd (p.0 q.0 q.1)
judges_once bytes x y (inr p) (inr q) = p.1 ∙ sym q.1

pub one_verdict : OneVerdict
unfolding OneVerdict
one_verdict = judges_once

-- a head that was found or is missing determines the verdict
pub spelled : (bytes : List ℕ) (left : Option (List ℕ)) (buf : List ℕ) (headers : List HeaderSpan) (end : HeadEnd) → HeadOutcome bytes left buf headers end → HeadFaults 0 0 end → SpellsSomething bytes
spelled bytes left buf headers (Found spans filled) outcome faults = (verdict_of outcome.0.head (after_head bytes outcome.0.head), inl (outcome.0.head, outcome.0.begins, refl))
spelled bytes left buf headers Missing outcome faults = (fails Message None false, inr (outcome, refl))
spelled bytes left buf headers Failed outcome faults = cc
