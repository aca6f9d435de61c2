-- Outcomes that publish nothing, and outcomes with at most one reply and change.
use Rattle.std.proofs.Common.{◌≡◌, ℕ, inl, inr, Bool, true, false, Option, Some, None, sym, ap, ◌∙◌, subst}
use Rattle.plan_rows.specs.World.{Text}
use Rattle.plan_rows.specs.Changes.{Change, is_publishing}
use Rattle.plan_desk.specs.Calls.{Reply, page}
use Rattle.plan_desk.specs.Outcomes.{Outcome, refuses, tells, shows, makes, unless, given, some, why_or}

-- no change of the outcome publishes
abbrev pub IsQuiet : Outcome → Type 0
IsQuiet O = (reply : Reply) (c : Change) → O reply c → is_publishing c ≡ false

pub quiet_refuses : (r : Reply) → IsQuiet (refuses r)
unfolding refuses
quiet_refuses r reply c h = ap is_publishing h.1

pub quiet_tells : (text : Text) → IsQuiet (tells text)
unfolding tells
quiet_tells text reply c h = ap is_publishing h.1

pub quiet_shows : (P : Text → Type 0) → IsQuiet (shows P)
unfolding shows
quiet_shows P reply c (text, p, e, f) = ap is_publishing f

pub quiet_makes : (status : ℕ) (text : Text) (made : Change) → is_publishing made ≡ false → IsQuiet (makes status text made)
unfolding makes
quiet_makes status text made quiet reply c h = ap is_publishing h.1 ∙ quiet

pub quiet_unless : (b : Bool) (r : Reply) (Rest : Outcome) → IsQuiet Rest → IsQuiet (unless b r Rest)
unfolding unless
quiet_unless true r Rest rest = quiet_refuses r
quiet_unless false r Rest rest = rest

pub quiet_given : {A : Type 0} (o : Option A) (r : Reply) (Rest : A → Outcome) → ((x : A) → IsQuiet (Rest x)) → IsQuiet (given o r Rest)
unfolding given
quiet_given None r Rest rest = quiet_refuses r
quiet_given (Some x) r Rest rest = rest x

pub quiet_some : {A : Type 0} (P : A → Type 0) (Rest : A → Outcome) → ((x : A) → IsQuiet (Rest x)) → IsQuiet (some P Rest)
unfolding some
quiet_some P Rest rest reply c (x, p, h) = rest x reply c h

pub quiet_why_or : {A : Type 0} (Tells : Text → Type 0) (r : Text → Reply) (P : A → Type 0) (Rest : A → Outcome)
    → ((x : A) → IsQuiet (Rest x)) → IsQuiet (why_or Tells r P Rest)
unfolding why_or
quiet_why_or Tells r P Rest rest reply c (inl h) = quiet_some Tells (λ line. refuses (r line)) (λ line. quiet_refuses (r line)) reply c h
quiet_why_or Tells r P Rest rest reply c (inr h) = quiet_some P Rest rest reply c h

-- both outcomes have one reply and one change, the same
abbrev pub AreOne : Outcome → Outcome → Type 0
AreOne O Q = (reply other : Reply) (c b : Change) → O reply c → Q other b → (reply ≡ other) × (c ≡ b)

-- the outcome has one reply and one change at most
abbrev pub IsOne : Outcome → Type 0
IsOne O = AreOne O O

-- at most one value has the property
abbrev pub IsUnique : {A : Type 0} → (A → Type 0) → Type 0
IsUnique {A} P = (x y : A) → P x → P y → x ≡ y

pub one_refuses : (r : Reply) → IsOne (refuses r)
unfolding refuses
one_refuses r reply other c b h k = (h.0 ∙ sym k.0, h.1 ∙ sym k.1)

pub one_tells : (text : Text) → IsOne (tells text)
unfolding tells
one_tells text reply other c b h k = (h.0 ∙ sym k.0, h.1 ∙ sym k.1)

pub one_shows : (P : Text → Type 0) → IsUnique P → IsOne (shows P)
unfolding shows
one_shows P one reply other c b (x, p, e, f) (y, q, g, h) = (e ∙ ap page (one x y p q) ∙ sym g, f ∙ sym h)

pub one_makes : (status : ℕ) (text : Text) (made : Change) → IsOne (makes status text made)
unfolding makes
one_makes status text made reply other c b h k = (h.0 ∙ sym k.0, h.1 ∙ sym k.1)

pub one_unless : (b : Bool) (r : Reply) (Rest : Outcome) → IsOne Rest → IsOne (unless b r Rest)
unfolding unless
one_unless true r Rest rest = one_refuses r
one_unless false r Rest rest = rest

pub one_given : {A : Type 0} (o : Option A) (r : Reply) (Rest : A → Outcome) → ((x : A) → IsOne (Rest x)) → IsOne (given o r Rest)
unfolding given
one_given None r Rest rest = one_refuses r
one_given (Some x) r Rest rest = rest x

pub one_some : {A : Type 0} (P : A → Type 0) (Rest : A → Outcome) → ((x y : A) → P x → P y → AreOne (Rest x) (Rest y)) → IsOne (some P Rest)
unfolding some
one_some P Rest rest reply other c b (x, p, h) (y, q, k) = rest x y p q reply other c b h k

-- if at most one value has the property, it is enough that the rest is one for each value
pub one_unique : {A : Type 0} (P : A → Type 0) (Rest : A → Outcome) → IsUnique P → ((x : A) → P x → IsOne (Rest x)) → IsOne (some P Rest)
one_unique {A} P Rest one rest =
    one_some P Rest (λ x y p q. subst (λ z. AreOne (Rest x) (Rest z)) (one x y p q) (rest x p))

pub one_why_or : {A : Type 0} (Tells : Text → Type 0) (r : Text → Reply) (P : A → Type 0) (Rest : A → Outcome)
    → IsUnique Tells → ((line : Text) (x : A) → Tells line → P x → ⊥) → IsOne (some P Rest) → IsOne (why_or Tells r P Rest)
unfolding why_or some
one_why_or Tells r P Rest one apart rest reply other c b (inl h) (inl k) =
    one_unique Tells (λ line. refuses (r line)) one (λ line told. one_refuses (r line)) reply other c b h k
one_why_or Tells r P Rest one apart rest reply other c b (inl (line, told, h)) (inr (x, p, k)) = absurd (apart line x told p)
one_why_or Tells r P Rest one apart rest reply other c b (inr (x, p, h)) (inl (line, told, k)) = absurd (apart line x told p)
one_why_or Tells r P Rest one apart rest reply other c b (inr h) (inr k) = rest reply other c b h k

-- a text that is known
pub one_known : (text : Text) → IsOne (shows (λ shown. shown ≡ text))
one_known text = one_shows (λ shown. shown ≡ text) (λ x y e f. e ∙ sym f)
