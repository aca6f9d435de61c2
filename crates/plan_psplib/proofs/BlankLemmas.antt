-- Blanks at the end of a text.
use Rattle.std.proofs.Common.{◌≡◌, ◌<◌, ◌-◌, ℕ, true, false, List, [], ◌∷◌, ◌++◌, length, take, get_or, refl, sym, ap, ◌∙◌, subst, arith, cond}
use Rattle.std.proofs.lemmas.Grind.{common_steps}
use Rattle.plan_psplib.specs.Lines.{is_blank, before_trimmed, trim_end}

-- a blank at the end is removed
trim_end-push_blank : (text : List ℕ) (last : ℕ) → is_blank last ≡ true → trim_end (text ++ last ∷ []) ≡ trim_end text
trim_end-push_blank [] last e = ap (λ b. cond b [] (last ∷ [])) e
trim_end-push_blank (byte ∷ text) last e = ap (before_trimmed byte) (trim_end-push_blank text last e)

before_some : (byte : ℕ) (text : List ℕ) (last : ℕ) → before_trimmed byte (text ++ last ∷ []) ≡ byte ∷ text ++ last ∷ []
before_some byte [] last = refl
before_some byte (next ∷ text) last = refl

-- a text that ends with another byte than a blank isn't trimmed
trim_end-push_other : (text : List ℕ) (last : ℕ) → is_blank last ≡ false → trim_end (text ++ last ∷ []) ≡ text ++ last ∷ []
trim_end-push_other [] last e = ap (λ b. cond b [] (last ∷ [])) e
trim_end-push_other (byte ∷ text) last e = ap (before_trimmed byte) (trim_end-push_other text last e) ∙ before_some byte text last

-- a text consists of the bytes before its last one, and the last one
before_last : (text : List ℕ) → 0 < length text → take (length text - 1) text ++ get_or text (length text - 1) 0 ∷ [] ≡ text
before_last text l = grind (arith, common_steps)

pub trim_end-blank : (text : List ℕ) → 0 < length text → is_blank (get_or text (length text - 1) 0) ≡ true → trim_end (take (length text - 1) text) ≡ trim_end text
trim_end-blank text l e = sym (trim_end-push_blank (take (length text - 1) text) (get_or text (length text - 1) 0) e) ∙ ap trim_end (before_last text l)

pub trim_end-other : (text : List ℕ) → 0 < length text → is_blank (get_or text (length text - 1) 0) ≡ false → trim_end text ≡ text
trim_end-other text l e = let P : List ℕ → Type 0 = λ t. trim_end t ≡ t in subst P (before_last text l) (trim_end-push_other (take (length text - 1) text) (get_or text (length text - 1) 0) e)

pub ruleset trimmed_ends = (trim_end-blank, trim_end-other)
