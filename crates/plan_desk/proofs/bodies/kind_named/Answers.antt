use Rattle.std.proofs.Common.{◌≡◌, ◌≢◌, ◌⊎◌, inl, inr, true, false, Option, Some, None, refl, sym, ap, subst, ◌∙◌}
use Rattle.std.specs.Prelude.{MatchOption}
use Rattle.std.proofs.lemmas.Bool.{cases_Bool, cond-false}
use Rattle.plan_rows.specs.declared.kinds.Kind.{Kind}
use Rattle.plan_rows.specs.declared.kinds.Kind.TheVariants.{Crew, Machine}
use Rattle.plan_rows.specs.World.{Text, same_text}
use Rattle.plan_rows.specs.Names.{kind_text}
use Rattle.plan_rows.proofs.OwnerLemmas.{text_from_same}
use Rattle.plan_desk.specs.Bodies.{kind_named}
use Rattle.plan_desk.proofs.bodies.kind_named.Goals as goal

-- a word that isn't that of a kind names none
unnamed : (text : Text) → ((kind : Kind) → text ≢ kind_text kind) → None ≡ kind_named text
unnamed text none =
    by_words (cases_Bool (same_text text (kind_text Crew))) (cases_Bool (same_text text (kind_text Machine)))
  where
    by_words : (same_text text (kind_text Crew) ≡ true) ⊎ (same_text text (kind_text Crew) ≡ false)
        → (same_text text (kind_text Machine) ≡ true) ⊎ (same_text text (kind_text Machine) ≡ false) → None ≡ kind_named text
    by_words (inl e) _ = absurd (none Crew (text_from_same text (kind_text Crew) e))
    by_words (inr e) (inl f) = absurd (none Machine (text_from_same text (kind_text Machine) f))
    by_words (inr e) (inr f) = sym (cond-false _ _ _ e ∙ cond-false _ _ _ f)

-- the kind of a word is the one that is named by it
named : (found : Option Kind) (text : Text) → MatchOption found ((kind : Kind) → text ≢ kind_text kind) (λ kind. text ≡ kind_text kind) → found ≡ kind_named text
named (Some Crew) text e = subst (λ t. Some Crew ≡ kind_named t) (sym e) refl
named (Some Machine) text e = subst (λ t. Some Machine ≡ kind_named t) (sym e) refl
named None text none = unnamed text none

pub returns : goal.returns
returns c = named c.of_word.result c.as_bytes.result.now c.of_word.ensures ∙ ap kind_named c.as_bytes.ensures.value
