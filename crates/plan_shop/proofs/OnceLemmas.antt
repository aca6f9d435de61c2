-- There is at most one least closed machine in use, and a name has at most one rule.
use Rattle.std.proofs.Common.{ℕ, nat_eq, cond, ◌≡◌, inl, inr, Bool, List, get_or, refl, sym, ◌∙◌, ap}
use Rattle.std.proofs.lemmas.Bool.{cases_order}
use Rattle.plan_orlib.specs.declared.steps.Step.{Step}
use Rattle.plan_shop.specs.Docs.{IsFirstClosed, NoneIsClosed}
use Rattle.plan_shop.specs.Names.{rule_text}
use Rattle.plan_shop.specs.declared.rule.ShopRule.{ShopRule}
use Rattle.plan_shop.specs.declared.rule.ShopRule.TheVariants as rule

-- steps have one least closed machine
pub closed_once : (steps : List Step) (usable : List Bool) (m n : ℕ) → IsFirstClosed steps usable m → IsFirstClosed steps usable n → m ≡ n
closed_once steps usable m n first second = elim (cases_order m n) [
  | inl same ↦ same
  | inr (inl lower) ↦ absurd (second.1 m lower first.0)
  | inr (inr higher) ↦ absurd (first.1 n higher second.0)
]

-- and none if no machine in use is closed
pub none_not_closed : (steps : List Step) (usable : List Bool) (m : ℕ) → NoneIsClosed steps usable → IsFirstClosed steps usable m → ⊥
none_not_closed steps usable m none first = none m first.0

-- the rule by the first letter of a name
rule_told : List ℕ → ShopRule
rule_told name =
    cond (nat_eq (get_or name 0 0) 115) rule.ShortestTime
    (cond (nat_eq (get_or name 0 0) 109) rule.MostWorkRemaining rule.FirstCome)

told_by_word : (r : ShopRule) → rule_told (rule_text r) ≡ r
unfolding rule_told
told_by_word rule.ShortestTime = refl
told_by_word rule.MostWorkRemaining = refl
told_by_word rule.FirstCome = refl

-- a name is that of one rule
pub rule_once : (name : List ℕ) (r s : ShopRule) → name ≡ rule_text r → name ≡ rule_text s → r ≡ s
rule_once name r s first second = sym (told_by_word r) ∙ ap rule_told (sym first ∙ second) ∙ told_by_word s
