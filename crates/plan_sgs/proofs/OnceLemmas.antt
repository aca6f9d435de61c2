-- There is at most one list of a rule, one schedule of it, one first need that is too much, and one
-- rule of a name.
use Rattle.std.proofs.Common.{ℕ, zero, suc, true, nat_eq, cond, ◌≡◌, ◌+◌, ◌≤◌, ◌<◌, ◌⊎◌, ◌↔◌, inl, inr, List, [], ◌∷◌, ◌++◌, get_or, refl, sym, ◌∙◌, ap, subst, arith}
use Rattle.std.proofs.lemmas.Bool.{cases_lt}
use Rattle.plan_net.specs.Network.{Net, count_of}
use Rattle.plan_cpm.specs.Dates.{DateTable, late_finish_of, total_float_of}
use Rattle.plan_cpm.proofs.OnceLemmas.{dates_once, totals_once}
use Rattle.plan_sgs.specs.Problem.{Problem, count, IsFeasible, NeedsFit, IsFirstTooMuch}
use Rattle.plan_sgs.specs.Serial.{serial}
use Rattle.plan_sgs.specs.Rules.{is_eligible, least_key, rule_list_from, rule_list}
use Rattle.plan_sgs.specs.Keys.{rule_text, IsKeyOf, IsRuleSchedule}
use Rattle.plan_sgs.specs.Instances.{Planned, problem_of, RefusesInstance}
use Rattle.plan_sgs.specs.declared.rule.Rule.{Rule}
use Rattle.plan_sgs.specs.declared.rule.Rule.TheVariants as rule
use Rattle.plan_sgs.specs.declared.fault.SgsFault.{SgsFault}
use Rattle.plan_sgs.specs.declared.fault.SgsFault.TheVariants as fault
use Rattle.plan_sgs.proofs.TotalLemmas.{total_above}
use Rattle.plan_sgs.proofs.AmountLemmas.{amount_during}
use Rattle.plan_sgs.proofs.StartLemmas.{amount_at, usage_is}
use Rattle.plan_sgs.proofs.InstanceLemmas.{count-problem}
use Rattle.plan_sgs.proofs.RuleLemmas.{IsFirstBelow, IsChosenBelow, chosen_below, first_once, next_of}

-- two keys order the first n places alike
abbrev pub OrderAlike : ℕ → (ℕ → ℕ) → (ℕ → ℕ) → Type 0
OrderAlike n key other = (i j : ℕ) → i < n → j < n → (key i ≤ key j) ↔ (other i ≤ other j)

-- the first activity by one of two equal keys is the first by the other
first_alike : (p : Problem) (key other : ℕ → ℕ) (taken : List ℕ) (n i : ℕ) → OrderAlike n key other → IsFirstBelow p key taken n i → IsFirstBelow p other taken n i
first_alike p key other taken n i alike first = record { inside = first.inside; eligible = first.eligible; first = before } where
  before : (h : ℕ) → h < n → is_eligible p taken h ≡ true → (other i < other h) ⊎ ((other i ≡ other h) × (i ≤ h))
  before h below passes = by_other (cases_lt (other i) (other h)) (first.first h below passes) where
    by_other : (other i < other h) ⊎ (other h ≤ other i) → (key i < key h) ⊎ ((key i ≡ key h) × (i ≤ h)) → (other i < other h) ⊎ ((other i ≡ other h) × (i ≤ h))
    by_other (inl up) by_key = inl up
    by_other (inr down) (inl less) = let back : key h ≤ key i = (alike h i below first.inside).1 down in absurd (omega (arith, less, back))
    by_other (inr down) (inr (level, order)) =
        let up : other i ≤ other h = (alike i h first.inside below).0 (omega (arith, level)) in
        inr (omega (arith, up, down), order)

-- so they choose alike
next_alike : (p : Problem) (key other : ℕ → ℕ) (taken : List ℕ) → OrderAlike (count p) key other → next_of p key taken ≡ next_of p other taken
next_alike p key other taken alike = by_choice (chosen_below p key taken (count p) (count p)) (chosen_below p other taken (count p) (count p)) where
  by_choice : IsChosenBelow p key taken (count p) (count p) → IsChosenBelow p other taken (count p) (count p) → next_of p key taken ≡ next_of p other taken
  by_choice (inl one) (inl two) = ap (least_key key (count p)) one.0 ∙ sym (ap (least_key other (count p)) two.0)
  by_choice (inl one) (inr two) = absurd (one.1 _ two.1.inside two.1.eligible)
  by_choice (inr one) (inl two) = absurd (two.1 _ one.1.inside one.1.eligible)
  by_choice (inr one) (inr two) = first_once p other taken (count p) (next_of p key taken) (next_of p other taken) (first_alike p key other taken (count p) (next_of p key taken) alike one.1) two.1

-- and make equal lists
from_alike : (p : Problem) (key other : ℕ → ℕ) (taken : List ℕ) (n : ℕ) → OrderAlike (count p) key other → rule_list_from p key taken n ≡ rule_list_from p other taken n
from_alike p key other taken zero alike = refl
from_alike p key other taken (suc n) alike =
    from_alike p key other (taken ++ next_of p key taken ∷ []) n alike
    ∙ ap (λ (j : ℕ). rule_list_from p other (taken ++ j ∷ []) n) (next_alike p key other taken alike)

-- keys that order the activities alike make equal lists
pub list_alike : (p : Problem) (key other : ℕ → ℕ) → OrderAlike (count p) key other → rule_list p key ≡ rule_list p other
unfolding rule_list
list_alike p key other alike = from_alike p key other [] (count p) alike

-- equal keys order alike
equal_alike : (n : ℕ) (key other : ℕ → ℕ) → ((i : ℕ) → i < n → key i ≡ other i) → OrderAlike n key other
equal_alike n key other same i j first second =
    let here = same i first in
    let there = same j second in
    (λ order. omega (arith, order, here, there), λ order. omega (arith, order, here, there))

-- any two keys of one rule order alike
pub keys_alike : (net : Net) (r : Rule) (key other : ℕ → ℕ) → IsKeyOf net r key → IsKeyOf net r other → OrderAlike (count_of net) key other
keys_alike net rule.LatestFinish key other (a, dates_a, is_a) (b, dates_b, is_b) =
    equal_alike (count_of net) key other (λ i inside. is_a i inside ∙ ap (λ (dates : DateTable). late_finish_of dates (i + 1)) (dates_once net a b dates_a dates_b) ∙ sym (is_b i inside))
keys_alike net rule.Slack key other (a, dates_a, is_a) (b, dates_b, is_b) =
    equal_alike (count_of net) key other (λ i inside. is_a i inside ∙ ap (λ (dates : DateTable). total_float_of dates (i + 1)) (dates_once net a b dates_a dates_b) ∙ sym (is_b i inside))
keys_alike net rule.ShortestTime key other is_a is_b = equal_alike (count_of net) key other (λ i inside. is_a i inside ∙ sym (is_b i inside))
keys_alike net rule.MostSuccessors key other (a, totals_a, is_a) (b, totals_b, is_b) = λ i j first second.
    let same : a ≡ b = totals_once net a b totals_a totals_b in
    let one = is_a i j first second in
    let two = subst (λ (xs : List ℕ). (other i ≤ other j) ↔ (get_or xs j 0 ≤ get_or xs i 0)) (sym same) (is_b i j first second) in
    (λ order. two.1 (one.0 order), λ order. one.1 (two.0 order))
keys_alike net rule.Number key other is_a is_b = equal_alike (count_of net) key other (λ i inside. is_a i inside ∙ sym (is_b i inside))

-- an instance has one list of starts by a rule
pub starts_once : (i : Planned) (r : Rule) (xs ys : List ℕ) → IsRuleSchedule i r xs → IsRuleSchedule i r ys → xs ≡ ys
starts_once i r xs ys (key, is_key, is_x) (other, is_other, is_y) =
    let alike = subst (λ (n : ℕ). OrderAlike n key other) (sym (count-problem i)) (keys_alike i.project.network r key other is_key is_other) in
    is_x ∙ ap (serial (problem_of i)) (list_alike (problem_of i) key other alike) ∙ sym is_y

-- a problem has one first need that is too much
pub too_much_once : (p : Problem) (a k b q : ℕ) → IsFirstTooMuch p a k → IsFirstTooMuch p b q → (a ≡ b) × (k ≡ q)
too_much_once p a k b q (i, x, is_a, is_k, much, first) (j, y, is_b, is_q, other, second) = by_order (first j y other) (second i x much) where
  by_order : (i < j) ⊎ ((i ≡ j) × (x ≤ y)) → (j < i) ⊎ ((j ≡ i) × (y ≤ x)) → (a ≡ b) × (k ≡ q)
  by_order (inl up) (inl down) = absurd (omega (arith, up, down))
  by_order (inl up) (inr level) = absurd (omega (arith, up, level.0))
  by_order (inr level) (inl down) = absurd (omega (arith, level.0, down))
  by_order (inr level) (inr back) = (omega (arith, is_a, is_b, level.0), omega (arith, is_k, is_q, level.1, back.1))

-- and none if the needs fit
pub fits_not : (p : Problem) (a k : ℕ) → NeedsFit p → IsFirstTooMuch p a k → ⊥
fits_not p a k fit (i, x, is_a, is_k, much, first) = let low = fit i x much.0 much.2 much.1 in omega (arith, low, much.3)

-- the needs fit if some list of starts is feasible: an activity is in use at its own start
pub feasible_fits : (p : Problem) (s : List ℕ) → IsFeasible p s → NeedsFit p
feasible_fits p s feasible i k below positive inside =
    let start = get_or s i 0 in
    let needs = amount_during p start k i start (omega arith) (omega (arith, positive)) in
    let part = total_above (count p) (amount_at p s start k) i below in
    let used = usage_is p s start k feasible.each_started in
    let within = feasible.capacities start k inside in
    omega (arith, needs, part, used, within)

-- a project with capacities has at most one error
pub refusal_once : (i : Planned) (f g : SgsFault) → RefusesInstance i f → RefusesInstance i g → f ≡ g
refusal_once i (fault.NeedsTooMuch a k) (fault.NeedsTooMuch b q) first second =
    let same = too_much_once (problem_of i) a k b q first second in
    ap (λ (x : ℕ). fault.NeedsTooMuch x k) same.0 ∙ ap (λ (x : ℕ). fault.NeedsTooMuch b x) same.1
refusal_once i (fault.NeedsTooMuch a k) fault.NoMemory first second = absurd second
refusal_once i (fault.NeedsTooMuch a k) fault.NotAList first second = absurd second
refusal_once i (fault.NeedsTooMuch a k) fault.UnknownRule first second = absurd second
refusal_once i fault.NoMemory g first second = absurd first
refusal_once i fault.NotAList g first second = absurd first
refusal_once i fault.UnknownRule g first second = absurd first

-- and none if the needs fit
pub fit_not_refused : (i : Planned) (f : SgsFault) → NeedsFit (problem_of i) → RefusesInstance i f → ⊥
fit_not_refused i (fault.NeedsTooMuch a k) fit refused = fits_not (problem_of i) a k fit refused
fit_not_refused i fault.NoMemory fit refused = refused
fit_not_refused i fault.NotAList fit refused = refused
fit_not_refused i fault.UnknownRule fit refused = refused

-- the rule by the first two letters of a name
rule_told : List ℕ → Rule
rule_told name =
    cond (nat_eq (get_or name 0 0) 108) rule.LatestFinish
    (cond (nat_eq (get_or name 0 0) 109) rule.MostSuccessors
    (cond (nat_eq (get_or name 0 0) 110) rule.Number
    (cond (nat_eq (get_or name 1 0) 108) rule.Slack rule.ShortestTime)))

told_by_word : (r : Rule) → rule_told (rule_text r) ≡ r
unfolding rule_told
told_by_word rule.LatestFinish = refl
told_by_word rule.Slack = refl
told_by_word rule.ShortestTime = refl
told_by_word rule.MostSuccessors = refl
told_by_word rule.Number = refl

-- a name is that of one rule
pub rule_once : (name : List ℕ) (r s : Rule) → name ≡ rule_text r → name ≡ rule_text s → r ≡ s
rule_once name r s first second = sym (told_by_word r) ∙ ap rule_told (sym first ∙ second) ∙ told_by_word s
