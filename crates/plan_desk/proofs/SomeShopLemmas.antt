-- A shop has a schedule by the rule with this name, or a line refuses it.
use Rattle.std.proofs.Common.{◌≡◌, ℕ, zero, suc, ◌*◌, ◌≤◌, ◌<◌, inl, inr, ◌⊎◌, Bool, true, false, List, [], ◌∷◌, ◌++◌, length, refl, sym, subst, arith}
use Rattle.std.specs.Prelude.{◌&&◌, ◌==◌, not, nat_lt, slice_index_or, All}
use Rattle.std.specs.List.{list_any}
use Rattle.std.proofs.lemmas.Bool.{cases_Bool, both_ways, and_parts, and_from, or_cases, not-true, not_from_false, eqb-true, eq-eqb, ltb-true, lt-ltb, cases_order}
use Rattle.std.specs.List.{AllByRecursion}
use Rattle.std.proofs.lemmas.List.{length-append}
use Rattle.std.proofs.lemmas.List.Elements.{All-from_recursion, recursion_from_All}
use Rattle.std.proofs.lemmas.List.Folds.{list_any_at}
use Rattle.plan_orlib.specs.Shop as docs
use Rattle.plan_orlib.specs.declared.steps.Step.{Step}
use Rattle.plan_sgs.specs.Problem.{IsActive}
use Rattle.plan_shop.specs.Shop.{JobShop, IsShop, problem_of}
use Rattle.plan_shop.specs.Docs.{flat_steps, shop_of, IsInUse, IsClosedInUse, IsFirstClosed, NoneIsClosed}
use Rattle.plan_shop.specs.Laws.{RuleIsActive}
use Rattle.plan_shop.specs.Names.{rule_text}
use Rattle.plan_shop.specs.Rules.{spt, mwkr, fcfs}
use Rattle.plan_shop.specs.declared.rule.ShopRule.{ShopRule}
use Rattle.plan_shop.specs.declared.rule.ShopRule.TheVariants as rule
use Rattle.plan_shop.specs.declared.fault.ShopFault.TheVariants as fault
use Rattle.plan_shop.proofs.WordCount.{rule_is_active, spt_chooses, mwkr_chooses, fcfs_chooses}
use Rattle.plan_gantt.specs.ShopText.{rule_starts}
use Rattle.plan_gantt.specs.ShopFaultText.{shop_fault_text_of}
use Rattle.plan_rows.specs.declared.kinds.PlanKind.TheVariants as kinds
use Rattle.plan_rows.specs.World.{Text, Plan, same_text}
use Rattle.plan_rows.specs.Plans.{HasPlaces, IsShopOf}
use Rattle.plan_rows.specs.Rules.{IsPlanRow}
use Rattle.plan_rows.proofs.OwnerLemmas.{text_from_same, same_text_refl}
use Rattle.plan_desk.specs.PageRoutes.{TellsShopRefusal, IsShopScheduleBy}

-- ---- closed machines

-- the least number below n that passes the test, or none below n passes
pub first_below : (p : ℕ → Bool) (n : ℕ)
    → ((m : ℕ) × (p m ≡ true) × ((h : ℕ) → h < m → p h ≡ false)) ⊎ ((h : ℕ) → h < n → p h ≡ false)
first_below p zero = inr (λ h less. absurd (omega (arith, less)))
first_below p (suc n) = by_rest (first_below p n) (cases_Bool (p n))
  where
    by_rest : ((m : ℕ) × (p m ≡ true) × ((h : ℕ) → h < m → p h ≡ false)) ⊎ ((h : ℕ) → h < n → p h ≡ false) → (p n ≡ true) ⊎ (p n ≡ false)
        → ((m : ℕ) × (p m ≡ true) × ((h : ℕ) → h < m → p h ≡ false)) ⊎ ((h : ℕ) → h < suc n → p h ≡ false)
    by_rest (inl found) last = inl found
    by_rest (inr none) (inl passes) = inl (n, passes, none)
    by_rest (inr none) (inr fails) = inr (λ h less. at h less (cases_order h n))
      where
        at : (h : ℕ) → h < suc n → (h ≡ n) ⊎ ((h < n) ⊎ (n < h)) → p h ≡ false
        at h less (inl same) = subst (λ k. p k ≡ false) (sym same) fails
        at h less (inr (inl below)) = none h below
        at h less (inr (inr above)) = absurd (omega (arith, less, above))

abbrev takes_time_on : ℕ → Step → Bool
takes_time_on m step = (step.machine == m) && nat_lt 0 step.time

in_use : (steps : List Step) (m : ℕ) → list_any (takes_time_on m) steps ≡ true → IsInUse steps m
in_use [] m e = absurd (both_ways _ refl e)
in_use (step ∷ steps) m e = by_first (or_cases (takes_time_on m step) (list_any (takes_time_on m) steps) e) (in_use steps m)
  where
    by_first : (takes_time_on m step ≡ true) ⊎ (list_any (takes_time_on m) steps ≡ true) → (list_any (takes_time_on m) steps ≡ true → IsInUse steps m)
        → IsInUse (step ∷ steps) m
    by_first (inl is) rest =
        let parts = and_parts _ _ is in
        (step, (0, omega arith, refl), eqb-true step.machine m parts.0, ltb-true 0 step.time parts.1)
    by_first (inr later) rest = behind (rest later)
      where
        behind : IsInUse steps m → IsInUse (step ∷ steps) m
        behind (other, (k, inside, there), on, long) = (other, (suc k, omega (arith, inside), there), on, long)

uses : (steps : List Step) (m : ℕ) → IsInUse steps m → list_any (takes_time_on m) steps ≡ true
uses steps m (step, (k, inside, there), on, long) =
    list_any_at (takes_time_on m) steps k step inside
    (subst (λ s. takes_time_on m s ≡ true) (sym there) (and_from _ _ (eq-eqb step.machine m on) (lt-ltb 0 step.time long)))

abbrev is_closed : List Step → List Bool → ℕ → Bool
is_closed steps usable m = nat_lt m (length usable) && (not (slice_index_or usable m true) && list_any (takes_time_on m) steps)

closed_is : (steps : List Step) (usable : List Bool) (m : ℕ) → is_closed steps usable m ≡ true → IsClosedInUse steps usable m
closed_is steps usable m e =
    let parts = and_parts _ _ e in
    let others = and_parts _ _ parts.1 in
    (ltb-true m (length usable) parts.0, not-true (slice_index_or usable m true) others.0, in_use steps m others.1)

is_closed_of : (steps : List Step) (usable : List Bool) (m : ℕ) → IsClosedInUse steps usable m → is_closed steps usable m ≡ true
is_closed_of steps usable m (inside, shut, used) =
    and_from _ _ (lt-ltb m (length usable) inside) (and_from _ _ (not_from_false (slice_index_or usable m true) shut) (uses steps m used))

pub some_closed : (steps : List Step) (usable : List Bool) → ((m : ℕ) × IsFirstClosed steps usable m) ⊎ NoneIsClosed steps usable
some_closed steps usable = by_search (first_below (is_closed steps usable) (length usable))
  where
    by_search : ((m : ℕ) × (is_closed steps usable m ≡ true) × ((h : ℕ) → h < m → is_closed steps usable h ≡ false))
        ⊎ ((h : ℕ) → h < length usable → is_closed steps usable h ≡ false) → ((m : ℕ) × IsFirstClosed steps usable m) ⊎ NoneIsClosed steps usable
    by_search (inl (m, is, first)) =
        inl (m, (closed_is steps usable m is, λ h less shut. both_ways _ (first h less) (is_closed_of steps usable h shut)))
    by_search (inr none) = inr (λ m shut. both_ways _ (none m shut.0) (is_closed_of steps usable m shut))

-- ---- rules

-- a rule has the name, or none has
some_rule : (name : Text) → ((r : ShopRule) × (name ≡ rule_text r)) ⊎ ((r : ShopRule) → name ≡ rule_text r → ⊥)
some_rule name = by_tests (test rule.ShortestTime) (test rule.MostWorkRemaining) (test rule.FirstCome)
  where
    test : (r : ShopRule) → (same_text name (rule_text r) ≡ true) ⊎ (same_text name (rule_text r) ≡ false)
    test r = cases_Bool (same_text name (rule_text r))

    other : (r : ShopRule) → same_text name (rule_text r) ≡ false → name ≡ rule_text r → ⊥
    other r differs same = both_ways _ differs (subst (λ text. same_text name text ≡ true) same (same_text_refl name))

    by_tests : (same_text name (rule_text rule.ShortestTime) ≡ true) ⊎ (same_text name (rule_text rule.ShortestTime) ≡ false)
        → (same_text name (rule_text rule.MostWorkRemaining) ≡ true) ⊎ (same_text name (rule_text rule.MostWorkRemaining) ≡ false)
        → (same_text name (rule_text rule.FirstCome) ≡ true) ⊎ (same_text name (rule_text rule.FirstCome) ≡ false)
        → ((r : ShopRule) × (name ≡ rule_text r)) ⊎ ((r : ShopRule) → name ≡ rule_text r → ⊥)
    by_tests (inl is) b c = inl (rule.ShortestTime, text_from_same name _ is)
    by_tests (inr a) (inl is) c = inl (rule.MostWorkRemaining, text_from_same name _ is)
    by_tests (inr a) (inr b) (inl is) = inl (rule.FirstCome, text_from_same name _ is)
    by_tests (inr a) (inr b) (inr c) = inr none
      where
        none : (r : ShopRule) → name ≡ rule_text r → ⊥
        none rule.ShortestTime = other rule.ShortestTime a
        none rule.MostWorkRemaining = other rule.MostWorkRemaining b
        none rule.FirstCome = other rule.FirstCome c

active_by : (s : JobShop) → IsShop s → (r : ShopRule) → IsActive (problem_of s) (rule_starts r s)
unfolding RuleIsActive
active_by s is rule.ShortestTime = rule_is_active s is (spt s) (spt_chooses s)
active_by s is rule.MostWorkRemaining = rule_is_active s is (mwkr s) (mwkr_chooses s)
active_by s is rule.FirstCome = rule_is_active s is (fcfs s) (fcfs_chooses s)

-- ---- schedules

pub some_schedule : (s : JobShop) (usable : List Bool) (name : Text) → IsShop s
    → ((line : Text) × TellsShopRefusal name s usable line) ⊎ ((starts : List ℕ) × IsShopScheduleBy s usable name starts)
some_schedule s usable name is = by_parts (some_rule name) (some_closed s.steps usable)
  where
    by_parts : ((r : ShopRule) × (name ≡ rule_text r)) ⊎ ((r : ShopRule) → name ≡ rule_text r → ⊥)
        → ((m : ℕ) × IsFirstClosed s.steps usable m) ⊎ NoneIsClosed s.steps usable
        → ((line : Text) × TellsShopRefusal name s usable line) ⊎ ((starts : List ℕ) × IsShopScheduleBy s usable name starts)
    by_parts (inr none) closed = inl (shop_fault_text_of fault.UnknownRule, inl (fault.UnknownRule, (refl, none), refl))
    by_parts (inl named) (inl (m, first)) = inl (shop_fault_text_of (fault.MachineClosed m), inr (named, (m, first, refl)))
    by_parts (inl (r, named)) (inr opened) = inr (
      rule_starts r s,
      record {
        rule = r;
        named = named;
        opened = opened;
        starts_are = refl;
        active = active_by s is r;
      },
    )

-- a fact about the elements of two lists holds for both lists together
pub both : {A : Type 0} (P : A → Type 0) (xs ys : List A) → AllByRecursion P xs → AllByRecursion P ys → AllByRecursion P (xs ++ ys)
both P [] ys p q = q
both P (x ∷ xs) ys p q = (p.0, both P xs ys p.1 q)

-- the steps of all jobs in one list: one for each job and machine
flat : (m : ℕ) (jobs : List (List Step)) → AllByRecursion (docs.IsJob m) jobs
    → (length (flat_steps jobs) ≡ length jobs * m) × AllByRecursion (docs.IsStep m) (flat_steps jobs)
flat m [] p = (omega arith, tt)
flat m (row ∷ jobs) p =
    let rest = flat m jobs p.1 in
    (omega (arith, length-append row (flat_steps jobs), rest.0, p.0.0), both (docs.IsStep m) row (flat_steps jobs) (recursion_from_All (docs.IsStep m) row p.0.1) rest.1)

-- the shop of a file keeps the rules of shops, and each step takes at most 10,000 time units
is_shop_of : (doc : docs.Shop) → docs.IsShop doc → IsShop (shop_of doc) × All (λ step. step.time ≤ 10000) (flat_steps doc.jobs)
is_shop_of doc is =
    let steps = flat doc.machines doc.jobs (recursion_from_All (docs.IsJob doc.machines) doc.jobs is.steps) in
    let all = All-from_recursion (docs.IsStep doc.machines) (flat_steps doc.jobs) steps.1 in (
      record {
        some_machine = omega (arith, is.machines.0);
        all_steps = steps.0;
        on_machines = λ k d inside. (all k d inside).0;
      },
      λ k d inside. (all k d inside).1,
    )

-- a shop's plan has a shop
pub record SomeShop (plan : Plan) : Type 0 where
  pub shop : JobShop
  pub said : IsShopOf plan shop
  pub is : IsShop shop
  pub short : All (λ step. step.time ≤ 10000) shop.steps

pub some_shop_of : (plan : Plan) → IsPlanRow plan → plan.kind ≡ kinds.Shop → SomeShop plan
some_shop_of plan keeps kind = of_reads (subst (λ k. (count : ℕ) × HasPlaces k plan.name plan.body count) kind keeps.reads)
  where
    of_reads : (count : ℕ) × HasPlaces kinds.Shop plan.name plan.body count → SomeShop plan
    of_reads (count, (doc, says, e)) =
        let is = is_shop_of doc says.limits in
        record { shop = shop_of doc; said = (doc, says, refl); is = is.0; short = is.1 }
