-- The plans of each desk that a book keeps, after each change of the tables.
use Rattle.std.proofs.Common.{Vec, Global, ◌≡◌, ◌⊎◌, inl, inr, ℕ, Bool, true, false, not, ◌&&◌, ◌==◌, nat_lt, cond, List, [], ◌∷◌, ◌++◌, length, map, filter}
use Rattle.std.proofs.Common.{Option, Some, None, Result, Ok, Err, IsTrue, IsSomeAnd, IfSome, string_bytes, refl, sym, ap, subst, ◌∙◌, arith, append-nil}
use Rattle.std.specs.Option.{option_map_or}
use Rattle.std.proofs.lemmas.Bool.{cases_Bool, cond-true, cond-false, and_parts}
use Rattle.std.proofs.lemmas.List.{length-map, map-append}
use Rattle.std.proofs.lemmas.List.Elements.{filter-append}
use Rattle.sqlite_keyed.proofs.ListLemmas.{filter-map}
use Rattle.sqlite.specs.Effect.{Database}
use Rattle.sqlite.specs.State.{State, HasCleanDisk}
use Rattle.plan_rows.specs.declared.fault.BookFault.{BookFault}
use Rattle.plan_rows.specs.declared.kinds.PlanKind.{PlanKind}
use Rattle.plan_rows.specs.declared.rows.PlanEntry.{PlanEntry}
use Rattle.plan_rows.specs.World.{Text, Desk, Plan, World, same_text, is_plan_of, is_plan, desk_in}
use Rattle.plan_rows.specs.Changes.{apply, changed, without, new_plan, next_of, with_calendar, AddPlan, RemovePlan}
use Rattle.plan_rows.specs.Views.{view}
use Rattle.plan_rows.specs.Plans.{in_order, plan_before}
use Rattle.plan_rows.specs.Books.{entry_in, entry_of, ListsPlans}
use Rattle.plan_rows.proofs.OrderedLemmas.{map-in_order}
use Rattle.plan_rows.proofs.OwnerLemmas.{text_from_same, hidden_without}
use Rattle.plan_store.specs.declared.kept_plans.KeptPlans.{KeptPlans}
use Rattle.plan_store.specs.Stores.{world_of}
use Rattle.plan_store.specs.BookCalls.{Asks, Changes, IsNextNumber}
use Rattle.plan_store.specs.declared.next_plan.NextPlan.{NextPlan}
use Rattle.plan_store.specs.SqlBooks.{IsServing}
use Rattle.plan_store.specs.KeptPlans.{entries_of, entry_before, keys_of, HoldsPlans, AddsEntry, KeepsPlans}

-- ---- lists by desk

abbrev pub items_in : Option (Vec PlanEntry Global) → List PlanEntry
items_in found = option_map_or (λ list. list.items) found []

module _ (before after : Text → Option (Vec PlanEntry Global)) (desk : Text) (list : Vec PlanEntry Global)
    (sets : (other : Text) → after other ≡ cond (same_text desk other) (Some list) (before other)) where
  -- one list is replaced
  pub items_set : (other : Text) → items_in (after other) ≡ cond (same_text desk other) list.items (items_in (before other))
  items_set other = by_test (cases_Bool (same_text desk other))
    where
      by_test : (same_text desk other ≡ true) ⊎ (same_text desk other ≡ false) → items_in (after other) ≡ cond (same_text desk other) list.items (items_in (before other))
      by_test (inl same) =
          ap items_in (sets other ∙ cond-true (same_text desk other) (Some list) (before other) same)
          ∙ sym (cond-true (same_text desk other) list.items (items_in (before other)) same)
      by_test (inr apart) =
          ap items_in (sets other ∙ cond-false (same_text desk other) (Some list) (before other) apart)
          ∙ sym (cond-false (same_text desk other) list.items (items_in (before other)) apart)

  -- an empty list is made where there was none
  pub items_made : list.items ≡ [] → before desk ≡ None → (other : Text) → items_in (after other) ≡ items_in (before other)
  items_made empty none other = items_set other ∙ by_test (cases_Bool (same_text desk other))
    where
      by_test : (same_text desk other ≡ true) ⊎ (same_text desk other ≡ false) → cond (same_text desk other) list.items (items_in (before other)) ≡ items_in (before other)
      by_test (inl same) =
          cond-true (same_text desk other) list.items (items_in (before other)) same ∙ empty
          ∙ ap items_in (sym none ∙ ap before (text_from_same desk other same))
      by_test (inr apart) = cond-false (same_text desk other) list.items (items_in (before other)) apart

-- the list of one desk is replaced by one that is made of it
pub sets_by : (f : List PlanEntry → List PlanEntry) (old new : KeptPlans) (desk : Text) (list : List PlanEntry) → list ≡ f (entries_of old desk)
    → ((other : Text) → entries_of new other ≡ cond (same_text desk other) list (entries_of old other))
    → (other : Text) → entries_of new other ≡ cond (same_text desk other) (f (entries_of old other)) (entries_of old other)
sets_by f old new desk list is sets other = sets other ∙ by_test (cases_Bool (same_text desk other))
  where
    by_test : (same_text desk other ≡ true) ⊎ (same_text desk other ≡ false)
        → cond (same_text desk other) list (entries_of old other) ≡ cond (same_text desk other) (f (entries_of old other)) (entries_of old other)
    by_test (inl same) =
        cond-true (same_text desk other) list (entries_of old other) same
        ∙ is ∙ ap (λ d. f (entries_of old d)) (text_from_same desk other same)
        ∙ sym (cond-true (same_text desk other) (f (entries_of old other)) (entries_of old other) same)
    by_test (inr apart) =
        cond-false (same_text desk other) list (entries_of old other) apart
        ∙ sym (cond-false (same_text desk other) (f (entries_of old other)) (entries_of old other) apart)

-- ---- the keys of a desk's plans

-- a plan more
pub keys_push : (desk : Text) (plan : Plan) (plans : List Plan)
    → keys_of desk (plans ++ plan ∷ []) ≡ cond (is_plan_of desk plan) (keys_of desk plans ++ entry_of plan ∷ []) (keys_of desk plans)
keys_push desk plan plans = by_test (cases_Bool (is_plan_of desk plan))
  where
    is : keys_of desk (plans ++ plan ∷ []) ≡ map entry_of (filter (is_plan_of desk) plans ++ filter (is_plan_of desk) (plan ∷ []))
    is = ap (map entry_of) (filter-append (is_plan_of desk) plans (plan ∷ []))

    by_test : (is_plan_of desk plan ≡ true) ⊎ (is_plan_of desk plan ≡ false)
        → keys_of desk (plans ++ plan ∷ []) ≡ cond (is_plan_of desk plan) (keys_of desk plans ++ entry_of plan ∷ []) (keys_of desk plans)
    by_test (inl in_) =
        is
        ∙ ap (λ l. map entry_of (filter (is_plan_of desk) plans ++ l)) (cond-true (is_plan_of desk plan) (plan ∷ []) [] in_)
        ∙ map-append entry_of (filter (is_plan_of desk) plans) (plan ∷ [])
        ∙ sym (cond-true (is_plan_of desk plan) (keys_of desk plans ++ entry_of plan ∷ []) (keys_of desk plans) in_)
    by_test (inr out_) =
        is
        ∙ ap (λ l. map entry_of (filter (is_plan_of desk) plans ++ l)) (cond-false (is_plan_of desk plan) (plan ∷ []) [] out_)
        ∙ ap (map entry_of) (append-nil (filter (is_plan_of desk) plans))
        ∙ sym (cond-false (is_plan_of desk plan) (keys_of desk plans ++ entry_of plan ∷ []) (keys_of desk plans) out_)

-- the keys except those with a number
abbrev pub other_keys : ℕ → List (ℕ × PlanKind) → List (ℕ × PlanKind)
other_keys n keys = filter (λ key. not (key.0 == n)) keys

own_without : (desk : Text) (n : ℕ) (plans : List Plan) → keys_of desk (without (is_plan desk n) plans) ≡ other_keys n (keys_of desk plans)
own_without desk n [] = refl
own_without desk n (x ∷ xs) = grind (arith, cases_Bool (is_plan_of desk x), cases_Bool (x.n == n), own_without desk n xs)

-- a plan less
pub keys_without : (desk other : Text) (n : ℕ) (plans : List Plan)
    → keys_of other (without (is_plan desk n) plans) ≡ cond (same_text desk other) (other_keys n (keys_of other plans)) (keys_of other plans)
keys_without desk other n plans = by_test (cases_Bool (same_text desk other))
  where
    by_test : (same_text desk other ≡ true) ⊎ (same_text desk other ≡ false)
        → keys_of other (without (is_plan desk n) plans) ≡ cond (same_text desk other) (other_keys n (keys_of other plans)) (keys_of other plans)
    by_test (inl same) =
        ap (λ d. keys_of other (without (is_plan d n) plans)) (text_from_same desk other same)
        ∙ own_without other n plans
        ∙ sym (cond-true (same_text desk other) (other_keys n (keys_of other plans)) (keys_of other plans) same)
    by_test (inr apart) =
        ap (map entry_of) (hidden_without (λ (p : Plan). p.desk) other desk (is_plan desk n) apart (λ row e. (and_parts (is_plan_of desk row) (row.n == n) e).0) plans)
        ∙ sym (cond-false (same_text desk other) (other_keys n (keys_of other plans)) (keys_of other plans) apart)

-- a calendar
pub keys_calendar : (desk : Text) (n : ℕ) (start days : Text) (other : Text) (plans : List Plan)
    → keys_of other (changed (is_plan desk n) (with_calendar start days) plans) ≡ keys_of other plans
keys_calendar desk n start days other [] = refl
keys_calendar desk n start days other (x ∷ xs) = grind (arith, cases_Bool (is_plan desk n x), cases_Bool (is_plan_of other x), keys_calendar desk n start days other xs)

-- ---- what is kept

-- an entry more
pub holds_push : (plans : List Plan) (old new : KeptPlans) (desk : Text) (entry : PlanEntry) (plan : Plan) → plan.desk ≡ desk → entry_in entry ≡ entry_of plan
    → HoldsPlans plans old → AddsEntry old new desk entry → HoldsPlans (plans ++ plan ∷ []) new
holds_push plans old new desk entry plan at is holds adds other =
    ap (map entry_in) (adds other) ∙ by_test (cases_Bool (same_text desk other)) ∙ sym (keys_push other plan plans)
  where
    owner : is_plan_of other plan ≡ same_text desk other
    owner = ap (λ d. same_text d other) at

    by_test : (same_text desk other ≡ true) ⊎ (same_text desk other ≡ false)
        → map entry_in (cond (same_text desk other) (entries_of old other ++ entry ∷ []) (entries_of old other)) ≡ cond (is_plan_of other plan) (keys_of other plans ++ entry_of plan ∷ []) (keys_of other plans)
    by_test (inl same) =
        ap (map entry_in) (cond-true (same_text desk other) (entries_of old other ++ entry ∷ []) (entries_of old other) same)
        ∙ map-append entry_in (entries_of old other) (entry ∷ [])
        ∙ ap (λ l. l ++ entry_in entry ∷ []) (holds other)
        ∙ ap (λ k. keys_of other plans ++ k ∷ []) is
        ∙ sym (cond-true (is_plan_of other plan) (keys_of other plans ++ entry_of plan ∷ []) (keys_of other plans) (owner ∙ same))
    by_test (inr apart) =
        ap (map entry_in) (cond-false (same_text desk other) (entries_of old other ++ entry ∷ []) (entries_of old other) apart)
        ∙ holds other
        ∙ sym (cond-false (is_plan_of other plan) (keys_of other plans ++ entry_of plan ∷ []) (keys_of other plans) (owner ∙ apart))

-- the list of one desk is replaced by that without a number
pub holds_without : (plans : List Plan) (old new : KeptPlans) (desk : Text) (n : ℕ) → HoldsPlans plans old
    → ((other : Text) → entries_of new other ≡ cond (same_text desk other) (filter (λ (e : PlanEntry). not (e.n == n)) (entries_of old other)) (entries_of old other))
    → HoldsPlans (without (is_plan desk n) plans) new
holds_without plans old new desk n holds sets other =
    ap (map entry_in) (sets other) ∙ by_test (cases_Bool (same_text desk other)) ∙ sym (keys_without desk other n plans)
  where
    by_test : (same_text desk other ≡ true) ⊎ (same_text desk other ≡ false)
        → map entry_in (cond (same_text desk other) (filter (λ (e : PlanEntry). not (e.n == n)) (entries_of old other)) (entries_of old other))
        ≡ cond (same_text desk other) (other_keys n (keys_of other plans)) (keys_of other plans)
    by_test (inl same) =
        ap (map entry_in) (cond-true (same_text desk other) (filter (λ (e : PlanEntry). not (e.n == n)) (entries_of old other)) (entries_of old other) same)
        ∙ sym (filter-map (λ (key : ℕ × PlanKind). not (key.0 == n)) entry_in (entries_of old other))
        ∙ ap (other_keys n) (holds other)
        ∙ sym (cond-true (same_text desk other) (other_keys n (keys_of other plans)) (keys_of other plans) same)
    by_test (inr apart) =
        ap (map entry_in) (cond-false (same_text desk other) (filter (λ (e : PlanEntry). not (e.n == n)) (entries_of old other)) (entries_of old other) apart)
        ∙ holds other
        ∙ sym (cond-false (same_text desk other) (other_keys n (keys_of other plans)) (keys_of other plans) apart)

-- equal lists
pub holds_same : (plans : List Plan) (old new : KeptPlans) → HoldsPlans plans old → ((other : Text) → entries_of new other ≡ entries_of old other) → HoldsPlans plans new
holds_same plans old new holds same other = ap (map entry_in) (same other) ∙ holds other

-- equal tables
pub holds_in : (a b : World) (kept : KeptPlans) → a ≡ b → HoldsPlans b.plans kept → HoldsPlans a.plans kept
holds_in a b kept same holds = subst (λ (w : World). HoldsPlans w.plans kept) (sym same) holds

-- ---- the answers

pub kept_listed : (w : World) (desk : Text) (kept : KeptPlans) (all : List PlanEntry) → HoldsPlans w.plans kept
    → map entry_in all ≡ in_order entry_before (map entry_in (entries_of kept desk)) → ListsPlans (view desk w).plans all
kept_listed w desk kept all holds is =
    is ∙ ap (in_order entry_before) (holds desk) ∙ sym (map-in_order entry_of plan_before entry_before (λ x y. refl) (filter (is_plan_of desk) w.plans))

pub kept_counted : (w : World) (desk : Text) (kept : KeptPlans) → HoldsPlans w.plans kept → length (entries_of kept desk) ≡ length (view desk w).plans
kept_counted w desk kept holds =
    sym (length-map (entries_of kept desk) entry_in) ∙ ap length (holds desk) ∙ length-map (filter (is_plan_of desk) w.plans) entry_of

-- ---- calls

-- a call that reads
pub kept_asked : (old new : State) (kept : KeptPlans) {X : Type 0} (r : Result X BookFault) (Is : X → Type 0) → Asks old new r Is → KeepsPlans old kept → KeepsPlans new kept
kept_asked old new kept r Is it keeps = λ clean live.
    let was = it.same clean live in
    holds_in (world_of new.now.trees) (world_of old.now.trees) kept (ap (λ (d : Database). world_of d.trees) was.1) (keeps (it.honesty clean) was.0)

module _ (old new : State) (change : World → World) where
  -- a call that failed
  pub kept_refused : (before after : KeptPlans) (fault : BookFault) → Changes old new {X = Unit {0}} (Err fault) change
      → ((other : Text) → entries_of after other ≡ entries_of before other) → KeepsPlans old before → KeepsPlans new after
  kept_refused before after fault it same keeps = λ clean live.
      holds_same (world_of new.now.trees).plans before after
      (holds_in (world_of new.now.trees) (world_of old.now.trees) before (ap (λ (d : Database). world_of d.trees) (it.same clean live)) (keeps (it.honesty clean) (it.stood clean live))) same

  -- a call that changed the tables
  pub kept_made : (before after : KeptPlans) → Changes old new {X = Unit {0}} (Ok tt) change
      → (HasCleanDisk old → IsTrue old.is_open → HoldsPlans (world_of old.now.trees).plans before → HoldsPlans (change (world_of old.now.trees)).plans after)
      → KeepsPlans old before → KeepsPlans new after
  kept_made before after it then keeps = λ clean live.
      let early = it.honesty clean in
      let was = it.stood clean live in
      holds_in (world_of new.now.trees) (change (world_of old.now.trees)) after (it.changed clean).1 (then early was (keeps early was))

  -- a call that changes no key of a plan
  pub kept_changed : ((w : World) (desk : Text) → keys_of desk (change w).plans ≡ keys_of desk w.plans) → (kept : KeptPlans) (r : Result (Unit {0}) BookFault)
      → Changes old new r change → KeepsPlans old kept → KeepsPlans new kept
  kept_changed same kept (Ok tt) it keeps = kept_made kept kept it (λ clean live holds desk. holds desk ∙ sym (same (world_of old.now.trees) desk)) keeps
  kept_changed same kept (Err fault) it keeps = kept_refused kept kept fault it (λ other. refl) keeps

-- the desk's next number
next_is : (w : World) (desk : Text) (next : ℕ) → IsSomeAnd (desk_in w desk) (λ row. row.next ≡ next) → next_of (desk_in w desk) ≡ next
next_is w desk next = go (desk_in w desk)
  where
    go : (o : Option Desk) → IsSomeAnd o (λ row. row.next ≡ next) → next_of o ≡ next
    go None h = absurd h
    go (Some row) h = h

-- a plan with the desk's next number
pub holds_added : (old : State) (desk : Text) (next : ℕ) (kind : PlanKind) (name body : Text) (before after : KeptPlans) (entry : PlanEntry) → IsNextNumber old desk next
    → entry_in entry ≡ (next, kind) → AddsEntry before after desk entry → HasCleanDisk old → IsTrue old.is_open → HoldsPlans (world_of old.now.trees).plans before
    → HoldsPlans (apply desk (AddPlan kind name body) (world_of old.now.trees)).plans after
holds_added old desk next kind name body before after entry number is adds clean live holds =
    let w = world_of old.now.trees in
    holds_push w.plans before after desk entry (new_plan desk (next_of (desk_in w desk)) kind name body) refl
    (is ∙ ap (λ n. (n, kind)) (sym (next_is w desk next (number clean live)))) holds adds

-- a plan less
pub holds_removed : (w : World) (desk : Text) (n : ℕ) (before after : KeptPlans)
    → ((other : Text) → entries_of after other ≡ cond (same_text desk other) (filter (λ (e : PlanEntry). not (e.n == n)) (entries_of before other)) (entries_of before other))
    → HoldsPlans w.plans before → HoldsPlans (apply desk (RemovePlan n) w).plans after
holds_removed w desk n before after sets holds = holds_without w.plans before after desk n holds sets

-- ---- a book that serves

-- after a call that reads
pub served_asked : (old new : State) (next : Option NextPlan) (kept : KeptPlans) {X : Type 0} (r : Result X BookFault) (Is : X → Type 0)
    → Asks old new r Is → IsServing old next kept → IsServing new next kept
served_asked old new next kept r Is it was = record {
  ready = it.ready;
  next = go next was.next;
  plans = kept_asked old new kept r Is it was.plans;
}
  where
    go : (o : Option NextPlan) → IfSome o (λ n. IsNextNumber old (string_bytes n.desk) n.n) → IfSome o (λ n. IsNextNumber new (string_bytes n.desk) n.n)
    go None h = tt
    go (Some n) h = λ clean live.
        let same = it.same clean live in
        subst (λ (d : Database). IsSomeAnd (desk_in (world_of d.trees) (string_bytes n.desk)) (λ row. row.next ≡ n.n)) (sym same.1) (h (it.honesty clean) same.0)

-- after a call that changes no key of a plan
pub served_changed : (old new : State) (change : World → World) → ((w : World) (desk : Text) → keys_of desk (change w).plans ≡ keys_of desk w.plans)
    → (next : Option NextPlan) (kept : KeptPlans) (r : Result (Unit {0}) BookFault) → Changes old new r change → IsServing old next kept → IsServing new None kept
served_changed old new change same next kept r it was = record {
  ready = it.ready;
  next = tt;
  plans = kept_changed old new change same kept r it was.plans;
}
