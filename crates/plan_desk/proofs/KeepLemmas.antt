-- A change that fits keeps the rules of rows.
use Rattle.std.proofs.Common.{◌≡◌, ℕ, ◌+◌, ◌≤◌, ◌<◌, ◌⊎◌, inl, inr, Bool, true, false, ◌&&◌, not, [], ◌∷◌, ◌++◌, filter, length, Some, None, refl, sym, ap, ◌∙◌, subst, arith}
use Rattle.std.specs.Prelude.{option_map, ◌==◌, nat_le}
use Rattle.std.specs.List.{AllByRecursion}
use Rattle.std.proofs.lemmas.Bool.{cases_Bool, cond-true, cond-false, both_ways, and_parts, and_from, leb-true, le-leb, eqb-true, eq-eqb, not-true, cases_order}
use Rattle.std.proofs.lemmas.List.{length-map, length-append}
use Rattle.std.proofs.lemmas.List.Elements.{filter-append}
use Rattle.std.proofs.lemmas.Slice.Eq.{bytes_eq-Decides}
use Rattle.plan_calendar.specs.WorkingDay.{Workdays}
use Rattle.plan_calendar.specs.CalendarText.{IsCalendar}
use Rattle.plan_psplib.specs.Project.{Project, SaysProject}
use Rattle.plan_rows.specs.declared.kinds.Kind.{Kind}
use Rattle.plan_rows.specs.declared.kinds.PlanKind.{PlanKind}
use Rattle.plan_rows.specs.declared.kinds.PlanKind.TheVariants as kinds
use Rattle.plan_rows.specs.World.{Text, Digest, Published, Desk, Plan, Bind, Lag, World, same_text, same_kind, takes, is_code, is_desk, is_plan_of, is_plan}
use Rattle.plan_rows.specs.World.{is_bind_by, is_bind_of, is_bind, is_lag_of, is_lag, code_in, desk_in, plan_in}
use Rattle.plan_rows.specs.Names.{is_name, is_digest, is_from_to}
use Rattle.plan_rows.specs.Changes.{Change, Keep, Publish, OpenDesk, SetKey, AddPlan, RemovePlan, BindPlace, SetCalendar, SetLag, changed, put, without, apply}
use Rattle.plan_rows.specs.Changes.{new_code, with_capacity, new_desk, with_digest, risen, next_of, new_plan, with_calendar, new_bind, with_code, new_lag}
use Rattle.plan_rows.specs.Changes.{with_lag, lags_after}
use Rattle.plan_rows.specs.Plans.{HasPlaces, is_place}
use Rattle.plan_rows.specs.Plans.{has_arc}
use Rattle.plan_rows.specs.Rules.{AllDiffer, IsThereAnd, is_published_row, is_desk_row, HasName, IsPlanRow, IsBindRow, IsLagRow, IsOwned, IsWorld}
use Rattle.plan_rows.proofs.RowLemmas.{filter_none, change_of, filter-changed, find-changed, all_weaker}
use Rattle.plan_rows.proofs.OwnerLemmas.{text_from_same}
use Rattle.plan_rows.proofs.RuleLemmas.{all_append, all_filter, all_changed, all_put, differ_changed, differ_append, differ_filter, differ_put, found_has}
use Rattle.plan_rows.proofs.RuleLemmas.{there_append, there_changed, there_put, there_map, find_kept, find_none, all_found, all_both, length_fewer}

-- the plan of a lag exists, is a project and has the arc
abbrev pub HasLagArc : World → Text → ℕ → ℕ → ℕ → Type 0
HasLagArc w desk n source target = IsThereAnd (plan_in w desk n) (λ plan.
    (plan.kind ≡ kinds.Project) × ((p : Project) × SaysProject plan.body p × (has_arc p.network source target ≡ true)))

-- the rules for the plan of a bind, and for that of a lag
abbrev pub HasBound : World → Bind → Plan → Type 0
HasBound w row plan =
    ((count : ℕ) × HasPlaces plan.kind plan.name plan.body count × (is_place plan.kind count row.place ≡ true))
    × IsThereAnd (code_in w.published row.code) (λ code. same_kind code.kind (takes plan.kind) ≡ true)

abbrev pub HasLag : Lag → Plan → Type 0
HasLag row plan =
    (plan.kind ≡ kinds.Project) × ((p : Project) × SaysProject plan.body p × (has_arc p.network row.source row.target ≡ true))
    × (is_from_to 1 10000 row.lag ≡ true)

-- the conditions under which a change for a desk keeps the rules
abbrev pub Fits : Text → World → Change → Type 0
Fits s w Keep = Unit {0}
Fits s w (Publish code kind capacity) =
    (is_name code ≡ true) × (nat_le capacity 10000 ≡ true)
Fits s w (OpenDesk digest) = (is_name s ≡ true) × (is_digest digest ≡ true) × (desk_in w s ≡ None)
Fits s w (SetKey digest) = is_digest digest ≡ true
Fits s w (AddPlan kind name body) =
    (row : Desk) × (desk_in w s ≡ Some row) × (length (filter (is_plan_of s) w.plans) < 100) × (row.next ≤ 1000000)
    × HasName kind name × ((count : ℕ) × HasPlaces kind name body count)
Fits s w (RemovePlan n) = Unit {0}
Fits s w (BindPlace n place code) = IsBindRow w (new_bind s n place code)
Fits s w (SetCalendar n start days) = (c : Workdays) × IsCalendar start days c
Fits s w (SetLag n source target lag) = HasLagArc w s n source target × (nat_le lag 10000 ≡ true)

-- ---- keys

same_text_swap : (a b : Text) → same_text a b ≡ same_text b a
same_text_swap a b = by_same (cases_Bool (same_text a b)) (cases_Bool (same_text b a))
  where
    by_same : (same_text a b ≡ true) ⊎ (same_text a b ≡ false) → (same_text b a ≡ true) ⊎ (same_text b a ≡ false) → same_text a b ≡ same_text b a
    by_same (inl x) (inl y) = x ∙ sym y
    by_same (inr x) (inr y) = x ∙ sym y
    by_same (inl x) (inr y) = absurd (both_ways (same_text b a) y ((bytes_eq-Decides b a).1 (sym (text_from_same a b x))))
    by_same (inr x) (inl y) = absurd (both_ways (same_text a b) x ((bytes_eq-Decides a b).1 (sym (text_from_same b a y))))

same_number_swap : (m n : ℕ) → (m == n) ≡ (n == m)
same_number_swap m n = by_same (cases_Bool (m == n)) (cases_Bool (n == m))
  where
    by_same : ((m == n) ≡ true) ⊎ ((m == n) ≡ false) → ((n == m) ≡ true) ⊎ ((n == m) ≡ false) → (m == n) ≡ (n == m)
    by_same (inl x) (inl y) = x ∙ sym y
    by_same (inr x) (inr y) = x ∙ sym y
    by_same (inl x) (inr y) = absurd (both_ways (n == m) y (eq-eqb n m (sym (eqb-true m n x))))
    by_same (inr x) (inl y) = absurd (both_ways (m == n) x (eq-eqb m n (sym (eqb-true n m y))))

same_bind_key : (s : Text) (n place : ℕ) (code : Text) (x : Bind) → is_bind x.desk x.n x.place (new_bind s n place code) ≡ is_bind s n place x
same_bind_key s n place code x = grind (arith, same_text_swap s x.desk, same_number_swap n x.n, same_number_swap place x.place)

same_lag_key : (s : Text) (n i j lag : ℕ) (x : Lag) → is_lag x.desk x.n x.source x.target (new_lag s n i j lag) ≡ is_lag s n i j x
same_lag_key s n i j lag x =
    grind (arith, same_text_swap s x.desk, same_number_swap n x.n, same_number_swap i x.source, same_number_swap j x.target)

-- ---- one change after the other

keep_publish : (s : Text) (w : World) (code : Text) (kind : Kind) (capacity : ℕ) → IsWorld w → Fits s w (Publish code kind capacity)
    → IsWorld (apply s (Publish code kind capacity) w)
keep_publish s w code kind capacity k fits = record {
  office = k.office;
  published = all_put (λ row. is_published_row row ≡ true) (λ row. is_published_row row ≡ true) (is_code code) (with_capacity capacity) (new_code code kind capacity)
      (λ x in_ e. and_from (is_name x.code) (nat_le capacity 10000) (and_parts (is_name x.code) (nat_le x.capacity 10000) e).0 fits.1) (λ x e. e)
      (and_from (is_name code) (nat_le capacity 10000) fits.0 fits.1) w.published k.published;
  desks = k.desks;
  plans = k.plans;
  codes_differ = differ_put (λ a b. same_text a.code b.code) (is_code code) (with_capacity capacity) (new_code code kind capacity) (λ x y. (refl, refl)) (λ x. refl) w.published k.codes_differ;
  desks_differ = k.desks_differ;
  plans_differ = k.plans_differ;
  binds_differ = k.binds_differ;
  lags_differ = k.lags_differ;
  few = k.few;
  owned = k.owned;
  bound = all_weaker bound_still w.binds k.bound;
  lagged = k.lagged;
}
  where
    kind_stays : (of_kind : Kind) (x : Published) → same_kind x.kind of_kind ≡ true → same_kind (change_of (is_code code) (with_capacity capacity) x).kind of_kind ≡ true
    kind_stays of_kind x e = by_code (cases_Bool (is_code code x))
      where
        by_code : (is_code code x ≡ true) ⊎ (is_code code x ≡ false) → same_kind (change_of (is_code code) (with_capacity capacity) x).kind of_kind ≡ true
        by_code (inl in_) = ap (λ row. same_kind row.kind of_kind) (cond-true (is_code code x) (with_capacity capacity x) x in_) ∙ e
        by_code (inr out_) = ap (λ row. same_kind row.kind of_kind) (cond-false (is_code code x) (with_capacity capacity x) x out_) ∙ e

    bound_still : (row : Bind) → IsBindRow w row → IsBindRow (apply s (Publish code kind capacity) w) row
    bound_still row h = there_map _ _ (λ plan both. (
      both.0,
      there_put (λ published. same_kind published.kind (takes plan.kind) ≡ true) (is_code row.code) (is_code code) (with_capacity capacity) (new_code code kind capacity)
          (λ x. refl) (kind_stays (takes plan.kind)) w.published both.1,
    )) (plan_in w row.desk row.n) h

keep_open : (s : Text) (w : World) (digest : Digest) → IsWorld w → Fits s w (OpenDesk digest) → IsWorld (apply s (OpenDesk digest) w)
keep_open s w digest k fits = record {
  office = k.office;
  published = k.published;
  desks = all_append (λ row. is_desk_row row ≡ true) w.desks (new_desk s digest) k.desks (and_from (is_name s) (is_digest digest && true) fits.0 (and_from (is_digest digest) true fits.1 refl));
  plans = k.plans;
  codes_differ = k.codes_differ;
  desks_differ = differ_append (λ a b. same_text a.desk b.desk) (new_desk s digest) w.desks k.desks_differ (find_none (is_desk s) w.desks fits.2);
  plans_differ = k.plans_differ;
  binds_differ = k.binds_differ;
  lags_differ = k.lags_differ;
  few = all_append (λ row. length (filter (is_plan_of row.desk) w.plans) ≤ 100) w.desks (new_desk s digest) k.few
      (subst (λ rows. length rows ≤ 100) (sym (filter_none (is_plan_of s) w.plans (all_weaker unowned w.plans k.owned))) (omega arith));
  owned = all_weaker (λ row h. there_append (λ desk. row.n < desk.next) (is_desk row.desk) (new_desk s digest) w.desks h) w.plans k.owned;
  bound = k.bound;
  lagged = k.lagged;
}
  where
    unowned : (row : Plan) → IsOwned w row → is_plan_of s row ≡ false
    unowned row h = by_desk (cases_Bool (is_plan_of s row))
      where
        by_desk : (is_plan_of s row ≡ true) ⊎ (is_plan_of s row ≡ false) → is_plan_of s row ≡ false
        by_desk (inl mine) =
            absurd (subst (λ o. IsThereAnd o (λ desk. row.n < desk.next)) fits.2 (subst (λ t. IsThereAnd (desk_in w t) (λ desk. row.n < desk.next)) (text_from_same row.desk s mine) h))
        by_desk (inr other) = other

keep_key : (s : Text) (w : World) (digest : Digest) → IsWorld w → Fits s w (SetKey digest) → IsWorld (apply s (SetKey digest) w)
keep_key s w digest k fits = record {
  office = k.office;
  published = k.published;
  desks = all_changed (λ row. is_desk_row row ≡ true) (λ row. is_desk_row row ≡ true) (is_desk s) (with_digest digest)
      (λ x in_ e. let parts = and_parts (is_name x.desk) (is_digest x.digest && is_from_to 1 1000001 x.next) e in
      and_from (is_name x.desk) (is_digest digest && is_from_to 1 1000001 x.next) parts.0
      (and_from (is_digest digest) (is_from_to 1 1000001 x.next) fits (and_parts (is_digest x.digest) (is_from_to 1 1000001 x.next) parts.1).1))
      (λ x e. e) w.desks k.desks;
  plans = k.plans;
  codes_differ = k.codes_differ;
  desks_differ = differ_changed (λ a b. same_text a.desk b.desk) (is_desk s) (with_digest digest) (λ x y. (refl, refl)) w.desks k.desks_differ;
  plans_differ = k.plans_differ;
  binds_differ = k.binds_differ;
  lags_differ = k.lags_differ;
  few = all_changed (λ row. length (filter (is_plan_of row.desk) w.plans) ≤ 100) (λ row. length (filter (is_plan_of row.desk) w.plans) ≤ 100) (is_desk s) (with_digest digest)
      (λ x in_ h. h) (λ x h. h) w.desks k.few;
  owned = all_weaker (λ row h. there_changed (λ desk. row.n < desk.next) (λ desk. row.n < desk.next)
      (is_desk row.desk) (is_desk s) (with_digest digest) (λ x. refl) (next_stays row.n) w.desks h) w.plans
      k.owned;
  bound = k.bound;
  lagged = k.lagged;
}
  where
    next_stays : (n : ℕ) (x : Desk) → n < x.next → n < (change_of (is_desk s) (with_digest digest) x).next
    next_stays n x h = by_desk (cases_Bool (is_desk s x))
      where
        by_desk : (is_desk s x ≡ true) ⊎ (is_desk s x ≡ false) → n < (change_of (is_desk s) (with_digest digest) x).next
        by_desk (inl in_) = subst (λ row. n < row.next) (sym (cond-true (is_desk s x) (with_digest digest x) x in_)) h
        by_desk (inr out_) = subst (λ row. n < row.next) (sym (cond-false (is_desk s x) (with_digest digest x) x out_)) h

-- ---- one plan more

-- a desk with fewer than 100 plans has at most 100 after one more
few_still : (s : Text) (w : World) (new : Plan) → new.desk ≡ s → length (filter (is_plan_of s) w.plans) < 100 → (d : Text)
    → length (filter (is_plan_of d) w.plans) ≤ 100 → length (filter (is_plan_of d) (w.plans ++ new ∷ [])) ≤ 100
few_still s w new own room d h = by_desk (cases_Bool (is_plan_of d new))
  where
    split : length (filter (is_plan_of d) (w.plans ++ new ∷ [])) ≡ length (filter (is_plan_of d) w.plans) + length (filter (is_plan_of d) (new ∷ []))
    split = ap length (filter-append (is_plan_of d) w.plans (new ∷ [])) ∙ length-append (filter (is_plan_of d) w.plans) (filter (is_plan_of d) (new ∷ []))

    by_desk : (is_plan_of d new ≡ true) ⊎ (is_plan_of d new ≡ false) → length (filter (is_plan_of d) (w.plans ++ new ∷ [])) ≤ 100
    by_desk (inl mine) =
        let same : s ≡ d = sym own ∙ text_from_same new.desk d mine in
        let few : length (filter (is_plan_of d) w.plans) < 100 = subst (λ t. length (filter (is_plan_of t) w.plans) < 100) same room in
        let one : length (filter (is_plan_of d) (new ∷ [])) ≡ 1 = ap length (cond-true (is_plan_of d new) (new ∷ []) [] mine) in
        omega (arith, split, few, one)
    by_desk (inr other) =
        let none : length (filter (is_plan_of d) (new ∷ [])) ≡ 0 = ap length (cond-false (is_plan_of d new) (new ∷ []) [] other) in
        omega (arith, split, none, h)

-- the desk's next number is above each of its plans
below_next : (s : Text) (w : World) (row : Desk) (x : Plan) → desk_in w s ≡ Some row → IsOwned w x → is_plan_of s x ≡ true → x.n < row.next
below_next s w row x found owned mine =
    subst (λ o. IsThereAnd o (λ desk. x.n < desk.next)) found (subst (λ t. IsThereAnd (desk_in w t) (λ desk. x.n < desk.next)) (text_from_same x.desk s mine) owned)

-- a row's number rises by 1, or stays
next_rises : (s : Text) (n : ℕ) (x : Desk) → n < x.next → n < (change_of (is_desk s) risen x).next
next_rises s n x h = by_desk (cases_Bool (is_desk s x))
  where
    by_desk : (is_desk s x ≡ true) ⊎ (is_desk s x ≡ false) → n < (change_of (is_desk s) risen x).next
    by_desk (inl in_) = subst (λ row. n < row.next) (sym (cond-true (is_desk s x) (risen x) x in_)) (omega (arith, h))
    by_desk (inr out_) = subst (λ row. n < row.next) (sym (cond-false (is_desk s x) (risen x) x out_)) h

keep_add : (s : Text) (w : World) (kind : PlanKind) (name body : Text) → IsWorld w → Fits s w (AddPlan kind name body) → IsWorld (apply s (AddPlan kind name body) w)
keep_add s w kind name body k (row, found, room, spent, named, reads) = record {
  office = k.office;
  published = k.published;
  desks = all_changed (λ x. (is_desk_row x ≡ true) × (is_desk s x ≡ true → x ≡ row)) (λ x. is_desk_row x ≡ true) (is_desk s) risen
      (λ x in_ h. risen_row x h.0 (h.1 in_)) (λ x h. h.0) w.desks (all_both (λ x. is_desk_row x ≡ true) (λ x. is_desk s x ≡ true → x ≡ row) w.desks k.desks only);
  plans = all_append IsPlanRow w.plans new k.plans (record { number = number; name = named; reads = reads; calendar = inl (refl, refl) });
  codes_differ = k.codes_differ;
  desks_differ = differ_changed (λ a b. same_text a.desk b.desk) (is_desk s) risen (λ x y. (refl, refl)) w.desks k.desks_differ;
  plans_differ = differ_append (λ a b. is_plan a.desk a.n b) new w.plans k.plans_differ (all_weaker unlike w.plans k.owned);
  binds_differ = k.binds_differ;
  lags_differ = k.lags_differ;
  few = all_changed (λ x. length (filter (is_plan_of x.desk) w.plans) ≤ 100) (λ x. length (filter (is_plan_of x.desk) (w.plans ++ new ∷ [])) ≤ 100) (is_desk s) risen
      (λ x in_ h. few_still s w new refl room x.desk h) (λ x h. few_still s w new refl room x.desk h) w.desks k.few;
  owned = all_append (IsOwned after) w.plans new (all_weaker owned_still w.plans k.owned) owns_new;
  bound = all_weaker (λ x h. there_append _ (is_plan x.desk x.n) new w.plans h) w.binds k.bound;
  lagged = all_weaker (λ x h. there_append _ (is_plan x.desk x.n) new w.plans h) w.lags k.lagged;
}
  where
    new : Plan
    new = new_plan s (next_of (desk_in w s)) kind name body

    after : World
    after = apply s (AddPlan kind name body) w

    numbered : next_of (desk_in w s) ≡ row.next
    numbered = ap next_of found

    its_row : (is_desk_row row ≡ true) × (is_desk s row ≡ true)
    its_row = found_has (λ x. is_desk_row x ≡ true) (is_desk s) w.desks row found k.desks

    only : AllByRecursion (λ x. is_desk s x ≡ true → x ≡ row) w.desks
    only = all_found (λ a b. same_text a.desk b.desk) (is_desk s) row
        (λ x y a b. subst (λ t. same_text x.desk t ≡ true) (sym (text_from_same y.desk s b)) a) w.desks k.desks_differ found

    low : is_from_to 1 1000001 row.next ≡ true
    low = (and_parts (is_digest row.digest) (is_from_to 1 1000001 row.next) (and_parts (is_name row.desk) (is_digest row.digest && is_from_to 1 1000001 row.next) its_row.0).1).1

    from_one : 1 ≤ row.next
    from_one = leb-true 1 row.next (and_parts (nat_le 1 row.next) (nat_le row.next 1000001) low).0

    number : is_from_to 1 1000000 (next_of (desk_in w s)) ≡ true
    number = subst (λ n. is_from_to 1 1000000 n ≡ true) (sym numbered)
        (and_from (nat_le 1 row.next) (nat_le row.next 1000000) (le-leb 1 row.next from_one) (le-leb row.next 1000000 spent))

    risen_row : (x : Desk) → is_desk_row x ≡ true → x ≡ row → is_desk_row (risen x) ≡ true
    risen_row x e same =
        let parts = and_parts (is_name x.desk) (is_digest x.digest && is_from_to 1 1000001 x.next) e in
        let digest = (and_parts (is_digest x.digest) (is_from_to 1 1000001 x.next) parts.1).0 in
        let next : x.next ≤ 1000000 = subst (λ z. z.next ≤ 1000000) (sym same) spent in
        and_from (is_name x.desk) (is_digest x.digest && is_from_to 1 1000001 (x.next + 1)) parts.0
        (and_from (is_digest x.digest) (is_from_to 1 1000001 (x.next + 1)) digest
        (and_from (nat_le 1 (x.next + 1)) (nat_le (x.next + 1) 1000001) (le-leb 1 (x.next + 1) (omega arith)) (le-leb (x.next + 1) 1000001 (omega (arith, next)))))

    unlike : (x : Plan) → IsOwned w x → is_plan x.desk x.n new ≡ false
    unlike x owned = by_key (cases_Bool (is_plan x.desk x.n new))
      where
        by_key : (is_plan x.desk x.n new ≡ true) ⊎ (is_plan x.desk x.n new ≡ false) → is_plan x.desk x.n new ≡ false
        by_key (inr other) = other
        by_key (inl same) =
            let parts = and_parts (same_text s x.desk) (next_of (desk_in w s) == x.n) same in
            let below : x.n < row.next = below_next s w row x found owned (same_text_swap x.desk s ∙ parts.0) in
            let equal : next_of (desk_in w s) ≡ x.n = eqb-true (next_of (desk_in w s)) x.n parts.1 in
            absurd (omega (arith, below, equal, numbered))

    owned_still : (x : Plan) → IsOwned w x → IsOwned after x
    owned_still x owned = there_changed (λ desk. x.n < desk.next) (λ desk. x.n < desk.next) (is_desk x.desk) (is_desk s) risen (λ y. refl) (next_rises s x.n) w.desks owned

    owns_new : IsOwned after new
    owns_new =
        rw (find-changed (is_desk s) (is_desk s) risen (λ y. refl) w.desks)
        (subst (λ o. IsThereAnd (option_map (change_of (is_desk s) risen) o) (λ desk. next_of (desk_in w s) < desk.next)) (sym found)
        (subst (λ z. next_of (desk_in w s) < z.next) (sym (cond-true (is_desk s row) (risen row) row its_row.1)) (omega (arith, numbered))))

-- ---- one plan less

keep_remove : (s : Text) (w : World) (n : ℕ) → IsWorld w → IsWorld (apply s (RemovePlan n) w)
keep_remove s w n k = record {
  office = k.office;
  published = k.published;
  desks = k.desks;
  plans = all_filter IsPlanRow IsPlanRow stays (λ x in_ h. h) w.plans k.plans;
  codes_differ = k.codes_differ;
  desks_differ = k.desks_differ;
  plans_differ = differ_filter (λ a b. is_plan a.desk a.n b) stays w.plans k.plans_differ;
  binds_differ = differ_filter (λ a b. is_bind a.desk a.n a.place b) (λ x. not (is_bind_of s n x)) w.binds k.binds_differ;
  lags_differ = differ_filter (λ a b. is_lag a.desk a.n a.source a.target b) (λ x. not (is_lag_of s n x)) w.lags k.lags_differ;
  few = all_weaker (λ row h. let fewer = length_fewer (is_plan_of row.desk) stays w.plans in omega (arith, h, fewer)) w.desks k.few;
  owned = all_filter (IsOwned w) (IsOwned w) stays (λ x in_ h. h) w.plans k.owned;
  bound = all_filter (IsBindRow w) (IsBindRow after) (λ x. not (is_bind_of s n x))
      (λ x in_ h. subst (λ o. IsThereAnd o (λ plan. HasBound w x plan)) (sym (found_still x.desk x.n (not-true (is_bind_of s n x) in_))) h) w.binds k.bound;
  lagged = all_filter (IsLagRow w) (IsLagRow after) (λ x. not (is_lag_of s n x))
      (λ x in_ h. subst (λ o. IsThereAnd o (λ plan. HasLag x plan)) (sym (found_still x.desk x.n (not-true (is_lag_of s n x) in_))) h) w.lags k.lagged;
}
  where
    stays : Plan → Bool
    stays x = not (is_plan s n x)

    after : World
    after = apply s (RemovePlan n) w

    -- another plan is still found
    found_still : (d : Text) (m : ℕ) → (same_text d s && (m == n)) ≡ false → plan_in after d m ≡ plan_in w d m
    found_still d m other = find_kept (is_plan d m) stays keeps w.plans
      where
        keeps : (x : Plan) → is_plan d m x ≡ true → stays x ≡ true
        keeps x is = by_test (cases_Bool (is_plan s n x))
          where
            by_test : (is_plan s n x ≡ true) ⊎ (is_plan s n x ≡ false) → stays x ≡ true
            by_test (inr e) = ap not e
            by_test (inl e) =
                let at : x.desk ≡ d = text_from_same x.desk d (and_parts (is_plan_of d x) (x.n == m) is).0 in
                let by : x.desk ≡ s = text_from_same x.desk s (and_parts (is_plan_of s x) (x.n == n) e).0 in
                let number : m ≡ n = sym (eqb-true x.n m (and_parts (is_plan_of d x) (x.n == m) is).1) ∙ eqb-true x.n n (and_parts (is_plan_of s x) (x.n == n) e).1 in
                absurd (both_ways (same_text d s && (m == n)) other
                (and_from (same_text d s) (m == n) ((bytes_eq-Decides d s).1 (sym at ∙ by)) (eq-eqb m n number)))

-- ---- binds, calendars and lags

keep_bind : (s : Text) (w : World) (n place : ℕ) (code : Text) → IsWorld w → Fits s w (BindPlace n place code) → IsWorld (apply s (BindPlace n place code) w)
keep_bind s w n place code k fits = record {
  office = k.office;
  published = k.published;
  desks = k.desks;
  plans = k.plans;
  codes_differ = k.codes_differ;
  desks_differ = k.desks_differ;
  plans_differ = k.plans_differ;
  binds_differ = differ_put (λ a b. is_bind a.desk a.n a.place b) (is_bind s n place) (with_code code) (new_bind s n place code) (λ x y. (refl, refl))
      (same_bind_key s n place code) w.binds k.binds_differ;
  lags_differ = k.lags_differ;
  few = k.few;
  owned = k.owned;
  bound = all_put (IsBindRow w) (IsBindRow w) (is_bind s n place) (with_code code) (new_bind s n place code) rebound (λ x h. h) fits w.binds k.bound;
  lagged = k.lagged;
}
  where
    rebound : (x : Bind) → is_bind s n place x ≡ true → IsBindRow w x → IsBindRow w (with_code code x)
    rebound x in_ h =
        let own = and_parts (is_bind_of s n x) (x.place == place) in_ in
        let at = and_parts (is_bind_by s x) (x.n == n) own.0 in
        let desk : x.desk ≡ s = text_from_same x.desk s at.0 in
        let number : x.n ≡ n = eqb-true x.n n at.1 in
        let position : x.place ≡ place = eqb-true x.place place own.1 in
        subst (λ d. IsBindRow w (new_bind d x.n x.place code)) (sym desk)
        (subst (λ m. IsBindRow w (new_bind s m x.place code)) (sym number) (subst (λ q. IsBindRow w (new_bind s n q code)) (sym position) fits))

keep_calendar : (s : Text) (w : World) (n : ℕ) (start days : Text) → IsWorld w → Fits s w (SetCalendar n start days) → IsWorld (apply s (SetCalendar n start days) w)
keep_calendar s w n start days k fits = record {
  office = k.office;
  published = k.published;
  desks = k.desks;
  plans = all_changed IsPlanRow IsPlanRow q f (λ x in_ h. record { number = h.number; name = h.name; reads = h.reads; calendar = inr fits }) (λ x h. h) w.plans k.plans;
  codes_differ = k.codes_differ;
  desks_differ = k.desks_differ;
  plans_differ = differ_changed (λ a b. is_plan a.desk a.n b) q f (λ x y. (refl, refl)) w.plans k.plans_differ;
  binds_differ = k.binds_differ;
  lags_differ = k.lags_differ;
  few = all_weaker (λ row h. subst (λ m. m ≤ 100) (sym (as_many row.desk)) h) w.desks k.few;
  owned = all_changed (IsOwned w) (IsOwned w) q f (λ x in_ h. h) (λ x h. h) w.plans k.owned;
  bound = all_weaker (λ x h. there_changed _ _ (is_plan x.desk x.n) q f (λ y. refl)
      (λ plan both. still (λ z. ((count : ℕ) × HasPlaces z.kind z.name z.body count × (is_place z.kind count x.place ≡ true))
      × IsThereAnd (code_in w.published x.code) (λ code. same_kind code.kind (takes z.kind) ≡ true)) plan both both) w.plans h) w.binds k.bound;
  lagged = all_weaker (λ x h. there_changed _ _ (is_plan x.desk x.n) q f (λ y. refl)
      (λ plan both. still (λ z. (z.kind ≡ kinds.Project) × ((p : Project) × SaysProject z.body p × (has_arc p.network x.source x.target ≡ true))
      × (is_from_to 1 10000 x.lag ≡ true)) plan both both) w.plans h) w.lags k.lagged;
}
  where
    q : Plan → Bool
    q = is_plan s n

    f : Plan → Plan
    f = with_calendar start days

    -- a fact about a row and about its changed form holds after the change
    still : (P : Plan → Type 0) (x : Plan) → P (f x) → P x → P (change_of q f x)
    still P x new old = by_test (cases_Bool (q x))
      where
        by_test : (q x ≡ true) ⊎ (q x ≡ false) → P (change_of q f x)
        by_test (inl e) = subst P (sym (cond-true (q x) (f x) x e)) new
        by_test (inr e) = subst P (sym (cond-false (q x) (f x) x e)) old

    as_many : (d : Text) → length (filter (is_plan_of d) (changed q f w.plans)) ≡ length (filter (is_plan_of d) w.plans)
    as_many d = ap length (filter-changed (is_plan_of d) q f (λ x. refl) w.plans) ∙ length-map (filter (is_plan_of d) w.plans) (change_of q f)

keep_lag : (s : Text) (w : World) (n source target lag : ℕ) → IsWorld w → Fits s w (SetLag n source target lag) → IsWorld (apply s (SetLag n source target lag) w)
keep_lag s w n source target lag k fits = record {
  office = k.office;
  published = k.published;
  desks = k.desks;
  plans = k.plans;
  codes_differ = k.codes_differ;
  desks_differ = k.desks_differ;
  plans_differ = k.plans_differ;
  binds_differ = k.binds_differ;
  lags_differ = (by_zero (cases_Bool (lag == 0))).0;
  few = k.few;
  owned = k.owned;
  bound = k.bound;
  lagged = (by_zero (cases_Bool (lag == 0))).1;
}
  where
    q : Lag → Bool
    q = is_lag s n source target

    new : Lag
    new = new_lag s n source target lag

    alike : Lag → Lag → Bool
    alike a b = is_lag a.desk a.n a.source a.target b

    on_arc : HasLagArc w s n source target → is_from_to 1 10000 lag ≡ true → IsLagRow w new
    on_arc h low = there_map _ _ (λ plan both. (both.0, both.1, low)) (plan_in w s n) h

    relagged : is_from_to 1 10000 lag ≡ true → (x : Lag) → q x ≡ true → IsLagRow w x → IsLagRow w (with_lag lag x)
    relagged low x in_ h = there_map _ _ (λ plan both. (both.0, both.1, low)) (plan_in w x.desk x.n) h

    positive : (lag == 0) ≡ false → is_from_to 1 10000 lag ≡ true
    positive e = and_from (nat_le 1 lag) (nat_le lag 10000) (le-leb 1 lag (above lag e)) fits.1
      where
        above : (m : ℕ) → (m == 0) ≡ false → 1 ≤ m
        above m e = by_order (cases_order m 0)
          where
            by_order : (m ≡ 0) ⊎ ((m < 0) ⊎ (0 < m)) → 1 ≤ m
            by_order (inl zero_) = absurd (both_ways (m == 0) e (eq-eqb m 0 zero_))
            by_order (inr (inl below)) = omega (arith, below)
            by_order (inr (inr more)) = omega (arith, more)

    by_zero : ((lag == 0) ≡ true) ⊎ ((lag == 0) ≡ false)
        → AllDiffer alike (lags_after s n source target lag w.lags) × AllByRecursion (IsLagRow w) (lags_after s n source target lag w.lags)
    by_zero (inl e) =
        rw (cond-true (lag == 0) (without q w.lags) (put q (with_lag lag) new w.lags) e)
        (differ_filter alike (λ x. not (q x)) w.lags k.lags_differ, all_filter (IsLagRow w) (IsLagRow w) (λ x. not (q x)) (λ x in_ h. h) w.lags k.lagged)
    by_zero (inr e) =
        rw (cond-false (lag == 0) (without q w.lags) (put q (with_lag lag) new w.lags) e) (
          differ_put alike q (with_lag lag) new (λ x y. (refl, refl)) (same_lag_key s n source target lag) w.lags k.lags_differ,
          all_put (IsLagRow w) (IsLagRow w) q (with_lag lag) new (relagged (positive e)) (λ x h. h) (on_arc fits.0 (positive e)) w.lags k.lagged,
        )

-- a change that fits keeps the rules
pub fits_keeps : (s : Text) (c : Change) (w : World) → IsWorld w → Fits s w c → IsWorld (apply s c w)
fits_keeps s Keep w k fits = k
fits_keeps s (Publish code kind capacity) w k fits = keep_publish s w code kind capacity k fits
fits_keeps s (OpenDesk digest) w k fits = keep_open s w digest k fits
fits_keeps s (SetKey digest) w k fits = keep_key s w digest k fits
fits_keeps s (AddPlan kind name body) w k fits = keep_add s w kind name body k fits
fits_keeps s (RemovePlan n) w k fits = keep_remove s w n k
fits_keeps s (BindPlace n place code) w k fits = keep_bind s w n place code k fits
fits_keeps s (SetCalendar n start days) w k fits = keep_calendar s w n start days k fits
fits_keeps s (SetLag n source target lag) w k fits = keep_lag s w n source target lag k fits
