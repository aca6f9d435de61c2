-- The view of a desk after a change. It is the same if the change is made in an office that has the
-- rows of the desk alone. A change for another desk leaves it unchanged if no code is published.
use Rattle.std.proofs.Common.{◌≡◌, ℕ, ◌⊎◌, inl, inr, Bool, true, false, ◌&&◌, List, [], ◌∷◌, ◌++◌, filter, refl, sym, ap, ◌∙◌, subst}
use Rattle.std.specs.Prelude.{find, option_map, option_to_list, ◌==◌}
use Rattle.std.proofs.lemmas.Bool.{cases_Bool, cond-true, cond-false, both_ways, and_parts}
use Rattle.plan_rows.specs.World.{Text, Desk, Plan, Bind, Lag, World, same_text, is_desk, is_plan_of, is_bind_by, is_lag_by, is_plan, is_bind_of, is_bind, is_lag_of, is_lag, desk_in}
use Rattle.plan_rows.specs.Changes.{Change, Keep, Publish, OpenDesk, SetKey, AddPlan, RemovePlan, BindPlace, SetCalendar, SetLag, changed, put, without, apply}
use Rattle.plan_rows.specs.Changes.{lags_after, is_publishing, next_of, new_desk, with_digest, risen, new_plan, with_calendar, new_bind, with_code, new_lag}
use Rattle.plan_rows.specs.Changes.{with_lag}
use Rattle.plan_rows.specs.Views.{View, view, alone}
use Rattle.std.specs.Option.{option_or}
use Rattle.std.proofs.lemmas.List.Folds.{find-append}
use Rattle.plan_rows.proofs.RowLemmas.{filter_again, find_again, change_of, find-changed, find_hidden, find_past_new}
use Rattle.plan_rows.proofs.OwnerLemmas.{text_from_same, seen_changed, hidden_changed, seen_without, hidden_without, seen_added, hidden_added, seen_put, hidden_put}

abbrev plan_owner : Plan → Text
plan_owner row = row.desk

abbrev bind_owner : Bind → Text
bind_owner row = row.desk

abbrev lag_owner : Lag → Text
lag_owner row = row.desk

-- views of equal parts are equal
pub same_view : (v u : View) → v.office ≡ u.office → v.published ≡ u.published → v.desk ≡ u.desk → v.plans ≡ u.plans
    → v.binds ≡ u.binds → v.lags ≡ u.lags → v ≡ u
same_view v u office published desk plans binds lags = λ i. record {
  office = office i;
  published = published i;
  desk = desk i;
  plans = plans i;
  binds = binds i;
  lags = lags i;
}

-- an office that has the rows of a view alone has that view
pub view_alone : (d : Text) (w : World) → view d (alone (view d w)) ≡ view d w
view_alone d w = same_view (view d (alone (view d w))) (view d w) refl refl
    (find_again (is_desk d) w.desks) (filter_again (is_plan_of d) w.plans)
    (filter_again (is_bind_by d) w.binds) (filter_again (is_lag_by d) w.lags)

-- ---- the desks

-- a change of one desk's row that leaves its name
seen_desks : (d s : Text) (f : Desk → Desk) → ((row : Desk) → (f row).desk ≡ row.desk) → (xs : List Desk)
    → find (is_desk d) (changed (is_desk s) f xs) ≡ find (is_desk d) (changed (is_desk s) f (option_to_list (find (is_desk d) xs)))
seen_desks d s f keeps xs =
    let same : (row : Desk) → is_desk d (f row) ≡ is_desk d row = λ row. ap (λ t. same_text t d) (keeps row) in
    find-changed (is_desk d) (is_desk s) f same xs
    ∙ ap (option_map (change_of (is_desk s) f)) (sym (find_again (is_desk d) xs))
    ∙ sym (find-changed (is_desk d) (is_desk s) f same (option_to_list (find (is_desk d) xs)))

-- a new row behind the others
seen_opened : (d : Text) (new : Desk) (xs : List Desk)
    → find (is_desk d) (xs ++ new ∷ []) ≡ find (is_desk d) (option_to_list (find (is_desk d) xs) ++ new ∷ [])
seen_opened d new xs =
    find-append (is_desk d) xs (new ∷ [])
    ∙ ap (λ o. option_or o (find (is_desk d) (new ∷ []))) (sym (find_again (is_desk d) xs))
    ∙ sym (find-append (is_desk d) (option_to_list (find (is_desk d) xs)) (new ∷ []))

-- a desk of another name
apart_desks : (d s : Text) → same_text s d ≡ false → (row : Desk) → is_desk d row ≡ true → is_desk s row ≡ false
apart_desks d s apart row e = by_test (cases_Bool (is_desk s row))
  where
    by_test : (is_desk s row ≡ true) ⊎ (is_desk s row ≡ false) → is_desk s row ≡ false
    by_test (inl mine) =
        absurd (both_ways (is_desk d row) (ap (λ t. same_text t d) (text_from_same row.desk s mine) ∙ apart) e)
    by_test (inr other) = other

hidden_desks : (d s : Text) (f : Desk → Desk) → ((row : Desk) → (f row).desk ≡ row.desk) → same_text s d ≡ false
    → (xs : List Desk) → find (is_desk d) (changed (is_desk s) f xs) ≡ find (is_desk d) xs
hidden_desks d s f keeps apart xs =
    find_hidden (is_desk d) (is_desk s) f (λ row. ap (λ t. same_text t d) (keeps row)) (apart_desks d s apart) xs

-- ---- tests are within one desk

plan_within : (s : Text) (n : ℕ) (row : Plan) → is_plan s n row ≡ true → is_plan_of s row ≡ true
plan_within s n row e = (and_parts (is_plan_of s row) (row.n == n) e).0

binds_within : (s : Text) (n : ℕ) (row : Bind) → is_bind_of s n row ≡ true → is_bind_by s row ≡ true
binds_within s n row e = (and_parts (is_bind_by s row) (row.n == n) e).0

bind_within : (s : Text) (n place : ℕ) (row : Bind) → is_bind s n place row ≡ true → is_bind_by s row ≡ true
bind_within s n place row e = binds_within s n row (and_parts (is_bind_of s n row) (row.place == place) e).0

lags_within : (s : Text) (n : ℕ) (row : Lag) → is_lag_of s n row ≡ true → is_lag_by s row ≡ true
lags_within s n row e = (and_parts (is_lag_by s row) (row.n == n) e).0

lag_within : (s : Text) (n i j : ℕ) (row : Lag) → is_lag s n i j row ≡ true → is_lag_by s row ≡ true
lag_within s n i j row e = lags_within s n row (and_parts (is_lag_of s n row) ((row.source == i) && (row.target == j)) e).0

-- ---- lags

seen_lags : (d s : Text) (n i j lag : ℕ) (xs : List Lag)
    → filter (is_lag_by d) (lags_after s n i j lag xs) ≡ filter (is_lag_by d) (lags_after s n i j lag (filter (is_lag_by d) xs))
seen_lags d s n i j lag xs = by_zero (cases_Bool (lag == 0))
  where
    ys : List Lag
    ys = filter (is_lag_by d) xs

    q : Lag → Bool
    q = is_lag s n i j

    put_in : List Lag → List Lag
    put_in rows = put q (with_lag lag) (new_lag s n i j lag) rows

    by_zero : ((lag == 0) ≡ true) ⊎ ((lag == 0) ≡ false)
        → filter (is_lag_by d) (lags_after s n i j lag xs) ≡ filter (is_lag_by d) (lags_after s n i j lag ys)
    by_zero (inl e) =
        ap (filter (is_lag_by d)) (cond-true (lag == 0) (without q xs) (put_in xs) e)
        ∙ seen_without lag_owner d q xs
        ∙ sym (ap (filter (is_lag_by d)) (cond-true (lag == 0) (without q ys) (put_in ys) e))
    by_zero (inr e) =
        ap (filter (is_lag_by d)) (cond-false (lag == 0) (without q xs) (put_in xs) e)
        ∙ seen_put lag_owner d s q (with_lag lag) (new_lag s n i j lag) (λ row. refl) (lag_within s n i j) refl xs
        ∙ sym (ap (filter (is_lag_by d)) (cond-false (lag == 0) (without q ys) (put_in ys) e))

hidden_lags : (d s : Text) (n i j lag : ℕ) → same_text s d ≡ false → (xs : List Lag)
    → filter (is_lag_by d) (lags_after s n i j lag xs) ≡ filter (is_lag_by d) xs
hidden_lags d s n i j lag apart xs = by_zero (cases_Bool (lag == 0))
  where
    q : Lag → Bool
    q = is_lag s n i j

    put_in : List Lag
    put_in = put q (with_lag lag) (new_lag s n i j lag) xs

    by_zero : ((lag == 0) ≡ true) ⊎ ((lag == 0) ≡ false)
        → filter (is_lag_by d) (lags_after s n i j lag xs) ≡ filter (is_lag_by d) xs
    by_zero (inl e) =
        ap (filter (is_lag_by d)) (cond-true (lag == 0) (without q xs) put_in e)
        ∙ hidden_without lag_owner d s q apart (lag_within s n i j) xs
    by_zero (inr e) =
        ap (filter (is_lag_by d)) (cond-false (lag == 0) (without q xs) put_in e)
        ∙ hidden_put lag_owner d s q (with_lag lag) (new_lag s n i j lag) (λ row. refl) apart (lag_within s n i j) refl xs

-- ---- plans

-- the number that a new plan gets is seen by its own desk, and no other sees the plan
seen_plans : (d s : Text) (kind : _) (name body : Text) (w : World)
    → filter (is_plan_of d) (w.plans ++ new_plan s (next_of (desk_in w s)) kind name body ∷ [])
    ≡ filter (is_plan_of d) (filter (is_plan_of d) w.plans ++ new_plan s (next_of (desk_in (alone (view d w)) s)) kind name body ∷ [])
seen_plans d s kind name body w = by_owner (cases_Bool (same_text s d))
  where
    added : ℕ → List Plan
    added n = filter (is_plan_of d) (w.plans ++ new_plan s n kind name body ∷ [])

    seen_added_in : ℕ → List Plan
    seen_added_in n = filter (is_plan_of d) (filter (is_plan_of d) w.plans ++ new_plan s n kind name body ∷ [])

    by_owner : (same_text s d ≡ true) ⊎ (same_text s d ≡ false)
        → added (next_of (desk_in w s)) ≡ seen_added_in (next_of (desk_in (alone (view d w)) s))
    by_owner (inl same) =
        let e : d ≡ s = sym (text_from_same s d same) in
        let number : desk_in w s ≡ desk_in (alone (view d w)) s =
        subst (λ t. desk_in w t ≡ desk_in (alone (view d w)) t) e (sym (find_again (is_desk d) w.desks)) in
        seen_added plan_owner d (new_plan s (next_of (desk_in w s)) kind name body) w.plans
        ∙ ap (λ o. seen_added_in (next_of o)) number
    by_owner (inr apart) =
        hidden_added plan_owner d (new_plan s (next_of (desk_in w s)) kind name body) apart w.plans
        ∙ sym (filter_again (is_plan_of d) w.plans)
        ∙ sym (hidden_added plan_owner d (new_plan s (next_of (desk_in (alone (view d w)) s)) kind name body) apart (filter (is_plan_of d) w.plans))

-- ---- all changes

-- a change is seen as it would be in an office that has the rows of the desk alone
pub seen : (d s : Text) (c : Change) (w : World) → view d (apply s c w) ≡ view d (apply s c (alone (view d w)))
seen d s Keep w = sym (view_alone d w)
seen d s (Publish code kind capacity) w =
    same_view (view d (apply s (Publish code kind capacity) w)) (view d (apply s (Publish code kind capacity) (alone (view d w)))) refl refl
    (sym (find_again (is_desk d) w.desks)) (sym (filter_again (is_plan_of d) w.plans))
    (sym (filter_again (is_bind_by d) w.binds)) (sym (filter_again (is_lag_by d) w.lags))
seen d s (OpenDesk digest) w =
    same_view (view d (apply s (OpenDesk digest) w)) (view d (apply s (OpenDesk digest) (alone (view d w)))) refl refl
    (seen_opened d (new_desk s digest) w.desks) (sym (filter_again (is_plan_of d) w.plans))
    (sym (filter_again (is_bind_by d) w.binds)) (sym (filter_again (is_lag_by d) w.lags))
seen d s (SetKey digest) w =
    same_view (view d (apply s (SetKey digest) w)) (view d (apply s (SetKey digest) (alone (view d w)))) refl refl
    (seen_desks d s (with_digest digest) (λ row. refl) w.desks) (sym (filter_again (is_plan_of d) w.plans))
    (sym (filter_again (is_bind_by d) w.binds)) (sym (filter_again (is_lag_by d) w.lags))
seen d s (AddPlan kind name body) w =
    same_view (view d (apply s (AddPlan kind name body) w)) (view d (apply s (AddPlan kind name body) (alone (view d w)))) refl refl
    (seen_desks d s risen (λ row. refl) w.desks) (seen_plans d s kind name body w)
    (sym (filter_again (is_bind_by d) w.binds)) (sym (filter_again (is_lag_by d) w.lags))
seen d s (RemovePlan n) w =
    same_view (view d (apply s (RemovePlan n) w)) (view d (apply s (RemovePlan n) (alone (view d w)))) refl refl
    (sym (find_again (is_desk d) w.desks)) (seen_without plan_owner d (is_plan s n) w.plans)
    (seen_without bind_owner d (is_bind_of s n) w.binds) (seen_without lag_owner d (is_lag_of s n) w.lags)
seen d s (BindPlace n place code) w =
    same_view (view d (apply s (BindPlace n place code) w)) (view d (apply s (BindPlace n place code) (alone (view d w)))) refl refl
    (sym (find_again (is_desk d) w.desks)) (sym (filter_again (is_plan_of d) w.plans))
    (seen_put bind_owner d s (is_bind s n place) (with_code code) (new_bind s n place code) (λ row. refl) (bind_within s n place) refl w.binds)
    (sym (filter_again (is_lag_by d) w.lags))
seen d s (SetCalendar n start days) w =
    same_view (view d (apply s (SetCalendar n start days) w)) (view d (apply s (SetCalendar n start days) (alone (view d w)))) refl refl
    (sym (find_again (is_desk d) w.desks)) (seen_changed plan_owner d (is_plan s n) (with_calendar start days) (λ row. refl) w.plans)
    (sym (filter_again (is_bind_by d) w.binds)) (sym (filter_again (is_lag_by d) w.lags))
seen d s (SetLag n i j lag) w =
    same_view (view d (apply s (SetLag n i j lag) w)) (view d (apply s (SetLag n i j lag) (alone (view d w)))) refl refl
    (sym (find_again (is_desk d) w.desks)) (sym (filter_again (is_plan_of d) w.plans))
    (sym (filter_again (is_bind_by d) w.binds)) (seen_lags d s n i j lag w.lags)

-- a change that is made for another desk, and publishes nothing, is not seen
pub hidden : (d s : Text) (c : Change) (w : World) → same_text s d ≡ false → is_publishing c ≡ false → view d (apply s c w) ≡ view d w
hidden d s Keep w apart quiet = refl
hidden d s (Publish code kind capacity) w apart quiet = absurd (both_ways true quiet refl)
hidden d s (OpenDesk digest) w apart quiet =
    same_view (view d (apply s (OpenDesk digest) w)) (view d w) refl refl
    (find_past_new (is_desk d) (new_desk s digest) apart w.desks) refl refl refl
hidden d s (SetKey digest) w apart quiet =
    same_view (view d (apply s (SetKey digest) w)) (view d w) refl refl
    (hidden_desks d s (with_digest digest) (λ row. refl) apart w.desks) refl refl refl
hidden d s (AddPlan kind name body) w apart quiet =
    same_view (view d (apply s (AddPlan kind name body) w)) (view d w) refl refl
    (hidden_desks d s risen (λ row. refl) apart w.desks)
    (hidden_added plan_owner d (new_plan s (next_of (desk_in w s)) kind name body) apart w.plans) refl refl
hidden d s (RemovePlan n) w apart quiet =
    same_view (view d (apply s (RemovePlan n) w)) (view d w) refl refl refl
    (hidden_without plan_owner d s (is_plan s n) apart (plan_within s n) w.plans)
    (hidden_without bind_owner d s (is_bind_of s n) apart (binds_within s n) w.binds)
    (hidden_without lag_owner d s (is_lag_of s n) apart (lags_within s n) w.lags)
hidden d s (BindPlace n place code) w apart quiet =
    same_view (view d (apply s (BindPlace n place code) w)) (view d w) refl refl refl refl
    (hidden_put bind_owner d s (is_bind s n place) (with_code code) (new_bind s n place code) (λ row. refl) apart (bind_within s n place) refl w.binds) refl
hidden d s (SetCalendar n start days) w apart quiet =
    same_view (view d (apply s (SetCalendar n start days) w)) (view d w) refl refl refl
    (hidden_changed plan_owner d s (is_plan s n) (with_calendar start days) (λ row. refl) apart (plan_within s n) w.plans) refl refl
hidden d s (SetLag n i j lag) w apart quiet =
    same_view (view d (apply s (SetLag n i j lag) w)) (view d w) refl refl refl refl refl (hidden_lags d s n i j lag apart w.lags)
