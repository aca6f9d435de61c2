-- The refusals that functions of values return are the replies of the routes.
use Rattle.std.proofs.Common.{◌≡◌, inl, inr, ℕ, Bool, true, false, Option, Some, None, length, refl, sym, ap, subst}
use Rattle.std.specs.Prelude.{option_map, unwrap_or, is_some, not, if◌then◌else◌, nat_le}
use Rattle.std.proofs.lemmas.Bool.{both_ways, lt-leb, le-leb}
use Rattle.plan_rows.specs.declared.kinds.Kind.{Kind}
use Rattle.plan_rows.specs.declared.kinds.PlanKind.{PlanKind}
use Rattle.plan_rows.specs.declared.kinds.PlanKind.TheVariants as kinds
use Rattle.plan_psplib.specs.Project.{Project, SaysProject}
use Rattle.plan_rows.specs.World.{Text, Published, Desk, Plan, same_kind, takes, code_in}
use Rattle.plan_rows.specs.Changes.{Change, Keep, AddPlan, BindPlace, SetLag}
use Rattle.plan_desk.specs.Calls.{Reply, answer}
use Rattle.plan_rows.specs.Views.{View}
use Rattle.plan_desk.specs.Bodies.{BindBody, LagBody, bind_body, lag_body}
use Rattle.plan_desk.specs.Outcomes.{Outcome, refuses, makes, unless, given, some, why_or}
use Rattle.plan_rows.specs.Plans.{plan_seen, HasPlaces, is_place}
use Rattle.plan_desk.specs.OfficeRoutes.{is_other_kind}
use Rattle.plan_desk.specs.JsonTexts.{plan_text, bind_text, lag_text}
use Rattle.plan_desk.specs.PlanRoutes.{of_plan, by_kind, Imports, Binds, SetsLag}
use Rattle.plan_rows.specs.Plans.{has_arc}
use Rattle.plan_desk.specs.Refusals.{not_found, bad_body, unpublished, kind_differs, other_kind, many_plans, numbers_spent, bad_file}
use Rattle.plan_desk.specs.RouteRefusals.{TellsFileFault, IsFileRefusal, IsImportRefusal, bind_refusal_of, lag_refusal_of}

pub same_reply : (a b : Reply) → Some a ≡ Some b → a ≡ b
same_reply a b e = ap (λ (o : Option Reply). unwrap_or o a) e

pub not_none : (r : Reply) → Some r ≡ None → ⊥
not_none r e = both_ways true (ap (λ (o : Option Reply). is_some o) e) refl

-- the test of a refusal holds
pub refused_by : (b : Bool) (r : Reply) (Rest : Outcome) (reply : Reply) → b ≡ true → reply ≡ r → unless b r Rest reply Keep
unfolding unless refuses
refused_by true r Rest reply holds e = (e, refl)
refused_by false r Rest reply holds e = absurd (both_ways false refl holds)

-- the test of a refusal doesn't hold
pub passed_by : (b : Bool) (r : Reply) (Rest : Outcome) (reply : Reply) (c : Change) → b ≡ false → Rest reply c → unless b r Rest reply c
unfolding unless
passed_by true r Rest reply c fails rest = absurd (both_ways true fails refl)
passed_by false r Rest reply c fails rest = rest

pub given_there : {A : Type 0} (o : Option A) (x : A) (r : Reply) (Rest : A → Outcome) (reply : Reply) (c : Change) → o ≡ Some x → Rest x reply c → given o r Rest reply c
unfolding given
given_there o x r Rest reply c there rest = subst (λ (found : Option _). given found r Rest reply c) (sym there) rest

file_refused : {A : Type 0} (kind : PlanKind) (name body : Text) (Reads : A → Type 0) (Rest : A → Outcome) (reply : Reply)
    → IsFileRefusal kind name body (Some reply) → why_or (TellsFileFault kind name body) bad_file Reads Rest reply Keep
unfolding why_or some refuses
file_refused kind name body Reads Rest reply (line, told, e) = inl (line, told, (e, refl))

limits_refused : (held next : ℕ) (kind : PlanKind) (name body : Text) (Rest : Outcome) (reply : Reply)
    → (IsFileRefusal kind name body (Some reply) → Rest reply Keep) → IsImportRefusal held next kind name body (Some reply)
    → unless (nat_le 100 held) many_plans (unless (nat_le 1000001 next) numbers_spent Rest) reply Keep
limits_refused held next kind name body Rest reply rest (inl (full, e)) =
    refused_by _ _ _ reply (le-leb 100 held full) (same_reply _ _ e)
limits_refused held next kind name body Rest reply rest (inr (inl (free, spent, e))) =
    passed_by _ _ _ reply Keep (lt-leb 100 held free) (refused_by _ _ _ reply (le-leb 1000001 next spent) (same_reply _ _ e))
limits_refused held next kind name body Rest reply rest (inr (inr (free, unspent, file))) =
    passed_by _ _ _ reply Keep (lt-leb 100 held free) (passed_by _ _ _ reply Keep (lt-leb 1000001 next unspent) (rest file))

limits_passed : (held next : ℕ) (kind : PlanKind) (name body : Text) (Rest : Outcome) (reply : Reply) (c : Change) → Rest reply c
    → IsImportRefusal held next kind name body None → unless (nat_le 100 held) many_plans (unless (nat_le 1000001 next) numbers_spent Rest) reply c
limits_passed held next kind name body Rest reply c rest (inl (full, e)) = absurd (not_none _ (sym e))
limits_passed held next kind name body Rest reply c rest (inr (inl (free, spent, e))) = absurd (not_none _ (sym e))
limits_passed held next kind name body Rest reply c rest (inr (inr (free, unspent, file))) =
    passed_by _ _ _ reply c (lt-leb 100 held free) (passed_by _ _ _ reply c (lt-leb 1000001 next unspent) rest)

file_kept : {A : Type 0} (kind : PlanKind) (name body : Text) (Reads : A → Type 0) (Rest : A → Outcome) (x : A) (reply : Reply) (c : Change)
    → Reads x → Rest x reply c → why_or (TellsFileFault kind name body) bad_file Reads Rest reply c
unfolding why_or some
file_kept kind name body Reads Rest x reply c reads rest = inr (x, reads, rest)

-- an import that isn't refused is stored
pub imports_kept : {A : Type 0} (v : View) (row : Desk) (kind : PlanKind) (name body : Text) (Reads : A → Type 0) (x : A) → v.desk ≡ Some row
    → Reads x → IsImportRefusal (length v.plans) row.next kind name body None
    → Imports v kind name body (TellsFileFault kind name body) Reads (answer 201 (plan_text row.next kind)) (AddPlan kind name body)
unfolding Imports makes
imports_kept v row kind name body Reads x there reads kept =
    given_there v.desk row not_found _ _ _ there
    (limits_passed (length v.plans) row.next kind name body _ _ _ (file_kept kind name body Reads _ x _ _ reads (refl, refl)) kept)

-- the refusal of an import is the reply to the desk
pub imports_refused : {A : Type 0} (v : View) (row : Desk) (kind : PlanKind) (name body : Text) (Reads : A → Type 0) (reply : Reply) → v.desk ≡ Some row
    → IsImportRefusal (length v.plans) row.next kind name body (Some reply) → Imports v kind name body (TellsFileFault kind name body) Reads reply Keep
unfolding Imports
imports_refused v row kind name body Reads reply there refused =
    given_there v.desk row not_found _ reply Keep there
    (limits_refused (length v.plans) row.next kind name body _ reply (file_refused kind name body Reads _ reply) refused)

test_refused : (there : Bool) (r : Reply) (Rest : Outcome) (reply : Reply) → (if there then None else Some r) ≡ Some reply → unless (not there) r Rest reply Keep
unfolding unless refuses
test_refused true r Rest reply e = absurd (both_ways true (ap (λ (o : Option Reply). not (is_some o)) e) refl)
test_refused false r Rest reply e = (sym (same_reply _ _ e), refl)

test_passed : (there : Bool) (r : Reply) (Rest : Outcome) (reply : Reply) (c : Change) → (if there then None else Some r) ≡ None → Rest reply c → unless (not there) r Rest reply c
unfolding unless
test_passed true r Rest reply c e rest = rest
test_passed false r Rest reply c e rest = absurd (not_none r e)

code_refused : (code : Option Published) (kind : Kind) (Rest : Outcome) (reply : Reply)
    → bind_refusal_of (option_map (λ (row : Published). row.kind) code) kind ≡ Some reply
    → unless (not (is_some code)) unpublished (unless (is_other_kind kind code) kind_differs Rest) reply Keep
unfolding unless refuses
code_refused None kind Rest reply e = (sym (same_reply _ _ e), refl)
code_refused (Some row) kind Rest reply e = test_refused (same_kind row.kind kind) kind_differs Rest reply e

-- the refusal of a bind is the reply to the desk
pub binds_refused : (v : View) (plan : Plan) (n body : Text) (count : ℕ) (b : BindBody) (reply : Reply) → plan_seen v n ≡ Some plan
    → HasPlaces plan.kind plan.name plan.body count → bind_body (is_place plan.kind count) body ≡ Some b
    → bind_refusal_of (option_map (λ (row : Published). row.kind) (code_in v.published b.code)) (takes plan.kind) ≡ Some reply
    → Binds v n body reply Keep
unfolding Binds of_plan some
binds_refused v plan n body count b reply there has says e =
    given_there (plan_seen v n) plan not_found _ reply Keep there (
      count,
      has,
      given_there (bind_body (is_place plan.kind count) body) b bad_body _ reply Keep says
          (code_refused (code_in v.published b.code) (takes plan.kind) _ reply e),
    )

-- the project of a plan, unless the plan is a shop
abbrev pub IsProjectIn : Plan → Option Project → Type 0
IsProjectIn plan None = plan.kind ≡ kinds.Shop
IsProjectIn plan (Some p) = (plan.kind ≡ kinds.Project) × SaysProject plan.body p

pub of_kind : (kind other : PlanKind) (OfProject OfShop : Outcome) (reply : Reply) (c : Change) → other ≡ kind → by_kind kind OfProject OfShop reply c
    → by_kind other OfProject OfShop reply c
of_kind kind other OfProject OfShop reply c is h = subst (λ (k : PlanKind). by_kind k OfProject OfShop reply c) (sym is) h

lag_refused : (b : LagBody) (plan : Plan) (project : Option Project) (Rest : Project → Outcome) (reply : Reply) → IsProjectIn plan project
    → lag_refusal_of b project ≡ Some reply
    → by_kind plan.kind
    (some (SaysProject plan.body) (λ p. unless (not (has_arc p.network b.from b.to)) bad_body (Rest p))) (refuses other_kind) reply Keep
unfolding refuses by_kind some
lag_refused b plan None Rest reply is e = of_kind kinds.Shop plan.kind _ _ reply Keep is (sym (same_reply _ _ e), refl)
lag_refused b plan (Some p) Rest reply is e =
    of_kind kinds.Project plan.kind _ _ reply Keep is.0
    (p, is.1, test_refused (has_arc p.network b.from b.to) bad_body (Rest p) reply e)

-- the refusal of a lag is the reply to the desk
pub sets_lag_refused : (v : View) (plan : Plan) (project : Option Project) (n body : Text) (b : LagBody) (reply : Reply) → plan_seen v n ≡ Some plan
    → IsProjectIn plan project → lag_body body ≡ Some b → lag_refusal_of b project ≡ Some reply → SetsLag v n body reply Keep
unfolding SetsLag of_plan
sets_lag_refused v plan project n body b reply there is says e =
    given_there (plan_seen v n) plan not_found _ reply Keep there
    (given_there (lag_body body) b bad_body _ reply Keep says (lag_refused b plan project _ reply is e))

code_passed : (code : Option Published) (kind : Kind) (Rest : Outcome) (reply : Reply) (c : Change)
    → bind_refusal_of (option_map (λ (row : Published). row.kind) code) kind ≡ None → Rest reply c
    → unless (not (is_some code)) unpublished (unless (is_other_kind kind code) kind_differs Rest) reply c
unfolding unless
code_passed None kind Rest reply c e rest = absurd (not_none _ e)
code_passed (Some row) kind Rest reply c e rest = test_passed (same_kind row.kind kind) kind_differs Rest reply c e rest

-- a bind that isn't refused is made
pub binds_made : (v : View) (plan : Plan) (n body : Text) (count : ℕ) (b : BindBody) → plan_seen v n ≡ Some plan
    → HasPlaces plan.kind plan.name plan.body count → bind_body (is_place plan.kind count) body ≡ Some b
    → bind_refusal_of (option_map (λ (row : Published). row.kind) (code_in v.published b.code)) (takes plan.kind) ≡ None
    → Binds v n body (answer 200 (bind_text b.code b.place)) (BindPlace plan.n b.place b.code)
unfolding Binds of_plan some makes
binds_made v plan n body count b there has says e =
    given_there (plan_seen v n) plan not_found _ _ _ there (
      count,
      has,
      given_there (bind_body (is_place plan.kind count) body) b bad_body _ _ _ says
          (code_passed (code_in v.published b.code) (takes plan.kind) _ _ _ e (refl, refl)),
    )

-- a lag that isn't refused is set
pub sets_lag_made : (v : View) (plan : Plan) (p : Project) (n body : Text) (b : LagBody) → plan_seen v n ≡ Some plan → IsProjectIn plan (Some p)
    → lag_body body ≡ Some b → lag_refusal_of b (Some p) ≡ None
    → SetsLag v n body (answer 200 (lag_text b.from b.to b.lag)) (SetLag plan.n b.from b.to b.lag)
unfolding SetsLag of_plan by_kind some makes
sets_lag_made v plan p n body b there is says e =
    given_there (plan_seen v n) plan not_found _ _ _ there
    (given_there (lag_body body) b bad_body _ _ _ says
    (of_kind kinds.Project plan.kind _ _ _ _ is.0
    (p, is.1, test_passed (has_arc p.network b.from b.to) bad_body _ _ _ e (refl, refl))))
