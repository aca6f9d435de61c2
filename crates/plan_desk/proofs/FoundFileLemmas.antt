-- Files of plans that desks see are read again without a fault.
use Rattle.std.proofs.Common.{◌≡◌, ℕ, Some, Result, Ok, Err, sym, ◌∙◌, subst}
use Rattle.std.specs.Prelude.{IfErr, IsErr, IsErrAnd, string_bytes}
use Rattle.plan_psplib.specs.Project.{Project, SaysProject}
use Rattle.plan_rows.specs.declared.kinds.PlanKind.{PlanKind}
use Rattle.plan_rows.specs.declared.kinds.PlanKind.TheVariants as kinds
use Rattle.plan_rows.specs.declared.fault.BookFault.{BookFault}
use Rattle.plan_rows.specs.declared.fault.BookFault.TheVariants.{Store}
use Rattle.plan_desk.specs.declared.lookup.FoundPlan.{FoundPlan}
use Rattle.plan_rows.specs.declared.rows.PlanRow.{PlanRow}
use Rattle.plan_rows.specs.World.{Text, World, is_plan}
use Rattle.plan_rows.specs.Views.{View, view}
use Rattle.plan_rows.specs.Plans.{HasPlaces}
use Rattle.plan_rows.specs.Rules.{IsWorld, IsPlanRow}
use Rattle.plan_rows.specs.Books.{Shelf}
use Rattle.plan_desk.specs.Lookup.{IsNumbered, FindsPlan}
use Rattle.plan_desk.specs.FoundFiles.{RowHasPlaces}
use Rattle.plan_desk.specs.BookSteps.{Finds}
use Rattle.plan_desk.proofs.FitLemmas.{seen_there}
use Rattle.plan_rows.proofs.RuleLemmas.{found_has}

-- a fault that is returned unchanged has the same blame
pub blamed_on : {X : Type 0} (result : Result X BookFault) (fault : BookFault) (Blamed : Type 0) → IsErr result × IsErrAnd result (λ handed. handed ≡ fault)
    → (fault ≡ Store → Blamed) → IfErr result (λ handed. handed ≡ Store → Blamed)
blamed_on (Ok x) fault Blamed h blamed = tt
blamed_on (Err handed) fault Blamed h blamed = λ is. blamed (sym h.1 ∙ is)

-- a project's row has no number of places if its file spells no project
pub unread_project : (row : PlanRow) (body : Text) → row.kind ≡ kinds.Project → body ≡ row.body.items → ((p : Project) → SaysProject body p → ⊥) → (count : ℕ)
    → RowHasPlaces row count → ⊥
unread_project row body kind same unsaid count has =
    let said = subst (λ (k : PlanKind). HasPlaces k (string_bytes row.name) row.body.items count) kind has in
    unsaid said.0 (subst (λ (t : Text). SaysProject t said.0) (sym same) said.1)

-- the places of a plan that was found are those of its row
pub places_of_row : (v : View) (text : Text) (found : FoundPlan) (is : IsNumbered v text found) (count : ℕ) → RowHasPlaces found.plan count
    → HasPlaces is.row.kind is.row.name is.row.body count
places_of_row v text found is count has =
    subst (λ (k : PlanKind). HasPlaces k is.row.name is.row.body count) is.answer.kind
    (subst (λ (t : Text). HasPlaces found.plan.kind t is.row.body count) is.answer.name
    (subst (λ (t : Text). HasPlaces found.plan.kind (string_bytes found.plan.name) t count) is.answer.body has))

places_there : (v : View) (text : Text) (found : FoundPlan) (is : IsNumbered v text found) (count : ℕ) → HasPlaces is.row.kind is.row.name is.row.body count
    → RowHasPlaces found.plan count
places_there v text found is count has =
    subst (λ (t : Text). HasPlaces found.plan.kind (string_bytes found.plan.name) t count) (sym is.answer.body)
    (subst (λ (t : Text). HasPlaces found.plan.kind t is.row.body count) (sym is.answer.name)
    (subst (λ (k : PlanKind). HasPlaces k is.row.name is.row.body count) (sym is.answer.kind) has))

-- a plan that a desk sees has its places
pub found_has_places : (desk text : Text) (w : World) (found : FoundPlan) → IsWorld w → IsNumbered (view desk w) text found → (count : ℕ) × RowHasPlaces found.plan count
found_has_places desk text w found rules is =
    let there = seen_there desk w text is.row is.seen in
    let kept = (found_has IsPlanRow (is_plan desk is.row.n) w.plans is.row there rules.plans).0 in
    (kept.reads.0, places_there (view desk w) text found is kept.reads.0 kept.reads.1)

module _ {B : Type 0} (shelf : Shelf B) where
  -- the store isn't blamed for a plan that was found
  pub unread : {Y : Type 0} (And : World → Y → Type 0) (desk text : Text) (a b : B) (found : FoundPlan) (fault : BookFault) (result : Result Y BookFault)
      → ((book : B) → shelf.stands book → IsWorld (shelf.world book)) → Finds shelf a b (λ w. FindsPlan (view desk w) text) (Ok (Some found))
      → (fault ≡ Store → (count : ℕ) → RowHasPlaces found.plan count → ⊥) → IsErr result × IsErrAnd result (λ handed. handed ≡ fault)
      → Finds shelf a b And result
  unread And desk text a b found fault (Ok y) whole f blamed h = absurd h.1
  unread And desk text a b found fault (Err handed) whole f blamed h = record {
    quiet = f.quiet;
    found = tt;
    blamed = λ is honest stands.
        let has = found_has_places desk text (shelf.world a) found (whole a stands) (f.found honest stands).1 in
        absurd (blamed (sym h.1 ∙ is) has.0 has.1);
    told = tt;
    wanted = λ is. f.told;
    denied = λ is honest stands.
        let has = found_has_places desk text (shelf.world a) found (whole a stands) (f.found honest stands).1 in
        absurd (blamed (sym h.1 ∙ is) has.0 has.1);
  }
