-- A route that makes a page of a plan.
use Rattle.std.proofs.Common.{◌≡◌, None, Result, Ok, Err, refl, sym, ◌∙◌, subst}
use Rattle.std.specs.Prelude.{IsErr, IsErrAnd}
use Rattle.plan_rows.specs.declared.fault.BookFault.{BookFault}
use Rattle.plan_desk.specs.declared.reply.Reply as whole
use Rattle.plan_desk.specs.declared.change.Change.TheVariants as made
use Rattle.plan_desk.specs.declared.change.Decision.{Decision}
use Rattle.plan_desk.specs.declared.lookup.FoundPlan.{FoundPlan}
use Rattle.plan_desk.specs.declared.pages.by_rule.RulePage.{RulePage}
use Rattle.plan_desk.specs.declared.pages.by_rule.RulePage.TheVariants as rule_page
use Rattle.plan_rows.specs.World.{Text, World}
use Rattle.plan_rows.specs.Changes.{Keep}
use Rattle.plan_rows.specs.Views.{View, view, alone}
use Rattle.plan_desk.specs.Outcomes.{Outcome}
use Rattle.plan_rows.specs.Plans.{plan_seen}
use Rattle.plan_rows.specs.Rules.{IsWorld}
use Rattle.plan_desk.specs.Laws.{AloneKeepsRules}
use Rattle.plan_desk.specs.Refusals.{not_found}
use Rattle.plan_desk.specs.PlanRoutes.{of_plan}
use Rattle.plan_desk.specs.PageRoutes.{Dates, Schedules, Charts, Days}
use Rattle.plan_desk.specs.BestRoutes.{Best}
use Rattle.plan_desk.specs.RulePages.{ByRule}
use Rattle.plan_desk.specs.Replies.{reply_of}
use Rattle.plan_rows.specs.Books.{Shelf}
use Rattle.plan_desk.specs.Pages.{MakesPage, IsFound}
use Rattle.plan_desk.specs.Lookup.{IsNumbered}
use Rattle.plan_desk.specs.BookSteps.{Finds, IsDecided}
use Rattle.plan_desk.proofs.DecidingLemmas.{found_other}
use Rattle.plan_desk.proofs.RouteLemmas.{decides_kept, given_nothing}
use Rattle.plan_desk.proofs.AloneLemmas.{alone_keeps_rules}

rules_alone : (desk : Text) (w : World) → IsWorld w → IsWorld (alone (view desk w))
unfolding AloneKeepsRules
rules_alone = alone_keeps_rules

-- a plan that is found with its number is found
pub found_is : (v : View) (text : Text) (found : FoundPlan) → IsNumbered v text found → IsFound v text found.plan
found_is v text found is = record { row = is.row; seen = is.seen; answer = is.answer }

module _ {B : Type 0} (shelf : Shelf B) (desk text : Text) (IsSeen : View → Text → Type 0) (Route : View → Text → Outcome) where
  -- the page that was made is the answer
  pub page_found : {X : Type 0} (Is : World → X → Type 0) (a b : B) (x : X) (d : Decision) (reply : whole.Reply) → Finds shelf a b Is (Ok x)
      → ((w : World) → Is w x → IsSeen (view desk w) text) → MakesPage IsSeen Route (Ok reply) → d.reply ≡ reply → d.change ≡ made.Keep
      → Finds shelf a b (λ w decision. IsDecided desk desk (λ v. Route v text) (view desk w) decision) (Ok d)
  page_found Is a b x d reply f seen page told keeps =
      found_other shelf Is _ a b x d f
      (λ w is. decides_kept desk desk (λ v. Route v text) (view desk w) d reply (reply_of reply) told keeps refl (page.shown (view desk w) text (seen w is)))

  -- the store isn't blamed for a page that isn't made
  pub page_lost : {X Y : Type 0} (Is : World → X → Type 0) (And : World → Y → Type 0) (a b : B) (x : X) (fault : BookFault) (result : Result Y BookFault)
      → (shelf.stands b → IsWorld (shelf.world b)) → Finds shelf a b Is (Ok x) → ((w : World) → Is w x → IsSeen (view desk w) text)
      → MakesPage IsSeen Route (Err fault) → IsErr result × IsErrAnd result (λ handed. handed ≡ fault) → Finds shelf a b And result
  page_lost Is And a b x fault (Ok y) whole f seen page h = absurd h.1
  page_lost Is And a b x fault (Err handed) whole f seen page h = record {
    quiet = f.quiet;
    found = tt;
    blamed = λ is honest stands.
        let first = f.found honest stands in
        absurd (page.blamed (sym h.1 ∙ is) (view desk (shelf.world a)) text (seen (shelf.world a) first.1)
        (rules_alone desk (shelf.world a) (subst IsWorld (f.quiet.same honest first.0) (whole first.0))));
    told = tt;
    wanted = λ is. f.told;
    denied = λ is honest stands.
        let first = f.found honest stands in
        absurd (page.blamed (sym h.1 ∙ is) (view desk (shelf.world a)) text (seen (shelf.world a) first.1)
        (rules_alone desk (shelf.world a) (subst IsWorld (f.quiet.same honest first.0) (whole first.0))));
  }

-- ---- no plan has the number

pub no_dates : (v : View) (text : Text) → plan_seen v text ≡ None → Dates v text not_found Keep
unfolding Dates of_plan
no_dates v text is = given_nothing (plan_seen v text) not_found _ is

no_schedule : (v : View) (text rule : Text) → plan_seen v text ≡ None → Schedules v text rule not_found Keep
unfolding Schedules of_plan
no_schedule v text rule is = given_nothing (plan_seen v text) not_found _ is

no_chart : (v : View) (text rule : Text) → plan_seen v text ≡ None → Charts v text rule not_found Keep
unfolding Charts of_plan
no_chart v text rule is = given_nothing (plan_seen v text) not_found _ is

no_days : (v : View) (text rule : Text) → plan_seen v text ≡ None → Days v text rule not_found Keep
unfolding Days of_plan
no_days v text rule is = given_nothing (plan_seen v text) not_found _ is

pub none_by_rule : (page : RulePage) (v : View) (text rule : Text) → plan_seen v text ≡ None
    → ByRule page v text rule not_found Keep
none_by_rule rule_page.Schedule = no_schedule
none_by_rule rule_page.Chart = no_chart
none_by_rule rule_page.Days = no_days

pub no_best : (v : View) (text budget : Text) → plan_seen v text ≡ None → Best v text budget not_found Keep
unfolding Best of_plan
no_best v text budget is = given_nothing (plan_seen v text) not_found _ is
