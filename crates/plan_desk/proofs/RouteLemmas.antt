-- The decision of each path through a route.
use Rattle.std.proofs.Common.{◌≡◌, inl, inr, ℕ, true, false, Option, Some, None, [], List, refl, sym, ap, ◌∙◌, subst}
use Rattle.std.specs.Prelude.{unwrap_or, is_some, not, string_bytes}
use Rattle.std.proofs.lemmas.Bool.{both_ways, cond-true}
use Rattle.sha2.specs.Sha256.{sha256}
use Rattle.plan_desk.specs.declared.change.Change as rows
use Rattle.plan_desk.specs.declared.change.Change.TheVariants as made
use Rattle.plan_desk.specs.declared.change.Decision.{Decision}
use Rattle.plan_desk.specs.declared.reply.Reply as whole
use Rattle.plan_desk.specs.declared.bodies.DeskBody as read
use Rattle.plan_desk.specs.BodyViews.{desk_body_in}
use Rattle.plan_desk.specs.Calls as calls
use Rattle.plan_rows.specs.World.{Text, Digest, Published, Plan, World, code_in, desk_in}
use Rattle.plan_rows.specs.Names.{is_key, key_digest_of}
use Rattle.plan_rows.specs.Changes.{Keep, Publish, OpenDesk, SetKey, RemovePlan}
use Rattle.plan_desk.specs.Calls.{Reply, answer}
use Rattle.plan_rows.specs.Views.{View, view}
use Rattle.plan_desk.specs.Bodies.{PublishBody, publish_body, DeskBody, desk_body, desk_named, key_body}
use Rattle.plan_desk.specs.Outcomes.{Outcome, refuses, tells, makes, unless, given}
use Rattle.plan_rows.specs.Plans.{plan_seen}
use Rattle.plan_desk.specs.OfficeRoutes.{is_other_kind, Publishes, Opens, SetsKey}
use Rattle.plan_desk.specs.PlanRoutes.{of_plan, Removes}
use Rattle.plan_desk.specs.JsonTexts.{code_text, desk_text, number_text}
use Rattle.plan_desk.specs.Refusals.{not_found, bad_body, desk_exists, kind_differs}
use Rattle.plan_desk.specs.Replies.{reply_of}
use Rattle.plan_desk.specs.BookSteps.{IsDecided, change_in, owner_of}
use Rattle.plan_rows.specs.declared.rows.DeskRow.{DeskRow}
use Rattle.plan_rows.specs.Books.{Matches, IsDeskAnswer}
use Rattle.plan_desk.proofs.FitLemmas.{desk_says}
use Rattle.plan_desk.proofs.RefusedLemmas.{refused_by, passed_by, given_there}

-- a reply without a change
pub decides_kept : (path s : Text) (Route : View → Outcome) (v : View) (d : Decision) (r : whole.Reply) (reply : Reply) → d.reply ≡ r → d.change ≡ made.Keep
    → reply_of r ≡ reply → Route v reply Keep → IsDecided path s Route v d
decides_kept path s Route v d r reply same keeps is route = record {
  answer = subst (λ c. Route v (reply_of d.reply) (change_in c)) (sym keeps) (subst (λ x. Route v x Keep) (sym (ap reply_of same ∙ is)) route);
  owner = inl (ap change_in keeps);
}

-- a reply with a change for the desk of the path
pub decides_made : (path : Text) (Route : View → Outcome) (v : View) (r : whole.Reply) (c : rows.Change) (reply : Reply) → owner_of path c ≡ path
    → reply_of r ≡ reply → Route v reply (change_in c) → IsDecided path path Route v (record { reply = r; change = c })
decides_made path Route v r c reply own is route = record {
  answer = subst (λ x. Route v x (change_in c)) (sym is) route;
  owner = inr own;
}

pub given_nothing : {A : Type 0} (o : Option A) (r : Reply) (Rest : A → Outcome) → o ≡ None → given o r Rest r Keep
unfolding given refuses
given_nothing o r Rest is = subst (λ (found : Option _). given found r Rest r Keep) (sym is) (refl, refl)

-- the reply with a list
pub tells_so : (text : Text) (reply : Reply) → reply ≡ answer 200 text → tells text reply Keep
unfolding tells
tells_so text reply is = (is, refl)

-- a key has a digest
pub digest_of_key : (key : Text) (o : Option Digest) → is_key key ≡ true → o ≡ key_digest_of key → o ≡ Some (sha256 key)
digest_of_key key o is same = same ∙ cond-true (is_key key) (Some (sha256 key)) None is

pub has_digest : (key : Text) (o : Option Digest) → is_key key ≡ true → o ≡ key_digest_of key → o ≡ None → ⊥
has_digest key o is same none = both_ways true (ap (λ (found : Option Digest). is_some found) (sym (digest_of_key key o is same) ∙ none)) refl

-- ---- publishing

pub publishes_nothing : (rows : List Published) (body : Text) → publish_body body ≡ None → Publishes rows body bad_body Keep
unfolding Publishes
publishes_nothing rows body is = given_nothing (publish_body body) bad_body _ is

pub publishes_other : (rows : List Published) (body code : Text) (b : PublishBody) → publish_body body ≡ Some b → code ≡ b.code
    → is_other_kind b.kind (code_in rows code) ≡ true → Publishes rows body kind_differs Keep
unfolding Publishes
publishes_other rows body code b is same other =
    given_there (publish_body body) b bad_body _ _ _ is (refused_by _ _ _ _ (subst (λ t. is_other_kind b.kind (code_in rows t) ≡ true) same other) refl)

pub publishes_made : (rows : List Published) (body code : Text) (b : PublishBody) → publish_body body ≡ Some b → code ≡ b.code
    → is_other_kind b.kind (code_in rows code) ≡ false → Publishes rows body (answer 200 (code_text b.code b.kind b.capacity)) (Publish b.code b.kind b.capacity)
unfolding Publishes makes
publishes_made rows body code b is same own =
    given_there (publish_body body) b bad_body _ _ _ is
    (passed_by _ _ _ _ _ (subst (λ t. is_other_kind b.kind (code_in rows t) ≡ false) same own) (refl, refl))

-- ---- opening

pub opens_nothing : (v : View) (body : Text) → desk_body body ≡ None → Opens v body bad_body Keep
unfolding Opens
opens_nothing v body is = given_nothing (desk_body body) bad_body _ is

-- a book answers with a row exactly if the row exists
pub as_there : {A X : Type 0} (Is : A → X → Type 0) (o : Option A) (row : Option X) → Matches Is o row → is_some o ≡ is_some row
as_there Is None None h = refl
as_there Is None (Some x) h = absurd h
as_there Is (Some row) None h = absurd h
as_there Is (Some row) (Some x) h = refl

-- the desk that an opening body names, by its name and key
abbrev pub opened : Text → Text
opened body = unwrap_or (desk_named body) []

pub opened_is : (body : Text) (b : DeskBody) → desk_body body ≡ Some b → opened body ≡ b.desk
opened_is body b is = ap (λ (o : Option Text). unwrap_or o []) (desk_says body b is).1

opened_there : (w : World) (body name : Text) (b : DeskBody) (row : Option DeskRow) → desk_body body ≡ Some b → name ≡ b.desk
    → Matches IsDeskAnswer (desk_in w name) row → is_some (desk_in w (opened body)) ≡ is_some row
opened_there w body name b row is same answer =
    subst (λ t. is_some (desk_in w t) ≡ is_some row) (same ∙ sym (opened_is body b is)) (as_there IsDeskAnswer (desk_in w name) row answer)

pub opens_there : (w : World) (body name : Text) (b : DeskBody) (row : Option DeskRow) → desk_body body ≡ Some b → name ≡ b.desk
    → Matches IsDeskAnswer (desk_in w name) row → is_some row ≡ true → Opens (view (opened body) w) body desk_exists Keep
unfolding Opens
opens_there w body name b row is same answer there =
    given_there (desk_body body) b bad_body _ _ _ is (refused_by _ _ _ _ (opened_there w body name b row is same answer ∙ there) refl)

pub opens_made : (w : World) (body name : Text) (b : DeskBody) (row : Option DeskRow) → desk_body body ≡ Some b → name ≡ b.desk
    → Matches IsDeskAnswer (desk_in w name) row → is_some row ≡ false
    → Opens (view (opened body) w) body (answer 201 (desk_text b.desk)) (OpenDesk (sha256 b.key))
unfolding Opens makes
opens_made w body name b row is same answer absent =
    given_there (desk_body body) b bad_body _ _ _ is (passed_by _ _ _ _ _ (opened_there w body name b row is same answer ∙ absent) (refl, refl))

-- the decision that opens a desk
pub opens_by : (w : World) (body name told : Text) (b : read.DeskBody) (row : Option DeskRow) (digest : Digest) (r : whole.Reply)
    → desk_body body ≡ Some (desk_body_in b) → name ≡ string_bytes b.desk → told ≡ string_bytes b.desk → Some digest ≡ Some (sha256 (string_bytes b.key))
    → Matches IsDeskAnswer (desk_in w name) row → is_some row ≡ false → reply_of r ≡ answer 201 (desk_text told)
    → IsDecided [] (opened body) (λ v. Opens v body) (view (opened body) w) (record { reply = r; change = made.OpenDesk b.desk digest })
opens_by w body name told b row digest r is same again own answer absent made_so = record {
  answer = subst (λ x. Opens (view (opened body) w) body x (OpenDesk digest)) (sym (made_so ∙ ap (λ t. calls.answer 201 (desk_text t)) again))
      (subst (λ d. Opens (view (opened body) w) body (calls.answer 201 (desk_text (string_bytes b.desk)))
      (OpenDesk d)) (sym (ap (λ o. unwrap_or o []) own))
      (opens_made w body name _ row is same answer absent));
  owner = inr (sym (opened_is body _ is));
}

-- ---- setting a key

pub sets_key_nowhere : (v : View) (desk body : Text) → not (is_some v.desk) ≡ true → SetsKey v desk body not_found Keep
unfolding SetsKey
sets_key_nowhere v desk body absent = refused_by _ _ _ _ absent refl

pub sets_no_key : (v : View) (desk body : Text) → not (is_some v.desk) ≡ false → key_body body ≡ None → SetsKey v desk body bad_body Keep
unfolding SetsKey
sets_no_key v desk body there is = passed_by _ _ _ _ _ there (given_nothing (key_body body) bad_body _ is)

pub sets_key_by : (v : View) (desk body key : Text) (digest : Digest) → not (is_some v.desk) ≡ false → key_body body ≡ Some key → Some digest ≡ Some (sha256 key)
    → SetsKey v desk body (answer 200 (desk_text desk)) (SetKey digest)
unfolding SetsKey makes
sets_key_by v desk body key digest there is own =
    subst (λ d. unless (not (is_some v.desk)) not_found (given (key_body body) bad_body (λ k. makes 200 (desk_text desk) (SetKey (sha256 k)))) (answer 200 (desk_text desk)) (SetKey d))
    (sym (ap (λ o. unwrap_or o []) own))
    (passed_by _ _ _ _ _ there (given_there (key_body body) key bad_body _ _ _ is (refl, refl)))

-- the desk of a path, from the answer of a book
pub desk_absent : (w : World) (desk : Text) (row : Option DeskRow) → Matches IsDeskAnswer (desk_in w desk) row → is_some row ≡ false → not (is_some (desk_in w desk)) ≡ true
desk_absent w desk row answer absent = ap not (as_there IsDeskAnswer (desk_in w desk) row answer ∙ absent)

pub desk_there : (w : World) (desk : Text) (row : Option DeskRow) → Matches IsDeskAnswer (desk_in w desk) row → is_some row ≡ true → not (is_some (desk_in w desk)) ≡ false
desk_there w desk row answer there = ap not (as_there IsDeskAnswer (desk_in w desk) row answer ∙ there)

-- ---- removing

pub removes_nothing : (v : View) (text : Text) → plan_seen v text ≡ None → Removes v text not_found Keep
unfolding Removes of_plan
removes_nothing v text is = given_nothing (plan_seen v text) not_found _ is

pub removes_made : (v : View) (text : Text) (plan : Plan) (n : ℕ) → plan_seen v text ≡ Some plan → plan.n ≡ n → Removes v text (answer 200 (number_text n)) (RemovePlan n)
unfolding Removes of_plan makes
removes_made v text plan n is number =
    subst (λ (m : ℕ). given (plan_seen v text) not_found (λ row. makes 200 (number_text row.n) (RemovePlan row.n)) (answer 200 (number_text m)) (RemovePlan m)) number
    (given_there (plan_seen v text) plan not_found _ _ _ is (refl, refl))
