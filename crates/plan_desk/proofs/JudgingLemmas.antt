-- A request with the key gets the decision on its call, and any other request is refused.
use Rattle.std.proofs.Common.{◌≡◌, Bool, true, false, refl, sym, ◌∙◌, subst}
use Rattle.plan_desk.specs.declared.change.Decision.{Decision}
use Rattle.plan_desk.specs.declared.reply.Reply as whole
use Rattle.plan_desk.specs.declared.change.Change.TheVariants as made
use Rattle.plan_rows.specs.World.{Text}
use Rattle.plan_rows.specs.Changes.{Change, Keep}
use Rattle.plan_rows.specs.Views.{View}
use Rattle.plan_desk.specs.Calls.{Request, Reply, no_key, admits}
use Rattle.plan_desk.specs.Stories.{decided}
use Rattle.plan_desk.specs.Decisions.{Answers, IsDecision}
use Rattle.plan_desk.specs.Replies.{reply_of}
use Rattle.plan_desk.specs.BookSteps.{IsDecided}
use Rattle.plan_desk.proofs.RouteLemmas.{decides_kept}

admitted : (v : View) (r : Request) (reply : Reply) (c : Change) → admits v r ≡ true → Answers v r.call reply c → IsDecision v r reply c
unfolding IsDecision
admitted v r reply c key h = subst (λ (b : Bool). decided b (Answers v r.call) reply c) (sym key) h

locked : (v : View) (r : Request) → admits v r ≡ false → IsDecision v r no_key Keep
unfolding IsDecision
locked v r key = subst (λ (b : Bool). decided b (Answers v r.call) no_key Keep) (sym key) (refl, refl)

-- with the key
pub judged_admitted : (path s : Text) (v : View) (r : Request) (d : Decision) (opens : Bool) → opens ≡ true → opens ≡ admits v r
    → IsDecided path s (λ u. Answers u r.call) v d → IsDecided path s (λ u. IsDecision u r) v d
judged_admitted path s v r d opens is same h = record { answer = admitted v r _ _ (sym same ∙ is) h.answer; owner = h.owner }

-- without it
pub judged_locked : (path s : Text) (v : View) (r : Request) (d : Decision) (reply : whole.Reply) (opens : Bool) → opens ≡ false → opens ≡ admits v r
    → d.reply ≡ reply → d.change ≡ made.Keep → reply_of reply ≡ no_key → IsDecided path s (λ u. IsDecision u r) v d
judged_locked path s v r d reply opens is same told keeps refused = decides_kept path s (λ u. IsDecision u r) v d reply no_key told keeps refused (locked v r (sym same ∙ is))
