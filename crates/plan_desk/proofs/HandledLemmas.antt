-- A request that was judged and carried out is handled.
use Rattle.std.proofs.Common.{◌≡◌, ◌+◌, ◌≤◌, ◌⊎◌, inl, inr, arith, true, false, ◌&&◌, Option, Some, Ok, Err, refl, sym, ap, ◌∙◌, subst}
use Rattle.std.proofs.lemmas.Bool.{both_ways}
use Rattle.std.specs.Prelude.{nat_lt, Result, IsErr, IsErrAnd, MatchResult}
use Rattle.plan_rows.specs.declared.fault.BookFault.{BookFault}
use Rattle.plan_rows.specs.declared.fault.BookFault.TheVariants.{NoMemory, Store}
use Rattle.plan_desk.specs.declared.change.Decision.{Decision}
use Rattle.plan_rows.specs.World.{Text, World}
use Rattle.plan_rows.specs.Changes.{Change, Keep, Publish, OpenDesk, SetKey, AddPlan, RemovePlan, BindPlace, SetCalendar, SetLag, apply}
use Rattle.plan_rows.specs.Views.{View, view}
use Rattle.plan_desk.specs.Calls.{Request, Reply, subject, writes, is_accepted}
use Rattle.plan_desk.specs.Stories.{IsWant, belongs}
use Rattle.plan_desk.specs.Decisions.{IsDecision, IsStep, IsRealStep}
use Rattle.plan_rows.specs.Books.{Shelf, Writes}
use Rattle.plan_desk.specs.Replies.{reply_of}
use Rattle.plan_desk.specs.BookSteps.{Quiet, Finds, CarriesOut, Handled, IsDecided, Allows, change_in, owner_of, want_of}
use Rattle.plan_rows.specs.Rules.{IsWorld}
use Rattle.plan_desk.proofs.FitLemmas.{decision_allows}
use Rattle.plan_desk.proofs.DecidingLemmas.{Closes, closes_then, quiet_then}
use Rattle.plan_desk.proofs.SortedLemmas.{IsMade, is_keep, Keeps, Makes, sorted_decision, want_unaccepted}
use Rattle.plan_desk.specs.Laws.{OutsideIsUnseen}
use Rattle.plan_desk.proofs.LawLemmas.{outside_is_unseen}

-- a decision of a view, as a step
decided_step : (w : World) (r : Request) (reply : Reply) (c : Change) (after : World) → IsDecision (view (subject r) w) r reply c → after ≡ apply (subject r) c w → IsStep w r reply after
unfolding IsDecision IsStep
decided_step w r reply c after h e = (c, h, e)

step_is_real : (w : World) (r : Request) (reply : Reply) (after : World) → IsStep w r reply after → IsRealStep w r reply after
unfolding IsStep IsRealStep
step_is_real w r reply after h = inl h

want_is_real : (w : World) (r : Request) (reply : Reply) (after : World) → IsWant reply → after ≡ w → IsRealStep w r reply after
unfolding IsRealStep
want_is_real w r reply after h e = inr (h, e)

unseen : (desk : Text) (w : World) (r : Request) (reply : Reply) (after : World)
    → belongs desk (view desk w) r ≡ false → IsRealStep w r reply after → view desk after ≡ view desk w
unfolding OutsideIsUnseen
unseen = outside_is_unseen

want_is : (fault : BookFault) → IsWant (want_of fault)
want_is NoMemory = inl refl
want_is Store = inr refl

-- a reply that is the store's refusal comes from a fault of the store
store_is : (fault : BookFault) → want_of fault ≡ want_of Store → fault ≡ Store
store_is NoMemory e = absurd (both_ways true (ap (λ (x : Reply). nat_lt x.status 505) e) refl)
store_is Store e = refl

-- any other refusal is for lack of memory
memory_is : (fault : BookFault) → (want_of fault ≡ want_of Store → ⊥) → fault ≡ NoMemory
memory_is NoMemory other = refl
memory_is Store other = absurd (other refl)

-- the parts of a handled request that follow from its step
module _ {B : Type 0} (shelf : Shelf B) (r : Request) where
  abbrev Step : B → B → Reply → Type 0
  Step a c reply = (shelf.stands c × IsStep (shelf.world a) r reply (shelf.world c))
      ⊎ (IsWant reply × (shelf.stands c → shelf.world c ≡ shelf.world a))

  outside_of : (a c : B) (reply : Reply) → (shelf.honest c → Step a c reply) → shelf.honest c → shelf.stands c → (desk : Text)
      → belongs desk (view desk (shelf.world a)) r ≡ false → view desk (shelf.world c) ≡ view desk (shelf.world a)
  outside_of a c reply step h s desk apart = by_step (step h)
    where
      by_step : Step a c reply → view desk (shelf.world c) ≡ view desk (shelf.world a)
      by_step (inl (stands, is)) = unseen desk (shelf.world a) r reply (shelf.world c) apart (step_is_real _ r reply _ is)
      by_step (inr (want, same)) = unseen desk (shelf.world a) r reply (shelf.world c) apart (want_is_real _ r reply _ want (same s))

  -- nothing was written, and the request was refused for lack of memory or by the store
  pub wanted_quietly : (a c : B) (fault : BookFault) → Quiet shelf a c → (fault ≡ Store → shelf.honest c → shelf.stands a → shelf.can_refuse)
      → (fault ≡ NoMemory → shelf.denials c ≡ shelf.denials a) → (fault ≡ Store → shelf.honest c → shelf.stands a → shelf.denials c ≡ shelf.denials a + 1)
      → Handled shelf a c r (want_of fault)
  wanted_quietly a c fault q blamed wanted denied = record {
    honesty = q.honesty;
    stood = q.stood;
    step = step;
    made = λ h accepted. absurd (both_ways _ (want_unaccepted r fault) accepted);
    durable = λ h accepted. absurd (both_ways _ (want_unaccepted r fault) accepted);
    unmade = λ h refused. q.made;
    refused = λ h refused. inl q.refused;
    crash = λ h refused left may. inl (q.crash h left may);
    store = λ is h s. blamed (store_is fault is) h s;
    denied = λ is h s. denied (store_is fault is) h s;
    told = λ other. wanted (memory_is fault other);
    counts = q.counts;
    closes = q.closes;
    outside = outside_of a c (want_of fault) step;
  }
    where
      step : shelf.honest c → Step a c (want_of fault)
      step h = inr (want_is fault, λ s. q.same h s)

  -- a fault that is returned unchanged
  pub wanted_at_once : {X Y : Type 0} (Is : World → X → Type 0) (P : Y → Type 0) (a c : B) (fault : BookFault) (result : Result Y BookFault) → Finds shelf a c Is (Err fault)
      → IsErr result × IsErrAnd result (λ handed. handed ≡ fault) → MatchResult result P (λ handed. Handled shelf a c r (want_of handed))
  wanted_at_once Is P a c fault (Ok y) f h = absurd h.1
  wanted_at_once Is P a c fault (Err handed) f h = subst (λ k. Handled shelf a c r (want_of k)) (sym h.1) (wanted_quietly a c fault f.quiet f.blamed f.wanted f.denied)

  -- how a change was carried out
  record Wrote (b c : B) (s : Text) (change : Change) : Type 0 where
    made : IsMade change
    honesty : shelf.honest c → shelf.honest b
    stood : shelf.honest c → shelf.stands c → shelf.stands b
    changed : shelf.honest c → shelf.stands c × (shelf.world c ≡ apply s change (shelf.world b))
    durable : shelf.honest c → (left : Option World) → shelf.may_leave c left → left ≡ Some (shelf.world c)
    counted : (shelf.made c ≡ shelf.made b + 1) × (shelf.refused c ≡ shelf.refused b)
    told : shelf.denials c ≡ shelf.denials b
    counts : shelf.faults b ≤ shelf.faults c
    closes : shelf.honest c → Closes shelf b c

  record Refused (b c : B) (s : Text) (change : Change) (fault : BookFault) : Type 0 where
    made : IsMade change
    honesty : shelf.honest c → shelf.honest b
    stood : shelf.honest c → shelf.stands c → shelf.stands b
    same : shelf.honest c → shelf.stands c → shelf.world c ≡ shelf.world b
    crash : shelf.honest c → (left : Option World) → shelf.may_leave c left
        → shelf.may_leave b left ⊎ (shelf.stands b × (left ≡ Some (apply s change (shelf.world b))))
    store : fault ≡ Store → shelf.can_refuse
    counted : (shelf.made c ≡ shelf.made b) × (shelf.refused c ≡ shelf.refused b + 1)
    wanted : fault ≡ NoMemory → shelf.denials c ≡ shelf.denials b
    denied : fault ≡ Store → shelf.denials c ≡ shelf.denials b + 1
    counts : shelf.faults b ≤ shelf.faults c
    closes : shelf.honest c → Closes shelf b c

  wrote : {X : Type 0} (b c : B) (s : Text) (change : Change) (x : X) → IsMade change → Writes shelf b c (Ok x) (apply s change) → Wrote b c s change
  wrote b c s change x made w = record {
    made = made;
    honesty = w.honesty;
    stood = w.stood;
    changed = w.changed;
    durable = w.durable;
    counted = w.counted;
    told = w.told;
    counts = w.counts;
    closes = w.closes;
  }

  refused_write : (X : Type 0) (b c : B) (s : Text) (change : Change) (fault : BookFault) → IsMade change → Writes {B = B} shelf b c {X = X} (Err fault) (apply s change)
      → Refused b c s change fault
  refused_write X b c s change fault made w = record {
    made = made;
    honesty = w.honesty;
    stood = w.stood;
    same = w.same;
    crash = w.crash;
    store = w.store;
    counted = w.refusal;
    wanted = w.wanted;
    denied = w.denied;
    counts = w.counts;
    closes = w.closes;
  }

  something : (c : Change) → is_keep c ≡ false → IsMade c
  something c is keeps = both_ways _ is (ap is_keep keeps)

  -- nothing had to change, and nothing changed
  abbrev Kept : B → B → Change → Type 0
  Kept b c change = (change ≡ Keep) × Quiet shelf b c × (shelf.stands b → shelf.stands c) × (shelf.denials c ≡ shelf.denials b)

  carried : {X : Type 0} (b c : B) (s : Text) (change : Change) (x : X) → CarriesOut shelf b c s change (Ok x)
      → Kept b c change ⊎ Wrote b c s change
  carried b c s Keep x h = inl (refl, h.0, h.1, h.3)
  carried b c s (Publish code kind capacity) x h = inr (wrote b c s _ x (something _ refl) h)
  carried b c s (OpenDesk digest) x h = inr (wrote b c s _ x (something _ refl) h)
  carried b c s (SetKey digest) x h = inr (wrote b c s _ x (something _ refl) h)
  carried b c s (AddPlan kind name body) x h = inr (wrote b c s _ x (something _ refl) h)
  carried b c s (RemovePlan n) x h = inr (wrote b c s _ x (something _ refl) h)
  carried b c s (BindPlace n place code) x h = inr (wrote b c s _ x (something _ refl) h)
  carried b c s (SetCalendar n start days) x h = inr (wrote b c s _ x (something _ refl) h)
  carried b c s (SetLag n source target lag) x h = inr (wrote b c s _ x (something _ refl) h)

  dropped : (X : Type 0) (b c : B) (s : Text) (change : Change) (fault : BookFault) → CarriesOut shelf b c {X = X} s change (Err fault) → Refused b c s change fault
  dropped X b c s Keep fault h = absurd h.2
  dropped X b c s (Publish code kind capacity) fault h = refused_write X b c s _ fault (something _ refl) h
  dropped X b c s (OpenDesk digest) fault h = refused_write X b c s _ fault (something _ refl) h
  dropped X b c s (SetKey digest) fault h = refused_write X b c s _ fault (something _ refl) h
  dropped X b c s (AddPlan kind name body) fault h = refused_write X b c s _ fault (something _ refl) h
  dropped X b c s (RemovePlan n) fault h = refused_write X b c s _ fault (something _ refl) h
  dropped X b c s (BindPlace n place code) fault h = refused_write X b c s _ fault (something _ refl) h
  dropped X b c s (SetCalendar n start days) fault h = refused_write X b c s _ fault (something _ refl) h
  dropped X b c s (SetLag n source target lag) fault h = refused_write X b c s _ fault (something _ refl) h

  -- the decision on a request
  pub record Judged (a b : B) (reply : Reply) (c : Change) : Type 0 where
    pub quiet : Quiet shelf a b
    pub stands : shelf.honest b → shelf.stands b
    pub told : shelf.denials b ≡ shelf.denials a
    pub decided : shelf.honest b → IsDecision (view (subject r) (shelf.world a)) r reply c

  fine_is_no_want : (reply : Reply) → nat_lt reply.status 500 ≡ true → reply ≡ want_of Store → ⊥
  fine_is_no_want reply fine is = both_ways _ (ap (λ (x : Reply). nat_lt x.status 500) is) fine

  -- a decision without a change
  handled_quietly : (a b c : B) (reply : Reply) → Judged a b reply Keep → Quiet shelf b c → (shelf.stands b → shelf.stands c)
      → shelf.denials c ≡ shelf.denials b → Handled shelf a c r reply
  handled_quietly a b c reply j q still told = record {
    honesty = whole.honesty;
    stood = whole.stood;
    step = step;
    made = λ h accepted. absurd (both_ways _ (unaccepted h) accepted);
    durable = λ h accepted. absurd (both_ways _ (unaccepted h) accepted);
    unmade = λ h refused. whole.made;
    refused = λ h refused. inl whole.refused;
    crash = λ h refused left may. inl (whole.crash h left may);
    store = λ is h s. absurd (fine_is_no_want reply (sorted h).1 is);
    denied = λ is h s. absurd (fine_is_no_want reply (sorted h).1 is);
    told = λ other. told ∙ j.told;
    counts = whole.counts;
    closes = whole.closes;
    outside = outside_of a c reply step;
  }
    where
      whole : Quiet shelf a c
      whole = quiet_then shelf a b c j.quiet q

      sorted : shelf.honest c → (Keeps (writes r.call) reply Keep ⊎ Makes (writes r.call) reply Keep) × (nat_lt reply.status 500 ≡ true)
      sorted h = sorted_decision (view (subject r) (shelf.world a)) r reply Keep (j.decided (q.honesty h))

      unaccepted : shelf.honest c → is_accepted r reply ≡ false
      unaccepted h = by_sort (sorted h).0
        where
          by_sort : Keeps (writes r.call) reply Keep ⊎ Makes (writes r.call) reply Keep → is_accepted r reply ≡ false
          by_sort (inl keeps) = keeps.unaccepted
          by_sort (inr makes) = absurd (makes.made refl)

      step : shelf.honest c → Step a c reply
      step h =
          let s = still (j.stands (q.honesty h)) in
          inl (s, decided_step (shelf.world a) r reply Keep (shelf.world c) (j.decided (q.honesty h)) (whole.same h s))

  -- a change was made
  handled_made : (a b c : B) (reply : Reply) (s : Text) (change : Change) → Judged a b reply change → Wrote b c s change
      → (shelf.honest b → s ≡ subject r) → Handled shelf a c r reply
  handled_made a b c reply s change j w own = record {
    honesty = λ h. j.quiet.honesty (w.honesty h);
    stood = λ h stands. j.quiet.stood (w.honesty h) (w.stood h stands);
    step = step;
    made = λ h accepted. (w.counted.0 ∙ ap (λ n. n + 1) j.quiet.made, w.counted.1 ∙ j.quiet.refused);
    durable = λ h accepted. w.durable h;
    unmade = λ h refused. absurd (both_ways _ refused (accepted h));
    refused = λ h refused. absurd (both_ways _ refused (accepted h));
    crash = λ h refused. absurd (both_ways _ refused (accepted h));
    store = λ is h stands. absurd (fine_is_no_want reply (sorted h).1 is);
    denied = λ is h stands. absurd (fine_is_no_want reply (sorted h).1 is);
    told = λ other. w.told ∙ j.told;
    counts = omega (arith, j.quiet.counts, w.counts);
    closes = λ h. closes_then shelf a b c j.quiet.counts w.counts (j.quiet.closes (w.honesty h)) (w.closes h);
    outside = outside_of a c reply step;
  }
    where
      sorted : shelf.honest c → (Keeps (writes r.call) reply change ⊎ Makes (writes r.call) reply change) × (nat_lt reply.status 500 ≡ true)
      sorted h = sorted_decision (view (subject r) (shelf.world a)) r reply change (j.decided (w.honesty h))

      accepted : shelf.honest c → is_accepted r reply ≡ true
      accepted h = by_sort (sorted h).0
        where
          by_sort : Keeps (writes r.call) reply change ⊎ Makes (writes r.call) reply change → is_accepted r reply ≡ true
          by_sort (inl keeps) = absurd (w.made keeps.kept)
          by_sort (inr makes) = ap (λ b. b && nat_lt reply.status 300) makes.is_command ∙ makes.accepted

      step : shelf.honest c → Step a c reply
      step h =
          let now = w.changed h in
          let b_honest = w.honesty h in
          inl (
            now.0,
            decided_step (shelf.world a) r reply change (shelf.world c) (j.decided b_honest)
                (now.1 ∙ ap (λ t. apply t change (shelf.world b)) (own b_honest) ∙ ap (apply (subject r) change) (j.quiet.same b_honest (j.stands b_honest))),
          )

  -- a change was refused for lack of memory or by the store
  handled_refused : (a b c : B) (reply : Reply) (s : Text) (change : Change) (fault : BookFault) → Judged a b reply change → Refused b c s change fault
      → (shelf.honest b → s ≡ subject r) → (shelf.honest c → writes r.call ≡ true) → Handled shelf a c r (want_of fault)
  handled_refused a b c reply s change fault j w own command = record {
    honesty = λ h. j.quiet.honesty (w.honesty h);
    stood = λ h stands. j.quiet.stood (w.honesty h) (w.stood h stands);
    step = step;
    made = λ h accepted. absurd (both_ways _ (want_unaccepted r fault) accepted);
    durable = λ h accepted. absurd (both_ways _ (want_unaccepted r fault) accepted);
    unmade = λ h refused. w.counted.0 ∙ j.quiet.made;
    refused = λ h refused. inr (want_is fault, command h, counted);
    crash = λ h refused left may. by_crash h left (w.crash h left may);
    store = λ is h stands. w.store (store_is fault is);
    denied = λ is h stands. w.denied (store_is fault is) ∙ ap (λ n. n + 1) j.told;
    told = λ other. w.wanted (memory_is fault other) ∙ j.told;
    counts = omega (arith, j.quiet.counts, w.counts);
    closes = λ h. closes_then shelf a b c j.quiet.counts w.counts (j.quiet.closes (w.honesty h)) (w.closes h);
    outside = outside_of a c (want_of fault) step;
  }
    where
      counted : shelf.refused c ≡ shelf.refused a + 1
      counted = w.counted.1 ∙ ap (λ n. n + 1) j.quiet.refused

      step : shelf.honest c → Step a c (want_of fault)
      step h = inr (want_is fault, λ stands. w.same h stands ∙ j.quiet.same (w.honesty h) (w.stood h stands))

      by_crash : shelf.honest c → (left : Option World) → shelf.may_leave b left ⊎ (shelf.stands b × (left ≡ Some (apply s change (shelf.world b))))
          → shelf.may_leave a left
          ⊎ (IsWant (want_of fault) × (writes r.call ≡ true) × (shelf.refused c ≡ shelf.refused a + 1) × shelf.stands a
          × ((other : Reply) × (after : World) × IsStep (shelf.world a) r other after × (left ≡ Some after)))
      by_crash h left (inl may) = inl (j.quiet.crash (w.honesty h) left may)
      by_crash h left (inr (stands, is)) =
          let b_honest = w.honesty h in
          let same = j.quiet.same b_honest stands in
          inr (
            want_is fault,
            command h,
            counted,
            j.quiet.stood b_honest stands,
            (
              reply,
              apply (subject r) change (shelf.world a),
              decided_step (shelf.world a) r reply change _ (j.decided b_honest) refl,
              is ∙ ap (λ t. Some (apply t change (shelf.world b))) (own b_honest) ∙ ap (λ world. Some (apply (subject r) change world)) same,
            ),
          )

  -- only a command makes a change
  is_command : (v : View) (reply : Reply) (change : Change) → IsDecision v r reply change → IsMade change → writes r.call ≡ true
  is_command v reply change h made = by_sort (sorted_decision v r reply change h).0
    where
      by_sort : Keeps (writes r.call) reply change ⊎ Makes (writes r.call) reply change → writes r.call ≡ true
      by_sort (inl keeps) = absurd (made keeps.kept)
      by_sort (inr makes) = makes.is_command

  -- a change is made for the desk of the request
  owner_is : (s : Text) (change : Change) → IsMade change → (change ≡ Keep) ⊎ (s ≡ subject r) → s ≡ subject r
  owner_is s change made (inl keeps) = absurd (made keeps)
  owner_is s change made (inr is) = is

  judged_by : (path : Text) (a b : B) (d : Decision) → Finds shelf a b (λ w. IsDecided path (subject r) (λ v. IsDecision v r) (view (subject r) w)) (Ok d)
      → (shelf.honest b → shelf.stands b) → Judged a b (reply_of d.reply) (change_in d.change)
  judged_by path a b d f stands = record {
    quiet = f.quiet;
    stands = stands;
    told = f.told;
    decided = λ h. (f.found h (f.quiet.stood h (stands h))).1.answer;
  }

  owned_by : (path : Text) (a b : B) (d : Decision) → Finds shelf a b (λ w. IsDecided path (subject r) (λ v. IsDecision v r) (view (subject r) w)) (Ok d)
      → (shelf.honest b → shelf.stands b) → shelf.honest b → (change_in d.change ≡ Keep) ⊎ (owner_of path d.change ≡ subject r)
  owned_by path a b d f stands h = (f.found h (f.quiet.stood h (stands h))).1.owner

  -- a request whose decision was carried out is handled
  pub handled_fully : {X : Type 0} (path : Text) (a b c : B) (d : Decision) (x : X) → Finds shelf a b (λ w. IsDecided path (subject r) (λ v. IsDecision v r) (view (subject r) w)) (Ok d)
      → (shelf.honest b → shelf.stands b) → CarriesOut shelf b c (owner_of path d.change) (change_in d.change) (Ok x) → Handled shelf a c r (reply_of d.reply)
  handled_fully path a b c d x f stands h = by_case (carried b c (owner_of path d.change) (change_in d.change) x h)
    where
      judged : Judged a b (reply_of d.reply) (change_in d.change)
      judged = judged_by path a b d f stands

      by_case : Kept b c (change_in d.change) ⊎ Wrote b c (owner_of path d.change) (change_in d.change)
          → Handled shelf a c r (reply_of d.reply)
      by_case (inl (keeps, q, still, told)) = handled_quietly a b c (reply_of d.reply) (subst (Judged a b (reply_of d.reply)) keeps judged) q still told
      by_case (inr w) = handled_made a b c (reply_of d.reply) (owner_of path d.change) (change_in d.change) judged w
          (λ honest. owner_is _ (change_in d.change) w.made (owned_by path a b d f stands honest))

  -- a request whose change was refused is handled
  pub handled_in_want : (X : Type 0) (path : Text) (a b c : B) (d : Decision) (fault : BookFault) → Finds shelf a b (λ w. IsDecided path (subject r) (λ v. IsDecision v r) (view (subject r) w)) (Ok d)
      → (shelf.honest b → shelf.stands b) → CarriesOut shelf b c {X = X} (owner_of path d.change) (change_in d.change) (Err fault) → Handled shelf a c r (want_of fault)
  handled_in_want X path a b c d fault f stands h = by_case (dropped X b c (owner_of path d.change) (change_in d.change) fault h)
    where
      judged : Judged a b (reply_of d.reply) (change_in d.change)
      judged = judged_by path a b d f stands

      by_case : Refused b c (owner_of path d.change) (change_in d.change) fault → Handled shelf a c r (want_of fault)
      by_case w =
          handled_refused a b c (reply_of d.reply) (owner_of path d.change) (change_in d.change) fault judged w
          (λ honest. owner_is _ (change_in d.change) w.made (owned_by path a b d f stands honest))
          (λ honest. is_command _ (reply_of d.reply) (change_in d.change) (judged.decided (w.honesty honest)) w.made)

  -- the same for an equal path
  pub wanted_on : (X : Type 0) (path on : Text) (a b c : B) (d : Decision) (fault : BookFault) → on ≡ path
      → Finds shelf a b (λ w. IsDecided path (subject r) (λ v. IsDecision v r) (view (subject r) w)) (Ok d) → (shelf.honest b → shelf.stands b)
      → CarriesOut shelf b c {X = X} (owner_of on d.change) (change_in d.change) (Err fault) → Handled shelf a c r (want_of fault)
  wanted_on X path on a b c d fault is f stands h =
      handled_in_want X path a b c d fault f stands (subst (λ p. CarriesOut shelf b c {X = X} (owner_of p d.change) (change_in d.change) (Err fault)) is h)

  -- the rows that the decided change needs exist, and the tables keep their rules after it
  pub judged_allows : (path : Text) (a b : B) (d : Decision) → Finds shelf a b (λ w. IsDecided path (subject r) (λ v. IsDecision v r) (view (subject r) w)) (Ok d)
      → (shelf.stands b → IsWorld (shelf.world b)) → shelf.honest b → shelf.stands b → Allows (owner_of path d.change) (shelf.world b) (change_in d.change)
  judged_allows path a b d f whole h stands = by_owner found.1.owner
    where
      found : shelf.stands b × IsDecided path (subject r) (λ v. IsDecision v r) (view (subject r) (shelf.world a)) d
      found = f.found h (f.quiet.stood h stands)

      allowed : Allows (subject r) (shelf.world b) (change_in d.change)
      allowed =
          decision_allows (shelf.world b) r (reply_of d.reply) (change_in d.change) (whole stands)
          (subst (λ w. IsDecision (view (subject r) w) r (reply_of d.reply) (change_in d.change)) (sym (f.quiet.same h stands)) found.1.answer)

      by_owner : (change_in d.change ≡ Keep) ⊎ (owner_of path d.change ≡ subject r) → Allows (owner_of path d.change) (shelf.world b) (change_in d.change)
      by_owner (inl keeps) = subst (Allows (owner_of path d.change) (shelf.world b)) (sym keeps) (tt, whole stands)
      by_owner (inr is) = subst (λ t. Allows t (shelf.world b) (change_in d.change)) (sym is) allowed
