-- The order in which rows were written makes no difference: to a decision, to a step, and to a
-- story.
use Rattle.std.proofs.Common.{◌≡◌, ℕ, ◌⊎◌, inl, inr, Bool, true, false, List, [], ◌∷◌, ◌++◌, sym, ap, ◌∙◌, subst}
use Rattle.std.specs.Prelude.{find, option_to_list, if◌then◌else◌, ◌==◌}
use Rattle.std.proofs.lemmas.Bool.{cases_Bool, cond-true, cond-false}
use Rattle.plan_rows.specs.World.{Text, Lag, World, is_code, is_desk, is_plan_of, is_bind_by, is_lag_by, is_plan, is_bind, is_lag, desk_in}
use Rattle.plan_rows.specs.Changes.{Change, Keep, Publish, OpenDesk, SetKey, AddPlan, RemovePlan, BindPlace, SetCalendar, SetLag, changed, put, without, apply}
use Rattle.plan_rows.specs.Changes.{new_code, with_capacity, new_desk, with_digest, risen, next_of, new_plan, with_calendar, new_bind, with_code, new_lag}
use Rattle.plan_rows.specs.Changes.{with_lag, lags_after}
use Rattle.plan_rows.specs.Views.{View, view, alone}
use Rattle.plan_rows.specs.Names.{has_key, unlocks}
use Rattle.plan_desk.specs.Calls.{Request, Reply, subject, is_of_office, admits}
use Rattle.plan_desk.specs.Stories.{decided}
use Rattle.plan_desk.specs.Decisions.{Answers, IsDecision, IsStep, IsStoryOf}
use Rattle.plan_desk.specs.Stories as story
use Rattle.plan_rows.specs.Rules.{IsWorld}
use Rattle.plan_desk.specs.Laws.{StepsKeepRules, AloneKeepsRules, OrderIsUnseen, AgreeingViewsAreToldAlike}
use Rattle.plan_rows.proofs.RowLemmas.{head_of_cons, tail_of_cons, cons_is_not_nil}
use Rattle.plan_desk.proofs.StoryLemmas.{decided_map, decided_once, nothing_told}
use Rattle.plan_desk.proofs.OneLemmas.{one_answer}
use Rattle.plan_desk.proofs.LawLemmas.{routes_keep_apart}
use Rattle.plan_desk.proofs.FitLemmas.{steps_keep_rules}
use Rattle.plan_desk.proofs.AloneLemmas.{alone_keeps_rules}
use Rattle.plan_desk.proofs.SameLemmas.{AreSame, same_filter, same_changed, same_added, same_put}
use Rattle.plan_desk.proofs.LooksLemmas.{SameView, same_from_agree, looks_alike}
use Rattle.plan_desk.proofs.PartLemmas.{answers_alike}

-- ---- worlds of the same rows

-- two offices have the same rows, their desks in one order
record SameWorld (w x : World) : Type 0 where
  office : w.office ≡ x.office
  published : AreSame w.published x.published
  desks : w.desks ≡ x.desks
  plans : AreSame w.plans x.plans
  binds : AreSame w.binds x.binds
  lags : AreSame w.lags x.lags

same_alone : (v u : View) → SameView v u → SameWorld (alone v) (alone u)
same_alone v u same = record {
  office = same.office;
  published = same.published;
  desks = ap option_to_list same.desk;
  plans = same.plans;
  binds = same.binds;
  lags = same.lags;
}

same_seen : (d : Text) (w x : World) → SameWorld w x → SameView (view d w) (view d x)
same_seen d w x same = record {
  office = same.office;
  published = same.published;
  desk = ap (find (is_desk d)) same.desks;
  plans = same_filter (is_plan_of d) w.plans x.plans same.plans;
  binds = same_filter (is_bind_by d) w.binds x.binds same.binds;
  lags = same_filter (is_lag_by d) w.lags x.lags same.lags;
}

same_lags : (s : Text) (n i j lag : ℕ) (xs ys : List Lag) → AreSame xs ys → AreSame (lags_after s n i j lag xs) (lags_after s n i j lag ys)
same_lags s n i j lag xs ys same = by_zero (cases_Bool (lag == 0))
  where
    q : Lag → Bool
    q = is_lag s n i j

    put_in : List Lag → List Lag
    put_in rows = put q (with_lag lag) (new_lag s n i j lag) rows

    by_zero : ((lag == 0) ≡ true) ⊎ ((lag == 0) ≡ false) → AreSame (lags_after s n i j lag xs) (lags_after s n i j lag ys)
    by_zero (inl e) =
        rw (cond-true (lag == 0) (without q xs) (put_in xs) e) (rw (cond-true (lag == 0) (without q ys) (put_in ys) e) (same_filter _ xs ys same))
    by_zero (inr e) =
        rw (cond-false (lag == 0) (without q xs) (put_in xs) e)
        (rw (cond-false (lag == 0) (without q ys) (put_in ys) e) (same_put q (with_lag lag) (new_lag s n i j lag) xs ys same))

-- a change keeps them the same
same_apply : (s : Text) (c : Change) (w x : World) → SameWorld w x → SameWorld (apply s c w) (apply s c x)
same_apply s Keep w x same = same
same_apply s (Publish code kind capacity) w x same = record {
  office = same.office;
  desks = same.desks;
  plans = same.plans;
  binds = same.binds;
  lags = same.lags;
  published = same_put (is_code code) (with_capacity capacity) (new_code code kind capacity) w.published x.published same.published;
}
same_apply s (OpenDesk digest) w x same = record {
  office = same.office;
  published = same.published;
  plans = same.plans;
  binds = same.binds;
  lags = same.lags;
  desks = ap (λ rows. rows ++ new_desk s digest ∷ []) same.desks;
}
same_apply s (SetKey digest) w x same = record {
  office = same.office;
  published = same.published;
  plans = same.plans;
  binds = same.binds;
  lags = same.lags;
  desks = ap (changed (is_desk s) (with_digest digest)) same.desks;
}
same_apply s (AddPlan kind name body) w x same = record {
  office = same.office;
  published = same.published;
  binds = same.binds;
  lags = same.lags;
  desks = ap (changed (is_desk s) risen) same.desks;
  plans = subst (λ n. AreSame (w.plans ++ new_plan s (next_of (desk_in w s)) kind name body ∷ []) (x.plans ++ new_plan s n kind name body ∷ []))
      (ap (λ rows. next_of (find (is_desk s) rows)) same.desks)
      (same_added (new_plan s (next_of (desk_in w s)) kind name body) w.plans x.plans same.plans);
}
same_apply s (RemovePlan n) w x same = record {
  office = same.office;
  published = same.published;
  desks = same.desks;
  plans = same_filter _ w.plans x.plans same.plans;
  binds = same_filter _ w.binds x.binds same.binds;
  lags = same_filter _ w.lags x.lags same.lags;
}
same_apply s (BindPlace n place code) w x same = record {
  office = same.office;
  published = same.published;
  desks = same.desks;
  plans = same.plans;
  lags = same.lags;
  binds = same_put (is_bind s n place) (with_code code) (new_bind s n place code) w.binds x.binds same.binds;
}
same_apply s (SetCalendar n start days) w x same = record {
  office = same.office;
  published = same.published;
  desks = same.desks;
  binds = same.binds;
  lags = same.lags;
  plans = same_changed (is_plan s n) (with_calendar start days) w.plans x.plans same.plans;
}
same_apply s (SetLag n i j lag) w x same = record {
  office = same.office;
  published = same.published;
  desks = same.desks;
  plans = same.plans;
  binds = same.binds;
  lags = same_lags s n i j lag w.lags x.lags same.lags;
}

-- ---- decisions

pub admits_alike : (v u : View) (r : Request) → SameView v u → admits v r ≡ admits u r
admits_alike v u r same =
    ap (λ office. if is_of_office r.call then has_key r.key office else unlocks r.key v.desk) same.office
    ∙ ap (λ desk. if is_of_office r.call then has_key r.key u.office else unlocks r.key desk) same.desk

decided_alike : (v u : View) (r : Request) (reply : Reply) (c : Change) → IsWorld (alone v) → IsWorld (alone u) → SameView v u
    → decided (admits v r) (Answers v r.call) reply c → decided (admits u r) (Answers u r.call) reply c
decided_alike v u r reply c k l same h =
    subst (λ b. decided b (Answers u r.call) reply c) (admits_alike v u r same)
    (decided_map (admits v r) (Answers v r.call) (Answers u r.call)
    (λ a b given. answers_alike v u r.call (looks_alike v u k l same) a b given) reply c h)

pub order_is_unseen : OrderIsUnseen
unfolding OrderIsUnseen IsDecision
order_is_unseen = λ v u r reply c k l agree h. decided_alike v u r reply c k l (same_from_agree v u agree) h

-- ---- steps and stories

keeps : (d : Text) (w : World) → IsWorld w → IsWorld (alone (view d w))
unfolding AloneKeepsRules
keeps d w k = alone_keeps_rules d w k

pub keeps_after : (d : Text) (v : View) (r : Request) (reply : Reply) (after : World) → IsWorld (alone v) → story.IsStep Answers (alone v) r reply after → IsWorld (alone (view d after))
unfolding StepsKeepRules IsStep
keeps_after d v r reply after k step = keeps d after (steps_keep_rules (alone v) r reply after k step)

-- steps on one request in views of the same rows
pub record AreAlike (d : Text) (reply given : Reply) (after behind : World) : Type 0 where
  pub reply_is : reply ≡ given
  pub seen_is : SameView (view d after) (view d behind)

pub steps_alike : (d : Text) (v u : View) (r : Request) (reply given : Reply) (after behind : World) → IsWorld (alone v) → IsWorld (alone u) → SameView v u
    → story.IsStep Answers (alone v) r reply after → story.IsStep Answers (alone u) r given behind → AreAlike d reply given after behind
steps_alike d v u r reply given after behind k l same (c, h, e) (b, g, f) =
    let s : Text = subject r in
    let here : SameView (view s (alone v)) (view s (alone u)) = same_seen s (alone v) (alone u) (same_alone v u same) in
    let moved : decided (admits (view s (alone u)) r) (Answers (view s (alone u)) r.call) reply c =
    decided_alike (view s (alone v)) (view s (alone u)) r reply c (keeps s (alone v) k) (keeps s (alone u) l) here h in
    let once : (reply ≡ given) × (c ≡ b) = decided_once (admits (view s (alone u)) r) (Answers (view s (alone u)) r.call) (one_answer (view s (alone u)) r.call) reply given c b moved g in
    let applied : SameView (view d (apply s c (alone v))) (view d (apply s c (alone u))) =
    same_seen d (apply s c (alone v)) (apply s c (alone u)) (same_apply s c (alone v) (alone u) (same_alone v u same)) in
    record {
      reply_is = once.0;
      seen_is = subst (λ x. SameView (view d x) (view d behind)) (sym e)
          (subst (λ x. SameView (view d (apply s c (alone v))) (view d x)) (sym f)
          (subst (λ a. SameView (view d (apply s c (alone v))) (view d (apply s a (alone u)))) once.1 applied));
    }

meet : (d : Text) (v u : View) (r : Request) (reply : Reply) (after : World) (more : List Request) (others xs : List Reply)
    → IsWorld (alone v) → IsWorld (alone u) → SameView v u → story.IsStep Answers (alone v) r reply after → xs ≡ reply ∷ others
    → ((z : View) → IsWorld (alone z) → SameView (view d after) z → (requests : List Request) (replies given : List Reply) → story.IsStoryOf Answers d z requests replies more given → others ≡ given)
    → (requests : List Request) (replies ys : List Reply) → story.IsStoryOf Answers d u requests replies (r ∷ more) ys → xs ≡ ys
meet d v u r reply after more others xs k l same step e behind [] [] ys h = absurd (cons_is_not_nil r more (sym h.0))
meet d v u r reply after more others xs k l same step e behind [] (x ∷ rest) ys h = absurd h
meet d v u r reply after more others xs k l same step e behind (o ∷ requests) [] ys h = absurd h
meet d v u r reply after more others xs k l same step e behind (o ∷ requests) (given ∷ replies) ys (inl (outside, h)) =
    meet d v u r reply after more others xs k l same step e behind requests replies ys h
meet d v u r reply after more others xs k l same step e behind (o ∷ requests) (given ∷ replies) ys (inr (inside, (more2, others2, f, g, (after2, step2, rest)))) =
    let one : r ≡ o = head_of_cons r o more more2 f in
    let step3 : story.IsStep Answers (alone u) r given after2 = subst (λ q. story.IsStep Answers (alone u) q given after2) (sym one) step2 in
    let alike : AreAlike d reply given after after2 = steps_alike d v u r reply given after after2 k l same step step3 in
    let tails : others ≡ others2 =
    behind (view d after2) (keeps_after d u r given after2 l step3) alike.seen_is requests replies others2
    (subst (λ m. story.IsStoryOf Answers d (view d after2) requests replies m others2) (sym (tail_of_cons r o more more2 f)) rest) in
    e ∙ ap (λ a. a ∷ others) alike.reply_is ∙ ap (λ m. given ∷ m) tails ∙ sym g

-- a story receives the same replies in views of the same rows
told_same : (d : Text) (v u : View) (requests : List Request) (replies : List Reply) (tale : List Request) (xs : List Reply)
    → IsWorld (alone v) → IsWorld (alone u) → SameView v u → story.IsStoryOf Answers d v requests replies tale xs
    → (others : List Request) (answers ys : List Reply) → story.IsStoryOf Answers d u others answers tale ys → xs ≡ ys
told_same d v u [] [] tale xs k l same h others answers ys g =
    h.1 ∙ sym (nothing_told routes_keep_apart d u others answers ys (subst (λ m. story.IsStoryOf Answers d u others answers m ys) h.0 g))
told_same d v u [] (x ∷ rest) tale xs k l same h others answers ys g = absurd h
told_same d v u (r ∷ requests) [] tale xs k l same h others answers ys g = absurd h
told_same d v u (r ∷ requests) (reply ∷ replies) tale xs k l same (inl (outside, h)) others answers ys g =
    told_same d v u requests replies tale xs k l same h others answers ys g
told_same d v u (r ∷ requests) (reply ∷ replies) tale xs k l same (inr (inside, (more, given, e, f, (after, step, rest)))) others answers ys g =
    meet d v u r reply after more given xs k l same step f
    (λ z m alike rs bs zs p. told_same d (view d after) z requests replies more given (keeps_after d v r reply after k step) m alike rest rs bs zs p)
    others answers ys (subst (λ m. story.IsStoryOf Answers d u others answers m ys) e g)

pub agreeing_views_are_told_alike : AgreeingViewsAreToldAlike
unfolding AgreeingViewsAreToldAlike IsStoryOf
agreeing_views_are_told_alike = λ d v u requests replies others answers tale told given k l agree h g.
    told_same d v u requests replies tale told k l (same_from_agree v u agree) h others answers given g
