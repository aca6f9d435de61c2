-- No desk sees another: from one step to runs, for each relation of answers with four properties.
use Rattle.std.proofs.Common.{◌≡◌, ◌⊎◌, inl, inr, Bool, true, false, List, [], ◌∷◌, Option, Some, None, refl, sym, ap, ◌∙◌, subst, arith}
use Rattle.std.specs.Prelude.{unwrap_or}
use Rattle.std.proofs.lemmas.Bool.{cases_Bool, both_ways, and_parts, or_cases, or_parts}
use Rattle.plan_rows.proofs.RowLemmas.{head_of_cons, tail_of_cons, cons_is_not_nil}
use Rattle.plan_rows.specs.World.{Text, World}
use Rattle.plan_rows.specs.Changes.{Change, Keep, apply, is_publishing}
use Rattle.plan_rows.specs.Views.{View, view, alone}
use Rattle.plan_desk.specs.Bodies.{desk_named}
use Rattle.plan_desk.specs.Calls.{Call, publish, open_desk, set_key, capacities, plans, import_project, import_shop, remove, bind, set_calendar, set_lag, dates}
use Rattle.plan_desk.specs.Calls.{schedule, chart, days, best, Request, Reply, desk_of, subject, is_publish, admits}
use Rattle.plan_desk.specs.Stories.{names, concerns, belongs, decided, IsDecided, IsStep, IsRealStep, IsRun, AreTold, IsStoryOf, IsWanting}
use Rattle.plan_rows.proofs.OwnerLemmas.{text_from_same}
use Rattle.plan_desk.proofs.SeenLemmas.{view_alone, seen, hidden}

-- The four properties. Publishing depends only on the codes, and no other call publishes. A body
-- that names no desk opens none. Each call has one answer in a view.
pub record KeepsApart (Answers : View → Call → Reply → Change → Type 0) : Type 0 where
  pub frugal : (v u : View) (body : Text) (reply : Reply) (c : Change) → v.published ≡ u.published
      → Answers v (publish body) reply c → Answers u (publish body) reply c
  pub quiet : (v : View) (call : Call) (reply : Reply) (c : Change) → is_publish call ≡ false
      → Answers v call reply c → is_publishing c ≡ false
  pub nameless : (v : View) (body : Text) (reply : Reply) (c : Change) → desk_named body ≡ None
      → Answers v (open_desk body) reply c → c ≡ Keep
  pub one : (v : View) (call : Call) (reply other : Reply) (c b : Change)
      → Answers v call reply c → Answers v call other b → (reply ≡ other) × (c ≡ b)

pub decided_map : (b : Bool) (R Q : Reply → Change → Type 0) → ((reply : Reply) (c : Change) → R reply c → Q reply c)
    → (reply : Reply) (c : Change) → decided b R reply c → decided b Q reply c
decided_map true R Q f reply c h = f reply c h
decided_map false R Q f reply c h = h

-- a request that isn't admitted changes nothing
pub decided_keeps : (b : Bool) (R : Reply → Change → Type 0) (reply : Reply) (c : Change) → b ≡ false → decided b R reply c → c ≡ Keep
decided_keeps true R reply c e h = absurd (both_ways true e refl)
decided_keeps false R reply c e h = h.1

pub decided_rest : (b : Bool) (R : Reply → Change → Type 0) (reply : Reply) (c : Change) → b ≡ true → decided b R reply c → R reply c
decided_rest true R reply c e h = h
decided_rest false R reply c e h = absurd (both_ways false refl e)

pub decided_once : (b : Bool) (R : Reply → Change → Type 0) → ((reply other : Reply) (c d : Change) → R reply c → R other d → (reply ≡ other) × (c ≡ d))
    → (reply other : Reply) (c d : Change) → decided b R reply c → decided b R other d → (reply ≡ other) × (c ≡ d)
decided_once true R one reply other c d h k = one reply other c d h k
decided_once false R one reply other c d h k = (h.0 ∙ sym k.0, h.1 ∙ sym k.1)

-- a call that publishes is `publish`
publish_only : (call : Call) → is_publish call ≡ true → (body : Text) × (call ≡ publish body)
publish_only (publish body) e = (body, refl)
publish_only (open_desk body) e = absurd (both_ways false refl e)
publish_only (set_key desk body) e = absurd (both_ways false refl e)
publish_only (capacities desk) e = absurd (both_ways false refl e)
publish_only (plans desk) e = absurd (both_ways false refl e)
publish_only (import_project desk body) e = absurd (both_ways false refl e)
publish_only (import_shop desk instance body) e = absurd (both_ways false refl e)
publish_only (remove desk n) e = absurd (both_ways false refl e)
publish_only (bind desk n body) e = absurd (both_ways false refl e)
publish_only (set_calendar desk n body) e = absurd (both_ways false refl e)
publish_only (set_lag desk n body) e = absurd (both_ways false refl e)
publish_only (dates desk n) e = absurd (both_ways false refl e)
publish_only (schedule desk n rule) e = absurd (both_ways false refl e)
publish_only (chart desk n rule) e = absurd (both_ways false refl e)
publish_only (days desk n rule) e = absurd (both_ways false refl e)
publish_only (best desk n budget) e = absurd (both_ways false refl e)

-- a call that names no desk publishes, or has a body that names none
nameless_only : (call : Call) → desk_of call ≡ None → (is_publish call ≡ true) ⊎ ((body : Text) × (call ≡ open_desk body) × (desk_named body ≡ None))
nameless_only (publish body) e = inl refl
nameless_only (open_desk body) e = inr (body, refl, e)
nameless_only (set_key desk body) e = grind (arith, e)
nameless_only (capacities desk) e = grind (arith, e)
nameless_only (plans desk) e = grind (arith, e)
nameless_only (import_project desk body) e = grind (arith, e)
nameless_only (import_shop desk instance body) e = grind (arith, e)
nameless_only (remove desk n) e = grind (arith, e)
nameless_only (bind desk n body) e = grind (arith, e)
nameless_only (set_calendar desk n body) e = grind (arith, e)
nameless_only (set_lag desk n body) e = grind (arith, e)
nameless_only (dates desk n) e = grind (arith, e)
nameless_only (schedule desk n rule) e = grind (arith, e)
nameless_only (chart desk n rule) e = grind (arith, e)
nameless_only (days desk n rule) e = grind (arith, e)
nameless_only (best desk n budget) e = grind (arith, e)

-- a request whose call names a desk is decided by that desk's view
named_desk : (d : Text) (o : Option Text) → names d o ≡ true → unwrap_or o [] ≡ d
named_desk d None e = absurd (both_ways false refl e)
named_desk d (Some t) e = text_from_same t d e

module _ {Answers : View → Call → Reply → Change → Type 0} (keeps : KeepsApart Answers) where
  -- publishing gets the same decision in all views of one office
  publishes_alike : (v u : View) (key : Option Text) (body : Text) → v.office ≡ u.office → v.published ≡ u.published
      → (reply : Reply) (c : Change) → IsDecided Answers v (record { key = key; call = publish body }) reply c
      → IsDecided Answers u (record { key = key; call = publish body }) reply c
  publishes_alike v u key body office published reply c h =
      let r : Request = record { key = key; call = publish body } in
      let mapped : decided (admits v r) (Answers u (publish body)) reply c =
      decided_map (admits v r) (Answers v (publish body)) (Answers u (publish body))
      (λ a b given. keeps.frugal v u body a b published given) reply c h in
      subst (λ b. decided b (Answers u (publish body)) reply c) (ap (λ o. admits (record v { office = o }) r) office) mapped

  -- a step on a request that belongs to a desk, in an office that has the rows of its view alone
  pub record IsAlike (d : Text) (w : World) (r : Request) (reply : Reply) (after : World) : Type 0 where
    pub other : World
    pub step : IsStep Answers (alone (view d w)) r reply other
    pub alike : view d after ≡ view d other

  alike_publish : (d : Text) (w : World) (key : Option Text) (body : Text) (reply : Reply) (after : World)
      → IsStep Answers w (record { key = key; call = publish body }) reply after
      → IsAlike d w (record { key = key; call = publish body }) reply after
  alike_publish d w key body reply after (c, h, e) = record {
    other = apply [] c (alone (view d w));
    step = (c, publishes_alike (view [] w) (view [] (alone (view d w))) key body refl refl reply c h, refl);
    alike = ap (view d) e ∙ seen d [] c w;
  }

  alike_named : (d : Text) (w : World) (r : Request) (reply : Reply) (after : World) → subject r ≡ d
      → IsStep Answers w r reply after → IsAlike d w r reply after
  alike_named d w r reply after named (c, h, e) =
      let s : Text = subject r in
      record {
        other = apply s c (alone (view d w));
        step = (
          c,
          subst (λ t. IsDecided Answers (view t (alone (view d w))) r reply c) (sym named)
              (subst (λ v. IsDecided Answers v r reply c) (sym (view_alone d w))
              (subst (λ t. IsDecided Answers (view t w) r reply c) named h)),
          refl,
        );
        alike = ap (view d) e ∙ seen d s c w;
      }

  -- a request that belongs to a desk is answered as in an office that has the rows of its view
  -- alone
  pub step_alone : (d : Text) (w : World) (r : Request) (reply : Reply) (after : World) → concerns d r.call ≡ true
      → IsStep Answers w r reply after → IsAlike d w r reply after
  step_alone d w r reply after concerned step = by_concern (or_cases (is_publish r.call) (names d (desk_of r.call)) concerned)
    where
      by_concern : (is_publish r.call ≡ true) ⊎ (names d (desk_of r.call) ≡ true) → IsAlike d w r reply after
      by_concern (inl published) =
          let p : (body : Text) × (r.call ≡ publish body) = publish_only r.call published in
          subst (λ call. IsStep Answers w (record { key = r.key; call = call }) reply after → IsAlike d w (record { key = r.key; call = call }) reply after)
          (sym p.1) (alike_publish d w r.key p.0 reply after) step
      by_concern (inr named) = alike_named d w r reply after (named_desk d (desk_of r.call) named) step

  -- a request that doesn't concern a desk doesn't change its view
  unconcerned : (d : Text) (w : World) (r : Request) (reply : Reply) (c : Change) → concerns d r.call ≡ false
      → Answers (view (subject r) w) r.call reply c → view d (apply (subject r) c w) ≡ view d w
  unconcerned d w r reply c apart h = by_desk (desk_of r.call) refl
    where
      parts : (is_publish r.call ≡ false) × (names d (desk_of r.call) ≡ false)
      parts = or_parts (is_publish r.call) (names d (desk_of r.call)) apart

      by_desk : (o : Option Text) → desk_of r.call ≡ o → view d (apply (subject r) c w) ≡ view d w
      by_desk None e = by_body (nameless_only r.call e)
        where
          by_body : (is_publish r.call ≡ true) ⊎ ((body : Text) × (r.call ≡ open_desk body) × (desk_named body ≡ None))
              → view d (apply (subject r) c w) ≡ view d w
          by_body (inl p) = absurd (both_ways (is_publish r.call) parts.0 p)
          by_body (inr (body, is, nothing)) =
              ap (λ b. view d (apply (subject r) b w))
              (keeps.nameless (view (subject r) w) body reply c nothing (subst (λ call. Answers (view (subject r) w) call reply c) is h))
      by_desk (Some t) e =
          subst (λ s. view d (apply s c w) ≡ view d w) (sym (ap (λ o. unwrap_or o []) e))
          (hidden d t c w (sym (ap (names d) e) ∙ parts.1) (keeps.quiet (view (subject r) w) r.call reply c parts.0 h))

  -- the view of each desk that a request concerns admits it exactly if the view of its subject does
  admitted_alike : (d : Text) (w : World) (r : Request) → concerns d r.call ≡ true → admits (view (subject r) w) r ≡ admits (view d w) r
  admitted_alike d w r concerned = by_concern (or_cases (is_publish r.call) (names d (desk_of r.call)) concerned)
    where
      by_concern : (is_publish r.call ≡ true) ⊎ (names d (desk_of r.call) ≡ true) → admits (view (subject r) w) r ≡ admits (view d w) r
      by_concern (inl published) =
          subst (λ call. admits (view (subject (record { key = r.key; call = call })) w) (record { key = r.key; call = call }) ≡ admits (view d w) (record { key = r.key; call = call }))
          (sym (publish_only r.call published).1) refl
      by_concern (inr named) = ap (λ t. admits (view t w) r) (named_desk d (desk_of r.call) named)

  -- a request that doesn't belong to a desk doesn't change its view
  pub step_hidden : (d : Text) (w : World) (r : Request) (reply : Reply) (after : World) → belongs d (view d w) r ≡ false
      → IsRealStep Answers w r reply after → view d after ≡ view d w
  step_hidden d w r reply after outside (inr (want, e)) = ap (view d) e
  step_hidden d w r reply after outside (inl (c, h, e)) = ap (view d) e ∙ by_key (cases_Bool (admits (view (subject r) w) r))
    where
      by_key : (admits (view (subject r) w) r ≡ true) ⊎ (admits (view (subject r) w) r ≡ false) → view d (apply (subject r) c w) ≡ view d w
      by_key (inr locked) =
          ap (λ b. view d (apply (subject r) b w)) (decided_keeps (admits (view (subject r) w) r) (Answers (view (subject r) w) r.call) reply c locked h)
      by_key (inl unlocked) = by_concern (cases_Bool (concerns d r.call))
        where
          by_concern : (concerns d r.call ≡ true) ⊎ (concerns d r.call ≡ false) → view d (apply (subject r) c w) ≡ view d w
          by_concern (inl concerned) =
              absurd (both_ways (belongs d (view d w) r) outside
              (grind (arith, concerned, unlocked, admitted_alike d w r concerned)))
          by_concern (inr apart) =
              unconcerned d w r reply c apart
              (decided_rest (admits (view (subject r) w) r) (Answers (view (subject r) w) r.call) reply c unlocked h)

  -- one step for each request
  pub step_once : (w : World) (r : Request) (reply other : Reply) (after behind : World)
      → IsStep Answers w r reply after → IsStep Answers w r other behind → (reply ≡ other) × (after ≡ behind)
  step_once w r reply other after behind (c, h, e) (b, k, f) =
      let same : (reply ≡ other) × (c ≡ b) =
      decided_once (admits (view (subject r) w) r) (Answers (view (subject r) w) r.call) (keeps.one (view (subject r) w) r.call) reply other c b h k in
      (same.0, e ∙ ap (λ x. apply (subject r) x w) same.1 ∙ sym f)

  -- in each run of real steps, a desk receives the replies that its story receives in an office
  -- with its rows alone
  pub told : (d : Text) (w : World) (requests : List Request) (replies : List Reply) (worlds : List World)
      → IsRun Answers w requests replies worlds → AreTold Answers d (view d w) requests replies
  told d w [] [] [] run = tt
  told d w [] [] (x ∷ xs) run = absurd run
  told d w [] (x ∷ xs) worlds run = absurd run
  told d w (r ∷ requests) [] worlds run = absurd run
  told d w (r ∷ requests) (reply ∷ replies) [] run = absurd run
  told d w (r ∷ requests) (reply ∷ replies) (after ∷ worlds) run =
      by_story (cases_Bool (belongs d (view d w) r)) run.0 (told d after requests replies worlds run.1)
    where
      by_story : (belongs d (view d w) r ≡ true) ⊎ (belongs d (view d w) r ≡ false) → IsRealStep Answers w r reply after
          → AreTold Answers d (view d after) requests replies → AreTold Answers d (view d w) (r ∷ requests) (reply ∷ replies)
      by_story (inr outside) real rest =
          inl (outside, subst (λ v. AreTold Answers d v requests replies) (step_hidden d w r reply after outside real) rest)
      by_story (inl inside) (inr want) rest = inr (inside, inl want.0)
      by_story (inl inside) (inl step) rest =
          let a : IsAlike d w r reply after = step_alone d w r reply after (and_parts (concerns d r.call) (admits (view d w) r) inside).0 step in
          inr (inside, inr (a.other, a.step, subst (λ v. AreTold Answers d v requests replies) a.alike rest))

  -- the replies to a desk belong to a story, unless one is a refusal for lack of memory or by the
  -- store
  pub story_or_want : (d : Text) (v : View) (requests : List Request) (replies : List Reply) → AreTold Answers d v requests replies
      → ((story : List Request) × (given : List Reply) × IsStoryOf Answers d v requests replies story given) ⊎ IsWanting Answers d v requests replies
  story_or_want d v [] [] h = inl ([], [], (refl, refl))
  story_or_want d v [] (x ∷ xs) h = absurd h
  story_or_want d v (r ∷ requests) [] h = absurd h
  story_or_want d v (r ∷ requests) (reply ∷ replies) (inl (outside, rest)) = passed (story_or_want d v requests replies rest)
    where
      passed : ((story : List Request) × (given : List Reply) × IsStoryOf Answers d v requests replies story given) ⊎ IsWanting Answers d v requests replies
          → ((story : List Request) × (given : List Reply) × IsStoryOf Answers d v (r ∷ requests) (reply ∷ replies) story given)
          ⊎ IsWanting Answers d v (r ∷ requests) (reply ∷ replies)
      passed (inl (story, given, is)) = inl (story, given, inl (outside, is))
      passed (inr want) = inr (inl (outside, want))
  story_or_want d v (r ∷ requests) (reply ∷ replies) (inr (inside, inl want)) = inr (inr (inside, inl want))
  story_or_want d v (r ∷ requests) (reply ∷ replies) (inr (inside, inr (after, step, rest))) = passed (story_or_want d (view d after) requests replies rest)
    where
      passed : ((story : List Request) × (given : List Reply) × IsStoryOf Answers d (view d after) requests replies story given) ⊎ IsWanting Answers d (view d after) requests replies
          → ((story : List Request) × (given : List Reply) × IsStoryOf Answers d v (r ∷ requests) (reply ∷ replies) story given)
          ⊎ IsWanting Answers d v (r ∷ requests) (reply ∷ replies)
      passed (inl (story, given, is)) = inl (r ∷ story, reply ∷ given, inr (inside, (story, given, refl, refl, (after, step, is))))
      passed (inr want) = inr (inr (inside, inr (after, step, want)))

  -- an empty story receives no reply
  pub nothing_told : (d : Text) (v : View) (requests : List Request) (replies given : List Reply)
      → IsStoryOf Answers d v requests replies [] given → given ≡ []
  nothing_told d v [] [] given h = h.1
  nothing_told d v [] (x ∷ xs) given h = absurd h
  nothing_told d v (r ∷ requests) [] given h = absurd h
  nothing_told d v (r ∷ requests) (reply ∷ replies) given (inl (outside, h)) = nothing_told d v requests replies given h
  nothing_told d v (r ∷ requests) (reply ∷ replies) given (inr (inside, (more, others, e, f, rest))) = absurd (cons_is_not_nil r more e)

  -- one more request of a story in two lists of requests: the later ones receive equal replies
  meet : (d : Text) (v : View) (r : Request) (reply : Reply) (after : World) (more : List Request) (others xs : List Reply)
      → IsStep Answers (alone v) r reply after → xs ≡ reply ∷ others
      → ((requests : List Request) (replies given : List Reply) → IsStoryOf Answers d (view d after) requests replies more given → others ≡ given)
      → (requests : List Request) (replies ys : List Reply) → IsStoryOf Answers d v requests replies (r ∷ more) ys → xs ≡ ys
  meet d v r reply after more others xs step e behind [] [] ys h = absurd (cons_is_not_nil r more (sym h.0))
  meet d v r reply after more others xs step e behind [] (x ∷ rest) ys h = absurd h
  meet d v r reply after more others xs step e behind (o ∷ requests) [] ys h = absurd h
  meet d v r reply after more others xs step e behind (o ∷ requests) (given ∷ replies) ys (inl (outside, h)) =
      meet d v r reply after more others xs step e behind requests replies ys h
  meet d v r reply after more others xs step e behind (o ∷ requests) (given ∷ replies) ys (inr (inside, (more2, others2, f, g, (after2, step2, rest)))) =
      let same : r ≡ o = head_of_cons r o more more2 f in
      let once : (reply ≡ given) × (after ≡ after2) =
      step_once (alone v) r reply given after after2 step (subst (λ q. IsStep Answers (alone v) q given after2) (sym same) step2) in
      let tails : others ≡ others2 =
      behind requests replies others2
      (subst (λ l. IsStoryOf Answers d (view d after) requests replies l others2) (sym (tail_of_cons r o more more2 f))
      (subst (λ w. IsStoryOf Answers d (view d w) requests replies more2 others2) (sym once.1) rest)) in
      e ∙ ap (λ a. a ∷ others) once.0 ∙ ap (λ l. given ∷ l) tails ∙ sym g

  -- a story in a view receives the same replies in each list of requests
  pub told_alike : (d : Text) (v : View) (requests : List Request) (replies : List Reply) (story : List Request) (xs : List Reply)
      → IsStoryOf Answers d v requests replies story xs
      → (others : List Request) (answers ys : List Reply) → IsStoryOf Answers d v others answers story ys → xs ≡ ys
  told_alike d v [] [] story xs h others answers ys k =
      h.1 ∙ sym (nothing_told d v others answers ys (subst (λ l. IsStoryOf Answers d v others answers l ys) h.0 k))
  told_alike d v [] (x ∷ rest) story xs h others answers ys k = absurd h
  told_alike d v (r ∷ requests) [] story xs h others answers ys k = absurd h
  told_alike d v (r ∷ requests) (reply ∷ replies) story xs (inl (outside, h)) others answers ys k =
      told_alike d v requests replies story xs h others answers ys k
  told_alike d v (r ∷ requests) (reply ∷ replies) story xs (inr (inside, (more, given, e, f, (after, step, rest)))) others answers ys k =
      meet d v r reply after more given xs step f
      (λ rs bs zs l. told_alike d (view d after) requests replies more given rest rs bs zs l)
      others answers ys (subst (λ l. IsStoryOf Answers d v others answers l ys) e k)
