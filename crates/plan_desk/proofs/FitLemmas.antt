-- The change of each decision fits: it keeps the rules of rows.
use Rattle.std.proofs.Common.{◌≡◌, ℕ, zero, suc, ◌/◌, ◌^◌, ◌≤◌, ◌<◌, ◌⊎◌, inl, inr, Bool, true, false, not, List, [], ◌∷◌, filter, length, Option, Some, None, refl, sym, ap, ◌∙◌, subst, arith}
use Rattle.std.specs.Prelude.{find, option_map, option_and_then, unwrap_or, is_some, ◌==◌, nat_le, nat_lt, codes, slice_index, IsSome, IfSome}
use Rattle.std.specs.Int.{w32, to_be_bytes, bytes_high_first, byte_at}
use Rattle.std.specs.List.{list_all, AllByRecursion}
use Rattle.std.proofs.lemmas.Bool.{cases_Bool, cond-true, cond-false, both_ways, and_from, leb-false, lt-ltb, eqb-true, eq-eqb, not-false}
use Rattle.std.proofs.lemmas.List.Folds.{list_all-append}
use Rattle.std.proofs.lemmas.Nat.{mod_below}
use Rattle.sha2.specs.Sha256.{sha256, digest_bytes, final_hash, initial_hash_256}
use Rattle.sha2.proofs.Facts256.{length-sha256}
use Rattle.serde_json.specs.Data.{Data}
use Rattle.plan_calendar.specs.WorkingDay.{Workdays}
use Rattle.plan_psplib.specs.Project.{Project, SaysProject}
use Rattle.plan_rows.specs.declared.kinds.Kind.{Kind}
use Rattle.plan_rows.specs.declared.kinds.PlanKind.{PlanKind}
use Rattle.plan_rows.specs.declared.kinds.PlanKind.TheVariants as kinds
use Rattle.plan_rows.specs.World.{Text, Published, Desk, Plan, World, same_kind, takes, is_plan_of, is_plan, code_in, desk_in, plan_in}
use Rattle.plan_rows.specs.Names.{is_name, is_key, is_digest, is_from_to}
use Rattle.plan_desk.specs.Bodies.{json, passing, text_in, number_in, any_text, kind_named, PublishBody, publish_members, publish_body, DeskBody, desk_members}
use Rattle.plan_desk.specs.Bodies.{desk_body, desk_named, BindBody, bind_members, bind_body, LagBody, lag_members, lag_body, key_body}
use Rattle.plan_rows.specs.Changes.{Change, Keep, apply}
use Rattle.plan_rows.specs.Views.{View, view}
use Rattle.plan_desk.specs.Calls.{Call, publish, open_desk, set_key, capacities, plans, import_project, import_shop, remove, bind, set_calendar, set_lag, dates}
use Rattle.plan_desk.specs.Calls.{schedule, chart, days, best, Request, Reply, subject, admits}
use Rattle.plan_desk.specs.Stories.{decided}
use Rattle.plan_desk.specs.Outcomes.{Outcome, refuses, tells, shows, makes, unless, given, some, why_or}
use Rattle.plan_rows.specs.Plans.{plan_number, has_number, plan_seen, HasPlaces, is_place}
use Rattle.plan_desk.specs.OfficeRoutes.{is_other_kind, Publishes, Opens, SetsKey}
use Rattle.plan_desk.specs.PlanRoutes.{of_plan, by_kind, Imports, ImportsProject, ImportsShop, Removes, Binds, Calendars, SetsLag}
use Rattle.plan_rows.specs.Plans.{has_arc}
use Rattle.plan_desk.specs.PageRoutes.{Dates, OfSchedule, OfShopSchedule, Schedules, Charts, OfCalendar, Days}
use Rattle.plan_desk.specs.BestRoutes.{OfProjectBest, OfShopBest, Best}
use Rattle.plan_rows.specs.declared.kinds.Kind.TheVariants as codes_of
use Rattle.plan_desk.specs.BookSteps.{HasRows, Allows}
use Rattle.plan_desk.specs.Decisions.{Answers, IsDecision, IsStep}
use Rattle.plan_rows.specs.Rules.{IsThereAnd, HasName, IsWorld}
use Rattle.plan_desk.specs.Laws.{StepsKeepRules}
use Rattle.plan_rows.proofs.RuleLemmas.{found_has}
use Rattle.plan_desk.proofs.StoryLemmas.{decided_rest, decided_keeps}
use Rattle.plan_desk.proofs.KeepLemmas.{Fits, fits_keeps}

-- ---- digests

low_byte : (k n : ℕ) → byte_at k n < 256
low_byte zero n = mod_below n 256 (omega arith)
low_byte (suc k) n = mod_below (n / 256 ^ suc k) 256 (omega arith)

low_bytes : (k n : ℕ) → list_all (λ b. nat_lt b 256) (bytes_high_first k n) ≡ true
low_bytes zero n = refl
low_bytes (suc k) n = and_from (nat_lt (byte_at k n) 256) (list_all (λ b. nat_lt b 256) (bytes_high_first k n)) (lt-ltb (byte_at k n) 256 (low_byte k n)) (low_bytes k n)

digest_low : (h : List ℕ) (n : ℕ) → list_all (λ b. nat_lt b 256) (digest_bytes h n) ≡ true
unfolding digest_bytes
digest_low h zero = refl
digest_low h (suc n) =
    list_all-append (λ b. nat_lt b 256) (digest_bytes h n) (to_be_bytes w32 (slice_index h n))
    ∙ and_from (list_all (λ b. nat_lt b 256) (digest_bytes h n)) (list_all (λ b. nat_lt b 256) (to_be_bytes w32 (slice_index h n)))
    (digest_low h n) (low_bytes 4 (slice_index h n))

pub sha256_is_digest : (text : Text) → is_digest (sha256 text) ≡ true
unfolding sha256
sha256_is_digest text =
    and_from (length (sha256 text) == 32) (list_all (λ b. nat_lt b 256) (sha256 text))
    (eq-eqb (length (sha256 text)) 32 (length-sha256 text)) (digest_low (final_hash initial_hash_256 text) 8)

-- ---- the contents of bodies

-- if a chain of two steps returns a value, the first step returned one
and_then_some : {A B : Type 0} (f : A → Option B) (o : Option A) (y : B) → option_and_then f o ≡ Some y → (x : A) × (o ≡ Some x) × (f x ≡ Some y)
and_then_some f None y e = absurd (grind (arith, e))
and_then_some f (Some x) y e = (x, refl, e)

map_some : {A B : Type 0} (f : A → B) (o : Option A) (y : B) → option_map f o ≡ Some y → (x : A) × (o ≡ Some x) × (f x ≡ y)
map_some f None y e = absurd (grind (arith, e))
map_some f (Some x) y e = (x, refl, grind (arith, e))

passes : {A : Type 0} (p : A → Bool) (x y : A) → passing p x ≡ Some y → p y ≡ true
passes p x y e = by_test (cases_Bool (p x))
  where
    by_test : (p x ≡ true) ⊎ (p x ≡ false) → p y ≡ true
    by_test (inl in_) =
        let same : x ≡ y = grind (arith, e, cond-true (p x) (Some x) None in_) in
        subst (λ z. p z ≡ true) same in_
    by_test (inr out_) = absurd (grind (arith, e, cond-false (p x) (Some x) None out_))

text_passes : (p : Text → Bool) (name : Text) (value : Data) (text : Text) → text_in p name value ≡ Some text → p text ≡ true
text_passes p name value text e = let found = and_then_some (passing p) _ text e in passes p found.0 text found.2

number_passes : (p : ℕ → Bool) (name : Text) (value : Data) (n : ℕ) → number_in p name value ≡ Some n → p n ≡ true
number_passes p name value n e = let found = and_then_some (passing p) _ n e in passes p found.0 n found.2

-- a member that passes a test is a text
any_named : (p : Text → Bool) (name : Text) (value : Data) (text : Text) → text_in p name value ≡ Some text → text_in any_text name value ≡ Some text
any_named p name value text e =
    let found = and_then_some (passing p) _ text e in
    let same : found.0 ≡ text = passed found.0 found.2 in
    ap (option_and_then (passing any_text)) found.1 ∙ ap Some same
  where
    passed : (x : Text) → passing p x ≡ Some text → x ≡ text
    passed x f = by_test (cases_Bool (p x))
      where
        by_test : (p x ≡ true) ⊎ (p x ≡ false) → x ≡ text
        by_test (inl in_) = grind (arith, f, cond-true (p x) (Some x) None in_)
        by_test (inr out_) = absurd (grind (arith, f, cond-false (p x) (Some x) None out_))

abbrev code_said : Text → Kind → ℕ → PublishBody
code_said code kind capacity = record { code = code; kind = kind; capacity = capacity }

publish_says : (body : Text) (b : PublishBody) → publish_body body ≡ Some b → (is_name b.code ≡ true) × (nat_le b.capacity 10000 ≡ true)
unfolding publish_body
publish_says body b e =
    let value = and_then_some publish_members (json body) b e in
    let code = and_then_some _ (text_in is_name (codes "code") value.0) b value.2 in
    let kind = and_then_some (λ (named : Kind). option_map (λ (capacity : ℕ). code_said code.0 named capacity) (number_in (λ n. nat_le n 10000) (codes "capacity") value.0))
    (option_and_then kind_named (text_in any_text (codes "kind") value.0)) b code.2 in
    let capacity = map_some _ (number_in (λ n. nat_le n 10000) (codes "capacity") value.0) b kind.2 in (
      subst (λ r. is_name r.code ≡ true) capacity.2 (text_passes is_name (codes "code") value.0 code.0 code.1),
      subst (λ r. nat_le r.capacity 10000 ≡ true) capacity.2 (number_passes (λ n. nat_le n 10000) (codes "capacity") value.0 capacity.0 capacity.1),
    )

pub desk_says : (body : Text) (b : DeskBody) → desk_body body ≡ Some b → (is_name b.desk ≡ true) × (desk_named body ≡ Some b.desk)
unfolding desk_body desk_named
desk_says body b e =
    let value = and_then_some desk_members (json body) b e in
    let desk = and_then_some _ (text_in is_name (codes "desk") value.0) b value.2 in
    let key = map_some _ (text_in is_key (codes "key") value.0) b desk.2 in (
      subst (λ r. is_name r.desk ≡ true) key.2 (text_passes is_name (codes "desk") value.0 desk.0 desk.1),
      ap (option_and_then (text_in any_text (codes "desk"))) value.1 ∙ any_named is_name (codes "desk") value.0 desk.0 desk.1 ∙ ap (λ r. Some r.desk) key.2,
    )

-- the key of an opened desk is valid
pub desk_key_says : (body : Text) (b : DeskBody) → desk_body body ≡ Some b → is_key b.key ≡ true
unfolding desk_body
desk_key_says body b e =
    let value = and_then_some desk_members (json body) b e in
    let desk = and_then_some _ (text_in is_name (codes "desk") value.0) b value.2 in
    let key = map_some _ (text_in is_key (codes "key") value.0) b desk.2 in
    subst (λ r. is_key r.key ≡ true) key.2 (text_passes is_key (codes "key") value.0 key.0 key.1)

pub key_says : (body key : Text) → key_body body ≡ Some key → is_key key ≡ true
unfolding key_body
key_says body key e =
    let value = and_then_some (text_in is_key (codes "key")) (json body) key e in
    text_passes is_key (codes "key") value.0 key value.2

bind_says : (p : ℕ → Bool) (body : Text) (b : BindBody) → bind_body p body ≡ Some b → p b.place ≡ true
unfolding bind_body
bind_says p body b e =
    let value = and_then_some (bind_members p) (json body) b e in
    let code = and_then_some _ (text_in is_name (codes "code") value.0) b value.2 in
    let place = map_some _ (number_in p (codes "place") value.0) b code.2 in
    subst (λ r. p r.place ≡ true) place.2 (number_passes p (codes "place") value.0 place.0 place.1)

lag_says : (body : Text) (b : LagBody) → lag_body body ≡ Some b → nat_le b.lag 10000 ≡ true
unfolding lag_body
lag_says body b e =
    let value = and_then_some lag_members (json body) b e in
    let source = and_then_some _ (number_in (is_from_to 1 502) (codes "from") value.0) b value.2 in
    let target = and_then_some _ (number_in (is_from_to 1 502) (codes "to") value.0) b source.2 in
    let lag = map_some _ (number_in (λ n. nat_le n 10000) (codes "lag") value.0) b target.2 in
    subst (λ r. nat_le r.lag 10000 ≡ true) lag.2 (number_passes (λ n. nat_le n 10000) (codes "lag") value.0 lag.0 lag.1)

-- ---- outcomes whose changes fit

-- a change keeps the rules, and has the rows that it needs
abbrev pub FitsIn : Text → World → Change → Type 0
FitsIn s w c = Fits s w c × HasRows s w c

abbrev IsFit : Text → World → Outcome → Type 0
IsFit s w O = (reply : Reply) (c : Change) → O reply c → FitsIn s w c

fit_keep : (s : Text) (w : World) (c : Change) → c ≡ Keep → FitsIn s w c
fit_keep s w c e = subst (FitsIn s w) (sym e) (tt, tt)

is_there : {A : Type 0} (o : Option A) → not (is_some o) ≡ false → IsSome o
is_there o e = not-false (is_some o) e

some_there : {A : Type 0} (o : Option A) (x : A) → o ≡ Some x → IsSome o
some_there o x e = ap is_some e

kind_is : (a b : Kind) → not (same_kind a b) ≡ false → a ≡ b
kind_is codes_of.Crew codes_of.Crew e = refl
kind_is codes_of.Machine codes_of.Machine e = refl
kind_is codes_of.Crew codes_of.Machine e = absurd (both_ways true e refl)
kind_is codes_of.Machine codes_of.Crew e = absurd (both_ways true e refl)

-- a published code without another kind has this kind
kind_there : (kind : Kind) (o : Option Published) → is_other_kind kind o ≡ false → IfSome o (λ row. row.kind ≡ kind)
kind_there kind None e = tt
kind_there kind (Some row) e = kind_is row.kind kind e

fit_refuses : (s : Text) (w : World) (r : Reply) → IsFit s w (refuses r)
unfolding refuses
fit_refuses s w r reply c h = fit_keep s w c h.1

fit_tells : (s : Text) (w : World) (text : Text) → IsFit s w (tells text)
unfolding tells
fit_tells s w text reply c h = fit_keep s w c h.1

fit_shows : (s : Text) (w : World) (P : Text → Type 0) → IsFit s w (shows P)
unfolding shows
fit_shows s w P reply c (text, p, e, f) = fit_keep s w c f

fit_makes : (s : Text) (w : World) (status : ℕ) (text : Text) (made : Change) → FitsIn s w made → IsFit s w (makes status text made)
unfolding makes
fit_makes s w status text made fits reply c h = subst (FitsIn s w) (sym h.1) fits

fit_unless : (s : Text) (w : World) (b : Bool) (r : Reply) (Rest : Outcome) → (b ≡ false → IsFit s w Rest) → IsFit s w (unless b r Rest)
unfolding unless
fit_unless s w true r Rest rest = fit_refuses s w r
fit_unless s w false r Rest rest = rest refl

fit_given : {A : Type 0} (s : Text) (w : World) (o : Option A) (r : Reply) (Rest : A → Outcome) → ((x : A) → o ≡ Some x → IsFit s w (Rest x)) → IsFit s w (given o r Rest)
unfolding given
fit_given s w None r Rest rest = fit_refuses s w r
fit_given s w (Some x) r Rest rest = rest x refl

fit_some : {A : Type 0} (s : Text) (w : World) (P : A → Type 0) (Rest : A → Outcome) → ((x : A) → P x → IsFit s w (Rest x)) → IsFit s w (some P Rest)
unfolding some
fit_some s w P Rest rest reply c (x, p, h) = rest x p reply c h

fit_why_or : {A : Type 0} (s : Text) (w : World) (Tells : Text → Type 0) (r : Text → Reply) (P : A → Type 0) (Rest : A → Outcome)
    → ((x : A) → P x → IsFit s w (Rest x)) → IsFit s w (why_or Tells r P Rest)
unfolding why_or
fit_why_or s w Tells r P Rest rest reply c (inl h) = fit_some s w Tells (λ line. refuses (r line)) (λ line told. fit_refuses s w (r line)) reply c h
fit_why_or s w Tells r P Rest rest reply c (inr h) = fit_some s w P Rest rest reply c h

fit_of_plan : (s : Text) (w : World) (v : View) (n : Text) (Rest : Plan → Outcome) → ((plan : Plan) → plan_seen v n ≡ Some plan → IsFit s w (Rest plan)) → IsFit s w (of_plan v n Rest)
unfolding of_plan
fit_of_plan s w v n Rest rest = fit_given s w _ _ _ rest

fit_by_kind : (s : Text) (w : World) (kind : PlanKind) (One Other : Outcome) → (kind ≡ kinds.Project → IsFit s w One) → (kind ≡ kinds.Shop → IsFit s w Other) → IsFit s w (by_kind kind One Other)
unfolding by_kind
fit_by_kind s w kinds.Project One Other one other = one refl
fit_by_kind s w kinds.Shop One Other one other = other refl

-- ---- rows that a desk sees exist

find_seen : (s : Text) (m : ℕ) (xs : List Plan) → find (has_number m) (filter (is_plan_of s) xs) ≡ find (is_plan s m) xs
find_seen s m [] = refl
find_seen s m (x ∷ xs) = grind (arith, cases_Bool (is_plan_of s x), cases_Bool (x.n == m), find_seen s m xs)

-- a plan that a desk sees is found in the tables by its number
pub seen_there : (s : Text) (w : World) (text : Text) (plan : Plan) → plan_seen (view s w) text ≡ Some plan → plan_in w s plan.n ≡ Some plan
seen_there s w text plan e =
    let found = and_then_some (λ m. find (has_number m) (view s w).plans) (plan_number text) plan e in
    let there : plan_in w s found.0 ≡ Some plan = sym (find_seen s found.0 w.plans) ∙ found.2 in
    let number : plan.n ≡ found.0 = eqb-true plan.n found.0 (numbered (view s w).plans found.0 found.2) in
    subst (λ m. plan_in w s m ≡ Some plan) (sym number) there
  where
    numbered : (xs : List Plan) (m : ℕ) → find (has_number m) xs ≡ Some plan → has_number m plan ≡ true
    numbered xs m f = (found_has (λ x. Unit {0}) (has_number m) xs plan f (nothing_asked xs)).1
      where
        nothing_asked : (ys : List Plan) → AllByRecursion (λ x. Unit {0}) ys
        nothing_asked [] = tt
        nothing_asked (y ∷ ys) = (tt, nothing_asked ys)

-- ---- routes

fit_publishes : (w : World) (body : Text) → IsFit [] w (Publishes w.published body)
unfolding Publishes
fit_publishes w body = fit_given [] w _ _ _ (λ b e. fit_unless [] w _ _ _ (λ same. fit_makes [] w _ _ _ (publish_says body b e, kind_there b.kind (code_in w.published b.code) same)))

fit_opens : (s : Text) (w : World) (body : Text) → s ≡ unwrap_or (desk_named body) [] → IsFit s w (Opens (view s w) body)
unfolding Opens
fit_opens s w body named =
    fit_given s w _ _ _ (λ b e. fit_unless s w _ _ _
    (λ absent. fit_makes s w _ _ _ (
      (
        subst (λ t. is_name t ≡ true)
            (sym (named ∙ ap (λ o. unwrap_or o []) (desk_says body b e).1))
            (desk_says body b e).0,
        sha256_is_digest b.key,
        no_row (desk_in w s) absent,
      ),
      no_row
          (desk_in w s) absent,
    )))
  where
    no_row : (o : Option Desk) → is_some o ≡ false → o ≡ None
    no_row None e = refl
    no_row (Some row) e = absurd (both_ways true e refl)

fit_sets_key : (s : Text) (w : World) (body : Text) → IsFit s w (SetsKey (view s w) s body)
unfolding SetsKey
fit_sets_key s w body = fit_unless s w _ _ _ (λ there. fit_given s w _ _ _ (λ key e. fit_makes s w _ _ _ (sha256_is_digest key, is_there (desk_in w s) there)))

fit_imports : {A : Type 0} (s : Text) (w : World) (kind : PlanKind) (name body : Text) (Tells : Text → Type 0) (Reads : A → Type 0)
    → HasName kind name → ((x : A) → Reads x → (count : ℕ) × HasPlaces kind name body count) → IsFit s w (Imports (view s w) kind name body Tells Reads)
unfolding Imports
fit_imports s w kind name body Tells Reads named reads =
    fit_given s w _ _ _ (λ row found. fit_unless s w _ _ _
    (λ room. fit_unless s w _ _ _ (λ next. fit_why_or s w _ _ _ _
    (λ x is. fit_makes s w _ _ _ (
      (
        row,
        found,
        leb-false 100 (length (view s w).plans) room,
        below
            (leb-false 1000001 row.next next),
        named,
        reads x is,
      ),
      some_there (desk_in w s) row found,
    )))))
  where
    below : {n : ℕ} → n < 1000001 → n ≤ 1000000
    below h = omega (arith, h)

fit_imports_project : (s : Text) (w : World) (body : Text) → IsFit s w (ImportsProject (view s w) body)
unfolding ImportsProject
fit_imports_project s w body = fit_imports s w _ _ _ _ _ refl (λ p says. (length p.available, (p, says, refl)))

fit_imports_shop : (s : Text) (w : World) (name body : Text) → IsFit s w (ImportsShop (view s w) name body)
unfolding ImportsShop
fit_imports_shop s w name body = fit_imports s w _ _ _ _ _ tt (λ doc says. (doc.machines, (doc, says, refl)))

fit_removes : (s : Text) (w : World) (n : Text) → IsFit s w (Removes (view s w) n)
unfolding Removes
fit_removes s w n =
    fit_of_plan s w _ _ _ (λ plan seen. fit_makes s w _ _ _ (tt, some_there (plan_in w s plan.n) plan (seen_there s w n plan seen)))

-- the code is published with the required kind
right_kind : (kind : Kind) (o : Option Published) → not (is_some o) ≡ false → is_other_kind kind o ≡ false → IsThereAnd o (λ code. same_kind code.kind kind ≡ true)
right_kind kind None absent other = absurd (both_ways true absent refl)
right_kind kind (Some row) absent other = not-false (same_kind row.kind kind) other

fit_binds : (s : Text) (w : World) (n body : Text) → IsFit s w (Binds (view s w) n body)
unfolding Binds
fit_binds s w n body =
    fit_of_plan s w _ _ _ (λ plan seen. fit_some s w _ _ (λ count has. fit_given s w _ _ _ (λ b e.
    fit_unless s w _ _ _ (λ there. fit_unless s w _ _ _ (λ right.
    let bound = subst (λ o. IsThereAnd o (λ found.
    ((count : ℕ) × HasPlaces found.kind found.name found.body count × (is_place found.kind count b.place ≡ true))
    × IsThereAnd (code_in w.published b.code) (λ code. same_kind code.kind (takes found.kind) ≡ true)))
    (sym (seen_there s w n plan seen))
    ((count, has, bind_says (is_place plan.kind count) body b e), right_kind (takes plan.kind) (code_in w.published b.code) there right) in
    fit_makes s w _ _ _ (bound, (some_there (plan_in w s plan.n) plan (seen_there s w n plan seen), is_there (code_in w.published b.code) there)))))))

fit_calendars : (s : Text) (w : World) (n body : Text) → IsFit s w (Calendars (view s w) n body)
unfolding Calendars
fit_calendars s w n body =
    fit_of_plan s w _ _ _ (λ plan seen. fit_given s w _ _ _ (λ b e. fit_why_or s w _ _ _ _ (λ c is. fit_makes s w _ _ _ ((c, is), some_there (plan_in w s plan.n) plan (seen_there s w n plan seen)))))

fit_sets_lag : (s : Text) (w : World) (n body : Text) → IsFit s w (SetsLag (view s w) n body)
unfolding SetsLag
fit_sets_lag s w n body =
    fit_of_plan s w _ _ _ (λ plan seen. fit_given s w _ _ _ (λ b e. fit_by_kind s w _ _ _
    (λ kind. fit_some s w _ _ (λ p says. fit_unless s w _ _ _
    (λ arc. fit_makes s w _ _ _ (
      (
        subst (λ o. IsThereAnd o
            (λ found. (found.kind ≡ kinds.Project) × ((q : Project) × SaysProject found.body q
            × (has_arc q.network b.from b.to ≡ true)))) (sym (seen_there s w n plan seen))
            (kind, (p, says, not-false (has_arc p.network b.from b.to) arc)),
        lag_says body b e,
      ),
      some_there
          (plan_in w s plan.n) plan (seen_there s w n plan seen),
    ))))
    (λ kind. fit_refuses s w _)))

fit_dates : (s : Text) (w : World) (n : Text) → IsFit s w (Dates (view s w) n)
unfolding Dates
fit_dates s w n = fit_of_plan s w _ _ _ (λ plan seen. fit_by_kind s w _ _ _ (λ kind. fit_some s w _ _ (λ p is. fit_shows s w _)) (λ kind. fit_refuses s w _))

fit_schedules : (s : Text) (w : World) (n rule : Text) → IsFit s w (Schedules (view s w) n rule)
unfolding Schedules OfSchedule OfShopSchedule
fit_schedules s w n rule =
    fit_of_plan s w _ _ _ (λ plan seen. fit_by_kind s w _ _ _
    (λ kind. fit_some s w _ _ (λ p is. fit_why_or s w _ _ _ _ (λ starts by. fit_shows s w _)))
    (λ kind. fit_some s w _ _ (λ shop is. fit_why_or s w _ _ _ _ (λ starts by. fit_shows s w _))))

fit_charts : (s : Text) (w : World) (n rule : Text) → IsFit s w (Charts (view s w) n rule)
unfolding Charts OfSchedule OfShopSchedule
fit_charts s w n rule =
    fit_of_plan s w _ _ _ (λ plan seen. fit_by_kind s w _ _ _
    (λ kind. fit_some s w _ _ (λ p is. fit_why_or s w _ _ _ _ (λ starts by. fit_shows s w _)))
    (λ kind. fit_some s w _ _ (λ shop is. fit_why_or s w _ _ _ _ (λ starts by. fit_shows s w _))))

fit_of_calendar : (s : Text) (w : World) (plan : Plan) (IsTable : Workdays → Text → Type 0) (IsBeyond : Workdays → Type 0) → IsFit s w (OfCalendar plan IsTable IsBeyond)
unfolding OfCalendar
fit_of_calendar s w plan IsTable IsBeyond = fit_unless s w _ _ _ (λ there. fit_why_or s w _ _ _ _ (λ text is. fit_shows s w _))

fit_days : (s : Text) (w : World) (n rule : Text) → IsFit s w (Days (view s w) n rule)
unfolding Days OfSchedule OfShopSchedule
fit_days s w n rule =
    fit_of_plan s w _ _ _ (λ plan seen. fit_by_kind s w _ _ _
    (λ kind. fit_some s w _ _ (λ p is. fit_why_or s w _ _ _ _ (λ starts by. fit_of_calendar s w _ _ _)))
    (λ kind. fit_some s w _ _ (λ shop is. fit_why_or s w _ _ _ _ (λ starts by. fit_of_calendar s w _ _ _))))

fit_best : (s : Text) (w : World) (n word : Text) → IsFit s w (Best (view s w) n word)
unfolding Best OfProjectBest OfShopBest
fit_best s w n word =
    fit_of_plan s w _ _ _ (λ plan seen. fit_by_kind s w _ _ _
    (λ kind. fit_some s w _ _ (λ p is. fit_why_or s w _ _ _ _ (λ text by. fit_shows s w _)))
    (λ kind. fit_some s w _ _ (λ shop is. fit_why_or s w _ _ _ _ (λ text by. fit_shows s w _))))

-- the change of an admitted request fits
answers_fit : (w : World) (r : Request) → IsFit (subject r) w (Answers (view (subject r) w) r.call)
answers_fit w r = by_call r.key r.call
  where
    by_call : (key : Option Text) (call : Call) → IsFit (subject (record { key = key; call = call })) w (Answers (view (subject (record { key = key; call = call })) w) call)
    by_call key (publish body) = fit_publishes w body
    by_call key (open_desk body) = fit_opens (unwrap_or (desk_named body) []) w body refl
    by_call key (set_key desk body) = fit_sets_key desk w body
    by_call key (capacities desk) = fit_tells desk w _
    by_call key (plans desk) = fit_tells desk w _
    by_call key (import_project desk body) = fit_imports_project desk w body
    by_call key (import_shop desk instance body) = fit_imports_shop desk w instance body
    by_call key (remove desk n) = fit_removes desk w n
    by_call key (bind desk n body) = fit_binds desk w n body
    by_call key (set_calendar desk n body) = fit_calendars desk w n body
    by_call key (set_lag desk n body) = fit_sets_lag desk w n body
    by_call key (dates desk n) = fit_dates desk w n
    by_call key (schedule desk n rule) = fit_schedules desk w n rule
    by_call key (chart desk n rule) = fit_charts desk w n rule
    by_call key (days desk n rule) = fit_days desk w n rule
    by_call key (best desk n budget) = fit_best desk w n budget

-- the change of each decision fits
pub decided_fits : (w : World) (r : Request) (reply : Reply) (c : Change) → decided (admits (view (subject r) w) r) (Answers (view (subject r) w) r.call) reply c → FitsIn (subject r) w c
decided_fits w r reply c h = by_key (cases_Bool (admits (view (subject r) w) r))
  where
    by_key : (admits (view (subject r) w) r ≡ true) ⊎ (admits (view (subject r) w) r ≡ false) → FitsIn (subject r) w c
    by_key (inl open_) = answers_fit w r reply c (decided_rest (admits (view (subject r) w) r) (Answers (view (subject r) w) r.call) reply c open_ h)
    by_key (inr locked) = fit_keep (subject r) w c (decided_keeps (admits (view (subject r) w) r) (Answers (view (subject r) w) r.call) reply c locked h)

-- a step keeps the rules of rows
pub steps_keep_rules : StepsKeepRules
unfolding StepsKeepRules IsStep
steps_keep_rules = λ w r reply after k step. kept w r reply after k step
  where
    kept : (w : World) (r : Request) (reply : Reply) (after : World) → IsWorld w
        → ((c : Change) × decided (admits (view (subject r) w) r) (Answers (view (subject r) w) r.call) reply c × (after ≡ apply (subject r) c w)) → IsWorld after
    kept w r reply after k (c, h, e) = subst IsWorld (sym e) (fits_keeps (subject r) c w k (decided_fits w r reply c h).0)

-- a decision has the rows that it needs, and the tables keep their rules after it
pub decision_allows : (w : World) (r : Request) (reply : Reply) (c : Change) → IsWorld w → IsDecision (view (subject r) w) r reply c → Allows (subject r) w c
unfolding IsDecision
decision_allows w r reply c k h = let fits = decided_fits w r reply c h in (fits.1, fits_keeps (subject r) c w k fits.0)
