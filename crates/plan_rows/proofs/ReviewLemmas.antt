-- Plans that are tested one at a time: the keys of lags that are on no arc so far, and one more
-- plan.
use Rattle.std.proofs.Common.{◌≡◌, ◌+◌, filter, ◌⊎◌, inl, inr, ℕ, zero, suc, ◌<◌, ◌≤◌, Bool, true, false, ◌&&◌, ◌||◌, ◌==◌, List, [], ◌∷◌, ◌++◌, length, map, take, get_or, Option, Some, None, refl, sym, ap, ap₂, ◌∙◌, subst, arith}
use Rattle.std.specs.Prelude.{not, cond, find, nat_lt}
use Rattle.std.specs.Bool.{MatchBool}
use Rattle.std.specs.List.{list_any, position, position_from, AllByRecursion}
use Rattle.std.proofs.lemmas.Bool.{cases_Bool, both_ways, and_parts, and_from, eq-eqb, ltb-true, ltb-false}
use Rattle.std.proofs.lemmas.List.{map-id}
use Rattle.std.proofs.lemmas.List.Quantifiers.{position-Some}
use Rattle.std.proofs.lemmas.Iterator.Adapters.{position_from-zero}
use Rattle.plan_net.specs.Network.{Net, joins}
use Rattle.plan_psplib.specs.Project.{Project, SaysProject}
use Rattle.plan_psplib.proofs.OnceLemmas.{project_once}
use Rattle.plan_rows.specs.declared.kinds.PlanKind.TheVariants as kinds
use Rattle.plan_rows.specs.declared.row_tests.files.PlanFile.{PlanFile}
use Rattle.plan_rows.specs.declared.row_tests.other_rows.PlanSeen.{PlanSeen}
use Rattle.plan_rows.specs.declared.tables.records.LagRecord.{LagRecord}
use Rattle.plan_rows.specs.World.{Text, Plan, Lag, World, same_text, is_plan, is_plan_of, plan_in}
use Rattle.plan_rows.specs.Names.{is_from_to, is_digest}
use Rattle.plan_rows.specs.Plans.{has_arc}
use Rattle.plan_rows.specs.Rules.{AllDiffer, IsThereAnd, IsPlanRow, IsOwned, IsLagRow, IsWorld, is_desk_row}
use Rattle.plan_rows.specs.Tables.{head_of, head_seen, lag_kept}
use Rattle.plan_rows.specs.RowTests.{Tells, GivesFile, RowKey, HeldKey, shown_key, same_key, KeysDiffer, RowsAreGood}
use Rattle.plan_rows.specs.PlanReview.{holds_key, has_row, is_arc_key, lag_key_of, is_owner, arc_key, HasArc, SomeHasArc, AreOnArcs, IsStruck, IsStruckBy, IsLeft, SomeLeft, IsSeen, AreSeen, key_at}
use Rattle.plan_rows.proofs.KeyLemmas.{one_plan_key, one_plan}
use Rattle.plan_rows.proofs.KeyedLemmas.{same_key_swap, plan_key, lag_key}
use Rattle.plan_rows.proofs.OwnerLemmas.{text_from_same, same_text_refl}
use Rattle.plan_rows.proofs.RowTestLemmas.{tells_same, differ_seen, differ_under}
use Rattle.plan_rows.proofs.RowLemmas.{all_weaker}
use Rattle.plan_rows.proofs.RuleLemmas.{all_both, found_has}
use Rattle.plan_rows.proofs.TableLemmas.{none_at, find_at_place, find_none_at}
use Rattle.plan_rows.proofs.TestedLemmas.{project_of_file, length-filter-map, map_all, all_map}

-- ---- tests

and_true : (b : Bool) → (b && true) ≡ b
and_true true = refl
and_true false = refl

-- a key is removed
struck_step : (a b c : Bool) → cond c false (a && not b) ≡ (a && not (b || c))
struck_step true true true = refl
struck_step true true false = refl
struck_step true false true = refl
struck_step true false false = refl
struck_step false true true = refl
struck_step false true false = refl
struck_step false false true = refl
struck_step false false false = refl

any_take : {A : Type 0} (p : A → Bool) (xs : List A) (i : ℕ) (d : A) → i < length xs → list_any p (take (suc i) xs) ≡ (list_any p (take i xs) || p (get_or xs i d))
any_take p [] i d low = absurd (omega (arith, low))
any_take p (x ∷ xs) zero d low = grind (arith, cases_Bool (p x))
any_take p (x ∷ xs) (suc i) d low = grind (arith, cases_Bool (p x), any_take p xs i d (omega (arith, low)))

any_and : {A : Type 0} (b : Bool) (p : A → Bool) (xs : List A) → list_any (λ x. b && p x) xs ≡ (b && list_any p xs)
any_and true p [] = refl
any_and false p [] = refl
any_and true p (x ∷ xs) = ap (λ c. p x || c) (any_and true p xs)
any_and false p (x ∷ xs) = any_and false p xs

any_as : {A : Type 0} (p q : A → Bool) → ((a : A) → p a ≡ q a) → (xs : List A) → list_any p xs ≡ list_any q xs
any_as p q agree [] = refl
any_as p q agree (x ∷ xs) = grind (arith, agree x, any_as p q agree xs)

-- one more arc is removed
pub arcs_step : (desk : Text) (n : ℕ) (arcs : List (ℕ × ℕ)) (i j : ℕ) (d : ℕ × ℕ) (k q : HeldKey)
    (old mid new : List HeldKey) → i < length arcs → j ≡ suc i → shown_key k ≡ key_at desk n (get_or arcs i d)
    → holds_key mid q ≡ (holds_key old q && not (is_arc_key desk n (take i arcs) q)) → holds_key new q ≡ cond (same_key (shown_key k) (shown_key q)) false (holds_key mid q)
    → holds_key new q ≡ (holds_key old q && not (is_arc_key desk n (take j arcs) q))
arcs_step desk n arcs i j d k q old mid new low next key was now =
    let p = λ (a : ℕ × ℕ). same_key (shown_key q) (key_at desk n a) in
    let here : same_key (shown_key k) (shown_key q) ≡ p (get_or arcs i d) = same_key_swap (shown_key k) (shown_key q) ∙ ap (same_key (shown_key q)) key in
    now ∙ ap (cond (same_key (shown_key k) (shown_key q)) false) was ∙ struck_step (holds_key old q) (list_any p (take i arcs)) (same_key (shown_key k) (shown_key q))
    ∙ ap (λ b. holds_key old q && not (list_any p (take i arcs) || b)) here
    ∙ ap (λ b. holds_key old q && not b) (sym (any_take p arcs i d low)) ∙ ap (λ m. holds_key old q && not (list_any p (take m arcs))) (sym next)

-- nothing is removed
pub none_struck : (keys : List HeldKey) (q : HeldKey) → holds_key keys q ≡ (holds_key keys q && true)
none_struck keys q = sym (and_true (holds_key keys q))

-- the key of an arc of a plan
arcs_as : (desk : Text) (n : ℕ) (arcs : List (ℕ × ℕ)) (key : RowKey)
    → list_any (λ arc. same_key key (key_at desk n arc)) arcs ≡ ((same_text desk key.0 && (n == key.1)) && list_any (λ arc. joins arc key.2 key.3) arcs)
arcs_as desk n arcs key =
    any_as (λ arc. same_key key (key_at desk n arc)) (λ arc. (same_text desk key.0 && (n == key.1)) && joins arc key.2 key.3) (λ arc. lag_key key.0 desk key.1 n key.2 arc.0 key.3 arc.1) arcs
    ∙ any_and (same_text desk key.0 && (n == key.1)) (λ arc. joins arc key.2 key.3) arcs

-- a plan with a network has the arcs whose keys are its own
pub tells_arc : (plan : Plan) (file : PlanFile) (net : Net) (key : RowKey) → GivesFile plan.kind plan.name plan.body file → file.network ≡ Some net
    → Tells (list_any (λ arc. same_key key (key_at plan.desk plan.n arc)) net.arcs) (HasArc plan key)
tells_arc plan file net key gives e =
    let found = project_of_file plan.kind plan.name plan.body file net gives e in
    let said = arcs_as plan.desk plan.n net.arcs key in
    let here = list_any (λ arc. same_key key (key_at plan.desk plan.n arc)) net.arcs in
    tells_bool here (λ yes.
    let parts = and_parts (is_plan key.0 key.1 plan) (has_arc net key.2 key.3) (sym said ∙ yes) in
    (parts.0, found.0, (found.1.0, found.1.1, ap (λ m. has_arc m key.2 key.3) found.1.2 ∙ parts.1)))
    (λ has.
    let same = ap (λ (x : Project). x.network) (project_once plan.body has.2.0 found.1.0 has.2.1 found.1.1) ∙ found.1.2 in
    said ∙ and_from (is_plan key.0 key.1 plan) (has_arc net key.2 key.3) has.0 (ap (λ m. has_arc m key.2 key.3) (sym same) ∙ has.2.2))
  where
    tells_bool : (b : Bool) {P : Type 0} → (b ≡ true → P) → (P → b ≡ true) → Tells b P
    tells_bool true to back = to refl
    tells_bool false to back = λ p. both_ways false refl (back p)

-- a plan without a network has none
pub no_network : (plan : Plan) (file : PlanFile) (key : RowKey) → GivesFile plan.kind plan.name plan.body file → file.network ≡ None → HasArc plan key → ⊥
no_network plan file key gives e has = never (subst (λ kind. GivesFile kind plan.name plan.body file) has.1 gives)
  where
    never : GivesFile kinds.Project plan.name plan.body file → ⊥
    never (p, said, places, network) = apart (sym e ∙ network)
      where
        apart : None ≡ Some p.network → ⊥
        apart f = cc

-- a lag with this key is one of the plan that has the arc
owned_here : (plan : Plan) (row : LagRecord) (key : RowKey) → same_key key (lag_key_of row) ≡ true → is_plan key.0 key.1 plan ≡ true → is_owner plan row ≡ true
owned_here plan row key same has =
    let l = lag_kept row in
    let parts = and_parts (same_text l.desk key.0 && (l.n == key.1)) ((l.source == key.2) && (l.target == key.3)) (sym (lag_key key.0 l.desk key.1 l.n key.2 l.source key.3 l.target) ∙ same) in
    plan_key plan.desk l.desk plan.n l.n ∙ one_plan_key key.0 key.1 plan.desk l.desk plan.n l.n has parts.0

walk_owner : (plan : Plan) (q : HeldKey) → HasArc plan (shown_key q) → (rows : List LagRecord) →
    AllByRecursion (λ lag. same_key (plan.desk, plan.n, 0, 0) (lag.desk, lag.n, 0, 0) ≡ false)
    (map lag_kept rows) → has_row lag_key_of rows q ≡ true → ⊥
walk_owner plan q has [] all some = both_ways false refl some
walk_owner plan q has (row ∷ rows) all some = by_test (cases_Bool (same_key (shown_key q) (lag_key_of row))) (walk_owner plan q has rows all.1)
  where
    by_test : (same_key (shown_key q) (lag_key_of row) ≡ true) ⊎ (same_key (shown_key q) (lag_key_of row) ≡ false) → (has_row lag_key_of rows q ≡ true → ⊥) → ⊥
    by_test (inl in_) rest = both_ways (is_owner plan row) all.0 (owned_here plan row (shown_key q) in_ has.0)
    by_test (inr out_) rest = rest (ap (λ b. b || has_row lag_key_of rows q) (sym out_) ∙ some)

-- a plan without lags
pub no_owner : (plan : Plan) (rows : List LagRecord) (q : HeldKey) → position (is_owner plan) rows ≡ None → has_row lag_key_of rows q ≡ true → HasArc plan (shown_key q) → ⊥
no_owner plan rows q none some has = walk_owner plan q has rows (none_at lag_kept (λ lag. same_key (plan.desk, plan.n, 0, 0) (lag.desk, lag.n, 0, 0)) rows none) some

-- the name of the plan's desk is that of its first lag
pub owner_name : (plan : Plan) (rows : List LagRecord) (i : ℕ) (row : LagRecord) → position (is_owner plan) rows ≡ Some i → row ≡ get_or rows i row → (lag_kept row).desk ≡ plan.desk
owner_name plan rows i row e is =
    let found = position-Some (is_owner plan) rows i row e in
    let l = lag_kept row in
    let yes : is_owner plan row ≡ true = ap (is_owner plan) is ∙ found.1 in
    let parts = and_parts (same_text l.desk plan.desk) (l.n == plan.n) (sym (plan_key plan.desk l.desk plan.n l.n) ∙ yes) in
    text_from_same l.desk plan.desk parts.0

-- an index that is found is within the rows
pub found_below : {R : Type 0} (p : R → Bool) (rows : List R) (i : ℕ) → position p rows ≡ Some i → i < length rows
found_below p [] i e = absurd (none_found e)
  where
    none_found : None ≡ Some i → ⊥
    none_found e = cc
found_below p (row ∷ rows) i e = (position-Some p (row ∷ rows) i row e).0

pub owner_below : (plan : Plan) (rows : List LagRecord) (i : ℕ) → position (is_owner plan) rows ≡ Some i → i < length rows
owner_below plan = found_below (is_owner plan)

-- ---- one more plan

some_more : (plans : List Plan) (plan : Plan) (key : RowKey) → SomeHasArc plans key ⊎ HasArc plan key → SomeHasArc (plans ++ plan ∷ []) key
some_more [] plan key (inl none) = absurd none
some_more [] plan key (inr has) = inl has
some_more (p ∷ ps) plan key (inl (inl here)) = inl here
some_more (p ∷ ps) plan key (inl (inr there)) = inr (some_more ps plan key (inl there))
some_more (p ∷ ps) plan key (inr has) = inr (some_more ps plan key (inr has))

some_less : (plans : List Plan) (plan : Plan) (key : RowKey) → SomeHasArc (plans ++ plan ∷ []) key → SomeHasArc plans key ⊎ HasArc plan key
some_less [] plan key (inl has) = inr has
some_less [] plan key (inr none) = absurd none
some_less (p ∷ ps) plan key (inl here) = inl (inl here)
some_less (p ∷ ps) plan key (inr there) = elim (some_less ps plan key there) [ inl one ↦ inl (inr one) | inr has ↦ inr has ]

tells_either : (P Q : Type 0) (a b c : Bool) → c ≡ (a && not b) → Tells (not a) P → Tells b Q → Tells (not c) (P ⊎ Q)
tells_either P Q true true c e none q = subst (λ x. Tells (not x) (P ⊎ Q)) (sym e) (inr q)
tells_either P Q true false c e none never = subst (λ x. Tells (not x) (P ⊎ Q)) (sym e) (λ h. elim h [ inl p ↦ none p | inr q ↦ never q ])
tells_either P Q false true c e p q = subst (λ x. Tells (not x) (P ⊎ Q)) (sym e) (inl p)
tells_either P Q false false c e p never = subst (λ x. Tells (not x) (P ⊎ Q)) (sym e) (inl p)

pub pending_more : (plans : List Plan) (plan : Plan) (old new : List HeldKey) (q : HeldKey) → Tells (not (holds_key old q)) (SomeHasArc plans (shown_key q)) → IsStruckBy plan old new q
    → Tells (not (holds_key new q)) (SomeHasArc (plans ++ plan ∷ []) (shown_key q))
pending_more plans plan old new q was struck =
    tells_same (some_more plans plan (shown_key q)) (some_less plans plan (shown_key q))
    (not (holds_key new q)) (tells_either (SomeHasArc plans (shown_key q)) (HasArc plan (shown_key q))
    (holds_key old q) struck.0 (holds_key new q) struck.1 was struck.2)

pub seen_more : (plans : List Plan) (seen : List PlanSeen) (plan : Plan) (one : PlanSeen) → AreSeen plans seen → IsSeen plan one → AreSeen (plans ++ plan ∷ []) (seen ++ one ∷ [])
seen_more [] [] plan one are is = (is, tt)
seen_more [] (s ∷ seen) plan one are is = absurd are
seen_more (p ∷ plans) [] plan one are is = absurd are
seen_more (p ∷ plans) (s ∷ seen) plan one are is = (are.0, seen_more plans seen plan one are.1 is)

take_step : {R A : Type 0} (g : R → A) (rows : List R) (i : ℕ) (d : R) → i < length rows → map g (take i rows) ++ g (get_or rows i d) ∷ [] ≡ map g (take (suc i) rows)
take_step g [] i d low = absurd (omega (arith, low))
take_step g (r ∷ rows) zero d low = refl
take_step g (r ∷ rows) (suc i) d low = ap (λ l. g r ∷ l) (take_step g rows i d (omega (arith, low)))

-- one more plan of a list of rows
pub take_more : {R A : Type 0} (g : R → A) (rows : List R) (i j : ℕ) (d : R) → i < length rows → j ≡ suc i → map g (take i rows) ++ g (get_or rows i d) ∷ [] ≡ map g (take j rows)
take_more g rows i j d low next = take_step g rows i d low ∙ ap (λ k. map g (take k rows)) (sym next)

-- ---- at the end

pub left_at : {R : Type 0} (key : R → RowKey) (keys : List HeldKey) (rows : List R) (i : ℕ) (row : R) → i < length rows → row ≡ get_or rows i row → IsLeft keys (key row) → SomeLeft key keys rows
left_at key keys [] i row low is left = absurd (omega (arith, low))
left_at key keys (r ∷ rows) zero row low is left = inl (subst (λ x. IsLeft keys (key x)) is left)
left_at key keys (r ∷ rows) (suc i) row low is left = inr (left_at key keys rows i row (omega (arith, low)) is left)

same_key_here : (q : HeldKey) (key : RowKey) → shown_key q ≡ key → same_key (shown_key q) key ≡ true
same_key_here q key is = subst (λ k. same_key (shown_key q) k ≡ true) is
    (lag_key (shown_key q).0 (shown_key q).0 (shown_key q).1 (shown_key q).1 (shown_key q).2 (shown_key q).2 (shown_key q).3 (shown_key q).3
    ∙ and_from _ _ (and_from _ _ (same_text_refl (shown_key q).0) (own (shown_key q).1)) (and_from _ _ (own (shown_key q).2) (own (shown_key q).3)))
  where
    own : (n : ℕ) → (n == n) ≡ true
    own n = eq-eqb n n refl

get_same : {A : Type 0} (xs : List A) (i : ℕ) (d e : A) → i < length xs → get_or xs i d ≡ get_or xs i e
get_same [] i d e low = absurd (omega (arith, low))
get_same (x ∷ xs) zero d e low = refl
get_same (x ∷ xs) (suc i) d e low = get_same xs i d e (omega (arith, low))

-- one more row whose key is removed
pub struck_more : (keys : List HeldKey) (rows : List LagRecord) (i j : ℕ) (row : LagRecord) (q : HeldKey) → i < length rows → row ≡ get_or rows i row → j ≡ suc i → shown_key q ≡ lag_key_of row
    → (holds_key keys q ≡ true → ⊥) → ((k : ℕ) (d : LagRecord) → k < i → IsStruck keys (lag_key_of (get_or rows k d))) → (k : ℕ) (d : LagRecord) → k < j → IsStruck keys (lag_key_of (get_or rows k d))
struck_more keys rows i j row q low is next key gone before k d less = by_test (cases_Bool (nat_lt k i))
  where
    by_test : (nat_lt k i ≡ true) ⊎ (nat_lt k i ≡ false) → IsStruck keys (lag_key_of (get_or rows k d))
    by_test (inl in_) = before k d (ltb-true k i in_)
    by_test (inr out_) =
        let most = ltb-false k i out_ in
        let here : k ≡ i = omega (arith, less, next, most) in
        (q, key ∙ ap lag_key_of (is ∙ get_same rows i row d low) ∙ ap (λ n. lag_key_of (get_or rows n d)) (sym here), gone)

-- the result of a test
pub match_true : {b : Bool} (P Q : Type 0) → b ≡ true → MatchBool b P Q → P
match_true P Q e t = subst (λ b. MatchBool b P Q) e t

pub match_false : {b : Bool} (P Q : Type 0) → b ≡ false → MatchBool b P Q → Q
match_false P Q e t = subst (λ b. MatchBool b P Q) e t

module _ (plans : List Plan) (keys : List HeldKey) where
  abbrev IsTold : List LagRecord → Type 0
  IsTold rows = (q : HeldKey) → has_row lag_key_of rows q ≡ true → Tells (not (holds_key keys q)) (SomeHasArc plans (shown_key q))

  told_tail : (row : LagRecord) (rows : List LagRecord) → IsTold (row ∷ rows) → IsTold rows
  told_tail row rows told q some = told q (grind (arith, some, cases_Bool (same_key (shown_key q) (lag_key_of row))))

  told_here : (row : LagRecord) (rows : List LagRecord) (q : HeldKey) → IsTold (row ∷ rows) → shown_key q ≡ lag_key_of row → Tells (not (holds_key keys q)) (SomeHasArc plans (lag_key_of row))
  told_here row rows q told is =
      subst (λ k. Tells (not (holds_key keys q)) (SomeHasArc plans k)) is (told q (ap (λ b. b || has_row lag_key_of rows q) (same_key_here q (lag_key_of row) is)))

  pub on_arcs : (rows : List LagRecord) → IsTold rows → AllByRecursion (λ row. IsStruck keys (lag_key_of row)) rows → AreOnArcs plans (map lag_kept rows)
  on_arcs [] told all = tt
  on_arcs (row ∷ rows) told all = (here (holds_key keys all.0.0) refl, on_arcs rows (told_tail row rows told) all.1)
    where
      here : (b : Bool) → holds_key keys all.0.0 ≡ b → SomeHasArc plans (lag_key_of row)
      here true e = absurd (all.0.2 e)
      here false e = subst (λ b. Tells (not b) (SomeHasArc plans (lag_key_of row))) e (told_here row rows all.0.0 told all.0.1)

  pub off_arcs : (rows : List LagRecord) → IsTold rows → SomeLeft lag_key_of keys rows → AreOnArcs plans (map lag_kept rows) → ⊥
  off_arcs [] told left on = left
  off_arcs (row ∷ rows) told (inl here) on = subst (λ b. Tells (not b) (SomeHasArc plans (lag_key_of row))) here.2 (told_here row rows here.0 told here.1) on.0
  off_arcs (row ∷ rows) told (inr there) on = off_arcs rows (told_tail row rows told) there on.1

-- ---- tested plans

-- each keeps the rules of rows
pub seen_good : (plans : List Plan) (seen : List PlanSeen) → AreSeen plans seen → AllByRecursion IsPlanRow plans
seen_good [] seen are = tt
seen_good (plan ∷ plans) [] are = absurd are
seen_good (plan ∷ plans) (one ∷ seen) are = (are.0.row, seen_good plans seen are.1)

heads : (plans : List Plan) (seen : List PlanSeen) → AreSeen plans seen → map head_seen seen ≡ map head_of plans
heads [] [] are = refl
heads [] (one ∷ seen) are = absurd are
heads (plan ∷ plans) [] are = absurd are
heads (plan ∷ plans) (one ∷ seen) are = ap₂ ◌∷◌ are.0.head (heads plans seen are.1)

-- plans differ exactly if their tested rows do
pub seen_apart : (plans : List Plan) (seen : List PlanSeen) → AreSeen plans seen → (b : Bool) →
    Tells b (AllDiffer (λ x y. is_plan x.desk x.n y) (map head_seen seen)) →
    Tells b (AllDiffer (λ x y. is_plan x.desk x.n y) plans)
seen_apart plans seen are b t =
    tells_same (differ_under head_of (λ x y. is_plan x.desk x.n y) plans) (differ_seen head_of (λ x y. is_plan x.desk x.n y) plans) b
    (subst (λ l. Tells b (AllDiffer (λ x y. is_plan x.desk x.n y) l)) (heads plans seen are) t)

-- a desk has as many plans as tested rows
pub seen_count : (desk : Text) (plans : List Plan) (seen : List PlanSeen) → AreSeen plans seen → length (filter (λ row. is_plan_of desk (head_seen row)) seen) ≡ length (filter (is_plan_of desk) plans)
seen_count desk plans seen are =
    sym (length-filter-map head_seen (is_plan_of desk) seen) ∙ ap (λ l. length (filter (is_plan_of desk) l)) (heads plans seen are) ∙ length-filter-map head_of (is_plan_of desk) plans

-- a rule of keys is a fact of plans if it is one of their tested rows
pub seen_owned : (w : World) (plans : List Plan) (seen : List PlanSeen) → AreSeen plans seen → (b : Bool) →
    Tells b (AllByRecursion (λ row. IsOwned w (head_seen row)) seen) →
    Tells b (AllByRecursion (IsOwned w) plans)
seen_owned w plans seen are b t =
    tells_same (map_all head_of (IsOwned w) plans) (all_map head_of (IsOwned w) plans) b
    (subst (λ l. Tells b (AllByRecursion (IsOwned w) l)) (heads plans seen are)
    (tells_same (all_map head_seen (IsOwned w) seen) (map_all head_seen (IsOwned w) seen) b t))

-- they have the same indices
seen_from : (desk : Text) (n j : ℕ) (plans : List Plan) (seen : List PlanSeen) → AreSeen plans seen →
    position_from (λ row. is_plan desk n (head_seen row)) j seen ≡ position_from (is_plan desk n) j plans
seen_from desk n j [] [] are = refl
seen_from desk n j [] (one ∷ seen) are = absurd are
seen_from desk n j (plan ∷ plans) [] are = absurd are
seen_from desk n j (plan ∷ plans) (one ∷ seen) are = ap₂ (λ b o. cond b (Some j) o) (ap (is_plan desk n) are.0.head) (seen_from desk n (j + 1) plans seen are.1)

seen_place : (desk : Text) (n : ℕ) (plans : List Plan) (seen : List PlanSeen) → AreSeen plans seen → position (λ row. is_plan desk n (head_seen row)) seen ≡ position (is_plan desk n) plans
seen_place desk n plans seen are =
    position_from-zero (λ row. is_plan desk n (head_seen row)) seen ∙ seen_from desk n 0 plans seen are ∙ sym (position_from-zero (is_plan desk n) plans)

-- if no tested row has the key, no plan has
pub none_seen : (desk : Text) (n : ℕ) (plans : List Plan) (seen : List PlanSeen) → AreSeen plans seen →
    position (λ row. is_plan desk n (head_seen row)) seen ≡ None → find (is_plan desk n) plans ≡ None
none_seen desk n plans seen are e = subst (λ l. find (is_plan desk n) l ≡ None) (map-id plans) (find_none_at (λ x. x) (is_plan desk n) plans (sym (seen_place desk n plans seen are) ∙ e))

seen_at : (plans : List Plan) (seen : List PlanSeen) (i : ℕ) (d : Plan) (e : PlanSeen) → AreSeen plans seen → i < length seen → IsSeen (get_or plans i d) (get_or seen i e)
seen_at [] [] i d e are low = absurd (omega (arith, low))
seen_at [] (one ∷ seen) i d e are low = absurd are
seen_at (plan ∷ plans) [] i d e are low = absurd are
seen_at (plan ∷ plans) (one ∷ seen) zero d e are low = are.0
seen_at (plan ∷ plans) (one ∷ seen) (suc i) d e are low = seen_at plans seen i d e are.1 (omega (arith, low))

-- and if a tested row has it, its plan has
pub one_seen : (desk : Text) (n : ℕ) (plans : List Plan) (seen : List PlanSeen) (i : ℕ) (row : PlanSeen) →
    AreSeen plans seen → position (λ r. is_plan desk n (head_seen r)) seen ≡ Some i → row ≡ get_or seen i row
    → (plan : Plan) × (find (is_plan desk n) plans ≡ Some plan) × IsSeen plan row
one_seen desk n plans seen i row are e is =
    let there = sym (seen_place desk n plans seen are) ∙ e in
    let plan = get_or plans i (head_seen row) in
    let low = (position-Some (λ r. is_plan desk n (head_seen r)) seen i row e).0 in (
      plan,
      subst (λ l. find (is_plan desk n) l ≡ Some plan) (map-id plans) (find_at_place (λ x. x) (is_plan desk n) plans i (head_seen row) there),
      subst (IsSeen plan) (sym is) (seen_at plans seen i (head_seen row) row are low),
    )

-- ---- all tables

there_some : {A : Type 0} (o : Option A) (P : A → Type 0) → IsThereAnd o P → (x : A) × (o ≡ Some x) × P x
there_some None P h = absurd h
there_some (Some x) P h = (x, refl, h)

all_unit : (xs : List Plan) → AllByRecursion (λ x. Unit {0}) xs
all_unit [] = tt
all_unit (x ∷ xs) = (tt, all_unit xs)

-- the plan with the arc is the one that is found
found_arc : (plans : List Plan) (key : RowKey) → AllDiffer (λ a b. is_plan a.desk a.n b) plans → SomeHasArc plans key → (plan : Plan) × (find (is_plan key.0 key.1) plans ≡ Some plan) × HasArc plan key
found_arc [] key apart none = absurd none
found_arc (p ∷ ps) key apart (inl has) = (p, grind (arith, has.0), has)
found_arc (p ∷ ps) key apart (inr there) = by_test (cases_Bool (is_plan key.0 key.1 p)) (found_arc ps key apart.1 there)
  where
    by_test : (is_plan key.0 key.1 p ≡ true) ⊎ (is_plan key.0 key.1 p ≡ false) →
        ((plan : Plan) × (find (is_plan key.0 key.1) ps ≡ Some plan) × HasArc plan key) →
        (plan : Plan) × (find (is_plan key.0 key.1) (p ∷ ps) ≡ Some plan) × HasArc plan key
    by_test (inl in_) more = absurd (both_ways (is_plan p.desk p.n more.0)
        (found_has (λ y. is_plan p.desk p.n y ≡ false) (is_plan key.0 key.1) ps more.0 more.1 apart.0).0
        (one_plan key.0 key.1 p more.0 in_ more.2.0))
    by_test (inr out_) more = (more.0, grind (arith, out_, more.1), more.2)

some_found : (plans : List Plan) (key : RowKey) (plan : Plan) → find (is_plan key.0 key.1) plans ≡ Some plan → HasArc plan key → SomeHasArc plans key
some_found [] key plan e has = absurd (none_found e)
  where
    none_found : None ≡ Some plan → ⊥
    none_found f = cc
some_found (p ∷ ps) key plan e has = by_test (cases_Bool (is_plan key.0 key.1 p)) (λ f. some_found ps key plan f has)
  where
    by_test : (is_plan key.0 key.1 p ≡ true) ⊎ (is_plan key.0 key.1 p ≡ false) → (find (is_plan key.0 key.1) ps ≡ Some plan → SomeHasArc ps key) → SomeHasArc (p ∷ ps) key
    by_test (inl in_) rest = let same : p ≡ plan = grind (arith, e, in_) in inl (subst (λ x. HasArc x key) (sym same) has)
    by_test (inr out_) rest = inr (rest (grind (arith, e, out_)))

lag_kept_rule : (w : World) (row : Lag) → AllDiffer (λ a b. is_plan a.desk a.n b) w.plans → SomeHasArc w.plans (arc_key row) → is_from_to 1 10000 row.lag ≡ true → IsLagRow w row
lag_kept_rule w row apart has low =
    let found = found_arc w.plans (arc_key row) apart has in
    subst (λ o. IsThereAnd o (λ plan. (plan.kind ≡ kinds.Project) × ((p : Project) × SaysProject plan.body p × (has_arc p.network row.source row.target ≡ true)) × (is_from_to 1 10000 row.lag ≡ true)))
    (sym found.1) (found.2.1, found.2.2, low)

lag_rule_kept : (w : World) (row : Lag) → IsLagRow w row → SomeHasArc w.plans (arc_key row) × (is_from_to 1 10000 row.lag ≡ true)
lag_rule_kept w row rule =
    let there = there_some (plan_in w row.desk row.n)
    (λ plan. (plan.kind ≡ kinds.Project) × ((p : Project) × SaysProject plan.body p
    × (has_arc p.network row.source row.target ≡ true)) × (is_from_to 1 10000 row.lag ≡ true)) rule in
    let own = found_has (λ x. Unit {0}) (is_plan row.desk row.n) w.plans there.0 there.1 (all_unit w.plans) in
    (some_found w.plans (arc_key row) there.0 there.1 (own.1, there.2.0, there.2.1), there.2.2)

lags_kept : (w : World) (rows : List Lag) → AllDiffer (λ a b. is_plan a.desk a.n b) w.plans →
    AllByRecursion (λ row. SomeHasArc w.plans (arc_key row)) rows →
    AllByRecursion (λ row. is_from_to 1 10000 row.lag ≡ true) rows
    → AllByRecursion (IsLagRow w) rows
lags_kept w [] apart on low = tt
lags_kept w (row ∷ rows) apart on low = (lag_kept_rule w row apart on.0 low.0, lags_kept w rows apart on.1 low.1)

-- the tables keep the rules of rows if keys differ, the plans and the rows are good, and each lag
-- is on an arc
pub world_of_parts : (w : World) → is_digest w.office ≡ true → KeysDiffer w → AllByRecursion IsPlanRow w.plans → AreOnArcs w.plans w.lags → RowsAreGood w → IsWorld w
world_of_parts w office keys plans on good = record {
  office = office;
  published = good.published;
  desks = all_weaker (λ row h. h.0) w.desks good.desks;
  plans = plans;
  codes_differ = keys.codes;
  desks_differ = keys.desks;
  plans_differ = keys.plans;
  binds_differ = keys.binds;
  lags_differ = keys.lags;
  few = all_weaker (λ row h. h.1) w.desks good.desks;
  owned = good.plans;
  bound = good.binds;
  lagged = lags_kept w w.lags keys.plans on good.lags;
}

-- and the reverse
pub parts_of_world : (w : World) → IsWorld w → RowsAreGood w
parts_of_world w k = record {
  published = k.published;
  desks = all_both (λ row. is_desk_row row ≡ true) (λ row. length (filter (is_plan_of row.desk) w.plans) ≤ 100) w.desks k.desks k.few;
  plans = k.owned;
  binds = k.bound;
  lags = all_weaker (λ row h. (lag_rule_kept w row h).1) w.lags k.lagged;
}

-- and each lag is on an arc
pub arcs_of_world : (w : World) → IsWorld w → AreOnArcs w.plans w.lags
arcs_of_world w k = all_weaker (λ row h. (lag_rule_kept w row h).0) w.lags k.lagged

-- and keys differ
pub keys_of_world : (w : World) → IsWorld w → KeysDiffer w
keys_of_world w k =
    record { codes = k.codes_differ; desks = k.desks_differ; plans = k.plans_differ; binds = k.binds_differ; lags = k.lags_differ }
