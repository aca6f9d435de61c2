-- Rows tested together with the other tables: the results of searches and of the file of a plan.
use Rattle.std.proofs.Common.{◌≡◌, ℕ, zero, suc, ◌<◌, ◌≤◌, Bool, true, false, List, [], ◌∷◌, length, map, filter, get_or, Option, Some, None, refl, sym, ap, ◌∙◌, subst, arith}
use Rattle.std.specs.Prelude.{nat_lt, nat_le}
use Rattle.std.specs.List.{AllByRecursion}
use Rattle.std.proofs.lemmas.Bool.{cases_Bool, both_ways, ltb-true, leb-true, lt-ltb, le-leb}
use Rattle.plan_net.specs.Network.{Net}
use Rattle.plan_psplib.specs.Project.{Project, SaysProject}
use Rattle.plan_psplib.proofs.OnceLemmas.{project_once}
use Rattle.plan_orlib.proofs.OnceLemmas.{shop_once}
use Rattle.plan_rows.specs.declared.kinds.PlanKind.{PlanKind}
use Rattle.plan_rows.specs.declared.kinds.PlanKind.TheVariants as kinds
use Rattle.plan_rows.specs.declared.row_tests.files.PlanFile.{PlanFile}
use Rattle.plan_rows.specs.World.{Text, Plan, Bind, World, same_kind, takes, code_in}
use Rattle.plan_rows.specs.Plans.{HasPlaces, is_place}
use Rattle.plan_rows.specs.Rules.{IsThereAnd}
use Rattle.plan_rows.specs.RowTests.{Tells, GivesFile}
use Rattle.plan_rows.proofs.RowTestLemmas.{tells_same, tells_true, tells_false}

-- ---- tests

-- a test by its equation
pub tells_of : (b c : Bool) → b ≡ c → Tells b (c ≡ true)
tells_of true c e = sym e
tells_of false c e = λ f. both_ways c (sym e) f

-- a test whether a number is less
pub tells_less : (a b : ℕ) → Tells (nat_lt a b) (a < b)
tells_less a b = tells_same (ltb-true a b) (lt-ltb a b) (nat_lt a b) (tells_of (nat_lt a b) (nat_lt a b) refl)

-- a test whether a number is at most another
pub tells_most : (a b : ℕ) → Tells (nat_le a b) (a ≤ b)
tells_most a b = tells_same (leb-true a b) (le-leb a b) (nat_le a b) (tells_of (nat_le a b) (nat_le a b) refl)

-- an absent row has no property
pub there_none : {A : Type 0} (o : Option A) (P : A → Type 0) → o ≡ None → IsThereAnd o P → ⊥
there_none o P e h = subst (λ x. IsThereAnd x P) e h

-- a test of a row that is there
pub tells_there : {A : Type 0} {o : Option A} {x : A} (P : A → Type 0) (b : Bool) → o ≡ Some x → Tells b (P x) → Tells b (IsThereAnd o P)
tells_there P b e t = subst (λ o. Tells b (IsThereAnd o P)) (sym e) t

-- a fact that a present row lacks
pub there_untold : {A : Type 0} {o : Option A} {x : A} (P : A → Type 0) → o ≡ Some x → (P x → ⊥) → IsThereAnd o P → ⊥
there_untold P e never h = never (subst (λ o. IsThereAnd o P) e h)

-- ---- lists

module _ {A : Type 0} where
  -- a fact at each index is a fact of all
  pub all_from_index : (P : A → Type 0) (xs : List A) → ((k : ℕ) (d : A) → k < length xs → P (get_or xs k d)) → AllByRecursion P xs
  all_from_index P [] all = tt
  all_from_index P (x ∷ xs) all = (all 0 x (omega arith), all_from_index P xs (λ k d low. all (suc k) d (omega (arith, low))))

  -- and the reverse
  pub all_at : (P : A → Type 0) (xs : List A) (k : ℕ) (d : A) → k < length xs → AllByRecursion P xs → P (get_or xs k d)
  all_at P [] k d low all = absurd (omega (arith, low))
  all_at P (x ∷ xs) zero d low all = all.0
  all_at P (x ∷ xs) (suc k) d low all = all_at P xs k d (omega (arith, low)) all.1

module _ {R A : Type 0} (g : R → A) where
  -- the number of rows that pass, for the rows that they stand for
  pub length-filter-map : (p : A → Bool) (rows : List R) → length (filter p (map g rows)) ≡ length (filter (λ row. p (g row)) rows)
  length-filter-map p [] = refl
  length-filter-map p (row ∷ rows) = grind (arith, cases_Bool (p (g row)), length-filter-map p rows)

  -- a fact of all rows that they stand for
  pub all_map : (P : A → Type 0) (rows : List R) → AllByRecursion (λ row. P (g row)) rows → AllByRecursion P (map g rows)
  all_map P [] all = tt
  all_map P (row ∷ rows) all = (all.0, all_map P rows all.1)

  -- and the reverse
  pub map_all : (P : A → Type 0) (rows : List R) → AllByRecursion P (map g rows) → AllByRecursion (λ row. P (g row)) rows
  map_all P [] all = tt
  map_all P (row ∷ rows) all = (all.0, map_all P rows all.1)

-- ---- binds

-- a plan has one number of places
pub places_one : (kind : PlanKind) (name body : Text) (a b : ℕ) → HasPlaces kind name body a → HasPlaces kind name body b → a ≡ b
places_one kinds.Project name body a b (p, said, is) (q, also, same) = is ∙ ap (λ x. length x.available) (project_once body p q said also) ∙ sym same
places_one kinds.Shop name body a b (doc, said, is) (other, also, same) = is ∙ ap (λ x. x.machines) (shop_once name body doc other said also) ∙ sym same

-- a bind keeps its rules beside its plan
abbrev pub IsBindOf : World → Bind → Plan → Type 0
IsBindOf w row plan =
    ((count : ℕ) × HasPlaces plan.kind plan.name plan.body count × (is_place plan.kind count row.place ≡ true))
    × IsThereAnd (code_in w.published row.code) (λ code. same_kind code.kind (takes plan.kind) ≡ true)

-- a bind at no place of its plan
pub misplaced : (w : World) (row : Bind) (plan : Plan) (size : ℕ) → HasPlaces plan.kind plan.name plan.body size
    → is_place plan.kind size row.place ≡ false → IsBindOf w row plan → ⊥
misplaced w row plan size has out_ ((count, also, in_), code) =
    both_ways (is_place plan.kind size row.place) out_
    (subst (λ n. is_place plan.kind n row.place ≡ true) (places_one plan.kind plan.name plan.body count size also has) in_)

-- a bind at a place of its plan
pub tells_bind : (w : World) (row : Bind) (plan : Plan) (size : ℕ) (b : Bool) → HasPlaces plan.kind plan.name plan.body size
    → is_place plan.kind size row.place ≡ true
    → Tells b (IsThereAnd (code_in w.published row.code) (λ code. same_kind code.kind (takes plan.kind) ≡ true)) → Tells b (IsBindOf w row plan)
tells_bind w row plan size b has in_ t = tells_same (λ code. ((size, has, in_), code)) (λ h. h.1) b t

-- ---- files

-- the network that a file gives is that of a project
pub project_of_file : (kind : PlanKind) (name body : Text) (file : PlanFile) (net : Net) → GivesFile kind name body file → file.network ≡ Some net
    → (kind ≡ kinds.Project) × ((p : Project) × SaysProject body p × (p.network ≡ net))
project_of_file kinds.Project name body file net (p, said, places, is) e = (refl, (p, said, some_is (sym is ∙ e)))
  where
    some_is : Some p.network ≡ Some net → p.network ≡ net
    some_is f = cc
project_of_file kinds.Shop name body file net (doc, said, places, is) e = absurd (never (sym is ∙ e))
  where
    never : None ≡ Some net → ⊥
    never f = cc

-- ---- all rows of a table

module _ {R A : Type 0} (g : R → A) (P : A → Type 0) where
  -- rows that keep their rules
  pub good_told : (rows : List R) {read : List R} {b : Bool} → read ≡ rows → Tells b (AllByRecursion (λ row. P (g row)) read) → b ≡ true → AllByRecursion P (map g rows)
  good_told rows e t in_ =
      all_map g P rows (subst (AllByRecursion (λ row. P (g row))) e (tells_true (AllByRecursion (λ row. P (g row)) _) in_ t))

  -- rows of which one isn't good
  pub good_untold : (rows : List R) {read : List R} {b : Bool} → read ≡ rows → Tells b (AllByRecursion (λ row. P (g row)) read) → b ≡ false → AllByRecursion P (map g rows) → ⊥
  good_untold rows e t out_ all =
      tells_false (AllByRecursion (λ row. P (g row)) _) out_ t (subst (AllByRecursion (λ row. P (g row))) (sym e) (map_all g P rows all))

  -- one row that keeps no rules
  pub one_bad : (rows : List R) (i : ℕ) (row : R) → i < length rows → row ≡ get_or rows i row → (P (g row) → ⊥) → AllByRecursion P (map g rows) → ⊥
  one_bad rows i row low is bad all =
      bad (subst (λ r. P (g r)) (sym is) (all_at (λ r. P (g r)) rows i row low (map_all g P rows all)))
