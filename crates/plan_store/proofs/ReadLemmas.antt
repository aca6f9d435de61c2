-- The result of each query on the office in the tables.
use Rattle.std.proofs.Common.{◌≡◌, ◌<ℤ◌, ℕ, ℤ, pos, Bool, true, false, ◌&&◌, ◌||◌, ◌==◌, nat_lt, cond, List, [], ◌∷◌, length, map, filter, find, slice_get}
use Rattle.std.proofs.Common.{Option, Some, None, IfSome, option_map, refl, sym, ap, ap₂, subst, ◌∙◌, string_bytes, Ordering, Less, Equal, Greater, is_gt}
use Rattle.std.proofs.Common.{is_lt, int_cmp, nat_cmp, arith}
use Rattle.std.specs.List.{AllByRecursion, AllZip, list_any}
use Rattle.std.specs.Ordering.{ordering_then, ordering_reverse}
use Rattle.std.specs.Cmp.Lexicographic.{slice_cmp}
use Rattle.std.proofs.lemmas.Cmp.{nat_list_cmp_total}
use Rattle.std.proofs.lemmas.List.{length-map, map-id}
use Rattle.std.proofs.lemmas.Int.{ints}
use Rattle.std.proofs.lemmas.Bool.{and_parts}
use Rattle.std.proofs.lemmas.Bool.Decides.{nat_tests}
use Rattle.sqlite_value.specs.declared.value.Value.TheVariants.{Null, Int, Text, Blob}
use Rattle.sqlite_value.specs.Order.{Row, column}
use Rattle.sqlite_value.proofs.OrderLemmas.{value_cmp-Int, value_cmp-Text}
use Rattle.sqlite_trees.specs.Tree.{Trees}
use Rattle.sqlite_sql.specs.Program.{overlay}
use Rattle.sqlite_sql.specs.Query.{Query, IsAnswer}
use Rattle.sqlite_schema.specs.declared.command.Command.TheVariants.{Select}
use Rattle.sqlite.specs.Effect.{Database, Reads}
use Rattle.sqlite.specs.State.{State}
use Rattle.sqlite_keyed.specs.Lists.{sort_by}
use Rattle.sqlite_keyed.proofs.ListLemmas.{map-map, filter-map, ascending-filter}
use Rattle.sqlite_keyed.proofs.KeyedLemmas.{Less-from_lt}
use Rattle.sqlite_typed.proofs.AnswerLemmas.{no_tie, no_tie_after}
use Rattle.sqlite_typed.proofs.TestLemmas.{then_key, last_key}
use Rattle.plan_rows.specs.declared.kinds.Kind.{Kind}
use Rattle.plan_rows.specs.declared.kinds.PlanKind.{PlanKind}
use Rattle.plan_rows.specs.declared.rows.DeskRow.{DeskRow}
use Rattle.plan_rows.specs.declared.rows.CodeRow.{CodeRow}
use Rattle.plan_rows.specs.declared.rows.BindEntry.{BindEntry}
use Rattle.plan_rows.specs.declared.rows.LagEntry.{LagEntry}
use Rattle.plan_rows.specs.declared.rows.PlanRow.{PlanRow}
use Rattle.plan_rows.specs.Names.{kind_text, plan_kind_text}
use Rattle.plan_rows.specs.Plans.{code_before}
use Rattle.plan_rows.specs.World.{Digest, Published, Desk, Plan, Bind, Lag, World, same_text, is_code, is_desk, is_plan_of, is_plan, is_bind_by, is_bind_of}
use Rattle.plan_rows.specs.World.{is_bind, is_lag_by, is_lag_of, is_lag, code_in, desk_in, plan_in}
use Rattle.plan_rows.specs.Views.{view}
use Rattle.plan_rows.specs.Plans.{in_order, bind_before, lag_before, place_of, arc_of, places_of, lags_of}
use Rattle.plan_rows.specs.Books.{Matches, IsPlanAnswer, IsDeskAnswer, IsCapacityAnswer, ListsCodes, published_in, bind_in, lag_in}
use Rattle.plan_store.specs.declared.query_rows.PlanPart.{PlanPart}
use Rattle.plan_store.specs.TableRows.{row_at, Keeps}
use Rattle.plan_store.specs.Rows.{kind_in, plan_kind_in, text_in, blob_in, number_in, digest_in, digest_value, number_value, written_code, read_code}
use Rattle.plan_store.specs.Rows.{written_desk, read_desk, written_plan, read_plan, written_bind, read_bind, written_lag, read_lag, office_in}
use Rattle.plan_store.specs.Stores.{world_of, HoldRows}
use Rattle.plan_store.specs.Transactions.{meaning_of}
use Rattle.plan_store.specs.BookCalls.{Stands}
use Rattle.plan_store.specs.QueryRows.{ShowsDesk, ShowsCapacity, ShowsCode, ShowsBind, ShowsLag, ShowsPlan, IsPlanPart, ListsShown, FirstShown, OfficeShown, AnyShown}
use Rattle.plan_store.proofs.QueryForms.{alone, by, is_given}
use Rattle.plan_store.proofs.KeepLemmas.{finds_entry, reads_entries}
use Rattle.plan_store.proofs.CodecLemmas.{kind_back, plan_kind_back, code_tested, desk_tested, plan_tested, owner_tested, bind_of_tested, bind_tested, lag_of_tested, lag_tested}
use Rattle.plan_store.proofs.QueryLemmas.{rows_by_number, rows_sorted, sorted_alike}
use Rattle.plan_store.proofs.ReadMeanings as means

-- the answer of a query
pub read_query : (text : List ℕ) (q : Query) (names : List (List ℕ)) → meaning_of text ≡ Select (alone q) names → (db : Database) (params : Row) (rows : List Row)
    → Reads (meaning_of text) db params rows → IsAnswer q (overlay db.trees []) params rows
read_query text q names is db params rows h = (subst (λ k. Reads k db params rows) is h).answer Null

-- ---- kinds are determined by their texts

pub same_texts : (a b : List ℕ) → Text a ≡ Text b → a ≡ b
same_texts a b e = ap text_in e

pub same_numbers : (a b : ℕ) → Int (pos a) ≡ Int (pos b) → a ≡ b
same_numbers a b e = ap number_in e

same_kinds : (a b : Kind) → Text (kind_text a) ≡ Text (kind_text b) → a ≡ b
same_kinds a b e = sym (kind_back a) ∙ ap kind_in e ∙ kind_back b

same_plan_kinds : (a b : PlanKind) → Text (plan_kind_text a) ≡ Text (plan_kind_text b) → a ≡ b
same_plan_kinds a b e = sym (plan_kind_back a) ∙ ap plan_kind_in e ∙ plan_kind_back b

-- ---- the first row

first_get : {A : Type 0} (show : A → Row) (p : A → Bool) (xs : List A) → slice_get (map show (filter p xs)) 0 ≡ option_map show (find p xs)
first_get show p [] = refl
first_get show p (x ∷ xs) =
    elim (p x) as (λ b. slice_get (map show (cond b (x ∷ filter p xs) (filter p xs))) 0 ≡ option_map show (cond b (Some x) (find p xs))) [ true ↦ refl | false ↦ first_get show p xs ]

-- the first row of an answer, and the row of the office that it shows
module _ {A X : Type 0} (written : A → Row) (read : Row → A) (rows : List Row) (it : Keeps written read rows) (p : A → Bool) (show : ℤ × A → Row) (Shows : Row → X → Type 0) (Is : A → X → Type 0)
    (tells : (x : ℤ × A) (y : X) → read (row_at written x) ≡ x.1 → Shows (show x) y → Is x.1 y) where
  Back : ℤ × A → Type 0
  Back x = read (row_at written x) ≡ x.1

  back_found : (xs : List (ℤ × A)) → AllByRecursion Back xs → IfSome (find (λ x. p x.1) xs) Back
  back_found [] all = tt
  back_found (x ∷ xs) all = elim (p x.1) as (λ b. IfSome (cond b (Some x) (find (λ y. p y.1) xs)) Back) [ true ↦ all.0 | false ↦ back_found xs all.1 ]

  of_option : (o : Option (ℤ × A)) (found : Option X) → IfSome o Back → Matches Shows (option_map show o) found → Matches Is (option_map (λ x. x.1) o) found
  unfolding Back
  of_option None None back h = tt
  of_option None (Some y) back h = h
  of_option (Some x) None back h = h
  of_option (Some x) (Some y) back h = tells x y back h

  pub first_read : (answer : List Row) → answer ≡ map show (filter (λ x. p x.1) it.entries) → (found : Option X) → Matches Shows (slice_get answer 0) found → Matches Is (find p (map read rows)) found
  unfolding Back
  first_read answer is found h =
      subst (λ o. Matches Is o found) (finds_entry written read it p)
      (of_option (find (λ x. p x.1) it.entries) found (back_found it.entries it.back) (subst (λ o. Matches Shows o found) (ap (λ l. slice_get l 0) is ∙ first_get show (λ x. p x.1) it.entries) h))

-- ---- whether there is a row

any_among : {A : Type 0} (show : ℤ × A → Row) (p : A → Bool) (xs : List (ℤ × A)) → nat_lt 0 (length (map show (filter (λ x. p x.1) xs))) ≡ list_any p (map (λ x. x.1) xs)
any_among show p [] = refl
any_among show p (x ∷ xs) =
    elim (p x.1) as (λ b. nat_lt 0 (length (map show (cond b (x ∷ filter (λ y. p y.1) xs) (filter (λ y. p y.1) xs)))) ≡ (b || list_any p (map (λ y. y.1) xs)))
    [ true ↦ some (show x) (map show (filter (λ y. p y.1) xs)) | false ↦ any_among show p xs ]
  where
    some : (r : Row) (rs : List Row) → nat_lt 0 (length (r ∷ rs)) ≡ true
    some r rs = grind (arith, nat_tests)

module _ {A : Type 0} (written : A → Row) (read : Row → A) (rows : List Row) (it : Keeps written read rows) (p : A → Bool) (show : ℤ × A → Row) where
  pub any_read : (answer : List Row) → answer ≡ map show (filter (λ x. p x.1) it.entries) → nat_lt 0 (length answer) ≡ list_any p (map read rows)
  any_read answer is = ap (λ l. nat_lt 0 (length l)) is ∙ any_among show p it.entries ∙ ap (list_any p) (sym (reads_entries written read it))

-- ---- all rows, rising

filter_both : {A : Type 0} (p q : A → Bool) (xs : List A) → filter q (filter p xs) ≡ filter (λ x. p x && q x) xs
filter_both p q [] = refl
filter_both p q (x ∷ xs) =
    elim (p x) as (λ b. filter q (cond b (x ∷ filter p xs) (filter p xs)) ≡ cond (b && q x) (x ∷ filter (λ y. p y && q y) xs) (filter (λ y. p y && q y) xs))
    [ true ↦ ap (λ l. cond (q x) (x ∷ l) l) (filter_both p q xs) | false ↦ filter_both p q xs ]

pub filter_true : {A : Type 0} (xs : List A) → filter (λ _. true) xs ≡ xs
filter_true [] = refl
filter_true (x ∷ xs) = ap (λ l. x ∷ l) (filter_true xs)

zip_map : {A X V : Type 0} (show : A → Row) (Shows : Row → X → Type 0) (f : X → V) (g : A → V) → ((x : A) (y : X) → Shows (show x) y → f y ≡ g x)
    → (xs : List A) (all : List X) → AllZip Shows (map show xs) all → map f all ≡ map g xs
zip_map show Shows f g tells [] [] zip = refl
zip_map show Shows f g tells [] (y ∷ all) zip = absurd zip
zip_map show Shows f g tells (x ∷ xs) [] zip = absurd zip
zip_map show Shows f g tells (x ∷ xs) (y ∷ all) zip = ap₂ ◌∷◌ (tells x y zip.0) (zip_map show Shows f g tells xs all zip.1)

module _ {A X V : Type 0} (written : A → Row) (read : Row → A) (rows : List Row) (it : Keeps written read rows) (p : A → Bool) (show : ℤ × A → Row) (Shows : Row → X → Type 0) (f : X → V) (g : A → V)
    (tells : (x : ℤ × A) (y : X) → Shows (show x) y → f y ≡ g x.1) (cmp : ℤ × A → ℤ × A → Ordering)
    (before : A → A → Bool) (agree : (x y : ℤ × A) → x.0 <ℤ y.0 → is_gt (cmp x y) ≡ before y.1 x.1) where
  pub list_read : (answer : List Row) → answer ≡ map show (sort_by cmp (filter (λ x. p x.1) it.entries)) → (all : List X) → AllZip Shows answer all
      → map f all ≡ map g (in_order before (filter p (map read rows)))
  list_read answer is all zip =
      let found = filter (λ (x : ℤ × A). p x.1) it.entries in
      let up = ascending-filter (λ (a b : ℤ × A). a.0 <ℤ b.0) (λ (x : ℤ × A). p x.1) it.entries it.rise in
      zip_map show Shows f (λ x. g x.1) tells (sort_by cmp found) all (subst (λ l. AllZip Shows l all) is zip)
      ∙ sym (map-map g (λ (x : ℤ × A). x.1) (sort_by cmp found))
      ∙ ap (map g) (sorted_alike cmp before agree found up
      ∙ ap (in_order before) (sym (filter-map p (λ (x : ℤ × A). x.1) it.entries) ∙ ap (filter p) (sym (reads_entries written read it))))

-- a number comes last and breaks each tie

then_less : (c : Ordering) → is_gt (ordering_then c Less) ≡ is_gt c
then_less Less = refl
then_less Equal = refl
then_less Greater = refl

pub turned : (o : Ordering) → is_gt (ordering_reverse o) ≡ is_lt o
turned Less = refl
turned Equal = refl
turned Greater = refl

pub then_low : (c : Ordering) (m n : ℤ) → m <ℤ n → is_gt (ordering_then c (int_cmp m n)) ≡ is_gt c
then_low c m n low = ap (λ o. is_gt (ordering_then c o)) (Less-from_lt m n low) ∙ then_less c

above : (a b : ℕ) → is_gt (int_cmp (pos a) (pos b)) ≡ nat_lt b a
above a b = grind (arith, ints, nat_tests)

above_both : (a b c d : ℕ) → is_gt (ordering_then (int_cmp (pos a) (pos b)) (int_cmp (pos c) (pos d))) ≡ (nat_lt b a || ((b == a) && nat_lt d c))
above_both a b c d = go (int_cmp (pos a) (pos b)) refl
  where
    go : (o : Ordering) → int_cmp (pos a) (pos b) ≡ o → is_gt (ordering_then o (int_cmp (pos c) (pos d))) ≡ (nat_lt b a || ((b == a) && nat_lt d c))
    go Less e = let low : nat_lt b a ≡ false = grind (arith, ints, nat_tests) in let apart : (b == a) ≡ false = grind (arith, ints, nat_tests) in rw (low, apart) refl
    go Equal e = let low : nat_lt b a ≡ false = grind (arith, ints, nat_tests) in let same : (b == a) ≡ true = grind (arith, ints, nat_tests) in rw (low, same) (above c d)
    go Greater e = let high : nat_lt b a ≡ true = grind (arith, ints, nat_tests) in rw high refl

then_both : (c d : Ordering) (m n : ℤ) → m <ℤ n → is_gt (ordering_then c (ordering_then d (int_cmp m n))) ≡ is_gt (ordering_then c d)
then_both Less d m n low = refl
then_both Equal d m n low = then_low d m n low
then_both Greater d m n low = refl

module _ (s : State) (stands : Stands s) where
  abbrev held : HoldRows s.now.trees
  held = stands.store.rows

  abbrev seen : Trees
  seen = overlay s.now.trees []

  pub office_read : (digest : Digest) → OfficeShown means.office_text s.now [] digest → digest ≡ (world_of s.now.trees).office
  office_read digest h =
      let office = (world_of s.now.trees).office in
      let written = λ (d : Digest). Null ∷ number_value 2 ∷ digest_value d ∷ [] in
      let show = λ (x : ℤ × Digest). digest_value x.1 ∷ [] in
      let entry : ℤ × Digest = (pos 1, office) in
      let are : h.0 ≡ (digest_value office ∷ []) ∷ [] = rows_by_number written 0 [] means.office_query.project [] seen (entry ∷ []) held.meta (tt, tt) (λ _. true) (λ x. refl) show (λ x. refl)
      h.0 (read_query means.office_text means.office_query _ means.office_is s.now [] h.0 h.1) in
      let first : Some h.2.0 ≡ Some (digest_value office ∷ []) = sym h.2.1 ∙ ap (λ l. slice_get l 0) are in
      let row : h.2.0 ≡ digest_value office ∷ [] = cc in
      sym h.2.2 ∙ ap (λ r. digest_in (column r 0)) row ∙ sym (ap office_in held.meta)

  pub capacity_read : (code : List ℕ) (found : Option (Kind × ℕ)) → FirstShown ShowsCapacity means.capacity_text s.now (Text code ∷ []) found
      → Matches IsCapacityAnswer (code_in (world_of s.now.trees).published code) found
  capacity_read code found h =
      let show = λ (x : ℤ × Published). Text (kind_text x.1.kind) ∷ number_value x.1.capacity ∷ [] in
      let kept = held.published in
      let are = rows_by_number written_code 1 (is_given 1 0 ∷ []) means.capacity_query.project (Text code ∷ []) seen kept.entries kept.are kept.rise
      (λ x. is_code code x.1) (code_tested code []) show (λ x. refl) h.0 (read_query means.capacity_text means.capacity_query _ means.capacity_is s.now (Text code ∷ []) h.0 h.1) in
      first_read written_code read_code (s.now.trees 1) kept (is_code code) show ShowsCapacity IsCapacityAnswer
      (λ x y back shows. record { kind = same_kinds y.0 x.1.kind (sym shows.kind); capacity = same_numbers y.1 x.1.capacity (sym shows.capacity) }) h.0 are found h.2

  pub desk_read : (desk : List ℕ) (found : Option DeskRow) → FirstShown ShowsDesk means.desk_text s.now (Text desk ∷ []) found
      → Matches IsDeskAnswer (desk_in (world_of s.now.trees) desk) found
  desk_read desk found h =
      let show = λ (x : ℤ × Desk). digest_value x.1.digest ∷ number_value x.1.next ∷ [] in
      let kept = held.desks in
      let are = rows_by_number written_desk 3 (is_given 1 0 ∷ []) means.desk_query.project (Text desk ∷ []) seen kept.entries kept.are kept.rise
      (λ x. is_desk desk x.1) (desk_tested desk []) show (λ x. refl) h.0 (read_query means.desk_text means.desk_query _ means.desk_is s.now (Text desk ∷ []) h.0 h.1) in
      first_read written_desk read_desk (s.now.trees 3) kept (is_desk desk) show ShowsDesk IsDeskAnswer
      (λ x y back shows. record { digest = sym shows.digest ∙ ap (λ (d : Desk). d.digest) back; next = same_numbers y.next x.1.next (sym shows.next) }) h.0 are found h.2

  pub plan_read : (desk : List ℕ) (n : ℕ) (found : Option PlanPart) → FirstShown ShowsPlan means.plan_text s.now (Text desk ∷ number_value n ∷ []) found
      → Matches IsPlanPart (plan_in (world_of s.now.trees) desk n) found
  plan_read desk n found h =
      let given = Text desk ∷ number_value n ∷ [] in
      let show = λ (x : ℤ × Plan). Text (plan_kind_text x.1.kind) ∷ Text x.1.name ∷ Blob x.1.body ∷ Text x.1.start ∷ Text x.1.days ∷ [] in
      let kept = held.plans in
      let are = rows_by_number written_plan 5 (is_given 1 0 ∷ is_given 2 1 ∷ []) means.plan_query.project given seen kept.entries kept.are kept.rise
      (λ x. is_plan desk n x.1) (plan_tested desk n []) show (λ x. refl) h.0 (read_query means.plan_text means.plan_query _ means.plan_is s.now given h.0 h.1) in
      first_read written_plan read_plan (s.now.trees 5) kept (is_plan desk n) show ShowsPlan IsPlanPart
      (λ x y back shows. record {
        kind = same_plan_kinds y.kind x.1.kind (sym shows.kind);
        name = same_texts (string_bytes y.name) x.1.name (sym shows.name);
        body = ap blob_in (sym shows.body);
        start = same_texts (string_bytes y.start) x.1.start (sym shows.start);
        days = same_texts (string_bytes y.days) x.1.days (sym shows.days);
      }) h.0 are found h.2

  pub capacities_read : (all : List CodeRow) → ListsShown ShowsCode means.capacities_text s.now [] all → ListsCodes (world_of s.now.trees).published all
  capacities_read all h =
      let show = λ (x : ℤ × Published). Text x.1.code ∷ Text (kind_text x.1.kind) ∷ number_value x.1.capacity ∷ [] in
      let cmp = λ (a b : ℤ × Published). ordering_then (slice_cmp nat_cmp a.1.code b.1.code) (int_cmp a.0 b.0) in
      let kept = held.published in
      let are = rows_sorted written_code 1 [] means.capacities_query.project [] seen kept.entries kept.are kept.rise (λ _. true) (λ x. refl) show (λ x. refl) (by 1 ∷ by 0 ∷ []) cmp
      (λ a b low. no_tie_after (slice_cmp nat_cmp a.1.code b.1.code) (no_tie low)) (λ a b. then_key (value_cmp-Text a.1.code b.1.code) (last_key (value_cmp-Int a.0 b.0)))
      h.0 (read_query means.capacities_text means.capacities_query _ means.capacities_is s.now [] h.0 h.1) in
      list_read written_code read_code (s.now.trees 1) kept (λ _. true) show ShowsCode published_in (λ row. row)
      (λ x y shows. λ i. record {
        code = same_texts (string_bytes y.code) x.1.code (sym shows.code) i;
        kind = same_kinds y.kind x.1.kind (sym shows.kind) i;
        capacity = same_numbers y.capacity x.1.capacity (sym shows.capacity) i;
      }) cmp code_before
      (λ x y low. then_low (slice_cmp nat_cmp x.1.code y.1.code) x.0 y.0 low ∙ ap is_gt (nat_list_cmp_total.antisymm x.1.code y.1.code) ∙ turned (slice_cmp nat_cmp y.1.code x.1.code)) h.0 are all h.2
      ∙ map-id _ ∙ ap (in_order code_before) (filter_true (map read_code (s.now.trees 1)))

  pub binds_read : (desk : List ℕ) (n : ℕ) (all : List BindEntry) → ListsShown ShowsBind means.binds_text s.now (Text desk ∷ number_value n ∷ []) all
      → map bind_in all ≡ places_of (view desk (world_of s.now.trees)) n
  binds_read desk n all h =
      let given = Text desk ∷ number_value n ∷ [] in
      let show = λ (x : ℤ × Bind). number_value x.1.place ∷ Text x.1.code ∷ [] in
      let cmp = λ (a b : ℤ × Bind). ordering_then (int_cmp (pos a.1.place) (pos b.1.place)) (int_cmp a.0 b.0) in
      let kept = held.binds in
      let are = rows_sorted written_bind 7 (is_given 1 0 ∷ is_given 2 1 ∷ []) means.binds_query.project given
      seen kept.entries kept.are kept.rise (λ x. is_bind_of desk n x.1) (bind_of_tested desk n []) show
      (λ x. refl)
      (by 3 ∷ by 0 ∷ []) cmp (λ a b low. no_tie_after (int_cmp (pos a.1.place) (pos b.1.place)) (no_tie low))
      (λ a b. then_key (value_cmp-Int (pos a.1.place) (pos b.1.place)) (last_key (value_cmp-Int a.0 b.0)))
      h.0 (read_query means.binds_text means.binds_query _ means.binds_is s.now given h.0 h.1) in
      list_read written_bind read_bind (s.now.trees 7) kept (is_bind_of desk n) show ShowsBind bind_in place_of
      (λ x y shows. λ i. (same_numbers y.place x.1.place (sym shows.place) i, same_texts (string_bytes y.code) x.1.code (sym shows.code) i)) cmp bind_before
      (λ x y low. then_low (int_cmp (pos x.1.place) (pos y.1.place)) x.0 y.0 low ∙ above x.1.place y.1.place) h.0 are all h.2
      ∙ ap (λ l. map place_of (in_order bind_before l)) (sym (filter_both (is_bind_by desk) (λ row. row.n == n) (map read_bind (s.now.trees 7))))

  pub lags_read : (desk : List ℕ) (n : ℕ) (all : List LagEntry) → ListsShown ShowsLag means.lags_text s.now (Text desk ∷ number_value n ∷ []) all
      → map lag_in all ≡ lags_of (view desk (world_of s.now.trees)) n
  lags_read desk n all h =
      let given = Text desk ∷ number_value n ∷ [] in
      let show = λ (x : ℤ × Lag). number_value x.1.source ∷ number_value x.1.target ∷ number_value x.1.lag ∷ [] in
      let cmp = λ (a b : ℤ × Lag). ordering_then (int_cmp (pos a.1.source) (pos b.1.source)) (ordering_then (int_cmp (pos a.1.target) (pos b.1.target)) (int_cmp a.0 b.0)) in
      let kept = held.lags in
      let are = rows_sorted written_lag 9 (is_given 1 0 ∷ is_given 2 1 ∷ []) means.lags_query.project given
      seen kept.entries kept.are kept.rise (λ x. is_lag_of desk n x.1) (lag_of_tested desk n []) show
      (λ x. refl)
      (by 3 ∷ by 4 ∷ by 0 ∷ []) cmp
      (λ a b low. no_tie_after (int_cmp (pos a.1.source) (pos b.1.source)) (no_tie_after (int_cmp (pos a.1.target) (pos b.1.target)) (no_tie low)))
      (λ a b. then_key (value_cmp-Int (pos a.1.source) (pos b.1.source)) (then_key (value_cmp-Int (pos a.1.target) (pos b.1.target)) (last_key (value_cmp-Int a.0 b.0))))
      h.0 (read_query means.lags_text means.lags_query _ means.lags_is s.now given h.0 h.1) in
      list_read written_lag read_lag (s.now.trees 9) kept (is_lag_of desk n) show ShowsLag lag_in arc_of
      (λ x y shows. λ i. (same_numbers y.from x.1.source (sym shows.source) i, same_numbers y.to x.1.target (sym shows.target) i, same_numbers y.lag x.1.lag (sym shows.lag) i)) cmp lag_before
      (λ x y low. then_both (int_cmp (pos x.1.source) (pos y.1.source))
      (int_cmp (pos x.1.target) (pos y.1.target)) x.0 y.0 low
      ∙ above_both x.1.source y.1.source x.1.target y.1.target) h.0 are all h.2
      ∙ ap (λ l. map arc_of (in_order lag_before l)) (sym (filter_both (is_lag_by desk) (λ row. row.n == n) (map read_lag (s.now.trees 9))))

  pub known_read : (code : List ℕ) (any : Bool) → AnyShown means.known_text s.now (Text code ∷ []) any → any ≡ list_any (is_code code) (world_of s.now.trees).published
  known_read code any h =
      let show = λ (x : ℤ × Published). Text x.1.code ∷ [] in
      let kept = held.published in
      let are = rows_by_number written_code 1 (is_given 1 0 ∷ []) means.known_query.project (Text code ∷ []) seen kept.entries kept.are kept.rise
      (λ x. is_code code x.1) (code_tested code []) show (λ x. refl) h.0 (read_query means.known_text means.known_query _ means.known_is s.now (Text code ∷ []) h.0 h.1) in
      h.2 ∙ any_read written_code read_code (s.now.trees 1) kept (is_code code) show h.0 are

  pub bound_read : (desk : List ℕ) (n place : ℕ) (any : Bool) → AnyShown means.bound_text s.now (Text desk ∷ number_value n ∷ number_value place ∷ []) any
      → any ≡ list_any (is_bind desk n place) (world_of s.now.trees).binds
  bound_read desk n place any h =
      let given = Text desk ∷ number_value n ∷ number_value place ∷ [] in
      let show = λ (x : ℤ × Bind). Text x.1.code ∷ [] in
      let kept = held.binds in
      let are = rows_by_number written_bind 7 (is_given 1 0 ∷ is_given 2 1 ∷ is_given 3 2 ∷ []) means.bound_query.project given seen kept.entries kept.are kept.rise
      (λ x. is_bind desk n place x.1) (bind_tested desk n place []) show (λ x. refl) h.0 (read_query means.bound_text means.bound_query _ means.bound_is s.now given h.0 h.1) in
      h.2 ∙ any_read written_bind read_bind (s.now.trees 7) kept (is_bind desk n place) show h.0 are

  pub lagged_read : (desk : List ℕ) (n source target : ℕ) (any : Bool) → AnyShown means.lagged_text s.now (Text desk ∷ number_value n ∷ number_value source ∷ number_value target ∷ []) any
      → any ≡ list_any (is_lag desk n source target) (world_of s.now.trees).lags
  lagged_read desk n source target any h =
      let given = Text desk ∷ number_value n ∷ number_value source ∷ number_value target ∷ [] in
      let show = λ (x : ℤ × Lag). number_value x.1.lag ∷ [] in
      let kept = held.lags in
      let are = rows_by_number written_lag 9 (is_given 1 0 ∷ is_given 2 1 ∷ is_given 3 2 ∷ is_given 4 3 ∷ []) means.lagged_query.project given seen kept.entries kept.are kept.rise
      (λ x. is_lag desk n source target x.1) (lag_tested desk n source target []) show (λ x. refl) h.0 (read_query means.lagged_text means.lagged_query _ means.lagged_is s.now given h.0 h.1) in
      h.2 ∙ any_read written_lag read_lag (s.now.trees 9) kept (is_lag desk n source target) show h.0 are

found_passes : {A : Type 0} (p : A → Bool) (xs : List A) (y : A) → find p xs ≡ Some y → p y ≡ true
found_passes p [] y e = cc
found_passes p (x ∷ xs) y e = go (p x) refl e (found_passes p xs y)
  where
    go : (b : Bool) → p x ≡ b → cond b (Some x) (find p xs) ≡ Some y → (find p xs ≡ Some y → p y ≡ true) → p y ≡ true
    go true is h more = let same : x ≡ y = cc in ap p (sym same) ∙ is
    go false is h more = more h

-- a plan with the binds and lags that are read beside it
module _ (w : World) (desk : List ℕ) (n : ℕ) (row : PlanRow) (part : PlanPart)
    (same : row ≡ record {
      kind = part.kind;
      name = part.name;
      body = part.body;
      start = part.start;
      days =
          part.days;
      binds = row.binds;
      lags = row.lags;
    })
    (binds : map bind_in row.binds.items ≡ places_of (view desk w) n) (lags : map lag_in row.lags.items ≡ lags_of (view desk w) n) where
  with_parts : (o : Option Plan) → plan_in w desk n ≡ o → Matches IsPlanPart o (Some part) → Matches (IsPlanAnswer (view desk w)) o (Some row)
  with_parts None is h = h
  with_parts (Some plan) is h =
      let number = (and_parts (same_text plan.desk desk) (plan.n == n) (found_passes (is_plan desk n) w.plans plan is)).1 in
      let at : plan.n ≡ n = grind (arith, nat_tests) in
      record {
        kind = ap (λ (r : PlanRow). r.kind) same ∙ h.kind;
        name = ap (λ (r : PlanRow). string_bytes r.name) same ∙ h.name;
        body = ap (λ (r : PlanRow). r.body.items) same ∙ h.body;
        start = ap (λ (r : PlanRow). string_bytes r.start) same ∙ h.start;
        days = ap (λ (r : PlanRow). string_bytes r.days) same ∙ h.days;
        binds_are = binds ∙ ap (places_of (view desk w)) (sym at);
        lags_are = lags ∙ ap (lags_of (view desk w)) (sym at);
      }

  pub whole_plan : Matches IsPlanPart (plan_in w desk n) (Some part) → Matches (IsPlanAnswer (view desk w)) (plan_in w desk n) (Some row)
  whole_plan = with_parts (plan_in w desk n) refl

-- if no part of a plan is read, there is no plan
pub no_plan : (w : World) (desk : List ℕ) (n : ℕ) → Matches IsPlanPart (plan_in w desk n) None → Matches (IsPlanAnswer (view desk w)) (plan_in w desk n) None
no_plan w desk n = go (plan_in w desk n)
  where
    go : (o : Option Plan) → Matches IsPlanPart o None → Matches (IsPlanAnswer (view desk w)) o None
    go None h = tt
    go (Some row) h = absurd h
