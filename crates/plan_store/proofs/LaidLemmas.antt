-- The rows that are read from each table of a layout.
use Rattle.std.proofs.Common.{◌≡◌, ℕ, ℤ, true, ◌&&◌, List, [], ◌∷◌, length, map, drop, Option, Some, None, option_map, refl, sym, ap, subst, ◌∙◌, arith}
use Rattle.std.proofs.Common.{Contains, IsTrue, Vec, Global, codes, option_and_then}
use Rattle.std.specs.List.{AllByRecursion, AllZip}
use Rattle.std.proofs.lemmas.Bool.{and_parts}
use Rattle.std.proofs.lemmas.List.{map-id}
use Rattle.sqlite_value.specs.declared.value.Value.TheVariants.{Null, Int, Real, Text, Blob}
use Rattle.sqlite_value.specs.Order.{Row, column}
use Rattle.sqlite_trees.specs.Tree.{Trees, rowid}
use Rattle.sqlite_trees.specs.View.{is_int}
use Rattle.sqlite_sql.specs.Term.{Term, eval_all}
use Rattle.sqlite_sql.specs.Program.{overlay}
use Rattle.sqlite_sql.specs.Query.{Query, IsAnswer}
use Rattle.sqlite_schema.specs.declared.schema.Schema.{Schema}
use Rattle.sqlite_schema.specs.declared.schema.Table.{Table}
use Rattle.sqlite_schema.specs.declared.schema.Column.{Column}
use Rattle.sqlite_schema.specs.declared.schema.Kind.TheVariants.{Integer}
use Rattle.sqlite_schema.specs.declared.schema.Kind.TheVariants as kinds
use Rattle.sqlite_schema.specs.declared.schema.Constraint.TheVariants.{Datatype, NotNull}
use Rattle.sqlite_schema.specs.declared.command.Command.TheVariants.{Select}
use Rattle.sqlite_schema.specs.Rules.{are_typed, are_present, has_computed}
use Rattle.sqlite_keyed.proofs.ListLemmas.{all_both}
use Rattle.sqlite.specs.Effect.{Database, Reads}
use Rattle.sqlite.specs.State.{State}
use Rattle.plan_rows.specs.declared.rows.CodeRow.{CodeRow}
use Rattle.plan_rows.specs.declared.tables.records.DeskRecord.{DeskRecord}
use Rattle.plan_rows.specs.declared.tables.records.BindRecord.{BindRecord}
use Rattle.plan_rows.specs.declared.tables.records.LagRecord.{LagRecord}
use Rattle.plan_rows.specs.Books.{published_in}
use Rattle.plan_rows.specs.Tables.{desk_kept, bind_kept, lag_kept}
use Rattle.plan_rows.specs.World.{Plan}
use Rattle.plan_store.specs.PlanReview.{IsGoodPlan, TakesGood}
use Rattle.plan_store.specs.declared.layout.Layout.{Layout}
use Rattle.plan_store.specs.declared.layout.Layout.TheVariants.{First, Second}
use Rattle.plan_store.specs.Tables as tables
use Rattle.plan_store.specs.TableRows.{row_at}
use Rattle.plan_store.specs.Rows.{number_value, digest_value, written_code, read_code, written_desk, read_desk, written_plan, read_plan, written_bind, read_bind, written_lag, read_lag}
use Rattle.plan_store.specs.QueryEffect.{meaning_under}
use Rattle.plan_store.specs.Layouts.{schema_of, AreNumbered, meta_at}
use Rattle.plan_store.specs.TableTests.{IsLaid}
use Rattle.plan_store.specs.UntrustedRows.{Meta, shown_meta, HoldsMeta, TakesMeta, only_one, HoldsCode, HoldsDesk, HoldsBind, HoldsLag, TakesRow, TakesAll, TakesTable, TakesLags, ListsTaken, taken_as}
use Rattle.plan_store.proofs.CodecLemmas.{code_back, desk_back, plan_back, bind_back, lag_back}
use Rattle.plan_store.proofs.QueryForms.{of_table, alone, by}
use Rattle.plan_store.proofs.NumberedRowLemmas.{as_is, entry_of, cells, read_all, all_full, IsFilled, IsFull, is_entry, width}
use Rattle.plan_store.proofs.UntrustedListLemmas.{table_taken, all_contains}
use Rattle.plan_store.proofs.TableMeanings as means

-- a row that has a value of its type in each column
abbrev pub IsRowOf : Table → Row → Type 0
IsRowOf table row = (are_typed table.key 0 table.columns (drop 1 row) ≡ true) × (are_present table.key 0 table.columns row ≡ true)

-- a table whose rows are so, in the order of their numbers
abbrev pub IsTabled : Trees → Table → Type 0
IsTabled trees table = AreNumbered (trees table.tree) × AllByRecursion (IsRowOf table) (trees table.tree)

tabled : (s : State) (schema : Schema) → s.now.schema ≡ schema → (layout : Layout) → IsLaid layout s → AllByRecursion (IsTabled s.now.trees) s.now.schema.tables
tabled s schema is layout laid =
    let rules = laid.in_order.sound.obeys.rules in
    all_both (λ t. AreNumbered (s.now.trees t.tree)) (λ t. AllByRecursion (IsRowOf t) (s.now.trees t.tree)) (IsTabled s.now.trees) (λ t a b. (a, b)) s.now.schema.tables laid.in_order.order
    (all_both (λ t. AllByRecursion (λ row. (are_typed t.key 0 t.columns (drop 1 row) && has_computed t row) ≡
    true) (s.now.trees t.tree)) (λ t. AllByRecursion (λ row. are_present t.key 0 t.columns row ≡ true)
    (s.now.trees t.tree))
    (λ t. AllByRecursion (IsRowOf t) (s.now.trees t.tree))
    (λ t a b. all_both (λ row. (are_typed t.key 0 t.columns (drop 1 row) && has_computed t row) ≡ true) (λ row. are_present t.key 0 t.columns row ≡ true) (IsRowOf t)
    (λ row x y. ((and_parts (are_typed t.key 0 t.columns (drop 1 row)) (has_computed t row) x).0, y)) (s.now.trees t.tree) a b) s.now.schema.tables (rules Datatype) (rules NotNull))

pub laid_tables : (layout : Layout) (s : State) → IsLaid layout s → AllByRecursion (IsTabled s.now.trees) (schema_of layout).tables
laid_tables layout s laid = subst (λ (k : Schema). AllByRecursion (IsTabled s.now.trees) k.tables) laid.schema (tabled s (schema_of layout) laid.schema layout laid)

-- the tables that both layouts have
pub meta_laid : (layout : Layout) (s : State) → IsLaid layout s → IsTabled s.now.trees tables.meta
meta_laid First s laid = (laid_tables First s laid).0
meta_laid Second s laid = (laid_tables Second s laid).0

published_laid : (layout : Layout) (s : State) → IsLaid layout s → IsTabled s.now.trees tables.published
published_laid First s laid = (laid_tables First s laid).1.0
published_laid Second s laid = (laid_tables Second s laid).1.0

desks_laid : (layout : Layout) (s : State) → IsLaid layout s → IsTabled s.now.trees tables.desks
desks_laid First s laid = (laid_tables First s laid).1.1.0
desks_laid Second s laid = (laid_tables Second s laid).1.1.0

plans_laid : (layout : Layout) (s : State) → IsLaid layout s → IsTabled s.now.trees tables.plans
plans_laid First s laid = (laid_tables First s laid).1.1.1.0
plans_laid Second s laid = (laid_tables Second s laid).1.1.1.0

binds_laid : (layout : Layout) (s : State) → IsLaid layout s → IsTabled s.now.trees tables.binds
binds_laid First s laid = (laid_tables First s laid).1.1.1.1.0
binds_laid Second s laid = (laid_tables Second s laid).1.1.1.1.0

-- the answer of a query
pub answer_of : (layout : Layout) (text : List ℕ) (q : Query) (names : List (List ℕ)) → meaning_under (schema_of layout) text ≡ Select (alone q) names → (db : Database) (rows : List Row)
    → Reads (meaning_under (schema_of layout) text) db [] rows → IsAnswer q (overlay db.trees []) [] rows
answer_of layout text q names is db rows h = (subst (λ k. Reads k db [] rows) is h).answer Null

lags_laid : (s : State) → IsLaid Second s → IsTabled s.now.trees tables.lags
lags_laid s laid = (laid_tables Second s laid).1.1.1.1.1.0

module _ (layout : Layout) (db : Database) {A X : Type 0} (written : A → Row) (read : Row → A)
    (Holds : A → Type 0) (back : (a : A) → Holds a → (n : ℤ) → read (row_at written (n, a)) ≡ a)
    (kept : X → A)
    (tree : ℕ) (columns : List Column) (filled : AllByRecursion IsFilled columns) (project : List Term) (text : List ℕ) (names : List (List ℕ))
    (is : meaning_under (schema_of layout) text ≡ Select (alone (of_table tree [] project (by 0 ∷ []))) names)
    (shows : (x : ℤ × Row) → eval_all project ([] ∷ row_at as_is x ∷ []) ≡ cells (row_at as_is x) 1 (length columns)) (whole : overlay db.trees [] tree ≡ db.trees tree) where
  abbrev takes : Row → Option X → Type 0
  takes row found = TakesRow written Holds row (option_map kept found)

  -- the values of the rows of a query
  table_listed : AreNumbered (db.trees tree) → AllByRecursion (IsFull columns filled) (db.trees tree) →
      (found : Option (List X)) (rows : List Row) → Reads (meaning_under (schema_of layout) text) db [] rows
      → TakesAll takes rows found → TakesTable written read Holds (db.trees tree) (option_map (map kept) found)
  table_listed numbered full found rows reads h =
      let answer = answer_of layout text (of_table tree [] project (by 0 ∷ [])) names is db rows reads in
      let show = λ (e : ℤ × Row). cells (row_at as_is e) 1 (length columns) in
      let are = read_all tree project (overlay db.trees [])
      (subst AreNumbered (sym whole) numbered) show shows rows answer
      ∙ ap (λ l. map show (map entry_of l)) whole
      ∙ all_full columns filled (db.trees tree) numbered.1 full in
      table_taken written read Holds back kept (db.trees tree) numbered found (subst (λ l. TakesAll takes l found) are h)

  table_read : AreNumbered (db.trees tree) → AllByRecursion (IsFull columns filled) (db.trees tree) → (found : Option (Vec X Global)) → ListsTaken takes layout text db found
      → TakesTable written read Holds (db.trees tree) (taken_as kept found)
  table_read numbered full found h = table_listed numbered full (option_map (λ v. v.items) found) h.0 h.1 h.2

module _ (layout : Layout) (s : State) (laid : IsLaid layout s) where
  pub codes_read : (found : Option (Vec CodeRow Global)) → ListsTaken (λ row f. TakesRow written_code HoldsCode row (option_map published_in f)) layout means.codes_text s.now found
      → TakesTable written_code read_code HoldsCode (s.now.trees 1) (taken_as published_in found)
  codes_read =
      let table = published_laid layout s laid in
      table_read layout s.now written_code read_code HoldsCode
      (λ a holds n. code_back a n) published_in 1 tables.published.columns
      (refl, (refl, (refl, tt))) means.codes_query.project means.codes_text _ (means.codes_is layout)
      (λ x. refl) refl table.0 table.1

  pub desks_read : (found : Option (Vec DeskRecord Global)) → ListsTaken (λ row f. TakesRow written_desk HoldsDesk row (option_map desk_kept f)) layout means.desks_text s.now found
      → TakesTable written_desk read_desk HoldsDesk (s.now.trees 3) (taken_as desk_kept found)
  desks_read =
      let table = desks_laid layout s laid in
      table_read layout s.now written_desk read_desk HoldsDesk
      (λ a holds n. desk_back a holds.1 n) desk_kept 3 tables.desks.columns
      (refl, (refl, (refl, tt))) means.desks_query.project means.desks_text _ (means.desks_is layout)
      (λ x. refl) refl table.0 table.1

  plans_listed : (found : Option (List Plan)) (rows : List Row) → Reads (meaning_under (schema_of layout) means.plans_text) s.now [] rows
      → TakesAll (λ row f. TakesRow written_plan IsGoodPlan row (option_map (λ (p : Plan). p) f)) rows found →
      TakesTable written_plan read_plan IsGoodPlan (s.now.trees 5)
      (option_map (map (λ (p : Plan). p)) found)
  plans_listed =
      let table = plans_laid layout s laid in
      table_listed layout s.now written_plan read_plan IsGoodPlan (λ a holds n. plan_back a n)
      (λ (p : Plan). p) 5 tables.plans.columns
      (refl, (refl, (refl, (refl, (refl, (refl, (refl, tt))))))) means.plans_query.project
      means.plans_text _ (means.plans_is layout)
      (λ x. refl) refl table.0 table.1

  -- good plans, each from its row
  pub plans_good : (plans : List Plan) (rows : List Row) → Reads (meaning_under (schema_of layout) means.plans_text) s.now [] rows → AllZip (λ row plan. TakesGood row (Some plan)) rows plans
      → TakesTable written_plan read_plan IsGoodPlan (s.now.trees 5) (Some plans)
  plans_good plans rows reads zip =
      subst (λ l. TakesTable written_plan read_plan IsGoodPlan (s.now.trees 5) (Some l)) (map-id plans) (plans_listed (Some plans) rows reads zip)

  -- a row that isn't a good plan
  pub plan_bad : (rows : List Row) (row : Row) → Reads (meaning_under (schema_of layout) means.plans_text) s.now [] rows → Contains rows row → TakesGood row None
      → TakesTable written_plan read_plan IsGoodPlan (s.now.trees 5) None
  plan_bad rows row reads among none = plans_listed None rows reads (row, among, none)

  pub binds_read : (found : Option (Vec BindRecord Global)) → ListsTaken (λ row f. TakesRow written_bind HoldsBind row (option_map bind_kept f)) layout means.binds_text s.now found
      → TakesTable written_bind read_bind HoldsBind (s.now.trees 7) (taken_as bind_kept found)
  binds_read =
      let table = binds_laid layout s laid in
      table_read layout s.now written_bind read_bind HoldsBind
      (λ a holds n. bind_back a n) bind_kept 7 tables.binds.columns
      (refl, (refl, (refl, (refl, tt)))) means.binds_query.project means.binds_text _
      (means.binds_is layout)
      (λ x. refl) refl table.0 table.1

pub lags_read : (s : State) → IsLaid Second s → (found : Option (Vec LagRecord Global)) →
    ListsTaken (λ row f. TakesRow written_lag HoldsLag row (option_map lag_kept f)) Second means.lags_text
    s.now found
    → TakesTable written_lag read_lag HoldsLag (s.now.trees 9) (taken_as lag_kept found)
lags_read s laid =
    let table = lags_laid s laid in
    table_read Second s.now written_lag read_lag HoldsLag
    (λ a holds n. lag_back a n) lag_kept 9 tables.lags.columns
    (refl, (refl, (refl, (refl, (refl, tt))))) means.lags_query.project means.lags_text _ means.lags_is
    (λ x. refl) refl table.0 table.1

pub lags_read_in : (layout : Layout) → layout ≡ Second → (s : State) → IsLaid layout s →
    (found : Option (Vec LagRecord Global)) → ListsTaken
    (λ row f. TakesRow written_lag HoldsLag row (option_map lag_kept f)) layout means.lags_text s.now found
    → TakesLags layout s.now.trees found
lags_read_in First is s laid found h = cc
lags_read_in Second is s laid found h = lags_read s laid found h

-- ---- the table of the version

abbrev meta_columns : List Column
meta_columns = tables.filled (codes "version") Integer ∷ tables.filled (codes "office") kinds.Text ∷ []

-- a row of the first table has a rowid, NULL in the column of its integer key, and two values
meta_rest : (n : ℤ) (r : Row) → are_typed (Some 0) 1 meta_columns r ≡ true → are_present (Some 0) 1 meta_columns (Int n ∷ Null ∷ r) ≡ true → r ≡ column r 0 ∷ column r 1 ∷ []
meta_rest n [] typed present = cc
meta_rest n (v ∷ []) typed present = absurd (let e = width 1 meta_columns (Int n ∷ Null ∷ []) (v ∷ []) (refl, (refl, tt)) refl typed present in omega (arith, e))
meta_rest n (v ∷ o ∷ []) typed present = refl
meta_rest n (v ∷ o ∷ w ∷ more) typed present = absurd (let e = width 1 meta_columns (Int n ∷ Null ∷ []) (v ∷ o ∷ w ∷ more) (refl, (refl, tt)) refl typed present in omega (arith, e))

meta_shape : (n : ℤ) (r : Row) → IsRowOf tables.meta (Int n ∷ r) → r ≡ Null ∷ column r 1 ∷ column r 2 ∷ []
meta_shape n [] h = absurd (let e = h.1 in cc)
meta_shape n (Null ∷ r) h = ap (λ k. Null ∷ k) (meta_rest n r h.0 h.1)
meta_shape n (Int m ∷ r) h = absurd (let e = h.0 in cc)
meta_shape n (Real x ∷ r) h = absurd (let e = h.0 in cc)
meta_shape n (Text t ∷ r) h = absurd (let e = h.0 in cc)
meta_shape n (Blob b ∷ r) h = absurd (let e = h.0 in cc)

abbrev show_meta : ℤ × Row → Row
show_meta e = Int e.0 ∷ column e.1 1 ∷ column e.1 2 ∷ []

-- the row that is shown, and the row of the table
meta_back : (row : Row) → IsTrue (is_int (rowid row)) → IsRowOf tables.meta row → (meta : Meta) → show_meta (entry_of row) ≡ shown_meta meta → row ≡ meta_at meta.0 meta.1
meta_back row whole full meta is =
    let e = entry_of row in
    let entry = is_entry row whole in
    let shaped = meta_shape e.0 e.1 (subst (IsRowOf tables.meta) entry full) in
    let version : column e.1 1 ≡ Int meta.0 = ap (λ r. column r 1) is in
    let office : column e.1 2 ≡ digest_value meta.1 = ap (λ r. column r 2) is in
    let number : Int e.0 ≡ number_value 1 = ap (λ r. column r 0) is in
    entry ∙ ap (λ r. Int e.0 ∷ r) shaped ∙ (λ i. number i ∷ Null ∷ version i ∷ office i ∷ [])

module _ (rows : List Row) (numbered : AllByRecursion (λ row. IsTrue (is_int (rowid row))) rows) (full : AllByRecursion (IsRowOf tables.meta) rows) where
  takes_meta : (found : Option (List Meta)) → TakesAll (TakesRow shown_meta HoldsMeta) (map show_meta (map entry_of rows)) found → TakesMeta rows (option_and_then only_one found)
  takes_meta None h = λ version office good is.
      let one : map show_meta (map entry_of rows) ≡ shown_meta (version, office) ∷ [] = ap (λ l. map show_meta (map entry_of l)) is in
      let among = subst (λ l. Contains l h.0) one h.1 in
      h.2 (version, office) good (all_contains (λ r. r ≡ shown_meta (version, office)) (shown_meta (version, office) ∷ []) h.0 (refl, tt) among)
  takes_meta (Some []) h = λ version office good is. subst (λ l. AllZip (λ row x. (row ≡ shown_meta x) × HoldsMeta x) (map show_meta (map entry_of l)) []) is h
  takes_meta (Some (x ∷ [])) h = one_there rows numbered full h
    where
      one_there : (rs : List Row) → AllByRecursion (λ row. IsTrue (is_int (rowid row))) rs →
          AllByRecursion (IsRowOf tables.meta) rs →
          AllZip (λ row x. (row ≡ shown_meta x) × HoldsMeta x) (map show_meta (map entry_of rs)) (x ∷ [])
          → TakesMeta rs (Some x)
      one_there [] numbers full zip = absurd zip
      one_there (r ∷ []) numbers full zip = (ap (λ k. k ∷ []) (meta_back r numbers.0 full.0 x zip.0.0), zip.0.1)
      one_there (r ∷ q ∷ more) numbers full zip = absurd zip.1
  takes_meta (Some (x ∷ y ∷ more)) h = λ version office good is. (subst (λ l. AllZip (λ row x. (row ≡ shown_meta x) × HoldsMeta x) (map show_meta (map entry_of l)) (x ∷ y ∷ more)) is h).1

pub meta_read : (layout : Layout) (s : State) → IsLaid layout s → (found : Option (List Meta)) (rows : List Row) → Reads (meaning_under (schema_of layout) means.meta_text) s.now [] rows
    → TakesAll (TakesRow shown_meta HoldsMeta) rows found → TakesMeta (s.now.trees 0) (option_and_then only_one found)
meta_read layout s laid found rows reads takes =
    let table = meta_laid layout s laid in
    let answer = answer_of layout means.meta_text means.meta_query _ (means.meta_is layout) s.now rows reads in
    let are = read_all 0 means.meta_query.project (overlay s.now.trees []) table.0 show_meta (λ x. refl) rows answer in
    takes_meta (s.now.trees 0) table.0.1 table.1 found (subst (λ l. TakesAll (TakesRow shown_meta HoldsMeta) l found) are takes)
