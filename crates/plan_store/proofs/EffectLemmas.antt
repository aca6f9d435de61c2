-- The trees after a statement that writes.
use Rattle.std.proofs.Common.{◌≡◌, ◌≢◌, ◌⊎◌, inl, inr, ◌≤◌, ℕ, ℤ, ◌/◌, Bool, List, [], ◌∷◌, ◌++◌, length, map, filter, IsPermutation, Option, None, Ok, Err, Result, refl, sym, ap, subst, ◌∙◌, arith}
use Rattle.std.specs.List.{list_all}
use Rattle.std.proofs.lemmas.List.{length-map}
use Rattle.std.proofs.lemmas.List.Sorted.{IsPermutation-map, length_permutation}
use Rattle.sqlite_value.specs.declared.value.Value.TheVariants.{Null, Int}
use Rattle.sqlite_value.specs.Order.{Row}
use Rattle.sqlite_trees.specs.Tree.{Trees, rowid}
use Rattle.sqlite_sql.specs.Term.{Term, col, eval_all, holds}
use Rattle.sqlite_sql.specs.Query.{Query, IsAnswer, Output, output}
use Rattle.sqlite_sql.specs.Program.{overlay}
use Rattle.sqlite_schema.specs.declared.schema.Keys.TheVariants.{Enforced}
use Rattle.sqlite_schema.specs.declared.schema.Column.{Column}
use Rattle.sqlite_schema.specs.declared.schema.Table.{Table}
use Rattle.sqlite_schema.specs.declared.schema.Schema.{Schema}
use Rattle.sqlite_schema.specs.declared.command.Command.TheVariants.{Insert, Update, Delete}
use Rattle.sqlite_schema.specs.declared.command.Source.TheVariants.{Values}
use Rattle.sqlite_rules.specs.declared.error.Rowids.TheVariants.{Chosen, Given}
use Rattle.sqlite_rules.specs.Action.{works}
use Rattle.sqlite_rules.specs.Calls.{ids_of}
use Rattle.sqlite_rules.specs.Cast.{cast_all}
use Rattle.sqlite_rules.specs.Edit.{Edit, id_in, edit_of, edited, taken_by, IsNoIndex, Applies}
use Rattle.sqlite.specs.declared.run.Mode.{Mode}
use Rattle.sqlite.specs.Effect.{Database, value_rows}
use Rattle.sqlite.specs.Does.{Tally, OnRows, Concludes}
use Rattle.sqlite.specs.Rows.{Task, Written, stamped}
use Rattle.sqlite.proofs.Callers.{one_step}
use Rattle.sqlite_keyed.specs.Keyed.{IsKeyedBy, next_key}
use Rattle.sqlite_keyed.specs.Lists.{update_where, delete_where}
use Rattle.sqlite_keyed.proofs.ListLemmas.{map-map}
use Rattle.sqlite_typed.proofs.AnswerLemmas.{at_end, last_table, matches_are}
use Rattle.plan_store.specs.TableRows.{row_at}
use Rattle.plan_store.specs.Tables.{keyed_table}
use Rattle.plan_store.proofs.QueryForms.{of_table, alone}
use Rattle.plan_store.proofs.EditLemmas.{number_of, at_number, changed_row, row_inserted, rows_updated, rows_deleted}

-- a step that returned a value didn't stop
pub went : {B E R : Type 0} {b : B} {Stops : E → Type 0} → ((stop : E) × Stops stop × (Ok b ≡ Err stop)) ⊎ R → R
went (inl stopped) = absurd (let e = stopped.2 in cc)
went (inr on) = on

pub same_value : {B E : Type 0} {a b : B} → ◌≡◌ {A = Result B E} (Ok a) (Ok b) → a ≡ b
same_value e = cc

-- one tree has these rows, and each other tree that isn't an index's is unchanged
pub record Sets (schema : Schema) (tree : ℕ) (rows : List Row) (old : Trees) (after : Database) : Type 0 where
  pub schema_is : after.schema ≡ schema
  pub rows_are : after.trees tree ≡ rows
  pub others : (t : ℕ) → t ≢ tree → IsNoIndex schema t → after.trees t ≡ old t

-- no foreign key applies to a row that is written to the table
abbrev pub ActsNowhere : Schema → ℕ → Type 0
ActsNowhere schema tree = (olds news : List Row) → works schema Enforced 0 tree olds news ≡ []

-- the rows of a query of one table, in some order
module _ {A : Type 0} (written : A → Row) (tree : ℕ) (test project : List Term) (params : Row) (db : Trees) (xs : List (ℤ × A))
    (are : db tree ≡ map (row_at written) xs) (up : IsKeyedBy number_of xs) (p : ℤ × A → Bool) (tests : (x : ℤ × A) → list_all (holds (params ∷ row_at written x ∷ [])) test ≡ p x)
    (show : ℤ × A → Row) (shows : (x : ℤ × A) → eval_all project (params ∷ row_at written x ∷ []) ≡ show x) where
  abbrev query : Query
  query = of_table tree test project []

  pub run_query : (rows : List Row) → IsAnswer query db params rows → IsPermutation (map show (filter p xs)) rows
  run_query rows answer =
      let found = matches_are query db params (last_table db tree (row_at written) number_of xs are up (at_end db)) p tests in
      let env = λ (x : ℤ × A). params ∷ row_at written x ∷ [] in
      let all : answer.kept ≡ map (λ x. output query (env x)) (filter p xs) =
      answer.distinct ∙ ap (map (output query)) (answer.grouped ∙ found) ∙ map-map (output query) env (filter p xs) in
      let shown : map (λ (o : Output). o.1) answer.kept ≡ map show (filter p xs) =
      ap (map (λ (o : Output). o.1)) all ∙ map-map (λ (o : Output). o.1) (λ x. output query (env x)) (filter p xs) ∙ (λ i. map (λ x. shows x i) (filter p xs)) in
      let same = IsPermutation-map (λ (o : Output). o.1) answer.kept answer.ordered answer.same in
      subst (λ l. IsPermutation l rows) shown (subst (IsPermutation (map (λ (o : Output). o.1) answer.kept)) (sym answer.shown) same)

-- one row or none has one order
pub few_alike : {X : Type 0} (xs ys : List X) → length xs ≤ 1 → IsPermutation xs ys → ys ≡ xs
few_alike [] [] few same = refl
few_alike [] (y ∷ ys) few same = absurd (omega (arith, length_permutation _ _ same))
few_alike (x ∷ []) ys few same = Rattle.sqlite.proofs.Callers.one_permutation x ys same
few_alike (x ∷ z ∷ xs) ys few same = absurd (omega arith)

-- ---- the three kinds of writes, on a table of the form that all our tables but the first have

module _ (schema : Schema) (limit : Option ℕ) (mode : Mode) (name : List ℕ) (tree : ℕ) (places : List ℕ) (columns : List Column) (acts : ActsNowhere schema tree) {A : Type 0} (written : A → Row)
    (casts : (a : A) → cast_all columns (written a) ≡ written a) (db : Trees) (xs : List (ℤ × A)) (are : db tree ≡ map (row_at written) xs) (up : IsKeyedBy number_of xs) (params : Row) where
  abbrev table : Table
  table = keyed_table name tree places columns

  abbrev task : Task
  task = record { limit = limit; keys = Enforced; schema = schema; table = table; params = params }

  concluded : (w : Written) (out : Tally × Database) → Concludes task mode None w (Ok out) → out.1 ≡ record { schema = schema; trees = w.trees }
  concluded w out h = ap (λ (p : Tally × Database). p.1) (same_value (went (went h).2).2)

  -- the trees after an edit of the table
  leaves : (edit : Edit) (next : Trees) (after : Database) (rows : List Row) → edit.table ≡ table → Applies schema Enforced db edit next → edited db edit ≡ rows
      → after ≡ record { schema = schema; trees = next } → Sets schema tree rows db after
  leaves edit next after rows same it are_rows is = record {
    schema_is = ap (λ (d : Database). d.schema) is;
    rows_are = ap (λ (d : Database). d.trees tree) is ∙ sym (ap (λ (t : Table). next t.tree) same) ∙ it.rows ∙ are_rows;
    others = λ t other none. ap (λ (d : Database). d.trees t) is ∙ it.others t (λ e. other (e ∙ ap (λ (k : Table). k.tree) same)) none;
  }

  pub insert_sets : (at : ℕ) (terms : List Term) (width : ℕ) (a : A) → value_rows (stamped table params) width (length terms / width) terms ≡ (Null ∷ written a) ∷ []
      → (out : Tally × Database) → OnRows task mode None (Insert at (Values terms width)) db (Ok out)
      → Sets schema tree (map (row_at written) (xs ++ (next_key number_of xs, a) ∷ [])) db out.1
  insert_sets at terms width a values out h =
      let done = went h in
      let given = went done.1 in
      let put = went (went given.2).2 in
      let counted = went put.2 in
      let trees : done.0.trees ≡ put.0 = ap (λ (it : Written). it.trees) (same_value counted.2) ∙ same_value counted.1 in
      let edit = edit_of db table [] Chosen 0 given.0 in
      let it = one_step schema Enforced db put.0 edit (acts (taken_by db edit) edit.news) put.1 in
      leaves edit put.0 out.1 _ refl it (ap (λ all. edited db (edit_of db table [] Chosen 0 all)) (given.1.1 ∙ values) ∙ row_inserted written table casts db xs are up a)
      (concluded done.0 out done.2 ∙ ap (λ t. record { schema = schema; trees = t }) trees)

  module _ (test : List Term) (p : ℤ × A → Bool) (tests : (x : ℤ × A) → list_all (holds (params ∷ row_at written x ∷ [])) test ≡ p x) (low : overlay db [] tree ≡ db tree) where
    pub update_sets : (at : ℕ) (project : List Term) (change : A → A) → ((x : ℤ × A) → eval_all project (params ∷ row_at written x ∷ []) ≡ changed_row written table casts db xs are up change x)
        → length (filter p xs) ≤ 1 → (out : Tally × Database) → OnRows task mode None (Update at (alone (of_table tree test project []))) db (Ok out)
        → Sets schema tree (map (row_at written) (update_where p (at_number change) xs)) db out.1
    update_sets at project change shows few out h =
        let done = went h in
        let asked = went done.1 in
        let put = went asked.2 in
        let trees : done.0.trees ≡ put.0 = ap (λ (it : Written). it.trees) (same_value put.2) in
        let show = changed_row written table casts db xs are up change in
        let rows : asked.0 ≡ map show (filter p xs) =
        few_alike (map show (filter p xs)) asked.0 (subst (λ n. n ≤ 1) (sym (length-map (filter p xs) show)) few)
        (run_query written tree test project params (overlay db []) xs (low ∙ are) up p tests show shows asked.0 (asked.1.answer Null)) in
        let edit = edit_of db table (ids_of asked.0) Given 1 asked.0 in
        let it = one_step schema Enforced db put.0 edit (acts (taken_by db edit) edit.news) put.1 in
        leaves edit put.0 out.1 _ refl it (rows_updated written table casts db xs are up p change asked.0 rows)
        (concluded done.0 out done.2 ∙ ap (λ t. record { schema = schema; trees = t }) trees)

    pub delete_sets : (at : ℕ) (out : Tally × Database) → OnRows task mode None (Delete at (alone (of_table tree test (col 1 0 ∷ []) []))) db (Ok out)
        → Sets schema tree (map (row_at written) (delete_where p xs)) db out.1
    delete_sets at out h =
        let done = went h in
        let asked = went done.1 in
        let put = went asked.2 in
        let trees : done.0.trees ≡ put.0 = ap (λ (it : Written). it.trees) (same_value put.2) in
        let show = λ (x : ℤ × A). Int x.0 ∷ [] in
        let rows = run_query written tree test (col 1 0 ∷ []) params (overlay db []) xs (low ∙ are) up p tests show (λ x. refl) asked.0 (asked.1.answer Null) in
        let ids : IsPermutation (map number_of (filter p xs)) (ids_of asked.0) =
        subst (λ l. IsPermutation l (ids_of asked.0)) (map-map (λ r. id_in (rowid r)) show (filter p xs)) (IsPermutation-map (λ r. id_in (rowid r)) (map show (filter p xs)) asked.0 rows) in
        let edit = edit_of db table (ids_of asked.0) Given 0 [] in
        let it = one_step schema Enforced db put.0 edit (acts (taken_by db edit) edit.news) put.1 in
        leaves edit put.0 out.1 _ refl it (rows_deleted written table casts db xs are up p (ids_of asked.0) ids)
        (concluded done.0 out done.2 ∙ ap (λ t. record { schema = schema; trees = t }) trees)
