-- The result of each query that lists a table of the office.
use Rattle.std.proofs.Common.{◌≡◌, ◌<ℤ◌, ℕ, ℤ, pos, true, false, ◌==◌, nat_lt, List, [], ◌∷◌, map, refl, sym, ap, ◌∙◌, string_bytes, Ordering, Less, Equal}
use Rattle.std.proofs.Common.{Greater, is_gt, is_lt, int_cmp, nat_cmp, arith}
use Rattle.std.specs.Ordering.{ordering_then, ordering_reverse}
use Rattle.std.specs.Cmp.Lexicographic.{slice_cmp}
use Rattle.std.proofs.lemmas.Cmp.{nat_list_cmp_total}
use Rattle.std.proofs.lemmas.List.{map-id}
use Rattle.std.proofs.lemmas.Int.{ints}
use Rattle.std.proofs.lemmas.Bool.Decides.{nat_tests}
use Rattle.sqlite_value.specs.declared.value.Value.TheVariants.{Text}
use Rattle.sqlite_value.specs.Order.{Row}
use Rattle.sqlite_value.proofs.OrderLemmas.{value_cmp-Int, value_cmp-Text}
use Rattle.sqlite_trees.specs.Tree.{Trees}
use Rattle.sqlite_sql.specs.Program.{overlay}
use Rattle.sqlite.specs.State.{State}
use Rattle.sqlite_keyed.proofs.ListLemmas.{map-map}
use Rattle.sqlite_typed.proofs.AnswerLemmas.{no_tie, no_tie_after}
use Rattle.sqlite_typed.proofs.TestLemmas.{then_key, last_key}
use Rattle.plan_rows.specs.declared.tables.records.DeskRecord.{DeskRecord}
use Rattle.plan_rows.specs.declared.tables.records.BindRecord.{BindRecord}
use Rattle.plan_rows.specs.declared.tables.records.LagRecord.{LagRecord}
use Rattle.plan_rows.specs.World.{Desk, Plan, Bind, Lag}
use Rattle.plan_rows.specs.Plans.{in_order}
use Rattle.plan_rows.specs.Tables.{desk_kept, bind_kept, lag_kept}
use Rattle.plan_rows.proofs.OrderedLemmas.{map-in_order}
use Rattle.plan_rows.specs.declared.keyed_rows.PlanKey.{PlanKey}
use Rattle.plan_store.specs.TableRows.{row_at, Keeps}
use Rattle.plan_store.specs.Rows.{digest_in, digest_value, number_value, written_desk, read_desk, written_plan, read_plan, written_bind, read_bind, written_lag, read_lag}
use Rattle.plan_store.specs.Stores.{world_of, HoldRows}
use Rattle.plan_store.specs.BookCalls.{Stands}
use Rattle.plan_store.specs.QueryRows.{ListsShown}
use Rattle.plan_rows.specs.KeyedRows.{desk_before, plan_key_before, bind_key_before, lag_key_before, key_of, key_in}
use Rattle.plan_store.specs.KeyedRows.{ShowsDeskRecord, ShowsPlanKey, ShowsBindRecord, ShowsLagRecord}
use Rattle.plan_store.proofs.QueryForms.{by}
use Rattle.plan_store.proofs.KeepLemmas.{reads_entries}
use Rattle.plan_store.proofs.QueryLemmas.{rows_sorted}
use Rattle.plan_store.proofs.ReadLemmas.{read_query, same_texts, same_numbers, filter_true, then_low, turned, list_read}
use Rattle.plan_store.proofs.KeyedRowsMeanings as means

-- ---- keys of several columns: each but the last decides alone, unless its values are equal

gt_last : (e e' : Ordering) (m n : ℤ) → m <ℤ n → e ≡ ordering_reverse e' → is_gt (ordering_then e (int_cmp m n)) ≡ is_lt e'
gt_last e e' m n low is = then_low e m n low ∙ ap is_gt is ∙ turned e'

gt_then : (c c' d d' : Ordering) → c ≡ ordering_reverse c' → is_gt d ≡ is_lt d' → is_gt (ordering_then c d) ≡ is_lt (ordering_then c' d')
gt_then c Less d d' is rest = ap (λ o. is_gt (ordering_then o d)) is
gt_then c Equal d d' is rest = ap (λ o. is_gt (ordering_then o d)) is ∙ rest
gt_then c Greater d d' is rest = ap (λ o. is_gt (ordering_then o d)) is

numbers_turned : (a b : ℕ) → int_cmp (pos a) (pos b) ≡ ordering_reverse (nat_cmp b a)
numbers_turned a b = go (int_cmp (pos a) (pos b)) refl
  where
    go : (o : Ordering) → int_cmp (pos a) (pos b) ≡ o → o ≡ ordering_reverse (nat_cmp b a)
    go Less e = let low : nat_lt b a ≡ false = grind (arith, ints, nat_tests) in let apart : (b == a) ≡ false = grind (arith, ints, nat_tests) in rw (low, apart) refl
    go Equal e = let low : nat_lt b a ≡ false = grind (arith, ints, nat_tests) in let same : (b == a) ≡ true = grind (arith, ints, nat_tests) in rw (low, same) refl
    go Greater e = let high : nat_lt b a ≡ true = grind (arith, ints, nat_tests) in rw high refl

-- ---- a digest is read as it was written

reload : Desk → Desk
reload row = record { desk = row.desk; digest = digest_in (digest_value row.digest); next = row.next }

reread_all : (rows : List Row) → Keeps written_desk read_desk rows → map reload (map read_desk rows) ≡ map read_desk rows
unfolding reload
reread_all rows it =
    ap (map reload) (reads_entries written_desk read_desk it) ∙ map-map reload (λ (x : ℤ × Desk). x.1) it.entries
    ∙ sym (map-map read_desk (row_at written_desk) it.entries) ∙ ap (map read_desk) (sym it.are)

module _ (s : State) (stands : Stands s) where
  abbrev held : HoldRows s.now.trees
  held = stands.store.rows

  abbrev seen : Trees
  seen = overlay s.now.trees []

  pub desks_read : (all : List DeskRecord) → ListsShown ShowsDeskRecord means.desks_text s.now [] all → map desk_kept all ≡ in_order desk_before (world_of s.now.trees).desks
  unfolding reload
  desks_read all h =
      let show = λ (x : ℤ × Desk). Text x.1.desk ∷ digest_value x.1.digest ∷ number_value x.1.next ∷ [] in
      let cmp = λ (a b : ℤ × Desk). ordering_then (slice_cmp nat_cmp a.1.desk b.1.desk) (int_cmp a.0 b.0) in
      let kept = held.desks in
      let are = rows_sorted written_desk 3 [] means.desks_query.project [] seen kept.entries kept.are kept.rise (λ _. true) (λ x. refl) show (λ x. refl) (by 1 ∷ by 0 ∷ []) cmp
      (λ a b low. no_tie_after (slice_cmp nat_cmp a.1.desk b.1.desk) (no_tie low)) (λ a b. then_key (value_cmp-Text a.1.desk b.1.desk) (last_key (value_cmp-Int a.0 b.0)))
      h.0 (read_query means.desks_text means.desks_query _ means.desks_is s.now [] h.0 h.1) in
      list_read written_desk read_desk (s.now.trees 3) kept (λ _. true) show ShowsDeskRecord desk_kept reload
      (λ x y shows. λ i. record {
        desk = same_texts (string_bytes y.desk) x.1.desk (sym shows.desk) i;
        digest = sym shows.digest i;
        next = same_numbers y.next x.1.next (sym shows.next) i;
      }) cmp desk_before
      (λ x y low. gt_last (slice_cmp nat_cmp x.1.desk y.1.desk) (slice_cmp nat_cmp y.1.desk x.1.desk) x.0 y.0 low (nat_list_cmp_total.antisymm x.1.desk y.1.desk)) h.0 are all h.2
      ∙ ap (λ l. map reload (in_order desk_before l)) (filter_true (map read_desk (s.now.trees 3)))
      ∙ map-in_order reload desk_before desk_before (λ x y. refl) (map read_desk (s.now.trees 3))
      ∙ ap (in_order desk_before) (reread_all (s.now.trees 3) kept)

  pub plan_keys_read : (all : List PlanKey) → ListsShown ShowsPlanKey means.plan_keys_text s.now [] all → map key_in all ≡ map key_of (in_order plan_key_before (world_of s.now.trees).plans)
  plan_keys_read all h =
      let show = λ (x : ℤ × Plan). Text x.1.desk ∷ number_value x.1.n ∷ [] in
      let cmp = λ (a b : ℤ × Plan). ordering_then (slice_cmp nat_cmp a.1.desk b.1.desk) (ordering_then (int_cmp (pos a.1.n) (pos b.1.n)) (int_cmp a.0 b.0)) in
      let kept = held.plans in
      let are = rows_sorted written_plan 5 [] means.plan_keys_query.project [] seen kept.entries kept.are kept.rise (λ _. true) (λ x. refl) show (λ x. refl) (by 1 ∷ by 2 ∷ by 0 ∷ []) cmp
      (λ a b low. no_tie_after (slice_cmp nat_cmp a.1.desk b.1.desk) (no_tie_after (int_cmp (pos a.1.n) (pos b.1.n)) (no_tie low)))
      (λ a b. then_key (value_cmp-Text a.1.desk b.1.desk) (then_key (value_cmp-Int (pos a.1.n) (pos b.1.n)) (last_key (value_cmp-Int a.0 b.0))))
      h.0 (read_query means.plan_keys_text means.plan_keys_query _ means.plan_keys_is s.now [] h.0 h.1) in
      list_read written_plan read_plan (s.now.trees 5) kept (λ _. true) show ShowsPlanKey key_in key_of
      (λ x y shows. λ i. (same_texts (string_bytes y.desk) x.1.desk (sym shows.desk) i, same_numbers y.n x.1.n (sym shows.n) i)) cmp plan_key_before
      (λ x y low. gt_then (slice_cmp nat_cmp x.1.desk y.1.desk) (slice_cmp nat_cmp y.1.desk x.1.desk) (ordering_then (int_cmp (pos x.1.n) (pos y.1.n)) (int_cmp x.0 y.0)) (nat_cmp y.1.n x.1.n)
      (nat_list_cmp_total.antisymm x.1.desk y.1.desk) (gt_last (int_cmp (pos x.1.n) (pos y.1.n)) (nat_cmp y.1.n x.1.n) x.0 y.0 low (numbers_turned x.1.n y.1.n))) h.0 are all h.2
      ∙ ap (λ l. map key_of (in_order plan_key_before l)) (filter_true (map read_plan (s.now.trees 5)))

  pub all_binds_read : (all : List BindRecord) → ListsShown ShowsBindRecord means.all_binds_text s.now [] all → map bind_kept all ≡ in_order bind_key_before (world_of s.now.trees).binds
  all_binds_read all h =
      let show = λ (x : ℤ × Bind). Text x.1.desk ∷ number_value x.1.n ∷ number_value x.1.place ∷ Text x.1.code ∷ [] in
      let cmp = λ (a b : ℤ × Bind). ordering_then (slice_cmp nat_cmp a.1.desk b.1.desk)
      (ordering_then (int_cmp (pos a.1.n) (pos b.1.n))
      (ordering_then (int_cmp (pos a.1.place) (pos b.1.place)) (int_cmp a.0 b.0))) in
      let kept = held.binds in
      let are = rows_sorted written_bind 7 [] means.all_binds_query.project [] seen kept.entries kept.are kept.rise (λ _. true) (λ x. refl) show (λ x. refl) (by 1 ∷ by 2 ∷ by 3 ∷ by 0 ∷ []) cmp
      (λ a b low. no_tie_after (slice_cmp nat_cmp a.1.desk b.1.desk) (no_tie_after (int_cmp (pos a.1.n) (pos b.1.n)) (no_tie_after (int_cmp (pos a.1.place) (pos b.1.place)) (no_tie low))))
      (λ a b. then_key (value_cmp-Text a.1.desk b.1.desk)
      (then_key (value_cmp-Int (pos a.1.n) (pos b.1.n))
      (then_key (value_cmp-Int (pos a.1.place) (pos b.1.place)) (last_key (value_cmp-Int a.0 b.0)))))
      h.0 (read_query means.all_binds_text means.all_binds_query _ means.all_binds_is s.now [] h.0 h.1) in
      list_read written_bind read_bind (s.now.trees 7) kept (λ _. true) show ShowsBindRecord bind_kept (λ row. row)
      (λ x y shows. λ i. record {
        desk = same_texts (string_bytes y.desk) x.1.desk (sym shows.desk) i;
        n = same_numbers y.n x.1.n (sym shows.n) i;
        place = same_numbers y.place x.1.place (sym shows.place) i;
        code = same_texts (string_bytes y.code) x.1.code (sym shows.code) i;
      }) cmp bind_key_before
      (λ x y low. gt_then (slice_cmp nat_cmp x.1.desk y.1.desk) (slice_cmp nat_cmp y.1.desk x.1.desk)
      (ordering_then (int_cmp (pos x.1.n) (pos y.1.n))
      (ordering_then (int_cmp (pos x.1.place) (pos y.1.place)) (int_cmp x.0 y.0)))
      (ordering_then (nat_cmp y.1.n x.1.n) (nat_cmp y.1.place x.1.place)) (nat_list_cmp_total.antisymm x.1.desk y.1.desk)
      (gt_then (int_cmp (pos x.1.n) (pos y.1.n)) (nat_cmp y.1.n x.1.n)
      (ordering_then (int_cmp (pos x.1.place) (pos y.1.place)) (int_cmp x.0 y.0))
      (nat_cmp y.1.place x.1.place) (numbers_turned x.1.n y.1.n)
      (gt_last (int_cmp (pos x.1.place) (pos y.1.place)) (nat_cmp y.1.place x.1.place) x.0 y.0 low (numbers_turned x.1.place y.1.place)))) h.0 are all h.2
      ∙ map-id _ ∙ ap (in_order bind_key_before) (filter_true (map read_bind (s.now.trees 7)))

  pub all_lags_read : (all : List LagRecord) → ListsShown ShowsLagRecord means.all_lags_text s.now [] all → map lag_kept all ≡ in_order lag_key_before (world_of s.now.trees).lags
  all_lags_read all h =
      let show = λ (x : ℤ × Lag). Text x.1.desk ∷ number_value x.1.n ∷ number_value x.1.source ∷ number_value x.1.target ∷ number_value x.1.lag ∷ [] in
      let cmp = λ (a b : ℤ × Lag). ordering_then (slice_cmp nat_cmp a.1.desk b.1.desk) (ordering_then (int_cmp (pos a.1.n) (pos b.1.n))
      (ordering_then (int_cmp (pos a.1.source) (pos b.1.source)) (ordering_then (int_cmp (pos a.1.target) (pos b.1.target)) (int_cmp a.0 b.0)))) in
      let kept = held.lags in
      let are = rows_sorted written_lag 9 [] means.all_lags_query.project [] seen kept.entries kept.are kept.rise (λ _. true) (λ x. refl) show (λ x. refl) (by 1 ∷ by 2 ∷ by 3 ∷ by 4 ∷ by 0 ∷ []) cmp
      (λ a b low. no_tie_after (slice_cmp nat_cmp a.1.desk b.1.desk)
      (no_tie_after (int_cmp (pos a.1.n) (pos b.1.n))
      (no_tie_after (int_cmp (pos a.1.source) (pos b.1.source))
      (no_tie_after (int_cmp (pos a.1.target) (pos b.1.target)) (no_tie low)))))
      (λ a b. then_key (value_cmp-Text a.1.desk b.1.desk) (then_key (value_cmp-Int (pos a.1.n) (pos b.1.n))
      (then_key (value_cmp-Int (pos a.1.source) (pos b.1.source)) (then_key (value_cmp-Int (pos a.1.target) (pos b.1.target)) (last_key (value_cmp-Int a.0 b.0))))))
      h.0 (read_query means.all_lags_text means.all_lags_query _ means.all_lags_is s.now [] h.0 h.1) in
      list_read written_lag read_lag (s.now.trees 9) kept (λ _. true) show ShowsLagRecord lag_kept (λ row. row)
      (λ x y shows. λ i. record {
        desk = same_texts (string_bytes y.desk) x.1.desk (sym shows.desk) i;
        n = same_numbers y.n x.1.n (sym shows.n) i;
        source = same_numbers y.from x.1.source (sym shows.source) i;
        target = same_numbers y.to x.1.target (sym shows.target) i;
        lag = same_numbers y.lag x.1.lag (sym shows.lag) i;
      }) cmp lag_key_before
      (λ x y low. gt_then (slice_cmp nat_cmp x.1.desk y.1.desk) (slice_cmp nat_cmp y.1.desk x.1.desk)
      (ordering_then (int_cmp (pos x.1.n) (pos y.1.n)) (ordering_then (int_cmp (pos x.1.source) (pos y.1.source)) (ordering_then (int_cmp (pos x.1.target) (pos y.1.target)) (int_cmp x.0 y.0))))
      (ordering_then (nat_cmp y.1.n x.1.n) (ordering_then (nat_cmp y.1.source x.1.source) (nat_cmp y.1.target x.1.target))) (nat_list_cmp_total.antisymm x.1.desk y.1.desk)
      (gt_then (int_cmp (pos x.1.n) (pos y.1.n)) (nat_cmp y.1.n x.1.n)
      (ordering_then (int_cmp (pos x.1.source) (pos y.1.source))
      (ordering_then (int_cmp (pos x.1.target) (pos y.1.target)) (int_cmp x.0 y.0)))
      (ordering_then (nat_cmp y.1.source x.1.source) (nat_cmp y.1.target x.1.target)) (numbers_turned x.1.n y.1.n)
      (gt_then (int_cmp (pos x.1.source) (pos y.1.source)) (nat_cmp y.1.source x.1.source) (ordering_then (int_cmp (pos x.1.target) (pos y.1.target)) (int_cmp x.0 y.0)) (nat_cmp y.1.target x.1.target)
      (numbers_turned x.1.source y.1.source) (gt_last (int_cmp (pos x.1.target) (pos y.1.target)) (nat_cmp y.1.target x.1.target) x.0 y.0 low (numbers_turned x.1.target y.1.target))))) h.0 are all h.2
      ∙ map-id _ ∙ ap (in_order lag_key_before) (filter_true (map read_lag (s.now.trees 9)))
