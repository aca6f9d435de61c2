-- A table that keeps a list of rows, after each kind of write.
use Rattle.std.proofs.Common.{◌≡◌, ◌≤◌, ℤ, Bool, true, false, not, cond, List, [], ◌∷◌, ◌++◌, length, map, filter, find, Some, option_map, refl, sym, ap, ap₂, subst, ◌∙◌, arith}
use Rattle.std.specs.List.{AllByRecursion}
use Rattle.std.proofs.lemmas.List.{map-append}
use Rattle.std.proofs.lemmas.Bool.{both_ways}
use Rattle.sqlite_value.specs.Order.{Row}
use Rattle.sqlite_keyed.specs.Keyed.{IsKeyedBy, next_key}
use Rattle.sqlite_keyed.specs.Lists.{update_where, delete_where}
use Rattle.sqlite_keyed.proofs.ListLemmas.{all-filter, filter-map}
use Rattle.sqlite_trees.proofs.ListLemmas.{all-append}
use Rattle.sqlite_keyed.proofs.KeyedLemmas.{IsKeyedBy-insert_by, IsKeyedBy-update_where, IsKeyedBy-delete_where}
use Rattle.sqlite_keyed.proofs.SliceLemmas.{insert_next}
use Rattle.plan_rows.specs.Changes.{changed, without}
use Rattle.plan_rows.specs.Rules.{AllDiffer}
use Rattle.plan_store.specs.TableRows.{row_at, Keeps}
use Rattle.plan_store.proofs.EditLemmas.{number_of, at_number}

module _ {A : Type 0} (written : A → Row) (read : Row → A) where
  abbrev content : ℤ × A → A
  content entry = entry.1

  read_back : (xs : List (ℤ × A)) → AllByRecursion (λ x. read (row_at written x) ≡ x.1) xs → map read (map (row_at written) xs) ≡ map content xs
  read_back [] back = refl
  read_back (x ∷ xs) back = ap₂ ◌∷◌ back.0 (read_back xs back.1)

  abbrev IsRead : ℤ × A → Type 0
  IsRead x = read (row_at written x) ≡ x.1

  -- a table is read as its entries
  pub reads_entries : {rows : List Row} → (it : Keeps written read rows) → map read rows ≡ map content it.entries
  reads_entries it = ap (map read) it.are ∙ read_back it.entries it.back

  module _ {rows : List Row} (it : Keeps written read rows) where
    abbrev pub with_row : A → List Row
    with_row a = map (row_at written) (it.entries ++ (next_key number_of it.entries, a) ∷ [])

    abbrev pub with_change : (A → Bool) → (A → A) → List Row
    with_change p change = map (row_at written) (update_where (λ x. p x.1) (at_number change) it.entries)

    abbrev pub with_none : (A → Bool) → List Row
    with_none p = map (row_at written) (delete_where (λ x. p x.1) it.entries)

    abbrev pub keeps_row : (a : A) → ((n : ℤ) → read (row_at written (n, a)) ≡ a) → Keeps written read (with_row a)
    keeps_row a good = record {
      entries = it.entries ++ (next_key number_of it.entries, a) ∷ [];
      are = refl;
      rise = subst (IsKeyedBy number_of) (insert_next number_of it.entries (next_key number_of it.entries, a) it.rise refl)
          (IsKeyedBy-insert_by number_of it.entries (next_key number_of it.entries, a) it.rise);
      back = all-append IsRead it.entries _ it.back (good (next_key number_of it.entries), tt);
    }

    pub reads_row : (a : A) → ((n : ℤ) → read (row_at written (n, a)) ≡ a) → map read (with_row a) ≡ map read rows ++ a ∷ []
    reads_row a good =
        reads_entries (keeps_row a good) ∙ map-append content it.entries ((next_key number_of it.entries, a) ∷ [])
        ∙ ap (λ l. l ++ a ∷ []) (sym (reads_entries it))

    module _ (p : A → Bool) where
      pub kept_after : (change : A → A) → ((x : ℤ × A) → IsRead x → IsRead (at_number change x)) → (xs : List (ℤ × A)) → AllByRecursion IsRead xs
          → AllByRecursion IsRead (update_where (λ x. p x.1) (at_number change) xs)
      kept_after change good [] all = tt
      kept_after change good (x ∷ xs) all = (elim (p x.1) as (λ b. IsRead (cond b (at_number change x) x)) [ true ↦ good x all.0 | false ↦ all.0 ], kept_after change good xs all.1)

      contents_changed : (change : A → A) (xs : List (ℤ × A)) → map content (update_where (λ x. p x.1) (at_number change) xs) ≡ changed p change (map content xs)
      contents_changed change [] = refl
      contents_changed change (x ∷ xs) = ap₂ ◌∷◌ (elim (p x.1) as (λ b. content (cond b (at_number change x) x) ≡ cond b (change x.1) x.1) [ true ↦ refl | false ↦ refl ]) (contents_changed change xs)

      abbrev pub keeps_change : (change : A → A) → ((x : ℤ × A) → IsRead x → IsRead (at_number change x)) → Keeps written read (with_change p change)
      keeps_change change good = record {
        entries = update_where (λ x. p x.1) (at_number change) it.entries;
        are = refl;
        rise = IsKeyedBy-update_where number_of (λ x. p x.1) (at_number change) (λ _. refl) it.entries it.rise;
        back = kept_after change good it.entries it.back;
      }

      pub reads_change : (change : A → A) → ((x : ℤ × A) → IsRead x → IsRead (at_number change x)) → map read (with_change p change) ≡ changed p change (map read rows)
      reads_change change good =
          reads_entries (keeps_change change good) ∙ contents_changed change it.entries ∙ ap (changed p change) (sym (reads_entries it))

      abbrev pub keeps_others : Keeps written read (with_none p)
      keeps_others = record {
        entries = delete_where (λ x. p x.1) it.entries;
        are = refl;
        rise = IsKeyedBy-delete_where number_of (λ x. p x.1) it.entries it.rise;
        back = all-filter IsRead (λ x. not (p x.1)) it.entries it.back;
      }

      pub reads_others : map read (with_none p) ≡ without p (map read rows)
      reads_others = reads_entries keeps_others ∙ sym (filter-map (λ a. not (p a)) content it.entries) ∙ ap (without p) (sym (reads_entries it))

      few_among : (alike : A → A → Bool) → ((a b : A) → p a ≡ true → p b ≡ true → alike a b ≡ true) → (xs : List (ℤ × A)) → AllDiffer alike (map content xs)
          → length (filter (λ x. p x.1) xs) ≤ 1
      few_among alike both [] apart = omega arith
      few_among alike both (x ∷ xs) apart = go (p x.1) refl (few_among alike both xs apart.1)
        where
          none : p x.1 ≡ true → (ys : List (ℤ × A)) → AllByRecursion (λ b. alike x.1 b ≡ false) (map content ys) → filter (λ y. p y.1) ys ≡ []
          none here [] all = refl
          none here (y ∷ ys) all = go' (p y.1) refl (none here ys all.1)
            where
              go' : (b : Bool) → p y.1 ≡ b → filter (λ z. p z.1) ys ≡ [] → cond b (y ∷ filter (λ z. p z.1) ys) (filter (λ z. p z.1) ys) ≡ []
              go' true e more = absurd (both_ways (alike x.1 y.1) all.0 (both x.1 y.1 here e))
              go' false e more = more

          go : (b : Bool) → p x.1 ≡ b → length (filter (λ y. p y.1) xs) ≤ 1 → length (cond b (x ∷ filter (λ y. p y.1) xs) (filter (λ y. p y.1) xs)) ≤ 1
          go true e more = rw (none e xs apart.0) (omega arith)
          go false e more = more

      -- if all keys differ, at most one row passes a test of the key
      pub few_pass : (alike : A → A → Bool) → ((a b : A) → p a ≡ true → p b ≡ true → alike a b ≡ true) → AllDiffer alike (map read rows)
          → length (filter (λ x. p x.1) it.entries) ≤ 1
      few_pass alike both apart = few_among alike both it.entries (subst (AllDiffer alike) (reads_entries it) apart)

      found_among : (xs : List (ℤ × A)) → option_map content (find (λ x. p x.1) xs) ≡ find p (map content xs)
      found_among [] = refl
      found_among (x ∷ xs) = elim (p x.1) as (λ b. option_map content (cond b (Some x) (find (λ y. p y.1) xs)) ≡ cond b (Some x.1) (find p (map content xs))) [ true ↦ refl | false ↦ found_among xs ]

      pub finds_entry : option_map content (find (λ x. p x.1) it.entries) ≡ find p (map read rows)
      finds_entry = found_among it.entries ∙ ap (find p) (sym (reads_entries it))
