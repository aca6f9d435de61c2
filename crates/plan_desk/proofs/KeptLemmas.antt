-- Kept documents: keys that are equal, and entries that move, leave and come.
use Rattle.std.proofs.Common.{◌≡◌, ℕ, suc, ◌+◌, ◌-◌, ◌/◌, ◌≤◌, ◌<◌, Bool, true, false, ◌&&◌, nat_eq, List, [], ◌∷◌, ◌++◌, length, take, drop, get_or, Contains}
use Rattle.std.proofs.Common.{inl, inr, true≢false, Option, Some, None, min, refl, sym, ap, ◌∙◌, subst, add-one, arith}
use Rattle.std.specs.Prelude.{All, map, slice_get, is_some, IsTrue, IsFalse}
use Rattle.std.specs.Bool.{Decides}
use Rattle.std.specs.Cmp.Lexicographic.{pointwise}
use Rattle.std.specs.List.{sum_by}
use Rattle.std.specs.Map.{lookup, lookup_entry, remove_entry}
use Rattle.std.proofs.lemmas.Bool.Decides.{Decides-eqb, Decides-and, Decides-like}
use Rattle.std.proofs.Math.Seq.{take-suc}
use Rattle.std.proofs.lemmas.Option.{get_or_from_slice_get, slice_get_within, slice_get-get_or}
use Rattle.std.proofs.lemmas.Slice.Eq.{slice_eq-Decides}
use Rattle.std.proofs.lemmas.List.{map-append, take-map, length-append, length-map, length-take, length-drop, take_all, take-take, take_min}
use Rattle.std.proofs.lemmas.List.Sums.{sum_by-append, sum_by-cons}
use Rattle.std.proofs.lemmas.List.Elements.{All-same, All-cons, All-take, All-contains, Contains-get_or}
use Rattle.lru.specs.LruCache.{LruCache, lru_cache, last_entry, promoted, put_entries}
use Rattle.lru.proofs.CallerLemmas.{Contains-lookup_entry, Contains-promoted, Contains-take}
use Rattle.lru.proofs.Splits.{Contains-cons, Contains-head, Contains-tail}
use Rattle.plan_desk.specs.KeptFiles.{Stored, stored_by, middle_of, IsReading, IsReadingOfFirst, files_of, bytes_of, IsKept, AreKept, Moves, Adds}
use Rattle.plan_desk.specs.contracts.file_keys.FileKeyPartialEq.TheImpl.{eq-value}
use Rattle.plan_rows.specs.declared.kinds.PlanKind.{PlanKind}
use Rattle.plan_rows.specs.declared.kinds.PlanKind.TheVariants as kinds
use Rattle.plan_rows.specs.declared.rows.LagEntry.{LagEntry}
use Rattle.plan_desk.specs.declared.file_keys.FileKey.{FileKey}
use Rattle.plan_desk.specs.declared.files.Document.{Document}
use Rattle.plan_rows.specs.contracts.kinds.PlanKindPartialEq.TheImpl as kind_eq

abbrev Entry : Type 0
Entry = FileKey × Document

-- the tests of `==`
abbrev pub same_key : FileKey → FileKey → Bool
same_key = eq-value.it

abbrev same_kind : PlanKind → PlanKind → Bool
same_kind = kind_eq.eq-value.it

abbrev same_lag : LagEntry → LagEntry → Bool
same_lag a b = nat_eq a.from b.from && (nat_eq a.to b.to && nat_eq a.lag b.lag)

same_kind_decides : (a b : PlanKind) → Decides (same_kind a b) (a ≡ b)
same_kind_decides kinds.Project kinds.Project = (λ e. refl, λ e. refl)
same_kind_decides kinds.Project kinds.Shop = (λ e. cc, λ e. cc)
same_kind_decides kinds.Shop kinds.Project = (λ e. cc, λ e. cc)
same_kind_decides kinds.Shop kinds.Shop = (λ e. refl, λ e. refl)

same_lag_decides : (a b : LagEntry) → Decides (same_lag a b) (a ≡ b)
same_lag_decides a b =
    Decides-like (same_lag a b) (λ e. λ i. record { from = e.0 i; to = e.1.0 i; lag = e.1.1 i })
    (λ e. (ap (λ w. w.from) e, (ap (λ w. w.to) e, ap (λ w. w.lag) e)))
    (Decides-and _ _ (Decides-eqb a.from b.from) (Decides-and _ _ (Decides-eqb a.to b.to) (Decides-eqb a.lag b.lag)))

same_numbers_decides : (xs ys : List ℕ) → Decides (pointwise nat_eq xs ys) (xs ≡ ys)
same_numbers_decides xs ys = slice_eq-Decides Decides-eqb xs ys (pointwise nat_eq xs ys) refl

-- two keys are equal exactly if they are of the same file
pub same_key_decides : (q k : FileKey) → Decides (same_key q k) (stored_by q ≡ stored_by k)
same_key_decides q k =
    Decides-like (same_key q k) (λ e. λ i. record { kind = e.0 i; name = e.1.0 i; body = e.1.1.0 i; lags = e.1.1.1 i })
    (λ e. (ap (λ f. f.kind) e, (ap (λ f. f.name) e, (ap (λ f. f.body) e, ap (λ f. f.lags) e))))
    (Decides-and _ _ (same_kind_decides q.kind k.kind)
    (Decides-and _ _ (same_numbers_decides q.name.items k.name.items)
    (Decides-and _ _ (same_numbers_decides q.body.items k.body.items)
    (slice_eq-Decides same_lag_decides q.lags.items k.lags.items (pointwise same_lag q.lags.items k.lags.items) refl))))

-- what is hashed is the middle of the body
pub middle_is : (body items : List ℕ) (n m : ℕ) → items ≡ body → n ≡ length items → m ≡ min (length (take (length items - n / 2) (drop (n / 2) items))) 64
    → take m (take (length items - n / 2) (drop (n / 2) items)) ≡ middle_of body
middle_is body items n m same count least =
    let left = length-drop (n / 2) items in
    let whole : take (length items - n / 2) (drop (n / 2) items) ≡ drop (n / 2) items = take_all (length items - n / 2) (drop (n / 2) items) (omega (arith, left)) in
    let cut : m ≡ min 64 (length (drop (n / 2) items)) = let h = rw whole at least in omega (arith, h) in
    ap (take m) whole ∙ ap (λ k. take k (drop (n / 2) items)) cut ∙ take_min 64 (drop (n / 2) items)
    ∙ ap (λ k. take 64 (drop (k / 2) items)) count ∙ ap middle_of same

-- if an entry is found, the entries split around it
record IsFound (test : FileKey → Bool) (es : List Entry) (document : Document) : Type 0 where
  key : FileKey
  before : List Entry
  after : List Entry
  split : es ≡ before ++ (key, document) ∷ after
  passes : test key ≡ true
  entry : lookup_entry test es ≡ Some (key, document)
  rest : remove_entry test es ≡ before ++ after

found_later : (test : FileKey → Bool) (e : Entry) (es : List Entry) (document : Document) → test e.0 ≡ false → IsFound test es document
    → IsFound test (e ∷ es) document
found_later test e es document fails f = record {
  key = f.key;
  before = e ∷ f.before;
  after = f.after;
  split = ap (λ l. e ∷ l) f.split;
  passes = f.passes;
  entry = rw fails f.entry;
  rest = rw fails (ap (λ l. e ∷ l) f.rest);
}

found_first : (test : FileKey → Bool) (e : Entry) (es : List Entry) (document : Document) → test e.0 ≡ true → e.1 ≡ document → IsFound test (e ∷ es) document
found_first test e es document passes same = record {
  key = e.0;
  before = [];
  after = es;
  split = ap (λ w. (e.0, w) ∷ es) same;
  passes = passes;
  entry = rw passes (ap (λ w. Some (e.0, w)) same);
  rest = rw passes refl;
}

found : (test : FileKey → Bool) (es : List Entry) (document : Document) → lookup test es ≡ Some document → IsFound test es document
found test [] document h = cc
found test (e ∷ es) document h = (elim (test e.0) as (λ y. test e.0 ≡ y → IsFound test (e ∷ es) document) [
  | true ↦ λ t. let h' = rw t at h in found_first test e es document t cc
  | false ↦ λ t. found_later test e es document t (found test es document (rw t at h))
]) refl

-- if no document is found, none is kept of the file
not_found : (q : FileKey) (es : List Entry) → lookup (same_key q) es ≡ None → Contains (files_of es) (stored_by q) → ⊥
not_found q [] h c = let within = c.1 in omega arith
not_found q (e ∷ es) h c = (elim (same_key q e.0) as (λ y. same_key q e.0 ≡ y → ⊥) [
  | true ↦ λ t. let h' = rw t at h in cc
  | false ↦ λ t. elim (Contains-cons (stored_by e.0) (files_of es) (stored_by q) c) [
    | inl same ↦ let t' = (same_key_decides q e.0).1 (sym same) in cc
    | inr d ↦ not_found q es (rw t at h) d
  ]
]) refl

-- the entries after one of them moved to the front
record IsPromoted (q : FileKey) (es : List Entry) : Type 0 where
  key : FileKey
  document : Document
  before : List Entry
  after : List Entry
  same : stored_by key ≡ stored_by q
  was : es ≡ before ++ (key, document) ∷ after
  is : promoted (same_key q) es ≡ (key, document) ∷ (before ++ after)

promoted_found : (q : FileKey) (es : List Entry) (document : Document) → lookup (same_key q) es ≡ Some document → IsPromoted q es
promoted_found q es document h =
    let f = found (same_key q) es document h in record {
      key = f.key;
      document = document;
      before = f.before;
      after = f.after;
      same = sym ((same_key_decides q f.key).0 f.passes);
      was = f.split;
      is = rw f.entry (ap (λ l. (f.key, document) ∷ l) f.rest);
    }

-- the file of an entry is among the files
kept_among : (es : List Entry) (e : Entry) → Contains es e → Contains (files_of es) (stored_by e.0)
kept_among [] e c = let within = c.1 in absurd (omega arith)
kept_among (f ∷ es) e c = elim (Contains-cons f es e c) [
  | inl same ↦ subst (λ g. Contains (files_of (f ∷ es)) (stored_by g.0)) same (Contains-head (stored_by f.0) (files_of es))
  | inr d ↦ Contains-tail (stored_by f.0) (files_of es) (stored_by e.0) (kept_among es e d)
]

missing_stays : (q : FileKey) (es : List Entry) → lookup (same_key q) es ≡ None → promoted (same_key q) es ≡ es
missing_stays q es h = (elim (lookup_entry (same_key q) es) as (λ o. lookup_entry (same_key q) es ≡ o → promoted (same_key q) es ≡ es) [
  | None ↦ λ t. rw t refl
  | Some e ↦ λ t.
      let there = Contains-lookup_entry (same_key q) es e t in
      absurd (not_found q es h (subst (Contains (files_of es)) (sym ((same_key_decides q e.0).0 there.1)) (kept_among es e there.0)))
]) refl

-- the lengths of the bodies in two parts of the entries
bytes-append : (xs ys : List Entry) → bytes_of (files_of (xs ++ ys)) ≡ bytes_of (files_of xs) + bytes_of (files_of ys)
bytes-append xs ys =
    ap bytes_of (map-append (λ (e : Entry). stored_by e.0) xs ys) ∙ sum_by-append (λ (f : Stored). length f.body) (files_of xs) (files_of ys)

bytes-cons : (e : Entry) (es : List Entry) → bytes_of (files_of (e ∷ es)) ≡ length e.0.body.items + bytes_of (files_of es)
bytes-cons e es = sum_by-cons (λ (f : Stored). length f.body) (stored_by e.0) (files_of es)

bytes_moved : (e : Entry) (xs ys : List Entry) → bytes_of (files_of (e ∷ (xs ++ ys))) ≡ bytes_of (files_of (xs ++ e ∷ ys))
bytes_moved e xs ys =
    let a = bytes-cons e (xs ++ ys) in
    let b = bytes-append xs ys in
    let c = bytes-append xs (e ∷ ys) in
    let d = bytes-cons e ys in omega (arith, a, b, c, d)

length_moved : (e : Entry) (xs ys : List Entry) → length (e ∷ (xs ++ ys)) ≡ length (xs ++ e ∷ ys)
length_moved e xs ys =
    let a = length-append xs ys in
    let b = length-append xs (e ∷ ys) in omega (arith, a, b)

-- whether or not the file is there, all entries are kept afterwards
module _ (kept : LruCache FileKey Document) (total : ℕ) (are : AreKept kept total) (q : FileKey) where
  same_bytes : (o : Option Document) → lookup (same_key q) kept.entries ≡ o
      → (length (promoted (same_key q) kept.entries) ≡ length kept.entries)
      × (bytes_of (files_of (promoted (same_key q) kept.entries)) ≡ bytes_of (files_of kept.entries))
  same_bytes None h = let stays = missing_stays q kept.entries h in (ap length stays, ap (λ es. bytes_of (files_of es)) stays)
  same_bytes (Some document) h =
      let p = promoted_found q kept.entries document h in (
        ap length p.is ∙ length_moved (p.key, p.document) p.before p.after ∙ sym (ap length p.was),
        ap (λ es. bytes_of (files_of es)) p.is ∙ bytes_moved (p.key, p.document) p.before p.after ∙ sym (ap (λ es. bytes_of (files_of es)) p.was),
      )

  pub promoted_are_kept : AreKept (lru_cache (promoted (same_key q) kept.entries) kept.cap) total
  promoted_are_kept =
      let same = same_bytes (lookup (same_key q) kept.entries) refl in record {
        room = are.room;
        count = subst (λ n. n ≤ 1024) (sym same.0) are.count;
        read = λ k d within.
            let e = get_or (promoted (same_key q) kept.entries) k d in
            All-contains IsKept kept.entries e are.read
            (Contains-promoted (same_key q) kept.entries e (Contains-get_or (promoted (same_key q) kept.entries) k d within));
        bytes = are.bytes ∙ sym same.1;
        most = are.most;
      }

moved_there : (q : FileKey) (es : List Entry) (o : Option Document) → lookup (same_key q) es ≡ o → IsTrue (is_some o)
    → Moves (files_of es) (stored_by q) (files_of (promoted (same_key q) es))
moved_there q es None h t = absurd (true≢false (sym t))
moved_there q es (Some document) h t =
    let p = promoted_found q es document h in
    let was : files_of es ≡ files_of p.before ++ stored_by q ∷ files_of p.after =
    ap files_of p.was ∙ map-append (λ (e : Entry). stored_by e.0) p.before ((p.key, p.document) ∷ p.after) ∙ ap (λ f. files_of p.before ++ f ∷ files_of p.after) p.same in
    let is : files_of (promoted (same_key q) es) ≡ stored_by q ∷ (files_of p.before ++ files_of p.after) =
    ap files_of p.is ∙ (λ i. p.same i ∷ map-append (λ (e : Entry). stored_by e.0) p.before p.after i) in
    (files_of p.before, files_of p.after, was, is)

-- a file that is there moves to the front
pub promoted_moves : (q : FileKey) (es : List Entry) → IsTrue (is_some (lookup (same_key q) es)) → Moves (files_of es) (stored_by q) (files_of (promoted (same_key q) es))
promoted_moves q es t = moved_there q es (lookup (same_key q) es) refl t

missing_there : (q : FileKey) (es : List Entry) (o : Option Document) → lookup (same_key q) es ≡ o → IsFalse (is_some o)
    → (Contains (files_of es) (stored_by q) → ⊥) × (files_of (promoted (same_key q) es) ≡ files_of es)
missing_there q es None h t = (not_found q es h, ap files_of (missing_stays q es h))
missing_there q es (Some document) h t = absurd (true≢false t)

-- if it isn't there, nothing moves
pub missing_unmoved : (q : FileKey) (es : List Entry) → IsFalse (is_some (lookup (same_key q) es))
    → (Contains (files_of es) (stored_by q) → ⊥) × (files_of (promoted (same_key q) es) ≡ files_of es)
missing_unmoved q es t = missing_there q es (lookup (same_key q) es) refl t

-- the last of some entries, and those before it
last_apart : (es : List Entry) (e : Entry) → last_entry es ≡ Some e → es ≡ take (length es - 1) es ++ e ∷ []
last_apart es e h =
    let within = slice_get_within es (length es - 1) e h in
    let whole : suc (length es - 1) ≡ length es = omega (arith, within) in
    sym (take_all (length es) es (omega arith)) ∙ ap (λ n. take n es) (sym whole) ∙ take-suc es (length es - 1) e within
    ∙ ap (λ w. take (length es - 1) es ++ w ∷ []) (get_or_from_slice_get es (length es - 1) e e h)

pub last_bytes : (es : List Entry) (e : Entry) → last_entry es ≡ Some e
    → bytes_of (files_of es) ≡ bytes_of (files_of (take (length es - 1) es)) + length e.0.body.items
last_bytes es e h =
    let a = ap (λ l. bytes_of (files_of l)) (last_apart es e h) in
    let b = bytes-append (take (length es - 1) es) (e ∷ []) in
    let c = bytes-cons e [] in omega (arith, a, b, c)

-- without the last entry, all are kept
pub evicted_are_kept : (kept : LruCache FileKey Document) (total : ℕ) (e : Entry) → AreKept kept total → last_entry kept.entries ≡ Some e
    → AreKept (lru_cache (take (length kept.entries - 1) kept.entries) kept.cap) (total - length e.0.body.items)
evicted_are_kept kept total e are h =
    let bytes = last_bytes kept.entries e h in
    let cut = length-take (length kept.entries - 1) kept.entries in
    let count = are.count in
    let total_is = are.bytes in
    let most = are.most in record {
      room = are.room;
      count = rw cut (omega (arith, count));
      read = All-take IsKept (length kept.entries - 1) kept.entries are.read;
      bytes = omega (arith, bytes, total_is);
      most = omega (arith, most);
    }

none_some : {X : Type 0} {x : X} → None ≡ Some x → ⊥
none_some e = cc

-- if no entry is the last, there is none
pub none_last : (es : List Entry) → last_entry es ≡ None → es ≡ []
none_last [] h = refl
none_last (e ∷ es) h = let some = slice_get-get_or (e ∷ es) (length (e ∷ es) - 1) e (omega arith) in absurd (none_some (sym h ∙ some))

-- without the last entry, if there is none
pub none_evicted : (kept : LruCache FileKey Document) (total : ℕ) → AreKept kept total → last_entry kept.entries ≡ None
    → AreKept (lru_cache (take (length kept.entries - 1) kept.entries) kept.cap) total
none_evicted kept total are h =
    let none = ap length (none_last kept.entries h) in
    let same : take (length kept.entries - 1) kept.entries ≡ kept.entries = take_all (length kept.entries - 1) kept.entries (omega (arith, none)) in
    record {
      room = are.room;
      count = rw same are.count;
      read = rw same are.read;
      bytes = rw same are.bytes;
      most = are.most;
    }

pub taken_files : (n : ℕ) (es : List Entry) → files_of (take n es) ≡ take n (files_of es)
taken_files n es = sym (take-map (λ (e : Entry). stored_by e.0) n es)

pub count_files : (es : List Entry) → length (files_of es) ≡ length es
count_files es = length-map es (λ (e : Entry). stored_by e.0)

-- the files without the last one
pub evicted_files : (es : List Entry) → files_of (take (length es - 1) es) ≡ take (length (files_of es) - 1) (files_of es)
evicted_files es = taken_files (length es - 1) es ∙ ap (λ n. take (n - 1) (files_of es)) (sym (count_files es))

-- the first entry is of the first file
pub first_reading : (es : List Entry) (e : Entry) → All IsKept es → Some e ≡ slice_get es 0 → IsReadingOfFirst (files_of es) e.1
first_reading [] e all h = absurd (none_some (sym h))
first_reading (f ∷ fs) e all h =
    let same : e ≡ f = cc in
    subst (λ (g : Entry). IsReading (stored_by f.0) g.1) (sym same) (All-contains IsKept (f ∷ fs) f all (Contains-head f fs))

-- if no entry is the first, no file is kept
pub none_first : (es : List Entry) → None ≡ slice_get es 0 → files_of es ≡ []
none_first [] h = refl
none_first (f ∷ fs) h = absurd (none_some h)

-- a file that isn't among all files isn't among the first ones
pub not_taken : (k : ℕ) (old : List Stored) (f : Stored) → (Contains old f → ⊥) → Contains (take k old) f → ⊥
not_taken k old f new c = new (Contains-take k old f c)

-- no entry is of a file that isn't kept
no_entry : (q : FileKey) (es : List Entry) (o : Option Entry) → lookup_entry (same_key q) es ≡ o → (Contains (files_of es) (stored_by q) → ⊥)
    → lookup_entry (same_key q) es ≡ None
no_entry q es None h new = h
no_entry q es (Some e) h new =
    let there = Contains-lookup_entry (same_key q) es e h in
    absurd (new (subst (Contains (files_of es)) (sym ((same_key_decides q e.0).0 there.1)) (kept_among es e there.0)))

module _ (kept : LruCache FileKey Document) (total : ℕ) (are : AreKept kept total) (q : FileKey) (document : Document)
    (new : Contains (files_of kept.entries) (stored_by q) → ⊥) (few : length (files_of kept.entries) < 1024) where
  -- a new document is put first, and none is dropped
  put_first : put_entries same_key kept q document ≡ (q, document) ∷ kept.entries
  put_first =
      let count = count_files kept.entries in
      let room = are.room in
      let fit : length kept.entries ≤ kept.cap - 1 = omega (arith, count, room, few) in
      rw (no_entry q kept.entries (lookup_entry (same_key q) kept.entries) refl new) (ap (λ es. (q, document) ∷ es) (take_all (kept.cap - 1) kept.entries fit))

  -- all are kept afterwards
  pub put_are_kept : bytes_of (files_of kept.entries) + length q.body.items ≤ 786432 → IsReading (stored_by q) document
      → AreKept (lru_cache (put_entries same_key kept q document) kept.cap) (total + length q.body.items)
  put_are_kept fits reading =
      let count = count_files kept.entries in
      let longer = ap length put_first in
      let bytes = ap (λ es. bytes_of (files_of es)) put_first ∙ bytes-cons (q, document) kept.entries in
      let total_is = are.bytes in record {
        room = are.room;
        count = omega (arith, count, longer, few);
        read = All-same IsKept (put_entries same_key kept q document) ((q, document) ∷ kept.entries) put_first (All-cons IsKept (q, document) kept.entries reading are.read);
        bytes = omega (arith, bytes, total_is);
        most = omega (arith, total_is, fits);
      }

  -- and its file is the first
  pub put_adds : (old : List Stored) (k : ℕ) → (Contains old (stored_by q) → ⊥) → files_of kept.entries ≡ take k old
      → Adds old (stored_by q) (files_of (put_entries same_key kept q document))
  put_adds old k unknown is = (unknown, (k, ap files_of put_first ∙ ap (λ fs. stored_by q ∷ fs) is))
