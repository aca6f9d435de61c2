-- The sheet of a project's starts whose activities have ids.
use Rattle.std.proofs.Common.{◌≡◌, ℕ, zero, suc, ◌+◌, ◌-◌, ◌<◌, ◌≤◌, ◌&&◌, Bool, true, false, if◌then◌else◌, List, [], ◌∷◌, ◌++◌, length, map, filter, append_assoc, append-nil, refl, sym, ap, ◌∙◌, arith}
use Rattle.std.specs.Prelude.{nat_lt, slice_index_or}
use Rattle.std.specs.List.{list_all, range_with_len}
use Rattle.std.proofs.lemmas.Bool.{ltb-true}
use Rattle.std.proofs.lemmas.List.FromFn.{length-map-range_with_len, length-range_with_len, map-range_with_len_more}
use Rattle.std.proofs.lemmas.List.{map-append}
use Rattle.plan_table.specs.Names.{Name}
use Rattle.plan_net.specs.Network.{Net, count_of}
use Rattle.plan_report.specs.IdRows.{durations_of}
use Rattle.plan_report.specs.IdSheets.{are_complete, first_behind, id_entries, id_entry, id_sheet, inner_activities, is_named, places_from, row_entries}
use Rattle.plan_report.specs.Waits.{place_before}
use Rattle.plan_report.specs.Sheet.{IdEntry, id_entry_of}
use Rattle.plan_report.specs.declared.sheet.IdEntry as declared
use Rattle.plan_report.specs.StartsText.{activity_entry}
use Rattle.plan_report.proofs.IdLemmas.{IsWhole}

-- no more numbers than all pass a test
passed_within : (p : ℕ → Bool) (xs : List ℕ) → length (filter p xs) ≤ length xs
passed_within p [] = omega arith
passed_within p (x ∷ xs) = passed_next (p x) (passed_within p xs)
  where
    passed_next : (b : Bool) → length (filter p xs) ≤ length xs → length (if b then x ∷ filter p xs else filter p xs) ≤ suc (length xs)
    passed_next true within = omega (arith, within)
    passed_next false within = omega (arith, within)

-- the first activity behind the rows is at most the last one, or the second one
behind_within : (ids : List Name) (net : Net) → first_behind ids net ≤ count_of net - 2 + 2
unfolding first_behind
behind_within ids net =
    omega (arith, passed_within (is_named ids) (inner_activities net), length-range_with_len 2 (count_of net - 2))

-- entries and waits that may be none, but are not
some_entries : (b : Bool) (entries : List IdEntry) (waits : List ℕ) → nat_lt 0 (length (if b then entries else [])) ≡ true
    → length (if b then entries else []) + length (if b then waits else []) ≡ length entries + length waits
some_entries true entries waits e = refl
some_entries false entries waits e = absurd (cc)

fewer_entries : (b : Bool) (entries : List IdEntry) → length (if b then entries else []) ≤ length entries
fewer_entries true entries = omega arith
fewer_entries false entries = omega arith

-- the entries with ids and the waits are those of all activities but two
pub id_sheet_whole : (ids : List Name) (net : Net) → IsWhole (id_sheet ids net)
unfolding id_sheet
id_sheet_whole ids net = λ some.
    let behind = first_behind ids net in
    let rows = length-map-range_with_len (id_entry ids net) 2 (behind - 2) in
    let waits = length-map-range_with_len (place_before net) behind (count_of net - behind) in
    let all = length-map-range_with_len (activity_entry net) 1 (count_of net) in
    let is = some_entries (are_complete ids net) (row_entries ids net) (places_from net behind) some in
    let more = ltb-true 0 (length (id_entries ids net)) some in
    let fewer = fewer_entries (are_complete ids net) (row_entries ids net) in
    omega (arith, rows, waits, all, is, more, fewer, behind_within ids net)

-- how many of the numbers that are left pass a test, if the first of them does
pub passed_more : (p : ℕ → Bool) (j n : ℕ) → j < n → p j ≡ true → length (filter p (range_with_len j (n - j))) ≡ suc (length (filter p (range_with_len (j + 1) (n - (j + 1)))))
passed_more p j n below is =
    let more : n - j ≡ suc (n - (j + 1)) = omega (arith, below) in
    let rest = range_with_len (j + 1) (n - (j + 1)) in
    ap (λ (k : ℕ). length (filter p (range_with_len j k))) more ∙ ap (λ (b : Bool). length (if b then j ∷ filter p rest else filter p rest)) is

-- the same, if it doesn't
pub passed_same : (p : ℕ → Bool) (j n : ℕ) → j < n → p j ≡ false → length (filter p (range_with_len j (n - j))) ≡ length (filter p (range_with_len (j + 1) (n - (j + 1))))
passed_same p j n below not =
    let more : n - j ≡ suc (n - (j + 1)) = omega (arith, below) in
    let rest = range_with_len (j + 1) (n - (j + 1)) in
    ap (λ (k : ℕ). length (filter p (range_with_len j k))) more ∙ ap (λ (b : Bool). length (if b then j ∷ filter p rest else filter p rest)) not

-- one place more, and those that are left
pub places_go_on : (f : ℕ → ℕ) (j n : ℕ) (before after : List ℕ) (place : ℕ) (all : List ℕ) → j < n → before ++ map f (range_with_len j (n - j)) ≡ all
    → after ≡ before ++ place ∷ [] → place ≡ f j → after ++ map f (range_with_len (j + 1) (n - (j + 1))) ≡ all
places_go_on f j n before after place all below left pushed is =
    let more : n - j ≡ suc (n - (j + 1)) = omega (arith, below) in
    let rest = map f (range_with_len (j + 1) (n - (j + 1))) in
    ap (λ (xs : List ℕ). xs ++ rest) pushed ∙ append_assoc before (place ∷ []) rest ∙ ap (λ (x : ℕ). before ++ x ∷ rest) is
    ∙ sym (ap (λ (k : ℕ). before ++ map f (range_with_len j k)) more) ∙ left

-- no place is left
pub places_end : (f : ℕ → ℕ) (j n : ℕ) (items all : List ℕ) → n ≤ j → items ++ map f (range_with_len j (n - j)) ≡ all → items ≡ all
places_end f j n items all past left =
    let none : n - j ≡ 0 = omega (arith, past) in
    sym (append-nil items) ∙ sym (ap (λ (k : ℕ). items ++ map f (range_with_len j k)) none) ∙ left

-- one activity more of a range up to the last
pub all_from : (p : ℕ → Bool) (j n : ℕ) → j < n → list_all p (range_with_len j (n - j)) ≡ (p j && list_all p (range_with_len (j + 1) (n - (j + 1))))
all_from p j n below =
    let more : n - j ≡ suc (n - (j + 1)) = omega (arith, below) in
    ap (λ (k : ℕ). list_all p (range_with_len j k)) more

-- one entry more
pub ids_more : (f : ℕ → IdEntry) (j : ℕ) (before after : List declared.IdEntry) (entry : declared.IdEntry) → 2 ≤ j → map id_entry_of before ≡ map f (range_with_len 2 (j - 2))
    → after ≡ before ++ entry ∷ [] → id_entry_of entry ≡ f j → map id_entry_of after ≡ map f (range_with_len 2 (j + 1 - 2))
ids_more f j before after entry low made pushed is =
    let at : 2 + (j - 2) ≡ j = omega (arith, low) in
    let next : (j - 2) + 1 ≡ j + 1 - 2 = omega (arith, low) in
    ap (λ (xs : List declared.IdEntry). map id_entry_of xs) pushed ∙ map-append id_entry_of before (entry ∷ [])
    ∙ ap (λ (xs : List IdEntry). xs ++ id_entry_of entry ∷ []) made ∙ ap (λ (x : IdEntry). map f (range_with_len 2 (j - 2)) ++ x ∷ []) is
    ∙ sym (map-range_with_len_more f 2 (j - 2) j at) ∙ ap (λ (n : ℕ). map f (range_with_len 2 n)) next

-- the duration of an entry
pub duration_at : (entries : List declared.IdEntry) (i : ℕ) (entry : declared.IdEntry) → i < length entries → entry ≡ slice_index_or entries i entry
    → slice_index_or (durations_of (map id_entry_of entries)) i 0 ≡ entry.entry.duration
duration_at [] i entry below is = absurd (omega (arith, below))
duration_at (x ∷ xs) zero entry below is = ap (λ (e : declared.IdEntry). e.entry.duration) (sym is)
duration_at (x ∷ xs) (suc i) entry below is = duration_at xs i entry (omega (arith, below)) is

-- an activity without an id decides, and one with an id doesn't
pub none_from : (p : ℕ → Bool) (j n : ℕ) (whole : Bool) → j < n → p j ≡ false → list_all p (range_with_len j (n - j)) ≡ whole → false ≡ whole
none_from p j n whole below not all =
    sym (all_from p j n below ∙ ap (λ (b : Bool). b && list_all p (range_with_len (j + 1) (n - (j + 1)))) not) ∙ all

pub all_go_on : (p : ℕ → Bool) (j n : ℕ) (whole : Bool) → j < n → p j ≡ true → list_all p (range_with_len j (n - j)) ≡ whole → list_all p (range_with_len (j + 1) (n - (j + 1))) ≡ whole
all_go_on p j n whole below is all =
    sym (all_from p j n below ∙ ap (λ (b : Bool). b && list_all p (range_with_len (j + 1) (n - (j + 1)))) is) ∙ all
