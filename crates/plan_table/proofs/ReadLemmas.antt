-- Reading in two steps.
use Rattle.std.proofs.Common.{◌≡◌, ℕ, ◌≤◌, List, [], Vec, Result, Ok, Err, length, map, drop, take, true, false, sym, ap, ◌∙◌}
use Rattle.std.specs.Str.{IsUtf8, is_utf8}
use Rattle.std.proofs.lemmas.Bool.{false_from_ne_true}
use Rattle.std.proofs.lemmas.Str.{IsUtf8-from_is_utf8, is_utf8-from_IsUtf8}
use Rattle.std.specs.declared.alloc.Global.{Global}
use Rattle.std.proofs.lemmas.List.{drop-map, drop_all, take-map, take_all}
use Rattle.plan_table.specs.Predecessors.{label_of}
use Rattle.plan_table.specs.Rows.{first_cell}
use Rattle.plan_table.specs.declared.predecessors.Label as declared
use Rattle.plan_table.specs.declared.fault.ReadError.{ReadError}
use Rattle.plan_table.specs.declared.fault.TableCode.{TableCode}
use Rattle.plan_table.specs.declared.fault.ReadError.TheVariants as errors
use Rattle.plan_table.specs.Reading.{Fault, ◌>>=◌, Fails, fault, fault_of}

-- what fails first fails the whole
pub fails_first : {A B : Type 0} (e : ReadError) (first : Result A Fault) (next : A → Result B Fault) (total : Result B Fault) → Fails e first → (first >>= next) ≡ total → Fails e total
fails_first errors.Memory first next total h is = tt
fails_first (errors.Fault f) first next total h is = sym is ∙ ap (λ r. r >>= next) h

-- a fault fails whatever is read
pub other_type : (A B : Type 0) (e : ReadError) (c : TableCode) (line : ℕ) (word : List ℕ) → Fails e (fault {A = A} c line word) → Fails e (fault {A = B} c line word)
other_type A B errors.Memory c line word h = tt
other_type A B (errors.Fault f) c line word h = by_fault (record { code = c; line = line; word = word }) (fault_of f) h
  where
    by_fault : (x y : Fault) → Path (Result A Fault) (Err x) (Err y) → Path (Result B Fault) (Err x) (Err y)
    by_fault x y e = let is : x ≡ y = cc in ap (λ z. Err z) is

-- the first of the cells that are left
pub cell_dropped : (cells : List (Vec ℕ Global)) (n : ℕ) → first_cell (drop n (map (λ cell. cell.items) cells)) ≡ first_cell (map (λ cell. cell.items) (drop n cells))
cell_dropped cells n = ap first_cell (drop-map (λ (cell : Vec ℕ Global). cell.items) n cells)

-- no cell is left
pub no_cell : (cells : List (Vec ℕ Global)) (n : ℕ) → length cells ≤ n → first_cell (drop n (map (λ cell. cell.items) cells)) ≡ []
no_cell cells n past = cell_dropped cells n ∙ ap (λ (cs : List (Vec ℕ Global)). first_cell (map (λ cell. cell.items) cs)) (drop_all n cells past)

-- the first ids
pub ids_taken : (ids : List declared.Label) (n : ℕ) → map label_of (take n ids) ≡ take n (map label_of ids)
ids_taken ids n = sym (take-map label_of n ids)

pub all_taken : (ids : List declared.Label) (n : ℕ) → length ids ≤ n → map label_of ids ≡ take n (map label_of ids)
all_taken ids n past = ap (map label_of) (sym (take_all n ids past)) ∙ ids_taken ids n

-- what isn't UTF-8 fails the test
pub not_text : (bytes : List ℕ) → ¬ (IsUtf8 bytes) → is_utf8 bytes ≡ false
not_text bytes none = false_from_ne_true (is_utf8 bytes) (λ e. none (IsUtf8-from_is_utf8 bytes e))

pub is_text : (bytes : List ℕ) → IsUtf8 bytes → is_utf8 bytes ≡ true
is_text bytes text = is_utf8-from_IsUtf8 bytes text
