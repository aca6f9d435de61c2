-- The values of tables have no float and are nested a few levels deep.
use Rattle.std.proofs.Common.{ℕ, zero, suc, ◌≡◌, ◌≤◌, ◌++◌, false, List, [], ◌∷◌, Option, Some, None, Ordering, Less, Equal, Greater, map, fold, codes, length, drop, refl, arith}
use Rattle.std.proofs.lemmas.List.{drop_all}
use Rattle.std.specs.Cmp.Lexicographic.{slice_cmp}
use Rattle.std.specs.Ordering.{nat_cmp, match_ordering}
use Rattle.std.specs.List.{zip}
use Rattle.std.specs.Str.Lossy.{utf8_lossy}
use Rattle.serde_json.specs.Data.{Data, Members, no_members, member, object, array, string, put, depth, members_depth, items_depth}
use Rattle.serde_json.specs.Written.{has_float, members_have_float, items_have_float}
use Rattle.serde_json.specs.View.{items_of}
use Rattle.plan_formats.specs.Cells.{Cell, number, above, below, text, flag, empty, value_of}
use Rattle.plan_formats.specs.Columns.{Column}
use Rattle.plan_formats.specs.TableLines.{Line, optimal, between, budget, duration, makespan, chain, id_chain, moved, tardiness, late, id_list, summary}
use Rattle.plan_formats.specs.Tables.{Table, cells_of}
use Rattle.plan_formats.specs.JsonData as json
use Rattle.plan_formats.specs.declared.cell.Cell as declared

-- a value has no float, and is nested at most n levels deep
abbrev pub Fits : ℕ → Data → Type 0
Fits n d = (has_float d ≡ false) × (depth d ≤ n)

abbrev pub AllFit : ℕ → List Data → Type 0
AllFit n [] = Unit {0}
AllFit n (d ∷ ds) = Fits n d × AllFit n ds

abbrev pub MembersFit : ℕ → Members → Type 0
MembersFit n no_members = Unit {0}
MembersFit n (member k d ms) = Fits n d × MembersFit n ms

members_floats : (n : ℕ) (ms : Members) → MembersFit n ms → members_have_float ms ≡ false
members_floats n no_members fit = refl
members_floats n (member k d ms) fit = rw fit.0.0 (members_floats n ms fit.1)

members_deep : (n : ℕ) (ms : Members) → MembersFit n ms → members_depth ms ≤ n
members_deep n no_members fit = omega arith
members_deep n (member k d ms) fit = omega (arith, fit.0.1, members_deep n ms fit.1)

pub object_fits : (n : ℕ) (ms : Members) → MembersFit n ms → Fits (suc n) (object ms)
object_fits n ms fit = (members_floats n ms fit, omega (arith, members_deep n ms fit))

items_floats : (n : ℕ) (ds : List Data) → AllFit n ds → items_have_float (items_of ds) ≡ false
items_floats n [] fit = refl
items_floats n (d ∷ ds) fit = rw fit.0.0 (items_floats n ds fit.1)

items_deep : (n : ℕ) (ds : List Data) → AllFit n ds → items_depth (items_of ds) ≤ n
items_deep n [] fit = omega arith
items_deep n (d ∷ ds) fit = omega (arith, fit.0.1, items_deep n ds fit.1)

pub array_fits : (n : ℕ) (ds : List Data) → AllFit n ds → Fits (suc n) (array (items_of ds))
array_fits n ds fit = (items_floats n ds fit, omega (arith, items_deep n ds fit))

pick_fits : (n : ℕ) (o : Ordering) (a b c : Members) → MembersFit n a → MembersFit n b → MembersFit n c → MembersFit n (match_ordering o a b c)
pick_fits n Less a b c x y z = x
pick_fits n Equal a b c x y z = y
pick_fits n Greater a b c x y z = z

pub put_fits : (n : ℕ) (k : List ℕ) (d : Data) (ms : Members) → Fits n d → MembersFit n ms → MembersFit n (put k d ms)
put_fits n k d no_members fit rest = (fit, tt)
put_fits n k d (member l e ms) fit rest =
    pick_fits n (slice_cmp nat_cmp k l) (member k d (member l e ms)) (member l d ms) (member l e (put k d ms)) (fit, rest) (fit, rest.1) (rest.0, put_fits n k d ms fit rest.1)

pub cell_fits : (n : ℕ) (cell : Cell) → Fits n (value_of cell)
cell_fits n (number k) = (refl, omega arith)
cell_fits n (above k) = (refl, omega arith)
cell_fits n (below zero) = (refl, omega arith)
cell_fits n (below (suc k)) = (refl, omega arith)
cell_fits n (text t) = (refl, omega arith)
cell_fits n (flag b) = (refl, omega arith)
cell_fits n empty = (refl, omega arith)

pairs_fit : (pairs : List (Column × Cell)) (ms : Members) → MembersFit 0 ms → MembersFit 0 (fold (λ found pair. json.with_cell found pair.0 pair.1) ms pairs)
pairs_fit [] ms fit = fit
pairs_fit (pair ∷ pairs) ms fit =
    pairs_fit pairs (json.with_cell ms pair.0 pair.1)
    (put_fits 0 pair.0.word (value_of pair.1) (put pair.0.heading (value_of pair.1) ms) (cell_fits 0 pair.1)
    (put_fits 0 pair.0.heading (value_of pair.1) ms (cell_fits 0 pair.1) fit))

rows_fit : (columns : List Column) (rows : List (List Cell)) → AllFit 1 (map (json.row_data columns) rows)
rows_fit columns [] = tt
rows_fit columns (row ∷ rows) = (object_fits 0 (json.members_with_row no_members columns row) (pairs_fit (zip columns row) no_members tt), rows_fit columns rows)

numbers_fit : (ns : List ℕ) → AllFit 0 (map json.number_data ns)
numbers_fit [] = tt
numbers_fit (n ∷ ns) = ((refl, omega arith), numbers_fit ns)

number_fits : (k : List ℕ) (n : ℕ) (ms : Members) → MembersFit 2 ms → MembersFit 2 (json.with_number k n ms)
number_fits k n ms fit = put_fits 2 k (json.number_data n) ms (refl, omega arith) fit

string_fits : (k t : List ℕ) (ms : Members) → MembersFit 2 ms → MembersFit 2 (put k (string t) ms)
string_fits k t ms fit = put_fits 2 k (string t) ms (refl, omega arith) fit

bounds_fit : (lower upper : ℕ) (ms : Members) → MembersFit 2 ms → MembersFit 2 (json.with_bounds lower upper ms)
bounds_fit lower upper ms fit = number_fits (codes "upper_bound") upper _ (number_fits (codes "lower_bound") lower ms fit)

deeper : (n m : ℕ) (d : Data) → n ≤ m → Fits n d → Fits m d
deeper n m d less fit = (fit.0, omega (arith, less, fit.1))

chain_fits : (js : Option (List ℕ)) → Fits 2 (json.chain_data js)
chain_fits None = (refl, omega arith)
chain_fits (Some js) =
    let less : 1 ≤ 2 = omega arith in
    deeper 1 2 (array (items_of (map json.number_data js))) less (array_fits 0 (map json.number_data js) (numbers_fit js))

texts_fit : (words : List (List ℕ)) → AllFit 0 (map (λ word. string (utf8_lossy word)) words)
texts_fit [] = tt
texts_fit (word ∷ words) = ((refl, omega arith), texts_fit words)

words_fit : (words : List (List ℕ)) → Fits 2 (json.words_data words)
words_fit words =
    let less : 1 ≤ 2 = omega arith in
    deeper 1 2 (json.words_data words) less (array_fits 0 (map (λ word. string (utf8_lossy word)) words) (texts_fit words))

line_fits : (line : Line) (ms : Members) → MembersFit 2 ms → MembersFit 2 (json.with_line ms line)
line_fits (optimal n) ms fit = bounds_fit n n _ (string_fits (codes "status") (codes "optimal") ms fit)
line_fits (between lower upper) ms fit = bounds_fit lower upper _ (string_fits (codes "status") (codes "between") ms fit)
line_fits (budget n) ms fit = number_fits (codes "upper_bound") n _ (string_fits (codes "status") (codes "budget") ms fit)
line_fits (duration n) ms fit = number_fits (codes "project_duration") n _ (number_fits (codes "T") n ms fit)
line_fits (makespan n) ms fit = number_fits (codes "makespan") n ms fit
line_fits (chain js) ms fit = put_fits 2 (codes "chain") (json.chain_data js) ms (chain_fits js) fit
line_fits (id_chain js ids) ms fit =
    put_fits 2 (codes "chain_ids") (json.words_data ids) _ (words_fit ids) (put_fits 2 (codes "chain") (json.chain_data (Some js)) ms (chain_fits (Some js)) fit)
line_fits (moved n count) ms fit = number_fits (codes "compared") count _ (number_fits (codes "moved") n ms fit)
line_fits (tardiness lower upper) ms fit =
    number_fits (codes "tardiness_upper_bound") upper _ (number_fits (codes "tardiness_lower_bound") lower ms fit)
line_fits (late n count) ms fit = number_fits (codes "activities") count _ (number_fits (codes "late") n ms fit)
line_fits (id_list word ids) ms fit = put_fits 2 word (json.words_data ids) ms (words_fit ids) fit
line_fits (summary name n verdict) ms fit =
    string_fits (codes "verdict_" ++ name) verdict _ (number_fits (codes "makespan_" ++ name) n ms fit)

lines_fit : (lines : List Line) (ms : Members) → MembersFit 2 ms → MembersFit 2 (json.with_lines ms lines)
lines_fit [] ms fit = fit
lines_fit (line ∷ lines) ms fit = lines_fit lines (json.with_line ms line) (line_fits line ms fit)

-- the value of a table
pub data_fits : (t : Table) → Fits 3 (json.data_of t)
data_fits t =
    let members = json.with_lines (json.with_lines no_members t.above) t.below in
    object_fits 2 (put (codes "rows") (array (items_of (map (json.row_data t.columns) t.rows))) members)
    (put_fits 2 (codes "rows") (array (items_of (map (json.row_data t.columns) t.rows))) members
    (array_fits 1 (map (json.row_data t.columns) t.rows) (rows_fit t.columns t.rows))
    (lines_fit t.below (json.with_lines no_members t.above) (lines_fit t.above no_members tt)))

no_cells : (ms : Members) (columns : List Column) → json.members_with_row ms columns [] ≡ ms
no_cells ms [] = refl
no_cells ms (column ∷ columns) = refl

-- behind the last cell of a row no member is left
pub row_done : (ms : Members) (columns : List Column) (cells : List declared.Cell) (i : ℕ) → length cells ≤ i → json.members_with_row ms columns (cells_of (drop i cells)) ≡ ms
row_done ms columns cells i past = rw (drop_all i cells past) (no_cells ms columns)
