-- Cells with a text in one column, and lists that are read as the same project.
use Rattle.std.proofs.Common.{◌≡◌, ◌≤◌, ◌<◌, ℕ, ◌+◌, ◌-◌, arith, List, [], ◌∷◌, ◌++◌, Ok, Vec, length, map, drop, take, replicate, refl, sym, ap, ◌∙◌, subst}
use Rattle.std.proofs.lemmas.List.{append_assoc, drop_all, length-append, length-map, length-replicate, map-append, take-append-le, take_all}
use Rattle.std.specs.declared.alloc.Global.{Global}
use Rattle.plan_encoding.specs.declared.text.Decoded.{Decoded}
use Rattle.plan_encoding.specs.Encodings.{utf8_of}
use Rattle.plan_encoding.specs.Texts as decoded
use Rattle.plan_table.specs.Csv.{Row}
use Rattle.plan_table.specs.Listing.{rows_read, table_read_with}
use Rattle.plan_table.specs.Overrides.{Override}
use Rattle.plan_table.specs.ProjectText.{project_text}
use Rattle.plan_table.specs.Table.{Table}
use Rattle.plan_spreadsheet.specs.declared.list.PlainList.{PlainList}
use Rattle.plan_spreadsheet.specs.Options.{Options}
use Rattle.plan_spreadsheet.specs.PlainLists.{text_of}
use Rattle.plan_spreadsheet.specs.PreparedLists.{IsPlainWith}
use Rattle.plan_spreadsheet.specs.Rows.{Spells, filled}
use Rattle.plan_spreadsheet.proofs.AssignmentLemmas.{spliced_cells}
use Rattle.plan_list_back.specs.ListBack.{IsBack, IsProjectOf, IsReadAs, SameProject, Times, padded, put, with_times}
use Rattle.plan_list_back.specs.Texts.{IsUnwritten}
use Rattle.plan_list_back.specs.declared.fault.ListBackFault.{ListBackFault}

-- a text in the place of another cell
pub put_within : (k : ℕ) (text : List ℕ) (cells : List (List ℕ)) → k < length cells
    → put k text cells ≡ take k cells ++ text ∷ drop (k + 1) cells
put_within k text cells within =
    ap (λ front. front ++ text ∷ drop (k + 1) cells) (take-append-le k cells (replicate (k - length cells) []) (omega (arith, within)))

abbrev items_of : Vec ℕ Global → List ℕ
items_of cell = cell.items

-- the same for cells that were added in three steps
pub put_cells : (k : ℕ) (new : Vec ℕ Global) (cells none front both all : List (Vec ℕ Global)) → k < length cells → none ≡ []
    → map items_of front ≡ map items_of none ++ map items_of (take k cells)
    → both ≡ front ++ new ∷ []
    → map items_of all ≡ map items_of both ++ map items_of (take (length cells - (k + 1)) (drop (k + 1) cells))
    → map items_of all ≡ put k new.items (map items_of cells)
put_cells k new cells none front both all within empty first second third =
    let last : List (Vec ℕ Global) = new ∷ [] in
    let split : map items_of (front ++ last) ≡ map items_of front ++ map items_of last = map-append items_of front last in
    let added : map items_of both ≡ map items_of front ++ map items_of last =
    subst (λ (xs : List (Vec ℕ Global)). map items_of xs ≡ map items_of front ++ map items_of last) (sym second) split in
    let small : k < length (map items_of cells) = subst (λ (n : ℕ). k < n) (sym (length-map cells items_of)) within in
    spliced_cells k last cells none front both all empty first added third
    ∙ append_assoc (take k (map items_of cells)) (new.items ∷ []) (drop (k + 1) (map items_of cells))
    ∙ sym (put_within k new.items (map items_of cells) small)

padded_length : (k : ℕ) (cells : List (List ℕ)) → length cells ≤ k → length (padded k cells) ≡ k
padded_length k cells behind =
    length-append cells (replicate (k - length cells) [])
    ∙ ap (λ n. length cells + n) (length-replicate (k - length cells) [])
    ∙ omega (arith, behind)

-- a text behind all cells
pub put_behind : (k : ℕ) (text : List ℕ) (cells : List (List ℕ)) → length cells ≤ k
    → put k text cells ≡ (cells ++ replicate (k - length cells) []) ++ text ∷ []
put_behind k text cells behind =
    ap (λ front. front ++ text ∷ drop (k + 1) cells) (take_all k (padded k cells) (omega (arith, padded_length k cells behind)))
    ∙ ap (λ end. padded k cells ++ text ∷ end) (drop_all (k + 1) cells (omega (arith, behind)))

-- the error of a text that isn't read as its rows
pub unwritten : (made text : List ℕ) (rows : List Row) (fault : ListBackFault) → made ≡ text → (Spells made rows → ⊥)
    → ((others : List Row) → (Spells made others → ⊥) → IsUnwritten made others fault) → IsUnwritten text rows fault
unwritten made text rows fault same unread told = subst (λ (t : List ℕ). IsUnwritten t rows fault) same (told rows unread)

-- a text is read as the rows of a list with times
pub back : (times : List Times) (bytes text made : List ℕ) (d : Decoded) (rows all new : List Row)
    → text ≡ decoded.text_in d bytes → decoded.text_in d bytes ≡ utf8_of bytes → rows_read text ≡ Ok rows
    → all ≡ filled rows → new ≡ with_times times all → Spells made new → IsBack times bytes made
back times bytes text made d rows all new has is read full timed spells = (
  rows,
  ap rows_read (sym (has ∙ is)) ∙ read,
  subst (λ xs. Spells made (with_times times xs)) full (subst (λ xs. Spells made xs) timed spells),
)

-- a table that is read in a file
pub read_as : (o : Options) (overrides : List Override) (bytes text : List ℕ) (p : PlainList) (t : Table)
    → IsPlainWith o overrides bytes p → text ≡ text_of p bytes → table_read_with overrides text ≡ Ok t
    → IsReadAs o overrides bytes t
read_as o overrides bytes text p t plain is read = (p, plain, ap (table_read_with overrides) (sym is) ∙ read)

-- the project file of a file
pub project_of_file : (o : Options) (overrides : List Override) (bytes written : List ℕ) (t : Table)
    → IsReadAs o overrides bytes t → written ≡ project_text t → IsProjectOf o overrides bytes written
project_of_file o overrides bytes written t read file = (t, read, file)

-- two files with one project file
pub same : (o : Options) (overrides : List Override) (bytes made before behind : List ℕ)
    → IsProjectOf o overrides bytes before → IsProjectOf o overrides made behind → before ≡ behind
    → SameProject o overrides bytes made
same o overrides bytes made before behind (t, read, is) (u, again, other) equal =
    (t, u, read, again, sym is ∙ equal ∙ other)
