-- Names of resources, and cells in the place of another one.
use Rattle.std.proofs.Common.{◌≡◌, ◌<◌, ℕ, ◌+◌, ◌-◌, List, [], ◌++◌, Vec, length, map, take, drop, get_or, sym, ap, ◌∙◌}
use Rattle.std.proofs.lemmas.List.{at_drop_more, drop-map, take-map}
use Rattle.std.specs.declared.alloc.Global.{Global}
use Rattle.plan_spreadsheet.specs.Assignments.{name_of, names_in, spliced, with_name}
use Rattle.plan_spreadsheet.proofs.RowLemmas.{rest_of}

abbrev items_of : Vec ℕ Global → List ℕ
items_of cell = cell.items

-- the names of the parts that are left, with that of the next one
pub next_names : (i : ℕ) (parts : List (Vec ℕ Global)) (part : Vec ℕ Global) (before after : List (List ℕ)) (name text : List ℕ)
    → i < length parts → part ≡ get_or parts i part → text ≡ part.items → name ≡ name_of text → after ≡ with_name before name
    → names_in after (map items_of (drop (i + 1) parts)) ≡ names_in before (map items_of (drop i parts))
unfolding names_in
next_names i parts part before after name text small at is named added =
    ap (λ a. names_in a (map items_of (drop (i + 1) parts)))
    (added ∙ ap (with_name before) (named ∙ ap name_of is ∙ ap (λ (p : Vec ℕ Global). name_of p.items) at))
    ∙ sym (at_drop_more (λ (xs : List (Vec ℕ Global)). names_in before (map items_of xs)) parts i part small)

-- cells that were added in three steps
pub spliced_cells : (k : ℕ) (new cells none front both all : List (Vec ℕ Global)) → none ≡ []
    → map items_of front ≡ map items_of none ++ map items_of (take k cells)
    → map items_of both ≡ map items_of front ++ map items_of new
    → map items_of all ≡ map items_of both ++ map items_of (take (length cells - (k + 1)) (drop (k + 1) cells))
    → map items_of all ≡ spliced k (map items_of new) (map items_of cells)
spliced_cells k new cells none front both all empty first second third =
    third
    ∙ ap (λ end. map items_of both ++ map items_of end) (rest_of (k + 1) cells)
    ∙ ap (λ b. b ++ map items_of (drop (k + 1) cells)) (second ∙ ap (λ f. f ++ map items_of new) (first ∙ ap (λ n. map items_of n ++ map items_of (take k cells)) empty))
    ∙ ap (λ f. (f ++ map items_of new) ++ map items_of (drop (k + 1) cells)) (sym (take-map items_of k cells))
    ∙ ap (λ b. (take k (map items_of cells) ++ map items_of new) ++ b) (sym (drop-map items_of (k + 1) cells))
