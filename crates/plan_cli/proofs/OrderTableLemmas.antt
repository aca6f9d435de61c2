-- The rows of the steps that take time, one step after the other.
use Rattle.std.proofs.Common.{◌≡◌, ℕ, ◌+◌, ◌≤◌, List, [], ◌∷◌, ◌++◌, Some, Vec, length, drop, refl, sym, ap, ◌∙◌, append_assoc, append-nil, drop_of_length-le}
use Rattle.std.specs.Prelude.{get_or}
use Rattle.std.specs.Global.{Global}
use Rattle.std.specs.List.{slice_get}
use Rattle.std.proofs.lemmas.List.{drop_more}
use Rattle.std.proofs.lemmas.Option.{get_or_from_slice_get, slice_get_within}
use Rattle.plan_orlib.specs.declared.steps.Step.{Step}
use Rattle.plan_table.specs.Names.{Name}
use Rattle.plan_formats.specs.declared.cell.Cell as declared
use Rattle.plan_formats.specs.Cells.{Cell}
use Rattle.plan_formats.specs.Tables.{cells_of, rows_of}
use Rattle.plan_cli.specs.OrderTables.{timed_row, timed_rows}

-- the first of the elements that are left
left_at : {X : Type 0} (xs : List X) (k : ℕ) (x : X) → slice_get xs k ≡ Some x → drop k xs ≡ x ∷ drop (k + 1) xs
left_at xs k x at =
    drop_more xs k x (slice_get_within xs k x at) ∙ ap (λ y. y ∷ drop (k + 1) xs) (get_or_from_slice_get xs k x x at)

-- one step more, with its row
pub rows_more : (names : List Name) (steps : List Step) (rows : List (Vec declared.Cell Global)) (k : ℕ) (step : Step) (row : Vec declared.Cell Global)
    (old new whole : List (List Cell)) → slice_get steps k ≡ Some step → slice_get rows k ≡ Some row → new ≡ old ++ timed_row names step (cells_of row.items)
    → old ++ timed_rows names (drop k steps) (rows_of (drop k rows)) ≡ whole
    → new ++ timed_rows names (drop (k + 1) steps) (rows_of (drop (k + 1) rows)) ≡ whole
unfolding timed_rows
rows_more names steps rows k step row old new whole here there pushed so_far =
    let rest : List (List Cell) = timed_rows names (drop (k + 1) steps) (rows_of (drop (k + 1) rows)) in
    let first : List (List Cell) = timed_row names step (cells_of row.items) in
    let one : timed_rows names (drop k steps) (rows_of (drop k rows)) ≡ first ++ rest =
    ap (λ (ss : List Step). timed_rows names ss (rows_of (drop k rows))) (left_at steps k step here)
    ∙ ap (λ (rs : List (Vec declared.Cell Global)). timed_rows names (step ∷ drop (k + 1) steps) (rows_of rs)) (left_at rows k row there) in
    ap (λ (made : List (List Cell)). made ++ rest) pushed ∙ append_assoc old first rest
    ∙ ap (λ (more : List (List Cell)). old ++ more) (sym one) ∙ so_far

-- no row is left
pub no_rows : (names : List Name) (steps : List Step) → timed_rows names steps [] ≡ []
unfolding timed_rows
no_rows names [] = refl
no_rows names (step ∷ steps) = refl

-- no step is left
pub no_steps : (names : List Name) (rows : List (List Cell)) → timed_rows names [] rows ≡ []
unfolding timed_rows
no_steps names rows = refl

-- the rows, if no step or no row is left
pub all_rows : (names : List Name) (steps : List Step) (rows : List (Vec declared.Cell Global)) (k : ℕ) (made whole : List (List Cell))
    → length rows ≤ k → made ++ timed_rows names (drop k steps) (rows_of (drop k rows)) ≡ whole → made ≡ whole
all_rows names steps rows k made whole past so_far =
    let none : timed_rows names (drop k steps) (rows_of (drop k rows)) ≡ [] =
    ap (λ (rs : List (Vec declared.Cell Global)). timed_rows names (drop k steps) (rows_of rs)) (drop_of_length-le rows past)
    ∙ no_rows names (drop k steps) in
    sym (append-nil made) ∙ ap (λ (more : List (List Cell)). made ++ more) (sym none) ∙ so_far

pub all_steps : (names : List Name) (steps : List Step) (rows : List (Vec declared.Cell Global)) (k : ℕ) (made whole : List (List Cell))
    → length steps ≤ k → made ++ timed_rows names (drop k steps) (rows_of (drop k rows)) ≡ whole → made ≡ whole
all_steps names steps rows k made whole past so_far =
    let none : timed_rows names (drop k steps) (rows_of (drop k rows)) ≡ [] =
    ap (λ (ss : List Step). timed_rows names ss (rows_of (drop k rows))) (drop_of_length-le steps past)
    ∙ no_steps names (rows_of (drop k rows)) in
    sym (append-nil made) ∙ ap (λ (more : List (List Cell)). made ++ more) (sym none) ∙ so_far
