-- The ids in a file whose activities are shown.
use Rattle.std.proofs.Common.{◌≡◌, ◌∙◌, ◌&&◌, Bool, true, false, if◌then◌else◌, not, List, [], ◌∷◌, Option, Some, None, Result, Ok, Err, ℕ, filter, is_some, refl, sym, ap}
use Rattle.std.specs.List.{list_all}
use Rattle.plan_psplib.specs.declared.text.fault.Fault.{Fault}
use Rattle.plan_psplib.specs.Document.{Document, document}
use Rattle.plan_psplib.specs.Project.{Project, SaysProject, project_of}
use Rattle.plan_psplib.proofs.SaysLemmas.{said_document}
use Rattle.plan_psplib.proofs.GoesLemmas.{both_true}
use Rattle.plan_table.specs.Names.{Name, activity_key, id_key, names_behind}
use Rattle.plan_report.specs.IdSheets.{first_behind}
use Rattle.plan_documents.specs.Waits.{has_place, inner_number, is_lag, is_row_id, is_wait, is_wait_id, row_ids, shown_ids, wait_number, without_waits}

-- an id without a number isn't that of a wait
row_is_shown : (p : Project) (names : List Name) (behind : ℕ) (id : Name) → is_row_id id ≡ true → is_wait p names behind id ≡ false
row_is_shown p names behind id is = at (inner_number p id.number)
  where
    by_number : (k : Option ℕ) (j : ℕ) → not (is_some k) ≡ true → (has_place behind j k && is_lag p names behind j) ≡ false
    by_number None j is = refl
    by_number (Some k) j is = absurd (cc)

    at : (n : Option ℕ) → is_wait_id p names behind id n ≡ false
    at None = refl
    at (Some j) = by_number (wait_number id.name) j is

-- ids of rows stay
rows_stay : (p : Project) (names : List Name) (behind : ℕ) (ids : List Name) → list_all is_row_id ids ≡ true → without_waits p names behind ids ≡ ids
rows_stay p names behind [] are = refl
rows_stay p names behind (id ∷ ids) are =
    let both = both_true (is_row_id id) (list_all is_row_id ids) are in
    ap (λ (b : Bool). if not b then id ∷ without_waits p names behind ids else without_waits p names behind ids) (row_is_shown p names behind id both.0)
    ∙ ap (λ (xs : List Name). id ∷ xs) (rows_stay p names behind ids both.1)

-- a file without waits
pub rows_shown : (d : Result Document Fault) (names ids : List Name) → list_all is_row_id ids ≡ true → shown_ids d names ids ≡ ids
rows_shown (Err fault) names ids are = refl
rows_shown (Ok d) names ids are = rows_stay (project_of d) names (first_behind (row_ids ids) (project_of d).network) ids are

-- a file with a project
pub project_shown : (file : List ℕ) (p : Project) → SaysProject file p
    → shown_ids (document file) (names_behind activity_key file) (names_behind id_key file)
    ≡ without_waits p (names_behind activity_key file) (first_behind (row_ids (names_behind id_key file)) p.network) (names_behind id_key file)
project_shown file p (d, said, is, sound) =
    let names = names_behind activity_key file in
    let ids = names_behind id_key file in
    ap (λ (r : Result Document Fault). shown_ids r names ids) (said_document file d said)
    ∙ ap (λ (q : Project). without_waits q names (first_behind (row_ids ids) q.network) ids) (sym is)
