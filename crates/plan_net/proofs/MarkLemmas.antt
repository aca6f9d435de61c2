-- Marks in rows: the effect of setting one.
use Rattle.std.proofs.Common.{ℕ, suc, zero, Bool, true, false, ◌≡◌, ◌≢◌, ◌+◌, ◌-◌, ◌≤◌, ◌<◌, ◌↔◌, ◌⊎◌, inl, inr, List, [], ◌∷◌, ◌++◌, length, take, get_or, set, replicate, refl, sym, ◌∙◌, ap, subst, arith, Some, Vec, get_or-set_same, get_or-set_other}
use Rattle.std.specs.declared.alloc.Global.{Global}
use Rattle.std.specs.List.{Contains}
use Rattle.std.specs.Vec.{with_item}
use Rattle.std.proofs.lemmas.Option.{slice_get-get_or, get_or_from_slice_get}
use Rattle.std.proofs.lemmas.List.{take_more, length-set, length_push, get_or_read}
use Rattle.std.proofs.lemmas.List.Elements.{Contains-append_left, Contains-push, Contains-push_cases, All-get_or}
use Rattle.std.proofs.lemmas.Bool.{cases_eq, cases_lt, false≢true}
use Rattle.plan_net.specs.Network.{unlagged}
use Rattle.plan_net.specs.Limits.{IsNewArc, IsGoodArc, HasGoodArcs}
use Rattle.plan_net.specs.Refusals.{IsFirstDoubleArc}
use Rattle.plan_net.specs.Marks.{mark_at, IsSquare, AreMarks, HasNoMark}
use Rattle.plan_net.specs.Indexed.{row_at, row_items}
use Rattle.plan_net.proofs.RowLemmas.{row_at-read}

-- the row that was replaced
pub row_at-set_same : {T : Type 0} (rows : List (Vec T Global)) (k : ℕ) (row : Vec T Global) → k < length rows → row_at (set rows k row) k ≡ row.items
row_at-set_same rows k row within =
    let inside : k < length (set rows k row) = omega (arith, length-set rows k row, within) in
    ap row_items (slice_get-get_or (set rows k row) k row inside ∙ ap (λ r. Some r) (get_or-set_same rows k row row within))

-- the other rows
pub row_at-set_other : {T : Type 0} (rows : List (Vec T Global)) (k j : ℕ) (row : Vec T Global) → k ≢ j → row_at (set rows j row) k ≡ row_at rows k
row_at-set_other [] k j row other = refl
row_at-set_other (r ∷ rows) zero zero row other = absurd (other refl)
row_at-set_other (r ∷ rows) zero (suc j) row other = refl
row_at-set_other (r ∷ rows) (suc k) zero row other = refl
row_at-set_other (r ∷ rows) (suc k) (suc j) row other = row_at-set_other rows k j row (λ same. other (ap suc same))

-- the rows before one that is pushed
pub row_at-push_before : {T : Type 0} (rows : List (Vec T Global)) (k : ℕ) (row : Vec T Global) → k < length rows → row_at (rows ++ row ∷ []) k ≡ row_at rows k
row_at-push_before [] k row within = absurd (omega arith)
row_at-push_before (r ∷ rows) zero row within = refl
row_at-push_before (r ∷ rows) (suc k) row within = row_at-push_before rows k row (omega arith)

-- the row that is pushed
pub row_at-push_last : {T : Type 0} (rows : List (Vec T Global)) (row : Vec T Global) → row_at (rows ++ row ∷ []) (length rows) ≡ row.items
row_at-push_last [] row = refl
row_at-push_last (r ∷ rows) row = row_at-push_last rows row

-- there is no row after the last
pub row_at-past : {T : Type 0} (rows : List (Vec T Global)) (k : ℕ) → length rows ≤ k → row_at rows k ≡ []
row_at-past [] k past = refl
row_at-past (r ∷ rows) zero past = absurd (omega arith)
row_at-past (r ∷ rows) (suc k) past = row_at-past rows k (omega arith)

-- a fact of each row, with a pushed row
pub rows_push : {T : Type 0} (P : ℕ → List T → Type 0) (rows : List (Vec T Global)) (row : Vec T Global) →
    ((k : ℕ) → k < length rows → P k (row_at rows k)) → P (length rows) row.items → (k : ℕ) →
    k < length (rows ++ row ∷ []) → P k (row_at (rows ++ row ∷ []) k)
rows_push P rows row before here k within = by_case (cases_lt k (length rows)) where
  by_case : (k < length rows) ⊎ (length rows ≤ k) → P k (row_at (rows ++ row ∷ []) k)
  by_case (inl earlier) = subst (P k) (sym (row_at-push_before rows k row earlier)) (before k earlier)
  by_case (inr last) =
      let same : length rows ≡ k = omega (arith, length_push rows row) in
      subst (λ (m : ℕ). P m (row_at (rows ++ row ∷ []) m)) same (subst (P (length rows)) (sym (row_at-push_last rows row)) here)

-- a row without marks is pushed
pub HasNoMark-push : (marks : List (Vec Bool Global)) (row : Vec Bool Global) (count : ℕ) → row.items ≡ replicate count false → HasNoMark marks → HasNoMark (marks ++ row ∷ [])
HasNoMark-push marks row count is none r column = by_case (cases_lt r (length (marks ++ row ∷ []))) where
  unmarked : (i n : ℕ) → get_or (replicate n false) i false ≡ false
  unmarked i zero = refl
  unmarked zero (suc n) = refl
  unmarked (suc i) (suc n) = unmarked i n

  by_case : (r < length (marks ++ row ∷ [])) ⊎ (length (marks ++ row ∷ []) ≤ r) → mark_at (marks ++ row ∷ []) r column ≡ false
  by_case (inl within) =
      rows_push (λ k items. get_or items column false ≡ false) marks row (λ k _. none k column) (ap (λ (items : List Bool). get_or items column false) is ∙ unmarked column count) r within
  by_case (inr past) = ap (λ (items : List Bool). get_or items column false) (row_at-past (marks ++ row ∷ []) r past)

-- the mark that was set
pub mark_at-set_here : (marks : List (Vec Bool Global)) (row column : ℕ) (before : Vec Bool Global) →
    row < length marks → before ≡ get_or marks row before → column < length (row_at marks row) →
    mark_at (set marks row (with_item before column true)) row column ≡ true
mark_at-set_here marks row column before within is inside =
    let items : row_at marks row ≡ before.items = row_at-read marks row before within is in
    let inside' : column < length before.items = subst (λ (items : List Bool). column < length items) items inside in
    ap (λ (items : List Bool). get_or items column false) (row_at-set_same marks row (with_item before column true) within) ∙ get_or-set_same before.items column true false inside'

-- the other marks
pub mark_at-set_other : (marks : List (Vec Bool Global)) (row column : ℕ) (before : Vec Bool Global) →
    row < length marks → before ≡ get_or marks row before → (r k : ℕ) → (r ≢ row) ⊎ (k ≢ column) →
    mark_at (set marks row (with_item before column true)) r k ≡ mark_at marks r k
mark_at-set_other marks row column before within is r k (inl other) = ap (λ (items : List Bool). get_or items k false) (row_at-set_other marks r row (with_item before column true) other)
mark_at-set_other marks row column before within is r k (inr other) = by_case (cases_eq r row) where
  by_case : (r ≡ row) ⊎ (r ≡ row → ⊥) → mark_at (set marks row (with_item before column true)) r k ≡ mark_at marks r k
  by_case (inl same) =
      subst (λ (x : ℕ). mark_at (set marks row (with_item before column true)) x k ≡ mark_at marks x k) (sym same)
      (ap (λ (items : List Bool). get_or items k false) (row_at-set_same marks row (with_item before column true) within)
      ∙ get_or-set_other before.items column k true false other
      ∙ ap (λ (items : List Bool). get_or items k false) (sym (row_at-read marks row before within is)))
  by_case (inr different) = ap (λ (items : List Bool). get_or items k false) (row_at-set_other marks r row (with_item before column true) different)

-- a mark is set in a square
pub IsSquare-set : (count : ℕ) (marks : List (Vec Bool Global)) (row column : ℕ) (before : Vec Bool Global) →
    row < length marks → before ≡ get_or marks row before → IsSquare count marks →
    IsSquare count (set marks row (with_item before column true))
IsSquare-set count marks row column before within is square =
    record { rows = length-set marks row (with_item before column true) ∙ square.rows; columns = λ k lower. by_case k lower (cases_eq k row) } where
      by_case : (k : ℕ) → k < count → (k ≡ row) ⊎ (k ≡ row → ⊥) → length (row_at (set marks row (with_item before column true)) k) ≡ count
      by_case k lower (inl same) =
          subst (λ (x : ℕ). length (row_at (set marks row (with_item before column true)) x) ≡ count) (sym same)
          (ap length (row_at-set_same marks row (with_item before column true) within)
          ∙ length-set before.items column true
          ∙ ap length (sym (row_at-read marks row before within is))
          ∙ square.columns row (subst (λ (x : ℕ). x < count) same lower))
      by_case k lower (inr other) = ap length (row_at-set_other marks k row (with_item before column true) other) ∙ square.columns k lower

-- the mark that two indexes read
pub mark_read : (marks : List (Vec Bool Global)) (row column : ℕ) (before : Vec Bool Global) (mark : Bool) →
    row < length marks → column < length (row_at marks row) → before ≡ get_or marks row before →
    mark ≡ get_or before.items column mark → mark ≡ mark_at marks row column
mark_read marks row column before mark within inside is reads =
    let items : row_at marks row ≡ before.items = row_at-read marks row before within is in
    let inside' : column < length before.items = subst (λ (xs : List Bool). column < length xs) items inside in
    get_or_read before.items column mark inside' reads false ∙ ap (λ (xs : List Bool). get_or xs column false) (sym items)

-- the row and the column of an arc lead back to it
arc_of_place : (arc : ℕ × ℕ) → 1 ≤ arc.0 → 1 ≤ arc.1 → arc ≡ (arc.0 - 1 + 1, arc.1 - 1 + 1)
arc_of_place arc low high =
    let from : arc.0 ≡ arc.0 - 1 + 1 = omega arith in
    let to : arc.1 ≡ arc.1 - 1 + 1 = omega arith in
    ap (λ (i : ℕ). (i, arc.1)) from ∙ ap (λ (j : ℕ). (arc.0 - 1 + 1, j)) to

-- the arc at k is new if its mark is not set
pub IsNewArc-unmarked : (durations : List ℕ) (arcs : List (ℕ × ℕ)) (k : ℕ) (marks : List (Vec Bool Global)) →
    k < length arcs → HasGoodArcs (unlagged durations arcs) → AreMarks (take k arcs) marks →
    mark_at marks ((get_or arcs k (0, 0)).1 - 1) ((get_or arcs k (0, 0)).0 - 1) ≡ false →
    IsNewArc (unlagged durations arcs) k
IsNewArc-unmarked durations arcs k marks within good known unmarked arc at has =
    let is : get_or arcs k (0, 0) ≡ arc = get_or_from_slice_get arcs k arc (0, 0) at in
    let ends : IsGoodArc (unlagged durations arcs) (get_or arcs k (0, 0)) = All-get_or (IsGoodArc (unlagged durations arcs)) arcs k (0, 0) within good in
    let same : arc ≡ ((get_or arcs k (0, 0)).0 - 1 + 1, (get_or arcs k (0, 0)).1 - 1 + 1) = sym is ∙ arc_of_place (get_or arcs k (0, 0)) ends.0.0 ends.1.0 in
    let has' : Contains (take k arcs) ((get_or arcs k (0, 0)).0 - 1 + 1, (get_or arcs k (0, 0)).1 - 1 + 1) = subst (Contains (take k arcs)) same has in
    false≢true (sym unmarked ∙ (known ((get_or arcs k (0, 0)).1 - 1) ((get_or arcs k (0, 0)).0 - 1)).1 has')

-- the mark of one more arc is set
AreMarks-push : (done : List (ℕ × ℕ)) (arc : ℕ × ℕ) (row column : ℕ) (marks : List (Vec Bool Global))
    (before : Vec Bool Global) → row < length marks → column < length (row_at marks row) →
    before ≡ get_or marks row before → arc ≡ (column + 1, row + 1) → AreMarks done marks →
    AreMarks (done ++ arc ∷ []) (set marks row (with_item before column true))
AreMarks-push done arc row column marks before within inside is here known r k = by_case (cases_eq r row) (cases_eq k column) where
  elsewhere : (r ≢ row) ⊎ (k ≢ column) → mark_at (set marks row (with_item before column true)) r k ≡ true ↔ Contains (done ++ arc ∷ []) (k + 1, r + 1)
  elsewhere other = ((λ marked. Contains-append_left done (arc ∷ []) (k + 1, r + 1) ((known r k).0 (sym kept ∙ marked))), λ has. from (Contains-push_cases done arc (k + 1, r + 1) has)) where
    kept : mark_at (set marks row (with_item before column true)) r k ≡ mark_at marks r k
    kept = mark_at-set_other marks row column before within is r k other

    different : (r ≢ row) ⊎ (k ≢ column) → arc ≡ (k + 1, r + 1) → ⊥
    different (inl apart) same = let e : row + 1 ≡ r + 1 = ap (λ (x : ℕ × ℕ). x.1) (sym here ∙ same) in apart (omega (arith, e))
    different (inr apart) same = let e : column + 1 ≡ k + 1 = ap (λ (x : ℕ × ℕ). x.0) (sym here ∙ same) in apart (omega (arith, e))

    from : Contains done (k + 1, r + 1) ⊎ (arc ≡ (k + 1, r + 1)) → mark_at (set marks row (with_item before column true)) r k ≡ true
    from (inl has) = kept ∙ (known r k).1 has
    from (inr same) = absurd (different other same)

  by_case : (r ≡ row) ⊎ (r ≡ row → ⊥) → (k ≡ column) ⊎ (k ≡ column → ⊥) → mark_at (set marks row (with_item before column true)) r k ≡ true ↔ Contains (done ++ arc ∷ []) (k + 1, r + 1)
  by_case (inl same_row) (inl same_column) =
      let e0 : column + 1 ≡ k + 1 = omega (arith, same_column) in
      let e1 : row + 1 ≡ r + 1 = omega (arith, same_row) in
      let same : arc ≡ (k + 1, r + 1) = here ∙ (ap (λ (x : ℕ). (x, row + 1)) e0 ∙ ap (λ (x : ℕ). (k + 1, x)) e1) in
      let marked : mark_at (set marks row (with_item before column true)) row column ≡ true = mark_at-set_here marks row column before within is inside in
      let marked' : mark_at (set marks row (with_item before column true)) r k ≡ true =
      subst (λ (x : ℕ). mark_at (set marks row (with_item before column true)) x k ≡ true) (sym same_row)
      (subst (λ (x : ℕ). mark_at (set marks row (with_item before column true)) row x ≡ true)
      (sym same_column) marked) in
      ((λ _. subst (Contains (done ++ arc ∷ [])) same (Contains-push done arc)), (λ _. marked'))
  by_case (inl same) (inr apart) = elsewhere (inr apart)
  by_case (inr apart) w = elsewhere (inl apart)

-- the row and the column of an arc with good ends are within a square
pub place_within : (durations : List ℕ) (arcs : List (ℕ × ℕ)) (k : ℕ) (marks : List (Vec Bool Global)) →
    k < length arcs → HasGoodArcs (unlagged durations arcs) → IsSquare (length durations) marks →
    ((get_or arcs k (0, 0)).1 - 1 < length marks) × ((get_or arcs k (0, 0)).0 - 1 < length
    (row_at marks ((get_or arcs k (0, 0)).1 - 1)))
place_within durations arcs k marks within good square =
    let ends : IsGoodArc (unlagged durations arcs) (get_or arcs k (0, 0)) = All-get_or (IsGoodArc (unlagged durations arcs)) arcs k (0, 0) within good in
    let low : (get_or arcs k (0, 0)).1 - 1 < length durations = omega (arith, ends.1.0, ends.1.1) in
    let rows : length marks ≡ length durations = square.rows in
    let columns : length (row_at marks ((get_or arcs k (0, 0)).1 - 1)) ≡ length durations = square.columns ((get_or arcs k (0, 0)).1 - 1) low in
    (omega arith, omega (arith, ends.0.0, ends.0.1))

-- a turn of the search for double arcs
pub AreMarks-more : (durations : List ℕ) (arcs : List (ℕ × ℕ)) (k : ℕ) (marks : List (Vec Bool Global))
    (before : Vec Bool Global) → k < length arcs → HasGoodArcs (unlagged durations arcs) →
    IsSquare (length durations) marks → before ≡ get_or marks ((get_or arcs k (0, 0)).1 - 1) before →
    AreMarks (take k arcs) marks → AreMarks (take (k + 1) arcs)
    (set marks ((get_or arcs k (0, 0)).1 - 1) (with_item before ((get_or arcs k (0, 0)).0 - 1) true))
AreMarks-more durations arcs k marks before within good square is known =
    let ends : IsGoodArc (unlagged durations arcs) (get_or arcs k (0, 0)) = All-get_or (IsGoodArc (unlagged durations arcs)) arcs k (0, 0) within good in
    let place = place_within durations arcs k marks within good square in
    subst (λ (done : List (ℕ × ℕ)). AreMarks done (set marks ((get_or arcs k (0, 0)).1 - 1) (with_item before ((get_or arcs k (0, 0)).0 - 1) true))) (sym (take_more arcs k (0, 0) within))
    (AreMarks-push (take k arcs) (get_or arcs k (0, 0)) ((get_or arcs k (0, 0)).1 - 1)
    ((get_or arcs k (0, 0)).0 - 1) marks before place.0 place.1 is
    (arc_of_place (get_or arcs k (0, 0)) ends.0.0 ends.1.0) known)
