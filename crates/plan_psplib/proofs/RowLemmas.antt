-- The loops over the successors of a row, and over the rows of the precedence section.
use Rattle.std.proofs.Common.{◌≡◌, ℕ, suc, ◌-◌, ◌+◌, ◌≤◌, ◌<◌, List, [], ◌∷◌, ◌++◌, Result, Ok, length, refl, sym, ap, ◌∙◌, arith, Vec}
use Rattle.plan_psplib.specs.declared.text.fault.Fault.{Fault}
use Rattle.plan_psplib.specs.declared.text.fault.ReadError.{ReadError}
use Rattle.plan_psplib.specs.Streams.{Stream}
use Rattle.plan_psplib.specs.Tokens.{◌>>=◌, Fails}
use Rattle.plan_psplib.specs.Precedence.{successor_at, successors_at, precedence_row_at, precedence_rows_at}
use Rattle.std.specs.List.{AllByRecursion}
use Rattle.std.specs.declared.alloc.Global.{Global}
use Rattle.plan_net.specs.Successors.{arcs_from, arcs_of_rows, IsRow, rows_in}
use Rattle.plan_net.proofs.SuccessorLemmas.{arcs_of_rows-push}
use Rattle.plan_psplib.proofs.LoopLemmas.{goes_on, fails, is_done}

module _ (n : ℕ) where
  abbrev Before : Type 0
  Before = List ℕ × Stream

  abbrev others : ℕ → Before → Result (List ℕ × Stream) Fault
  others k s = successors_at n k s.0 s.1

  abbrev one : Before → Result (ℕ × Stream) Fault
  one s = successor_at n s.0 s.1

  abbrev behind : Before → (ℕ × Stream) → Before
  behind s v = (s.0 ++ v.0 ∷ [], v.1)

  successors-suc : (k : ℕ) (s : Before) → others (suc k) s ≡ (one s >>= λ v. others k (behind s v))
  unfolding successors_at
  successors-suc k s = refl

  pub successors_go_on : (count i : ℕ) (found : List ℕ) (s : Stream) (job : ℕ) (after : Stream)
      (total : Result (List ℕ × Stream) Fault) → i < count → successor_at n found s ≡ Ok (job, after) →
      successors_at n (count - i) found s ≡ total →
      successors_at n (count - (i + 1)) (found ++ job ∷ []) after ≡ total
  successors_go_on count i found s job after total = goes_on others one behind successors-suc count i (found, s) (job, after) total

  pub successors_fail : (e : ReadError) (count i : ℕ) (found : List ℕ) (s : Stream)
      (total : Result (List ℕ × Stream) Fault) → i < count → Fails e (successor_at n found s) →
      successors_at n (count - i) found s ≡ total → Fails e total
  successors_fail e count i found s total = fails others one behind successors-suc e count i (found, s) total

  pub successors_done : (count i : ℕ) (found : List ℕ) (s : Stream) (total : Result (List ℕ × Stream) Fault) → count ≤ i → successors_at n (count - i) found s ≡ total → total ≡ Ok (found, s)
  unfolding successors_at
  successors_done count i found s total past whole = sym (is_done others one behind successors-suc count i (found, s) total past whole)

-- the state of the loop over rows: the job of the next row, the arcs so far, and the rest of the
-- stream
module _ (n : ℕ) where
  abbrev Rows : Type 0
  Rows = ℕ × List (ℕ × ℕ) × Stream

  abbrev other_rows : ℕ → Rows → Result (List (ℕ × ℕ) × Stream) Fault
  other_rows k s = precedence_rows_at n k s.0 s.1 s.2

  abbrev one_row : Rows → Result (List ℕ × Stream) Fault
  one_row s = precedence_row_at n s.0 s.2

  abbrev behind_row : Rows → (List ℕ × Stream) → Rows
  behind_row s row = (s.0 + 1, s.1 ++ arcs_from s.0 row.0, row.1)

  rows-suc : (k : ℕ) (s : Rows) → other_rows (suc k) s ≡ (one_row s >>= λ row. other_rows k (behind_row s row))
  unfolding precedence_rows_at
  rows-suc k s = refl

  pub rows_go_on : (count i job : ℕ) (arcs : List (ℕ × ℕ)) (s : Stream) (row : List ℕ) (after : Stream)
      (total : Result (List (ℕ × ℕ) × Stream) Fault) → i < count →
      precedence_row_at n job s ≡ Ok (row, after) → precedence_rows_at n (count - i) job arcs s ≡ total →
      precedence_rows_at n (count - (i + 1)) (job + 1) (arcs ++ arcs_from job row) after ≡ total
  rows_go_on count i job arcs s row after total = goes_on other_rows one_row behind_row rows-suc count i (job, arcs, s) (row, after) total

  pub rows_fail : (e : ReadError) (count i job : ℕ) (arcs : List (ℕ × ℕ)) (s : Stream)
      (total : Result (List (ℕ × ℕ) × Stream) Fault) → i < count → Fails e (precedence_row_at n job s) →
      precedence_rows_at n (count - i) job arcs s ≡ total → Fails e total
  rows_fail e count i job arcs s total = fails other_rows one_row behind_row rows-suc e count i (job, arcs, s) total

  pub rows_done : (count i job : ℕ) (arcs : List (ℕ × ℕ)) (s : Stream)
      (total : Result (List (ℕ × ℕ) × Stream) Fault) → count ≤ i →
      precedence_rows_at n (count - i) job arcs s ≡ total → total ≡ Ok (arcs, s)
  unfolding precedence_rows_at
  rows_done count i job arcs s total past whole = sym (is_done other_rows one_row behind_row rows-suc count i (job, arcs, s) total past whole)

-- the result of reading after a row
pub rows_behind : (n : ℕ) (done : ℕ) (lists : List (Vec ℕ Global)) (list : Vec ℕ Global) (s : Stream)
    (total : Result (List (ℕ × ℕ) × Stream) Fault) (more : ℕ) → length lists ≡ done →
    precedence_rows_at n more (done + 1 + 1) (arcs_of_rows 1 (rows_in lists)
    ++ arcs_from (done + 1) list.items) s ≡ total →
    precedence_rows_at n more (done + 1 + 1) (arcs_of_rows 1 (rows_in (lists ++ list ∷ []))) s ≡ total
rows_behind n done lists list s total more count e =
    let next : 1 + length lists ≡ done + 1 = omega (arith, count) in
    let same = arcs_of_rows-push 1 lists list ∙ ap (λ (job : ℕ). arcs_of_rows 1 (rows_in lists) ++ arcs_from job list.items) next in
    ap (λ (arcs : List (ℕ × ℕ)). precedence_rows_at n more (done + 1 + 1) arcs s) same ∙ e

-- one more row of successors, which is valid like those before it
pub each_push : (n : ℕ) (lists : List (Vec ℕ Global)) (list : Vec ℕ Global) → AllByRecursion (IsRow n) (rows_in lists) → IsRow n list.items → AllByRecursion (IsRow n) (rows_in (lists ++ list ∷ []))
each_push n [] list h row = (row, tt)
each_push n (first ∷ lists) list h row = (h.0, each_push n lists list h.1 row)
