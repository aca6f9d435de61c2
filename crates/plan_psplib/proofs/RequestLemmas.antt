-- The loops over amounts, and over the rows of the requests section.
use Rattle.std.proofs.Common.{◌≡◌, ℕ, suc, ◌-◌, ◌+◌, ◌≤◌, ◌<◌, List, [], ◌∷◌, ◌++◌, Result, Ok, sum, refl, sym}
use Rattle.plan_psplib.specs.declared.text.fault.Fault.{Fault}
use Rattle.plan_psplib.specs.declared.text.fault.ReadError.{ReadError}
use Rattle.plan_psplib.specs.Streams.{Stream}
use Rattle.plan_psplib.specs.Tokens.{◌>>=◌, Fails, within_at, greatest}
use Rattle.plan_psplib.specs.Requests.{Request, Requests, amounts_at, request_row_at, request_rows_at, with_row}
use Rattle.plan_psplib.proofs.LoopLemmas.{goes_on, fails, is_done}

-- the state of the loop over amounts: the amounts so far, and the rest of the stream
abbrev Amounts : Type 0
Amounts = List ℕ × Stream

abbrev others : ℕ → Amounts → Result (List ℕ × Stream) Fault
others k s = amounts_at k s.0 s.1

abbrev one : Amounts → Result (ℕ × Stream) Fault
one s = within_at greatest s.1

abbrev behind : Amounts → (ℕ × Stream) → Amounts
behind s v = (s.0 ++ v.0 ∷ [], v.1)

amounts-suc : (k : ℕ) (s : Amounts) → others (suc k) s ≡ (one s >>= λ v. others k (behind s v))
unfolding amounts_at
amounts-suc k s = refl

pub amounts_go_on : (count i : ℕ) (before : List ℕ) (s : Stream) (amount : ℕ) (after : Stream)
    (total : Result (List ℕ × Stream) Fault) → i < count → within_at greatest s ≡ Ok (amount, after) →
    amounts_at (count - i) before s ≡ total → amounts_at (count - (i + 1))
    (before ++ amount ∷ []) after ≡ total
amounts_go_on count i before s amount after total = goes_on others one behind amounts-suc count i (before, s) (amount, after) total

pub amounts_fail : (e : ReadError) (count i : ℕ) (before : List ℕ) (s : Stream)
    (total : Result (List ℕ × Stream) Fault) → i < count → Fails e (within_at greatest s) →
    amounts_at (count - i) before s ≡ total → Fails e total
amounts_fail e count i before s total = fails others one behind amounts-suc e count i (before, s) total

pub amounts_done : (count i : ℕ) (before : List ℕ) (s : Stream) (total : Result (List ℕ × Stream) Fault) → count ≤ i → amounts_at (count - i) before s ≡ total → total ≡ Ok (before, s)
unfolding amounts_at
amounts_done count i before s total past whole = sym (is_done others one behind amounts-suc count i (before, s) total past whole)

-- the state of the loop over rows: the job of the next row, the rows so far, and the rest of the
-- stream
abbrev Rows : Type 0
Rows = ℕ × Requests × Stream

module _ (resources : ℕ) where
  abbrev other_rows : ℕ → Rows → Result (Requests × Stream) Fault
  other_rows k s = request_rows_at resources k s.0 s.1 s.2

  abbrev one_row : Rows → Result (Request × Stream) Fault
  one_row s = request_row_at resources s.0 (sum s.1.durations) s.2

  abbrev behind_row : Rows → (Request × Stream) → Rows
  behind_row s row = (s.0 + 1, with_row s.1 row.0, row.1)

  rows-suc : (k : ℕ) (s : Rows) → other_rows (suc k) s ≡ (one_row s >>= λ row. other_rows k (behind_row s row))
  unfolding request_rows_at
  rows-suc k s = refl

  pub requests_go_on : (count i job : ℕ) (rows : Requests) (s : Stream) (row : Request) (after : Stream)
      (total : Result (Requests × Stream) Fault) → i < count →
      request_row_at resources job (sum rows.durations) s ≡ Ok (row, after) →
      request_rows_at resources (count - i) job rows s ≡ total →
      request_rows_at resources (count - (i + 1)) (job + 1) (with_row rows row) after ≡ total
  requests_go_on count i job rows s row after total = goes_on other_rows one_row behind_row rows-suc count i (job, rows, s) (row, after) total

  pub requests_fail : (e : ReadError) (count i job : ℕ) (rows : Requests) (s : Stream)
      (total : Result (Requests × Stream) Fault) → i < count →
      Fails e (request_row_at resources job (sum rows.durations) s) →
      request_rows_at resources (count - i) job rows s ≡ total → Fails e total
  requests_fail e count i job rows s total = fails other_rows one_row behind_row rows-suc e count i (job, rows, s) total

  pub requests_done : (count i job : ℕ) (rows : Requests) (s : Stream)
      (total : Result (Requests × Stream) Fault) → count ≤ i →
      request_rows_at resources (count - i) job rows s ≡ total → total ≡ Ok (rows, s)
  unfolding request_rows_at
  requests_done count i job rows s total past whole = sym (is_done other_rows one_row behind_row rows-suc count i (job, rows, s) total past whole)
