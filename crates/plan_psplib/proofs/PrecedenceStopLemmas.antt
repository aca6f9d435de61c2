-- The word at which the precedence section stops.
use Rattle.std.proofs.Common.{◌≡◌, ◌⊎◌, ℕ, zero, suc, ◌+◌, ◌<◌, ◌≤◌, ◌&&◌, Bool, true, false, not, List, [], ◌∷◌, ◌++◌, Result, Ok, Err, length, inl, inr, refl, sym, ap, ◌∙◌, subst, append_assoc, append-nil, arith, ◌-◌, ◌==◌, ◌||◌}
use Rattle.std.specs.Prelude.{nat_le}
use Rattle.std.specs.List.{AllByRecursion}
use Rattle.plan_net.specs.Successors.{arcs_from, IsRow, arcs_of_rows}
use Rattle.std.proofs.lemmas.Bool.{eqb-true}
use Rattle.plan_psplib.specs.declared.text.fault.FileCode.{FileCode}
use Rattle.plan_psplib.specs.declared.text.fault.FileCode.TheVariants as code
use Rattle.plan_psplib.specs.declared.text.fault.Fault.{Fault}
use Rattle.plan_psplib.specs.Streams.{Stream}
use Rattle.plan_psplib.specs.Tokens.{LineNumber, check, number_at, expect_at, end_at}
use Rattle.plan_psplib.specs.Precedence.{is_among, job_at, successor_at, successors_at, precedence_row_at, precedence_rows_at, precedence}
use Rattle.plan_psplib.specs.Says.{precedence_numbers}
use Rattle.plan_psplib.specs.Places.{IsInRow, IsAtSuccessor, IsBegunPrecedence, IsWholePrecedence, IsAtJob, IsAtModes, IsAtCount}
use Rattle.plan_psplib.specs.Causes.{NextIs, PrecedenceStops, StopsIn, GoesOnAt}
use Rattle.plan_psplib.proofs.GoesLemmas.{Goes, goes_append, then_ok, same_ok, number_goes, expect_goes, goes_split, ok_bind, ok_check, true_between, goes_expect, goes_number}
use Rattle.plan_psplib.proofs.ArcsLemmas.{AreNew, AreNew-push, new_is_row, successor_goes, row_goes, row_is_row, rows_goes, rows_are, goes_successor, goes_row, goes_rows, are_rows, row_is_new, nothing_before}
use Rattle.plan_psplib.proofs.FailLemmas.{then_err, check_err, outside, next_is, stop_at, number_stops, expect_stops, end_stops, all_push, length_push, goes_push, ok_then, err_then, err_check, bad_number, no_number, next_read, bad_expect, other_expect, more_end, not_between}

-- the precedence section of n jobs stops with this error
abbrev pub StopsAsPrecedence : ℕ → Stream → Fault → Type 0
StopsAsPrecedence n o f = StopsIn (PrecedenceStops n) o f.code f.line

begun_stops : (n : ℕ) (o s : Stream) (done : List ℕ) (f : Fault) → Goes o done s → IsBegunPrecedence n done → number_at s ≡ Err f → StopsAsPrecedence n o f
begun_stops n o s done f g h e = number_stops (PrecedenceStops n) o s done f g (λ line next. (h, next)) (λ line over. inl (h, over)) e

-- ---- successors

job_stops : (n : ℕ) (o s : Stream) (done listed : List ℕ) (f : Fault) → Goes o done s → IsAtSuccessor n done listed → job_at n s ≡ Err f → StopsAsPrecedence n o f
unfolding job_at
job_stops n o s done listed f g at e =
    then_err (number_at s) _ f e (λ e. begun_stops n o s done f g (inr (inr (inr (listed, at)))) e) (λ x read e.
    then_err (check (nat_le 1 x.0.value && nat_le x.0.value n) code.JobOrder x.0.line) _ f e
    (λ e. let both = check_err (nat_le 1 x.0.value && nat_le x.0.value n) code.JobOrder x.0.line f e in
    stop_at (PrecedenceStops n) o s done code.JobOrder x.0.line f g both.1
    (inr (listed, at, next_is s x (λ m. (m < 1) ⊎ (n < m)) read (outside 1 n x.0.value both.0))))
    (λ u holds e. absurd (cc)))

not_false : (b : Bool) → not b ≡ false → b ≡ true
not_false true e = refl
not_false false e = absurd (cc)

-- the job that is read is the next number
job_next : (n : ℕ) (s : Stream) (x : LineNumber × Stream) (P : ℕ → Type 0) → job_at n s ≡ Ok x → P x.0.value → NextIs s x.0.line P
unfolding job_at
job_next n s x P e holds =
    then_ok (number_at s) _ x e (λ y read e.
    then_ok (check (nat_le 1 y.0.value && nat_le y.0.value n) code.JobOrder y.0.line) _ x e (λ u fits e.
    let same : y ≡ x = same_ok y x e in
    next_is s x P (read ∙ ap (λ (z : LineNumber × Stream). let r : Result (LineNumber × Stream) Fault = Ok z in r) same) holds))

successor_stops : (n : ℕ) (o s : Stream) (done listed : List ℕ) (f : Fault) → Goes o done s → IsAtSuccessor n done listed → successor_at n listed s ≡ Err f → StopsAsPrecedence n o f
unfolding successor_at
successor_stops n o s done listed f g at e =
    then_err (job_at n s) _ f e (λ e. job_stops n o s done listed f g at e) (λ x read e.
    then_err (check (not (is_among listed x.0.value)) code.Double x.0.line) _ f e
    (λ e. let both = check_err (not (is_among listed x.0.value)) code.Double x.0.line f e in
    stop_at (PrecedenceStops n) o s done code.Double x.0.line f g both.1
    (listed, at, job_next n s x (λ m. is_among listed m ≡ true) read (not_false (is_among listed x.0.value) both.0)))
    (λ u holds e. absurd (cc)))

-- ---- rows

-- the rows of the jobs before this one of n jobs
abbrev AreBefore : ℕ → ℕ → List (List ℕ) → Type 0
AreBefore n job rows = (job ≡ length rows + 1) × (job ≤ n) × AllByRecursion (IsRow n) rows

in_row : (n job : ℕ) (rows : List (List ℕ)) (own : List ℕ) → AreBefore n job rows → IsInRow n (precedence_numbers 1 rows ++ own) job own
in_row n job rows own are = (rows, are.0, are.1, are.2, refl)

successors_stop : (n job count more : ℕ) (rows : List (List ℕ)) (listed : List ℕ) (o s : Stream) (f : Fault)
    → AreBefore n job rows → length listed + more ≡ count → AreNew n [] listed
    → Goes o (precedence_numbers 1 rows ++ (job ∷ 1 ∷ count ∷ listed)) s
    → successors_at n more listed s ≡ Err f → StopsAsPrecedence n o f
unfolding successors_at
successors_stop n job count zero rows listed o s f are long new g e = absurd (cc)
successors_stop n job count (suc more) rows listed o s f are long new g e =
    let done = precedence_numbers 1 rows ++ (job ∷ 1 ∷ count ∷ listed) in
    let at : IsAtSuccessor n done listed = (job, count, in_row n job rows (job ∷ 1 ∷ count ∷ listed) are, omega (arith, long), (new_is_row n [] listed new).1) in
    then_err (successor_at n listed s) _ f e (λ e. successor_stops n o s done listed f g at e) (λ y read e.
    let one = successor_goes n listed s y read in
    let pushed = length_push listed y.0 in
    successors_stop n job count more rows (listed ++ y.0 ∷ []) o y.1 f are (omega (arith, long, pushed)) (AreNew-push n [] listed y.0 new one.1 one.2 one.3)
    (goes_push o s y.1 (precedence_numbers 1 rows) (job ∷ 1 ∷ count ∷ listed) (y.0 ∷ []) g one.0) e)

row_stops : (n job : ℕ) (rows : List (List ℕ)) (o s : Stream) (f : Fault) → AreBefore n job rows → Goes o (precedence_numbers 1 rows ++ []) s
    → precedence_row_at n job s ≡ Err f → StopsAsPrecedence n o f
unfolding precedence_row_at
row_stops n job rows o s f are g e =
    let P = PrecedenceStops n in
    let whole = precedence_numbers 1 rows in
    let at_job = in_row n job rows [] are in
    let at_modes = in_row n job rows (job ∷ []) are in
    let at_count = in_row n job rows (job ∷ 1 ∷ []) are in
    then_err (expect_at job code.JobOrder s) _ f e
    (λ e. expect_stops P job code.JobOrder o s (whole ++ []) f g (λ line next. (inl (job, at_job), next)) (λ line over. inl (inl (job, at_job), over)) (λ line next. inl (job, at_job, next)) e) (λ a first e.
    let ga = goes_push o s a whole [] (job ∷ []) g (expect_goes job code.JobOrder s a first) in
    then_err (expect_at 1 code.Modes a) _ f e
    (λ e. expect_stops P 1 code.Modes o a (whole ++ (job ∷ [])) f ga (λ line next. (inr (inl (job, at_modes)), next)) (λ line over. inl (inr (inl (job, at_modes)), over)) (λ line next. ((job, at_modes), next)) e) (λ b second e.
    let gb = goes_push o a b whole (job ∷ []) (1 ∷ []) ga (expect_goes 1 code.Modes a b second) in
    then_err (number_at b) _ f e (λ e. begun_stops n o b (whole ++ (job ∷ 1 ∷ [])) f gb (inr (inr (inl (job, at_count)))) e) (λ d third e.
    let gd = goes_push o b d.1 whole (job ∷ 1 ∷ []) (d.0.value ∷ []) gb (number_goes b d third) in
    successors_stop n job d.0.value d.0.value rows [] o d.1 f are (omega arith) tt gd e)))

numbers_push : (i job : ℕ) (rows : List (List ℕ)) (row : List ℕ) → job ≡ i + length rows
    → precedence_numbers i (rows ++ row ∷ []) ≡ precedence_numbers i rows ++ (job ∷ 1 ∷ length row ∷ row)
numbers_push i job [] row e =
    let same : i ≡ job = omega (arith, e) in
    append-nil (i ∷ 1 ∷ length row ∷ row) ∙ ap (λ j. j ∷ 1 ∷ length row ∷ row) same
numbers_push i job (x ∷ rows) row e =
    ap (λ rest. (i ∷ 1 ∷ length x ∷ x) ++ rest) (numbers_push (i + 1) job rows row (omega (arith, e)))
    ∙ sym (append_assoc (i ∷ 1 ∷ length x ∷ x) (precedence_numbers (i + 1) rows) (job ∷ 1 ∷ length row ∷ row))

rows_stop : (n more job : ℕ) (arcs : List (ℕ × ℕ)) (rows : List (List ℕ)) (o s : Stream) (f : Fault)
    → job ≡ length rows + 1 → length rows + more ≡ n → AllByRecursion (IsRow n) rows → Goes o (precedence_numbers 1 rows) s
    → precedence_rows_at n more job arcs s ≡ Err f → StopsAsPrecedence n o f
unfolding precedence_rows_at
rows_stop n zero job arcs rows o s f next count are g e = absurd (cc)
rows_stop n (suc more) job arcs rows o s f next count are g e =
    let whole = precedence_numbers 1 rows in
    then_err (precedence_row_at n job s) _ f e
    (λ e. row_stops n job rows o s f (next, omega (arith, next, count), are) (subst (λ (done : List ℕ). Goes o done s) (sym (append-nil whole)) g) e) (λ y read e.
    let all = goes_append o s y.1 whole (job ∷ 1 ∷ length y.0 ∷ y.0) g (row_goes n job s y read).0 in
    let pushed = length_push rows y.0 in
    rows_stop n more (job + 1) (arcs ++ arcs_from job y.0) (rows ++ y.0 ∷ []) o y.1 f (omega (arith, next, pushed)) (omega (arith, count, pushed))
    (all_push (IsRow n) rows y.0 are (row_is_row n job s y.1 y.0 read))
    (subst (λ (done : List ℕ). Goes o done y.1) (sym (numbers_push 1 job rows y.0 (omega (arith, next)))) all) e)

pub precedence_stops : (n : ℕ) (s : Stream) (f : Fault) → precedence n s ≡ Err f → StopsAsPrecedence n s f
unfolding precedence
precedence_stops n s f e =
    then_err (precedence_rows_at n n 1 [] s) _ f e (λ e. rows_stop n n 1 [] [] s s f refl (omega arith) tt refl e) (λ x read e.
    then_err (end_at x.1) _ f e
    (λ e. let rows = rows_goes n n 1 [] s x read in
    end_stops (PrecedenceStops n) s x.1 (precedence_numbers 1 rows.0) f rows.3 (λ line more. inr ((rows.0, rows.1, rows_are n rows.0 rows.2, refl), more)) e)
    (λ u left e. absurd (cc)))

-- ---- a section that stops isn't read

successors_read : (n more : ℕ) (before listed : List ℕ) (s t : Stream) → Goes s listed t → AreNew n before listed
    → successors_at n (length listed + more) before s ≡ successors_at n more (before ++ listed) t
unfolding successors_at
successors_read n more before [] s t p new =
    let none : length {A = ℕ} [] + more ≡ more = omega arith in
    ap (λ m. successors_at n m before s) none ∙ ap (λ (u : Stream). successors_at n more before u) (sym p) ∙ ap (λ (xs : List ℕ). successors_at n more xs t) (sym (append-nil before))
successors_read n more before (j ∷ js) s t p new =
    let mid : Stream = record { last = p.0.line; words = p.1 } in
    let one : length (j ∷ js) + more ≡ suc (length js + more) = omega arith in
    ap (λ m. successors_at n m before s) one ∙ ok_then (successor_at n before s) _ (j, mid) (successors_at n more (before ++ j ∷ js) t) (goes_successor n j before s mid (p.0, p.1, p.2, p.3, refl) new.0 new.1 new.2)
    (successors_read n more (before ++ j ∷ []) js mid t p.4 new.3 ∙ ap (λ (xs : List ℕ). successors_at n more xs t) (append_assoc before (j ∷ []) js))

rows_read : (n more job : ℕ) (arcs : List (ℕ × ℕ)) (rows : List (List ℕ)) (s t : Stream) → Goes s (precedence_numbers job rows) t → AllByRecursion (AreNew n []) rows
    → precedence_rows_at n (length rows + more) job arcs s ≡ precedence_rows_at n more (job + length rows) (arcs ++ arcs_of_rows job rows) t
unfolding precedence_rows_at
rows_read n more job arcs [] s t p are =
    let none : length {A = List ℕ} [] + more ≡ more = omega arith in
    ap (λ m. precedence_rows_at n m job arcs s) none ∙ ap (λ (u : Stream). precedence_rows_at n more job arcs u) (sym p) ∙ ap (λ (xs : List (ℕ × ℕ)). precedence_rows_at n more job xs t) (sym (append-nil arcs))
    ∙ ap (λ j. precedence_rows_at n more j (arcs ++ []) t) (omega arith)
rows_read n more job arcs (row ∷ rows) s t p are =
    let a = goes_split s t (job ∷ 1 ∷ length row ∷ row) (precedence_numbers (job + 1) rows) p in
    let all = arcs ++ (arcs_from job row ++ arcs_of_rows (job + 1) rows) in
    let one : length (row ∷ rows) + more ≡ suc (length rows + more) = omega arith in
    ap (λ m. precedence_rows_at n m job arcs s) one ∙ ok_then (precedence_row_at n job s) _ (row, a.0) (precedence_rows_at n more (job + suc (length rows)) all t) (goes_row n job row s a.0 a.1 are.0)
    (rows_read n more (job + 1) (arcs ++ arcs_from job row) rows a.0 t a.2 are.1
    ∙ ap (λ (xs : List (ℕ × ℕ)). precedence_rows_at n more ((job + 1) + length rows) xs t) (append_assoc arcs (arcs_from job row) (arcs_of_rows (job + 1) rows))
    ∙ ap (λ j. precedence_rows_at n more j all t) (omega arith))

-- the row of this job isn't read
row_fails : (n job : ℕ) (rows : List (List ℕ)) (s t : Stream) (f : Fault) → job ≡ length rows + 1 → job ≤ n → AllByRecursion (IsRow n) rows
    → Goes s (precedence_numbers 1 rows) t → precedence_row_at n job t ≡ Err f → precedence n s ≡ Err f
unfolding precedence precedence_rows_at
row_fails n job rows s t f next fits are p e =
    let more = n - job in
    let arcs = arcs_of_rows 1 rows in
    let count : n ≡ length rows + suc more = omega (arith, next, fits) in
    let here : job ≡ 1 + length rows = omega (arith, next) in
    err_then (precedence_rows_at n n 1 [] s) _ f (
    ap (λ m. precedence_rows_at n m 1 [] s) count ∙ rows_read n (suc more) 1 [] rows s t p (are_rows n rows are)
    ∙ ap (λ j. precedence_rows_at n (suc more) j arcs t) (sym here)
    ∙ err_then (precedence_row_at n job t) _ f e)

-- a place in the row of this job, and how the row is read up to it
at_job_fails : (n job : ℕ) (s t : Stream) (before : List ℕ) (f : Fault) → IsAtJob n before job → Goes s before t → expect_at job code.JobOrder t ≡ Err f → precedence n s ≡ Err f
unfolding precedence_row_at
at_job_fails n job s t before f (rows, next, fits, are, is) p e =
    let a : Goes s (precedence_numbers 1 rows) t = subst (λ (ns : List ℕ). Goes s ns t) (is ∙ append-nil (precedence_numbers 1 rows)) p in
    row_fails n job rows s t f next fits are a (err_then (expect_at job code.JobOrder t) _ f e)

at_modes_fails : (n : ℕ) (s t : Stream) (before : List ℕ) (f : Fault) → IsAtModes n before → Goes s before t → expect_at 1 code.Modes t ≡ Err f → precedence n s ≡ Err f
unfolding precedence_row_at
at_modes_fails n s t before f (job, (rows, next, fits, are, is)) p e =
    let a = goes_split s t (precedence_numbers 1 rows) (job ∷ []) (subst (λ (ns : List ℕ). Goes s ns t) is p) in
    row_fails n job rows s a.0 f next fits are a.1
    (ok_then (expect_at job code.JobOrder a.0) _ t (Err f) (goes_expect job code.JobOrder a.0 t a.2) (err_then (expect_at 1 code.Modes t) _ f e))

at_count_fails : (n : ℕ) (s t : Stream) (before : List ℕ) (f : Fault) → IsAtCount n before → Goes s before t → number_at t ≡ Err f → precedence n s ≡ Err f
unfolding precedence_row_at
at_count_fails n s t before f (job, (rows, next, fits, are, is)) p e =
    let a = goes_split s t (precedence_numbers 1 rows) (job ∷ 1 ∷ []) (subst (λ (ns : List ℕ). Goes s ns t) is p) in
    let b = goes_split a.0 t (job ∷ []) (1 ∷ []) a.2 in
    row_fails n job rows s a.0 f next fits are a.1
    (ok_then (expect_at job code.JobOrder a.0) _ b.0 (Err f) (goes_expect job code.JobOrder a.0 b.0 b.1)
    (ok_then (expect_at 1 code.Modes b.0) _ t (Err f) (goes_expect 1 code.Modes b.0 t b.2) (err_then (number_at t) _ f e)))

at_successor_fails : (n : ℕ) (s t : Stream) (before listed : List ℕ) (f : Fault) → IsAtSuccessor n before listed → Goes s before t → successor_at n listed t ≡ Err f → precedence n s ≡ Err f
unfolding precedence_row_at successors_at
at_successor_fails n s t before listed f (job, count, (rows, next, fits, are, is), long, row) p e =
    let a = goes_split s t (precedence_numbers 1 rows) (job ∷ 1 ∷ count ∷ listed) (subst (λ (ns : List ℕ). Goes s ns t) is p) in
    let b = goes_split a.0 t (job ∷ []) (1 ∷ count ∷ listed) a.2 in
    let c = goes_split b.0 t (1 ∷ []) (count ∷ listed) b.2 in
    let d = goes_split c.0 t (count ∷ []) listed c.2 in
    let more = count - suc (length listed) in
    let counted : count ≡ length listed + suc more = omega (arith, long) in
    let new = row_is_new n [] listed (nothing_before listed) row in
    row_fails n job rows s a.0 f next fits are a.1
    (ok_then (expect_at job code.JobOrder a.0) _ b.0 (Err f) (goes_expect job code.JobOrder a.0 b.0 b.1)
    (ok_then (expect_at 1 code.Modes b.0) _ c.0 (Err f) (goes_expect 1 code.Modes b.0 c.0 c.1)
    (ok_then (number_at c.0) _ (record { value = count; line = d.0.last }, d.0) (Err f) (goes_number c.0 d.0 count d.1)
    (ap (λ m. successors_at n m [] d.0) counted ∙ successors_read n (suc more) [] listed d.0 t d.2 new ∙ err_then (successor_at n listed t) _ f e))))

bad_job : (n : ℕ) (s : Stream) (f : Fault) → number_at s ≡ Err f → job_at n s ≡ Err f
unfolding job_at
bad_job n s f e = err_then (number_at s) _ f e

bad_successor : (n : ℕ) (listed : List ℕ) (s : Stream) (f : Fault) → job_at n s ≡ Err f → successor_at n listed s ≡ Err f
unfolding successor_at
bad_successor n listed s f e = err_then (job_at n s) _ f e

no_job : (n : ℕ) (s : Stream) (line : ℕ) → NextIs s line (λ m. (m < 1) ⊎ (n < m)) → job_at n s ≡ Err (record { code = code.JobOrder; line = line })
unfolding job_at
no_job n s line next =
    let x = next_read s line (λ m. (m < 1) ⊎ (n < m)) next in
    ok_then (number_at s) _ (record { value = x.value; line = line }, x.rest) (Err (record { code = code.JobOrder; line = line })) x.read
    (err_then (check (nat_le 1 x.value && nat_le x.value n) code.JobOrder line) _ (record { code = code.JobOrder; line = line })
    (err_check (nat_le 1 x.value && nat_le x.value n) code.JobOrder line (not_between 1 n x.value x.holds)))

among_inside : (n : ℕ) (jobs : List ℕ) (j : ℕ) → AllByRecursion (λ i. (1 ≤ i) × (i ≤ n)) jobs → is_among jobs j ≡ true → (1 ≤ j) × (j ≤ n)
among_inside n [] j are e = absurd (cc)
among_inside n (i ∷ jobs) j are e =
    elim (either (i == j) (is_among jobs j) e) [
      | inl same ↦ let is = eqb-true i j same in let low = are.0.0 in let high = are.0.1 in (omega (arith, is, low), omega (arith, is, high))
      | inr among ↦ among_inside n jobs j are.1 among
    ]
  where
    either : (a b : Bool) → (a || b) ≡ true → (a ≡ true) ⊎ (b ≡ true)
    either true b e = inl refl
    either false b e = inr e

-- a job that the row has listed
double : (n : ℕ) (listed : List ℕ) (s : Stream) (line : ℕ) → NextIs s line (λ m. is_among listed m ≡ true) → IsRow n listed
    → successor_at n listed s ≡ Err (record { code = code.Double; line = line })
unfolding successor_at job_at
double n listed s line next row =
    let x = next_read s line (λ m. is_among listed m ≡ true) next in
    let job : LineNumber × Stream = (record { value = x.value; line = line }, x.rest) in
    let inside = among_inside n listed x.value row.0 x.holds in
    ok_then (job_at n s) _ job (Err (record { code = code.Double; line = line }))
    (ok_bind (number_at s) _ job job x.read (ok_bind (check (nat_le 1 x.value && nat_le x.value n) code.JobOrder line) _ tt job (ok_check _ code.JobOrder line (true_between 1 n x.value inside.0 inside.1)) refl))
    (err_then (check (not (is_among listed x.value)) code.Double line) _ (record { code = code.Double; line = line })
    (err_check (not (is_among listed x.value)) code.Double line (ap not x.holds)))

begun_fails : (n : ℕ) (s t : Stream) (before : List ℕ) (f : Fault) → IsBegunPrecedence n before → Goes s before t → number_at t ≡ Err f → precedence n s ≡ Err f
begun_fails n s t before f (inl (job, at)) p e = at_job_fails n job s t before f at p (bad_expect job code.JobOrder t f e)
begun_fails n s t before f (inr (inl at)) p e = at_modes_fails n s t before f at p (bad_expect 1 code.Modes t f e)
begun_fails n s t before f (inr (inr (inl at))) p e = at_count_fails n s t before f at p e
begun_fails n s t before f (inr (inr (inr (listed, at)))) p e = at_successor_fails n s t before listed f at p (bad_successor n listed t f (bad_job n t f e))

whole_fails : (n : ℕ) (s t : Stream) (before : List ℕ) (line : ℕ) → IsWholePrecedence n before → Goes s before t → GoesOnAt t line → precedence n s ≡ Err (record { code = code.Count; line = line })
unfolding precedence
whole_fails n s t before line (rows, count, are, is) p more =
    let f : Fault = record { code = code.Count; line = line } in
    let arcs = arcs_of_rows 1 rows in
    let read : precedence_rows_at n n 1 [] s ≡ Ok (arcs, t) =
    ap (λ m. precedence_rows_at n m 1 [] s) (sym count)
    ∙ goes_rows n 1 [] rows s t (subst (λ (ns : List ℕ). Goes s ns t) is p) (are_rows n rows are) in
    ok_then (precedence_rows_at n n 1 [] s) _ (arcs, t) (Err f) read (err_then (end_at t) _ f (more_end t line more))

-- where the section stops, the reading stops with the same error
pub stops_precedence : (n : ℕ) (s : Stream) (c : FileCode) (line : ℕ) → StopsIn (PrecedenceStops n) s c line → precedence n s ≡ Err (record { code = c; line = line })
stops_precedence n s code.BadNumber line (before, t, p, (h, next)) = begun_fails n s t before (record { code = code.BadNumber; line = line }) h p (bad_number t line next)
stops_precedence n s code.JobOrder line (before, t, p, inl (job, at, next)) =
    at_job_fails n job s t before (record { code = code.JobOrder; line = line }) at p (other_expect job code.JobOrder t line next)
stops_precedence n s code.JobOrder line (before, t, p, inr (listed, at, next)) =
    let f : Fault = record { code = code.JobOrder; line = line } in
    at_successor_fails n s t before listed f at p (bad_successor n listed t f (no_job n t line next))
stops_precedence n s code.Modes line (before, t, p, (at, next)) =
    at_modes_fails n s t before (record { code = code.Modes; line = line }) at p (other_expect 1 code.Modes t line next)
stops_precedence n s code.Count line (before, t, p, inl (h, over)) = begun_fails n s t before (record { code = code.Count; line = line }) h p (no_number t line over)
stops_precedence n s code.Count line (before, t, p, inr (h, more)) = whole_fails n s t before line h p more
stops_precedence n s code.Double line (before, t, p, (listed, at, next)) =
    at_successor_fails n s t before listed (record { code = code.Double; line = line }) at p (double n listed t line next at.4)
stops_precedence n s code.TooLong line (before, t, p, h) = absurd h
stops_precedence n s code.NotText line (before, t, p, h) = absurd h
stops_precedence n s code.MissingHead line (before, t, p, h) = absurd h
stops_precedence n s code.Unsupported line (before, t, p, h) = absurd h
stops_precedence n s code.MissingSection line (before, t, p, h) = absurd h
stops_precedence n s code.Limit line (before, t, p, h) = absurd h
stops_precedence n s code.Cycle line (before, t, p, h) = absurd h
stops_precedence n s code.NoInstance line (before, t, p, h) = absurd h
stops_precedence n s code.BadMachine line (before, t, p, h) = absurd h
stops_precedence n s code.Memory line (before, t, p, h) = absurd h
