-- The word at which the requests section or the availabilities stop.
use Rattle.std.proofs.Common.{◌≡◌, ◌⊎◌, ℕ, zero, suc, ◌+◌, ◌<◌, ◌≤◌, ◌&&◌, false, List, [], ◌∷◌, ◌++◌, Err, length, sum, inl, inr, refl, sym, ap, ◌∙◌, subst, append_assoc, append-nil, arith, ◌-◌, Bool, true, Ok}
use Rattle.std.specs.Prelude.{nat_le}
use Rattle.std.specs.List.{AllByRecursion}
use Rattle.std.proofs.lemmas.Bool.{leb-false}
use Rattle.std.proofs.lemmas.List.Sums.{sum_by_push, sum_by-cons}
use Rattle.plan_psplib.specs.declared.text.fault.FileCode.{FileCode}
use Rattle.plan_psplib.specs.declared.text.fault.FileCode.TheVariants as code
use Rattle.plan_psplib.specs.declared.text.fault.Fault.{Fault}
use Rattle.plan_psplib.specs.Streams.{Stream}
use Rattle.plan_psplib.specs.Tokens.{check, number_at, expect_at, duration_at, end_at, greatest, greatest_total, within_at}
use Rattle.plan_psplib.specs.Requests.{Requests, amounts_at, request_row_at, request_rows_at, with_row, requests, availabilities, Request}
use Rattle.plan_psplib.specs.Says.{IsNeeds, request_numbers}
use Rattle.plan_psplib.specs.Places.{AreRequests, IsInRequest, IsAtDuration, IsAtRequest, IsAtMode, IsAtNeed, AreFirstAmounts, AreBegunRequests, AreWholeRequests}
use Rattle.plan_psplib.specs.Causes.{RequestsStop, AvailabilitiesStop, StopsIn, NextIs, GoesOnAt}
use Rattle.plan_psplib.proofs.GoesLemmas.{Goes, goes_append, expect_goes, goes_split, goes_expect}
use Rattle.plan_psplib.proofs.AmountsLemmas.{amounts_goes, duration_goes, request_goes, requests_goes, none, behind, behind-nil, behind-with_row, sum_behind, goes_request, goes_requests, goes_amounts, goes_duration}
use Rattle.plan_psplib.proofs.FailLemmas.{then_err, check_err, both_false, next_is, stop_at, number_stops, expect_stops, end_stops, amounts_stop, all_push, length_push, goes_push, ok_then, err_then, err_check, bad_number, no_number, next_read, bad_expect, other_expect, more_end, above_false, bad_within, beyond_within, amounts_fail}

-- the requests section of n jobs and k resources stops with this error
abbrev pub StopsAsRequests : ℕ → ℕ → Stream → Fault → Type 0
StopsAsRequests n k o f = StopsIn (RequestsStop n k) o f.code f.line

-- the requests of the jobs before this one of n jobs
abbrev AreBefore : ℕ → ℕ → ℕ → List ℕ → List (List ℕ) → Type 0
AreBefore n k job durations needs = (job ≡ length durations + 1) × (job ≤ n) × AreRequests k durations needs

in_request : (n k job : ℕ) (durations : List ℕ) (needs : List (List ℕ)) (own : List ℕ) → AreBefore n k job durations needs
    → IsInRequest n k (request_numbers 1 durations needs ++ own) job durations own
in_request n k job durations needs own are = (needs, are.0, are.1, are.2, refl)

duration_stops : (n k : ℕ) (o s : Stream) (done durations : List ℕ) (f : Fault) → Goes o done s → IsAtDuration n k done durations
    → duration_at (sum durations) s ≡ Err f → StopsAsRequests n k o f
unfolding duration_at
duration_stops n k o s done durations f g at e =
    let P = RequestsStop n k in
    then_err (number_at s) _ f e
    (λ e. number_stops P o s done f g (λ line next. (inr (inr (inl (durations, at))), next)) (λ line over. inl (inr (inr (inl (durations, at))), over)) e) (λ x read e.
    then_err (check (nat_le x.0.value greatest && nat_le (sum durations + x.0.value) greatest_total) code.Limit x.0.line) _ f e
    (λ e. let both = check_err (nat_le x.0.value greatest && nat_le (sum durations + x.0.value) greatest_total) code.Limit x.0.line f e in
    stop_at P o s done code.Limit x.0.line f g both.1 (inl (
      durations,
      at,
      next_is s x (λ m. (greatest < m) ⊎ (greatest_total < sum durations + m)) read
          (beyond x.0.value (both_false (nat_le x.0.value greatest) (nat_le (sum durations + x.0.value) greatest_total) both.0)),
    )))
    (λ u holds e. absurd (cc)))
  where
    beyond : (m : ℕ) → (nat_le m greatest ≡ false) ⊎ (nat_le (sum durations + m) greatest_total ≡ false) → (greatest < m) ⊎ (greatest_total < sum durations + m)
    beyond m (inl high) = inl (leb-false m greatest high)
    beyond m (inr high) = inr (leb-false (sum durations + m) greatest_total high)

request_stops : (n k job : ℕ) (durations : List ℕ) (needs : List (List ℕ)) (o s : Stream) (f : Fault) → AreBefore n k job durations needs
    → Goes o (request_numbers 1 durations needs ++ []) s → request_row_at k job (sum durations) s ≡ Err f → StopsAsRequests n k o f
unfolding request_row_at
request_stops n k job durations needs o s f are g e =
    let P = RequestsStop n k in
    let whole = request_numbers 1 durations needs in
    let at_job = in_request n k job durations needs [] are in
    let at_mode = in_request n k job durations needs (job ∷ []) are in
    let at_time = in_request n k job durations needs (job ∷ 1 ∷ []) are in
    then_err (expect_at job code.JobOrder s) _ f e
    (λ e. expect_stops P job code.JobOrder o s (whole ++ []) f g (λ line next. (inl (job, (durations, at_job)), next)) (λ line over. inl (inl (job, (durations, at_job)), over)) (λ line next. (job, (durations, at_job), next)) e) (λ a first e.
    let ga = goes_push o s a whole [] (job ∷ []) g (expect_goes job code.JobOrder s a first) in
    then_err (expect_at 1 code.Modes a) _ f e
    (λ e. expect_stops P 1 code.Modes o a (whole ++ (job ∷ [])) f ga (λ line next. (inr (inl (job, durations, at_mode)), next)) (λ line over. inl (inr (inl (job, durations, at_mode)), over)) (λ line next. ((job, durations, at_mode), next)) e) (λ b second e.
    let gb = goes_push o a b whole (job ∷ []) (1 ∷ []) ga (expect_goes 1 code.Modes a b second) in
    then_err (duration_at (sum durations) b) _ f e (λ e. duration_stops n k o b (whole ++ (job ∷ 1 ∷ [])) durations f gb (job, at_time) e) (λ d third e.
    let time = duration_goes (sum durations) b d third in
    let front = whole ++ (job ∷ 1 ∷ d.0 ∷ []) in
    let gd : Goes o front d.1 = goes_push o b d.1 whole (job ∷ 1 ∷ []) (d.0 ∷ []) gb time.0 in
    let at : (ns : List ℕ) → IsInRequest n k (front ++ ns) job durations (job ∷ 1 ∷ d.0 ∷ ns) =
    λ ns. (needs, are.0, are.1, are.2, append_assoc whole (job ∷ 1 ∷ d.0 ∷ []) ns) in
    then_err (amounts_at k [] d.1) _ f e
    (λ e. amounts_stop P k k front [] o d.1 f
    (λ ns t line first next. (inr (inr (inr (job, durations, d.0, ns, at ns, time.1, time.2, first))), next))
    (λ ns t line first over. inl (inr (inr (inr (job, durations, d.0, ns, at ns, time.1, time.2, first))), over))
    (λ ns t line first next. inr ((job, durations, d.0, ns, at ns, time.1, time.2, first), next))
    (omega arith) tt (subst (λ (done : List ℕ). Goes o done d.1) (sym (append-nil front)) gd) e)
    (λ ns fourth e. absurd (cc)))))

numbers_push : (i job : ℕ) (durations : List ℕ) (needs : List (List ℕ)) (d : ℕ) (own : List ℕ) → length needs ≡ length durations → job ≡ i + length durations
    → request_numbers i (durations ++ d ∷ []) (needs ++ own ∷ []) ≡ request_numbers i durations needs ++ (job ∷ 1 ∷ d ∷ own)
numbers_push i job [] [] d own same e =
    let is : i ≡ job = omega (arith, e) in
    append-nil (i ∷ 1 ∷ d ∷ own) ∙ ap (λ j. j ∷ 1 ∷ d ∷ own) is
numbers_push i job [] (n ∷ needs) d own same e = absurd (omega (arith, same))
numbers_push i job (x ∷ durations) [] d own same e = absurd (omega (arith, same))
numbers_push i job (x ∷ durations) (n ∷ needs) d own same e =
    ap (λ rest. (i ∷ 1 ∷ x ∷ n) ++ rest) (numbers_push (i + 1) job durations needs d own (omega (arith, same)) (omega (arith, e)))
    ∙ sym (append_assoc (i ∷ 1 ∷ x ∷ n) (request_numbers (i + 1) durations needs) (job ∷ 1 ∷ d ∷ own))

are_push : (k : ℕ) (durations : List ℕ) (needs : List (List ℕ)) (d : ℕ) (own : List ℕ) → AreRequests k durations needs
    → d ≤ greatest → sum durations + d ≤ greatest_total → IsNeeds k own → AreRequests k (durations ++ d ∷ []) (needs ++ own ∷ [])
are_push k durations needs d own are small fits is =
    let a = length_push durations d in
    let b = length_push needs own in
    let same = are.0 in
    let total = sum_by_push (λ n. n) durations d in
    (omega (arith, a, b, same), all_push (λ x. x ≤ greatest) durations d are.1 small, omega (arith, total, fits), all_push (IsNeeds k) needs own are.3 is)

rows_stop : (n k more job : ℕ) (rows : Requests) (o s : Stream) (f : Fault)
    → job ≡ length rows.durations + 1 → length rows.durations + more ≡ n → AreRequests k rows.durations rows.needs
    → Goes o (request_numbers 1 rows.durations rows.needs) s → request_rows_at k more job rows s ≡ Err f → StopsAsRequests n k o f
unfolding request_rows_at
rows_stop n k zero job rows o s f next count are g e = absurd (cc)
rows_stop n k (suc more) job rows o s f next count are g e =
    let whole = request_numbers 1 rows.durations rows.needs in
    then_err (request_row_at k job (sum rows.durations) s) _ f e
    (λ e. request_stops n k job rows.durations rows.needs o s f (next, omega (arith, next, count), are) (subst (λ (done : List ℕ). Goes o done s) (sym (append-nil whole)) g) e) (λ y read e.
    let one = request_goes k job (sum rows.durations) s y read in
    let all = goes_append o s y.1 whole (job ∷ 1 ∷ y.0.duration ∷ y.0.needs) g one.0 in
    let pushed = length_push rows.durations y.0.duration in
    rows_stop n k more (job + 1) (with_row rows y.0) o y.1 f (omega (arith, next, pushed)) (omega (arith, count, pushed))
    (are_push k rows.durations rows.needs y.0.duration y.0.needs are one.1 one.2 one.3)
    (subst (λ (done : List ℕ). Goes o done y.1) (sym (numbers_push 1 job rows.durations rows.needs y.0.duration y.0.needs are.0 (omega (arith, next)))) all) e)

pub requests_stop : (n k : ℕ) (s : Stream) (f : Fault) → requests n k s ≡ Err f → StopsAsRequests n k s f
unfolding requests
requests_stop n k s f e =
    then_err (request_rows_at k n 1 none s) _ f e (λ e. rows_stop n k n 1 none s s f refl (omega arith) (refl, tt, omega arith, tt) refl e) (λ x read e.
    then_err (end_at x.1) _ f e
    (λ e. let rows = requests_goes k n 1 none s x (omega arith) read in
    let total = rows.3.total in
    let are : AreRequests k rows.0 rows.1 = (rows.3.needs_count ∙ sym rows.3.durations_count, rows.3.small, omega (arith, total), rows.3.each) in
    end_stops (RequestsStop n k) s x.1 (request_numbers 1 rows.0 rows.1) f rows.3.goes (λ line more. inr ((rows.0, rows.1, rows.3.durations_count, are, refl), more)) e)
    (λ u left e. absurd (cc)))

pub availabilities_stop : (k : ℕ) (s : Stream) (f : Fault) → availabilities k s ≡ Err f → StopsIn (AvailabilitiesStop k) s f.code f.line
unfolding availabilities
availabilities_stop k s f e =
    then_err (amounts_at k [] s) _ f e
    (λ e. amounts_stop (AvailabilitiesStop k) k k [] [] s s f (λ ns t line first next. (first, next)) (λ ns t line first over. inl (first, over)) (λ ns t line first next. (first, next)) (omega arith) tt refl e)
    (λ x read e.
    then_err (end_at x.1) _ f e
    (λ e. let all = amounts_goes k [] s x read in
    end_stops (AvailabilitiesStop k) s x.1 all.0 f all.3 (λ line more. inr ((all.2, all.4), more)) e)
    (λ u left e. absurd (cc)))

-- ---- a section that stops isn't read

rows_read : (k more job : ℕ) (rows : Requests) (ds : List ℕ) (nss : List (List ℕ)) (s t : Stream) → length nss ≡ length ds
    → Goes s (request_numbers job ds nss) t → AllByRecursion (λ d. d ≤ greatest) ds → sum rows.durations + sum ds ≤ greatest_total → AllByRecursion (IsNeeds k) nss
    → request_rows_at k (length ds + more) job rows s ≡ request_rows_at k more (job + length ds) (behind rows ds nss) t
unfolding request_rows_at
rows_read k more job rows [] [] s t same p small fits each =
    let none : length {A = ℕ} [] + more ≡ more = omega arith in
    ap (λ m. request_rows_at k m job rows s) none ∙ ap (λ (u : Stream). request_rows_at k more job rows u) (sym p) ∙ ap (λ (r : Requests). request_rows_at k more job r t) (behind-nil rows)
    ∙ ap (λ j. request_rows_at k more j (behind rows [] []) t) (omega arith)
rows_read k more job rows [] (ns ∷ nss) s t same p small fits each = absurd (omega (arith, same))
rows_read k more job rows (d ∷ ds) [] s t same p small fits each = absurd (omega (arith, same))
rows_read k more job rows (d ∷ ds) (ns ∷ nss) s t same p small fits each =
    let row : Request = record { duration = d; needs = ns } in
    let a = goes_split s t (job ∷ 1 ∷ d ∷ ns) (request_numbers (job + 1) ds nss) p in
    let sums = sum_behind rows.durations d ds in
    let all = sum_by-cons (λ n. n) d ds in
    let one : length (d ∷ ds) + more ≡ suc (length ds + more) = omega arith in
    ap (λ m. request_rows_at k m job rows s) one
    ∙ ok_then (request_row_at k job (sum rows.durations) s) _ (row, a.0) (request_rows_at k more (job + suc (length ds)) (behind rows (d ∷ ds) (ns ∷ nss)) t)
    (goes_request k job (sum rows.durations) row s a.0 a.1 small.0 (omega (arith, all, fits)) each.0)
    (rows_read k more (job + 1) (with_row rows row) ds nss a.0 t (omega (arith, same)) a.2 small.1 (omega (arith, sums, fits)) each.1
    ∙ ap (λ (r : Requests). request_rows_at k more ((job + 1) + length ds) r t) (behind-with_row rows row ds nss)
    ∙ ap (λ j. request_rows_at k more j (behind rows (d ∷ ds) (ns ∷ nss)) t) (omega arith))

-- the row of this job isn't read
row_fails : (n k job : ℕ) (durations : List ℕ) (needs : List (List ℕ)) (s t : Stream) (f : Fault) → job ≡ length durations + 1 → job ≤ n → AreRequests k durations needs
    → Goes s (request_numbers 1 durations needs) t → request_row_at k job (sum durations) t ≡ Err f → requests n k s ≡ Err f
unfolding requests request_rows_at
row_fails n k job durations needs s t f next fits are p e =
    let more = n - job in
    let count : n ≡ length durations + suc more = omega (arith, next, fits) in
    let here : job ≡ 1 + length durations = omega (arith, next) in
    let total = are.2 in
    let rows = behind none durations needs in
    err_then (request_rows_at k n 1 none s) _ f (
    ap (λ m. request_rows_at k m 1 none s) count ∙ rows_read k (suc more) 1 none durations needs s t are.0 p are.1 (omega (arith, total)) are.3
    ∙ ap (λ j. request_rows_at k (suc more) j rows t) (sym here)
    ∙ err_then (request_row_at k job (sum durations) t) _ f e)

-- a place in the row of this job, and how the row is read up to it
at_job_fails : (n k job : ℕ) (s t : Stream) (before : List ℕ) (f : Fault) → IsAtRequest n k before job → Goes s before t → expect_at job code.JobOrder t ≡ Err f → requests n k s ≡ Err f
unfolding request_row_at
at_job_fails n k job s t before f (durations, (needs, next, fits, are, is)) p e =
    let a : Goes s (request_numbers 1 durations needs) t = subst (λ (ns : List ℕ). Goes s ns t) (is ∙ append-nil (request_numbers 1 durations needs)) p in
    row_fails n k job durations needs s t f next fits are a (err_then (expect_at job code.JobOrder t) _ f e)

at_mode_fails : (n k : ℕ) (s t : Stream) (before : List ℕ) (f : Fault) → IsAtMode n k before → Goes s before t → expect_at 1 code.Modes t ≡ Err f → requests n k s ≡ Err f
unfolding request_row_at
at_mode_fails n k s t before f (job, durations, (needs, next, fits, are, is)) p e =
    let a = goes_split s t (request_numbers 1 durations needs) (job ∷ []) (subst (λ (ns : List ℕ). Goes s ns t) is p) in
    row_fails n k job durations needs s a.0 f next fits are a.1
    (ok_then (expect_at job code.JobOrder a.0) _ t (Err f) (goes_expect job code.JobOrder a.0 t a.2) (err_then (expect_at 1 code.Modes t) _ f e))

at_duration_fails : (n k : ℕ) (s t : Stream) (before durations : List ℕ) (f : Fault) → IsAtDuration n k before durations → Goes s before t → duration_at (sum durations) t ≡ Err f → requests n k s ≡ Err f
unfolding request_row_at
at_duration_fails n k s t before durations f (job, (needs, next, fits, are, is)) p e =
    let a = goes_split s t (request_numbers 1 durations needs) (job ∷ 1 ∷ []) (subst (λ (ns : List ℕ). Goes s ns t) is p) in
    let b = goes_split a.0 t (job ∷ []) (1 ∷ []) a.2 in
    row_fails n k job durations needs s a.0 f next fits are a.1
    (ok_then (expect_at job code.JobOrder a.0) _ b.0 (Err f) (goes_expect job code.JobOrder a.0 b.0 b.1)
    (ok_then (expect_at 1 code.Modes b.0) _ t (Err f) (goes_expect 1 code.Modes b.0 t b.2) (err_then (duration_at (sum durations) t) _ f e)))

at_need_fails : (n k : ℕ) (s t : Stream) (before : List ℕ) (f : Fault) → IsAtNeed n k before → Goes s before t → within_at greatest t ≡ Err f → requests n k s ≡ Err f
unfolding request_row_at
at_need_fails n k s t before f (job, durations, duration, own, (needs, next, fits, are, is), small, total, first) p e =
    let a = goes_split s t (request_numbers 1 durations needs) (job ∷ 1 ∷ duration ∷ own) (subst (λ (ns : List ℕ). Goes s ns t) is p) in
    let b = goes_split a.0 t (job ∷ []) (1 ∷ duration ∷ own) a.2 in
    let c = goes_split b.0 t (1 ∷ []) (duration ∷ own) b.2 in
    let d = goes_split c.0 t (duration ∷ []) own c.2 in
    row_fails n k job durations needs s a.0 f next fits are a.1
    (ok_then (expect_at job code.JobOrder a.0) _ b.0 (Err f) (goes_expect job code.JobOrder a.0 b.0 b.1)
    (ok_then (expect_at 1 code.Modes b.0) _ c.0 (Err f) (goes_expect 1 code.Modes b.0 c.0 c.1)
    (ok_then (duration_at (sum durations) c.0) _ (duration, d.0) (Err f) (goes_duration (sum durations) duration c.0 d.0 d.1 small total)
    (err_then (amounts_at k [] d.0) _ f (amounts_fail k own d.0 t f first d.2 e)))))

bad_duration : (total : ℕ) (s : Stream) (f : Fault) → number_at s ≡ Err f → duration_at total s ≡ Err f
unfolding duration_at
bad_duration total s f e = err_then (number_at s) _ f e

beyond_duration : (total : ℕ) (s : Stream) (line : ℕ) → NextIs s line (λ m. (greatest < m) ⊎ (greatest_total < total + m)) → duration_at total s ≡ Err (record { code = code.Limit; line = line })
unfolding duration_at
beyond_duration total s line next =
    let x = next_read s line (λ m. (greatest < m) ⊎ (greatest_total < total + m)) next in
    let f : Fault = record { code = code.Limit; line = line } in
    ok_then (number_at s) _ (record { value = x.value; line = line }, x.rest) (Err f) x.read
    (err_then (check (nat_le x.value greatest && nat_le (total + x.value) greatest_total) code.Limit line) _ f
    (err_check (nat_le x.value greatest && nat_le (total + x.value) greatest_total) code.Limit line (one_false x.value x.holds)))
  where
    and_false : (b : Bool) → (b && false) ≡ false
    and_false true = refl
    and_false false = refl

    one_false : (m : ℕ) → (greatest < m) ⊎ (greatest_total < total + m) → (nat_le m greatest && nat_le (total + m) greatest_total) ≡ false
    one_false m (inl high) = ap (λ b. b && nat_le (total + m) greatest_total) (above_false greatest m high)
    one_false m (inr high) = ap (λ b. nat_le m greatest && b) (above_false greatest_total (total + m) high) ∙ and_false (nat_le m greatest)

begun_fails : (n k : ℕ) (s t : Stream) (before : List ℕ) (f : Fault) → AreBegunRequests n k before → Goes s before t → number_at t ≡ Err f → requests n k s ≡ Err f
begun_fails n k s t before f (inl (job, at)) p e = at_job_fails n k job s t before f at p (bad_expect job code.JobOrder t f e)
begun_fails n k s t before f (inr (inl at)) p e = at_mode_fails n k s t before f at p (bad_expect 1 code.Modes t f e)
begun_fails n k s t before f (inr (inr (inl (durations, at)))) p e = at_duration_fails n k s t before durations f at p (bad_duration (sum durations) t f e)
begun_fails n k s t before f (inr (inr (inr at))) p e = at_need_fails n k s t before f at p (bad_within t f e)

whole_fails : (n k : ℕ) (s t : Stream) (before : List ℕ) (line : ℕ) → AreWholeRequests n k before → Goes s before t → GoesOnAt t line → requests n k s ≡ Err (record { code = code.Count; line = line })
unfolding requests
whole_fails n k s t before line (durations, needs, count, are, is) p more =
    let f : Fault = record { code = code.Count; line = line } in
    let total = are.2 in
    let rows = behind none durations needs in
    let read : request_rows_at k n 1 none s ≡ Ok (rows, t) =
    ap (λ m. request_rows_at k m 1 none s) (sym count)
    ∙ goes_requests k 1 none durations needs s t are.0 (subst (λ (ns : List ℕ). Goes s ns t) is p) are.1 (omega (arith, total)) are.3 in
    ok_then (request_rows_at k n 1 none s) _ (rows, t) (Err f) read (err_then (end_at t) _ f (more_end t line more))

-- where the section stops, the reading stops with the same error
pub stops_requests : (n k : ℕ) (s : Stream) (c : FileCode) (line : ℕ) → StopsIn (RequestsStop n k) s c line → requests n k s ≡ Err (record { code = c; line = line })
stops_requests n k s code.BadNumber line (before, t, p, (h, next)) = begun_fails n k s t before (record { code = code.BadNumber; line = line }) h p (bad_number t line next)
stops_requests n k s code.JobOrder line (before, t, p, (job, at, next)) =
    at_job_fails n k job s t before (record { code = code.JobOrder; line = line }) at p (other_expect job code.JobOrder t line next)
stops_requests n k s code.Modes line (before, t, p, (at, next)) =
    at_mode_fails n k s t before (record { code = code.Modes; line = line }) at p (other_expect 1 code.Modes t line next)
stops_requests n k s code.Count line (before, t, p, inl (h, over)) = begun_fails n k s t before (record { code = code.Count; line = line }) h p (no_number t line over)
stops_requests n k s code.Count line (before, t, p, inr (h, more)) = whole_fails n k s t before line h p more
stops_requests n k s code.Limit line (before, t, p, inl (durations, at, next)) =
    at_duration_fails n k s t before durations (record { code = code.Limit; line = line }) at p (beyond_duration (sum durations) t line next)
stops_requests n k s code.Limit line (before, t, p, inr (at, next)) =
    at_need_fails n k s t before (record { code = code.Limit; line = line }) at p (beyond_within t line next)
stops_requests n k s code.TooLong line (before, t, p, h) = absurd h
stops_requests n k s code.NotText line (before, t, p, h) = absurd h
stops_requests n k s code.MissingHead line (before, t, p, h) = absurd h
stops_requests n k s code.Unsupported line (before, t, p, h) = absurd h
stops_requests n k s code.MissingSection line (before, t, p, h) = absurd h
stops_requests n k s code.Double line (before, t, p, h) = absurd h
stops_requests n k s code.Cycle line (before, t, p, h) = absurd h
stops_requests n k s code.NoInstance line (before, t, p, h) = absurd h
stops_requests n k s code.BadMachine line (before, t, p, h) = absurd h
stops_requests n k s code.Memory line (before, t, p, h) = absurd h

need_fails : (k : ℕ) (s t : Stream) (before : List ℕ) (f : Fault) → AreFirstAmounts k before → Goes s before t → within_at greatest t ≡ Err f → availabilities k s ≡ Err f
unfolding availabilities
need_fails k s t before f first p e = err_then (amounts_at k [] s) _ f (amounts_fail k before s t f first p e)

left_fails : (k : ℕ) (s t : Stream) (before : List ℕ) (line : ℕ) → IsNeeds k before → Goes s before t → GoesOnAt t line → availabilities k s ≡ Err (record { code = code.Count; line = line })
unfolding availabilities
left_fails k s t before line are p more =
    let f : Fault = record { code = code.Count; line = line } in
    let read : amounts_at k [] s ≡ Ok (before, t) = ap (λ m. amounts_at m [] s) (sym are.0) ∙ goes_amounts [] before s t p are.1 in
    ok_then (amounts_at k [] s) _ (before, t) (Err f) read (err_then (end_at t) _ f (more_end t line more))

pub stops_availabilities : (k : ℕ) (s : Stream) (c : FileCode) (line : ℕ) → StopsIn (AvailabilitiesStop k) s c line → availabilities k s ≡ Err (record { code = c; line = line })
stops_availabilities k s code.BadNumber line (before, t, p, (first, next)) =
    let f : Fault = record { code = code.BadNumber; line = line } in need_fails k s t before f first p (bad_within t f (bad_number t line next))
stops_availabilities k s code.Count line (before, t, p, inl (first, over)) =
    let f : Fault = record { code = code.Count; line = line } in need_fails k s t before f first p (bad_within t f (no_number t line over))
stops_availabilities k s code.Count line (before, t, p, inr (are, more)) = left_fails k s t before line are p more
stops_availabilities k s code.Limit line (before, t, p, (first, next)) =
    need_fails k s t before (record { code = code.Limit; line = line }) first p (beyond_within t line next)
stops_availabilities k s code.TooLong line (before, t, p, h) = absurd h
stops_availabilities k s code.NotText line (before, t, p, h) = absurd h
stops_availabilities k s code.MissingHead line (before, t, p, h) = absurd h
stops_availabilities k s code.Unsupported line (before, t, p, h) = absurd h
stops_availabilities k s code.MissingSection line (before, t, p, h) = absurd h
stops_availabilities k s code.JobOrder line (before, t, p, h) = absurd h
stops_availabilities k s code.Modes line (before, t, p, h) = absurd h
stops_availabilities k s code.Double line (before, t, p, h) = absurd h
stops_availabilities k s code.Cycle line (before, t, p, h) = absurd h
stops_availabilities k s code.NoInstance line (before, t, p, h) = absurd h
stops_availabilities k s code.BadMachine line (before, t, p, h) = absurd h
stops_availabilities k s code.Memory line (before, t, p, h) = absurd h
