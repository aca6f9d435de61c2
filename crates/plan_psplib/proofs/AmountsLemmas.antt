-- The requests section and the availabilities: reading succeeds exactly for the words that spell
-- the result.
use Rattle.std.proofs.Common.{◌≡◌, ℕ, zero, suc, ◌+◌, ◌≤◌, ◌&&◌, List, [], ◌∷◌, ◌++◌, Ok, length, sum, refl, sym, ap, ◌∙◌, subst, append_assoc, append-nil, arith}
use Rattle.std.specs.Prelude.{nat_le}
use Rattle.std.specs.List.{AllByRecursion}
use Rattle.std.proofs.lemmas.Bool.{leb-true, le-leb}
use Rattle.std.proofs.lemmas.List.Sums.{sum_by_push, sum_by-cons}
use Rattle.plan_psplib.specs.declared.text.fault.FileCode.TheVariants as code
use Rattle.plan_psplib.specs.Streams.{Stream}
use Rattle.plan_psplib.specs.Tokens.{check, number_at, expect_at, within_at, end_at, greatest, greatest_total, duration_at}
use Rattle.plan_psplib.specs.Requests.{Request, Requests, amounts_at, request_row_at, request_rows_at, with_row, requests, availabilities}
use Rattle.plan_psplib.specs.Says.{Spells, IsNeeds, request_numbers}
use Rattle.plan_psplib.proofs.GoesLemmas.{Goes, goes_append, goes_split, goes_spells, spells_goes, then_ok, ok_bind, same_ok, check_ok, ok_check, both_true, true_both, number_goes, goes_number, expect_goes, goes_expect, within_goes, goes_within, end_none, none_end}

abbrev pub AreAmounts : List ℕ → Type 0
AreAmounts ns = AllByRecursion (λ n. n ≤ greatest) ns

pub amounts_goes : (more : ℕ) (before : List ℕ) (s : Stream) (x : List ℕ × Stream) →
    amounts_at more before s ≡ Ok x → (new : List ℕ) × (x.0 ≡ before ++ new) × (length new ≡ more)
    × Goes s new x.1 × AreAmounts new
unfolding amounts_at
amounts_goes zero before s x e =
    let P : List ℕ × Stream → Type 0 = λ z. (new : List ℕ) × (z.0 ≡ before ++ new) × (length new ≡ 0) × Goes s new z.1 × AreAmounts new in
    subst P (same_ok (before, s) x e) ([], sym (append-nil before), refl, refl, tt)
amounts_goes (suc more) before s x e =
    then_ok (within_at greatest s) _ x e (λ y read e.
    let one = within_goes greatest y.0 s y.1 read in
    let rest = amounts_goes more (before ++ y.0 ∷ []) y.1 x e in
    (y.0 ∷ rest.0, rest.1 ∙ append_assoc before (y.0 ∷ []) rest.0, ap suc rest.2, goes_append s y.1 x.1 (y.0 ∷ []) rest.0 one.0 rest.3, (one.1, rest.4)))

pub goes_amounts : (before new : List ℕ) (s t : Stream) → Goes s new t → AreAmounts new → amounts_at (length new) before s ≡ Ok (before ++ new, t)
unfolding amounts_at
goes_amounts before [] s t p are = ap (λ (u : Stream). Ok (before, u)) (sym p) ∙ ap (λ (xs : List ℕ). Ok (xs, t)) (sym (append-nil before))
goes_amounts before (n ∷ ns) s t p are =
    let mid : Stream = record { last = p.0.line; words = p.1 } in
    ok_bind (within_at greatest s) _ (n, mid) (before ++ n ∷ ns, t) (goes_within greatest n s mid (p.0, p.1, p.2, p.3, refl) are.0)
    (goes_amounts (before ++ n ∷ []) ns mid t p.4 are.1 ∙ ap (λ (xs : List ℕ). Ok (xs, t)) (append_assoc before (n ∷ []) ns))

pub duration_goes : (total : ℕ) (s : Stream) (x : ℕ × Stream) → duration_at total s ≡ Ok x → Goes s (x.0 ∷ []) x.1 × (x.0 ≤ greatest) × (total + x.0 ≤ greatest_total)
unfolding duration_at
duration_goes total s x e =
    then_ok (number_at s) _ x e (λ y read e.
    then_ok (check (nat_le y.0.value greatest && nat_le (total + y.0.value) greatest_total) code.Limit y.0.line) _ x e (λ u holds e.
    let both = both_true (nat_le y.0.value greatest) (nat_le (total + y.0.value) greatest_total) (check_ok _ code.Limit y.0.line u holds) in
    let P : ℕ × Stream → Type 0 = λ z. Goes s (z.0 ∷ []) z.1 × (z.0 ≤ greatest) × (total + z.0 ≤ greatest_total) in
    subst P (same_ok (y.0.value, y.1) x e) (number_goes s y read, leb-true y.0.value greatest both.0, leb-true (total + y.0.value) greatest_total both.1)))

pub goes_duration : (total d : ℕ) (s t : Stream) → Goes s (d ∷ []) t → d ≤ greatest → total + d ≤ greatest_total → duration_at total s ≡ Ok (d, t)
unfolding duration_at
goes_duration total d s t p small fits =
    ok_bind (number_at s) _ (record { value = d; line = t.last }, t) (d, t) (goes_number s t d p)
    (ok_bind (check (nat_le d greatest && nat_le (total + d) greatest_total) code.Limit t.last) _ tt (d, t)
    (ok_check _ code.Limit t.last (true_both (nat_le d greatest) (nat_le (total + d) greatest_total)
    (le-leb d greatest small) (le-leb (total + d) greatest_total fits))) refl)

pub request_goes : (k job total : ℕ) (s : Stream) (x : Request × Stream) → request_row_at k job total s ≡ Ok x →
    Goes s (job ∷ 1 ∷ x.0.duration ∷ x.0.needs) x.1 × (x.0.duration ≤ greatest)
    × (total + x.0.duration ≤ greatest_total) × IsNeeds k x.0.needs
unfolding request_row_at
request_goes k job total s x e =
    then_ok (expect_at job code.JobOrder s) _ x e (λ a first e.
    then_ok (expect_at 1 code.Modes a) _ x e (λ b second e.
    then_ok (duration_at total b) _ x e (λ d third e.
    then_ok (amounts_at k [] d.1) _ x e (λ ns fourth e.
    let duration = duration_goes total b d third in
    let needs = amounts_goes k [] d.1 ns fourth in
    let P : Request × Stream → Type 0 = λ z. Goes s (job ∷ 1 ∷ z.0.duration ∷ z.0.needs) z.1 × (z.0.duration ≤ greatest) × (total + z.0.duration ≤ greatest_total) × IsNeeds k z.0.needs in
    let Q : List ℕ → Type 0 = λ new. Goes s (job ∷ 1 ∷ d.0 ∷ new) ns.1 × (d.0 ≤ greatest) × (total + d.0 ≤ greatest_total) × IsNeeds k new in
    let whole = goes_append s a ns.1 (job ∷ []) (1 ∷ d.0 ∷ needs.0) (expect_goes job code.JobOrder s a first)
    (goes_append a b ns.1 (1 ∷ []) (d.0 ∷ needs.0) (expect_goes 1 code.Modes a b second)
    (goes_append b d.1 ns.1 (d.0 ∷ []) needs.0 duration.0 needs.3)) in
    subst P (same_ok (record { duration = d.0; needs = ns.0 }, ns.1) x e) (subst Q (sym needs.1) (whole, duration.1, duration.2, (needs.2, needs.4)))))))

pub goes_request : (k job total : ℕ) (r : Request) (s t : Stream) → Goes s (job ∷ 1 ∷ r.duration ∷ r.needs) t →
    r.duration ≤ greatest → total + r.duration ≤ greatest_total → IsNeeds k r.needs →
    request_row_at k job total s ≡ Ok (r, t)
unfolding request_row_at
goes_request k job total r s t p small fits needs =
    let a = goes_split s t (job ∷ []) (1 ∷ r.duration ∷ r.needs) p in
    let b = goes_split a.0 t (1 ∷ []) (r.duration ∷ r.needs) a.2 in
    let d = goes_split b.0 t (r.duration ∷ []) r.needs b.2 in
    let amounts : amounts_at k [] d.0 ≡ Ok (r.needs, t) = ap (λ more. amounts_at more [] d.0) (sym needs.0) ∙ goes_amounts [] r.needs d.0 t d.2 needs.1 in
    ok_bind (expect_at job code.JobOrder s) _ a.0 (r, t) (goes_expect job code.JobOrder s a.0 a.1)
    (ok_bind (expect_at 1 code.Modes a.0) _ b.0 (r, t) (goes_expect 1 code.Modes a.0 b.0 b.1)
    (ok_bind (duration_at total b.0) _ (r.duration, d.0) (r, t) (goes_duration total r.duration b.0 d.0 d.1 small fits)
    (ok_bind (amounts_at k [] d.0) _ (r.needs, t) (r, t) amounts refl)))

-- rows followed by other rows
abbrev pub behind : Requests → List ℕ → List (List ℕ) → Requests
behind rows durations needs = record { durations = rows.durations ++ durations; needs = rows.needs ++ needs }

pub sum_behind : (before : List ℕ) (d : ℕ) (ds : List ℕ) → sum (before ++ d ∷ []) + sum ds ≡ sum before + sum (d ∷ ds)
sum_behind before d ds = let a = sum_by_push (λ n. n) before d in let b = sum_by-cons (λ n. n) d ds in omega (arith, a, b)

-- the requests of rows after earlier rows
pub record AreRows (k more job : ℕ) (rows : Requests) (durations : List ℕ) (needs : List (List ℕ)) (s t : Stream) : Type 0 where
  pub durations_count : length durations ≡ more
  pub needs_count : length needs ≡ more
  pub goes : Goes s (request_numbers job durations needs) t
  pub small : AreAmounts durations
  pub total : sum rows.durations + sum durations ≤ greatest_total
  pub each : AllByRecursion (IsNeeds k) needs

pub behind-nil : (rows : Requests) → rows ≡ behind rows [] []
behind-nil rows =
    ap (λ (ds : List ℕ). let r : Requests = record { durations = ds; needs = rows.needs } in r) (sym (append-nil rows.durations))
    ∙ ap (λ (nss : List (List ℕ)). let r : Requests = record { durations = rows.durations ++ []; needs = nss } in r) (sym (append-nil rows.needs))

pub behind-with_row : (rows : Requests) (row : Request) (ds : List ℕ) (nss : List (List ℕ)) → behind (with_row rows row) ds nss ≡ behind rows (row.duration ∷ ds) (row.needs ∷ nss)
behind-with_row rows row ds nss =
    ap (λ (all : List ℕ). let r : Requests = record { durations = all; needs = rows.needs ++ row.needs ∷ [] ++ nss } in r) (append_assoc rows.durations (row.duration ∷ []) ds)
    ∙ ap (λ (all : List (List ℕ)). let r : Requests = record { durations = rows.durations ++ row.duration ∷ ds; needs = all } in r) (append_assoc rows.needs (row.needs ∷ []) nss)

pub requests_goes : (k more job : ℕ) (rows : Requests) (s : Stream) (x : Requests × Stream) →
    sum rows.durations ≤ greatest_total → request_rows_at k more job rows s ≡ Ok x →
    (ds : List ℕ) × (nss : List (List ℕ)) × (x.0 ≡ behind rows ds nss) × AreRows k more job rows ds nss s x.1
unfolding request_rows_at
requests_goes k zero job rows s x fits e =
    let P : Requests × Stream → Type 0 = λ z. (ds : List ℕ) × (nss : List (List ℕ)) × (z.0 ≡ behind rows ds nss) × AreRows k 0 job rows ds nss s z.1 in
    subst P (same_ok (rows, s) x e) ([], [], behind-nil rows, record { durations_count = refl; needs_count = refl; goes = refl; small = tt; total = omega (arith, fits); each = tt })
requests_goes k (suc more) job rows s x fits e =
    then_ok (request_row_at k job (sum rows.durations) s) _ x e (λ y read e.
    let one = request_goes k job (sum rows.durations) s y read in
    let sum_now = sum_by_push (λ n. n) rows.durations y.0.duration in
    let fits_now : sum (rows.durations ++ y.0.duration ∷ []) ≤ greatest_total = omega (arith, sum_now, one.2) in
    let rest = requests_goes k more (job + 1) (with_row rows y.0) y.1 x fits_now e in
    let sums = sum_behind rows.durations y.0.duration rest.0 in (
      y.0.duration ∷ rest.0,
      y.0.needs ∷ rest.1,
      rest.2 ∙ behind-with_row rows y.0 rest.0 rest.1,
      record {
        durations_count = ap suc rest.3.durations_count;
        needs_count = ap suc rest.3.needs_count;
        goes = goes_append s y.1 x.1 (job ∷ 1 ∷ y.0.duration ∷ y.0.needs) (request_numbers (job + 1) rest.0 rest.1) one.0 rest.3.goes;
        small = (one.1, rest.3.small);
        total = omega (arith, sums, rest.3.total);
        each = (one.3, rest.3.each);
      },
    ))

pub goes_requests : (k job : ℕ) (rows : Requests) (ds : List ℕ) (nss : List (List ℕ)) (s t : Stream) →
    length nss ≡ length ds → Goes s (request_numbers job ds nss) t → AreAmounts ds →
    sum rows.durations + sum ds ≤ greatest_total → AllByRecursion (IsNeeds k) nss →
    request_rows_at k (length ds) job rows s ≡ Ok (behind rows ds nss, t)
unfolding request_rows_at
goes_requests k job rows [] [] s t same p small fits each = ap (λ (u : Stream). Ok (rows, u)) (sym p) ∙ ap (λ (r : Requests). Ok (r, t)) (behind-nil rows)
goes_requests k job rows [] (ns ∷ nss) s t same p small fits each = absurd (omega (arith, same))
goes_requests k job rows (d ∷ ds) [] s t same p small fits each = absurd (omega (arith, same))
goes_requests k job rows (d ∷ ds) (ns ∷ nss) s t same p small fits each =
    let row : Request = record { duration = d; needs = ns } in
    let a = goes_split s t (job ∷ 1 ∷ d ∷ ns) (request_numbers (job + 1) ds nss) p in
    let sums = sum_behind rows.durations d ds in
    let all = sum_by-cons (λ n. n) d ds in
    ok_bind (request_row_at k job (sum rows.durations) s) _ (row, a.0) (behind rows (d ∷ ds) (ns ∷ nss), t)
    (goes_request k job (sum rows.durations) row s a.0 a.1 small.0 (omega (arith, all, fits)) each.0)
    (goes_requests k (job + 1) (with_row rows row) ds nss a.0 t (omega (arith, same)) a.2 small.1 (omega (arith, sums, fits)) each.1
    ∙ ap (λ (r : Requests). Ok (r, t)) (behind-with_row rows row ds nss))

-- the words spell the requests of n jobs for k resources
pub record SpellsRequests (n k : ℕ) (s : Stream) (r : Requests) : Type 0 where
  pub spelled : Spells s.words (request_numbers 1 r.durations r.needs)
  pub durations_count : length r.durations ≡ n
  pub needs_count : length r.needs ≡ n
  pub small : AllByRecursion (λ d. d ≤ greatest) r.durations
  pub total : sum r.durations ≤ greatest_total
  pub each : AllByRecursion (IsNeeds k) r.needs

abbrev pub none : Requests
none = record { durations = []; needs = [] }

-- the words that were read spell the result
pub requests_spelled : (n k : ℕ) (s : Stream) (r : Requests) → requests n k s ≡ Ok r → SpellsRequests n k s r
unfolding requests
requests_spelled n k s r e =
    then_ok (request_rows_at k n 1 none s) _ r e (λ x read e.
    then_ok (end_at x.1) _ r e (λ u nothing_left e.
    let rows = requests_goes k n 1 none s x (omega arith) read in
    let same : behind none rows.0 rows.1 ≡ r = sym rows.2 ∙ same_ok x.0 r e in
    let P : Requests → Type 0 = λ q. SpellsRequests n k s q in
    subst P same (record {
      spelled = goes_spells s x.1 (request_numbers 1 rows.0 rows.1) rows.3.goes (end_none x.1 u nothing_left);
      durations_count = rows.3.durations_count;
      needs_count = rows.3.needs_count;
      small = rows.3.small;
      total = let total = rows.3.total in omega (arith, total);
      each = rows.3.each;
    })))

-- words that spell a result are read as that result
pub requests_read : (n k : ℕ) (s : Stream) (r : Requests) → SpellsRequests n k s r → requests n k s ≡ Ok r
unfolding requests
requests_read n k s r h =
    let a = spells_goes s (request_numbers 1 r.durations r.needs) h.spelled in
    let total = h.total in
    let same = h.needs_count ∙ sym h.durations_count in
    let read : request_rows_at k n 1 none s ≡ Ok (r, a.0) =
    ap (λ more. request_rows_at k more 1 none s) (sym h.durations_count)
    ∙ goes_requests k 1 none r.durations r.needs s a.0 same a.1 h.small (omega (arith, total)) h.each in
    ok_bind (request_rows_at k n 1 none s) _ (r, a.0) r read
    (ok_bind (end_at a.0) _ tt r (none_end a.0 a.2) refl)

-- the words that were read spell the result
pub availabilities_spelled : (k : ℕ) (s : Stream) (amounts : List ℕ) → availabilities k s ≡ Ok amounts → (length amounts ≡ k) × Spells s.words amounts × AllByRecursion (λ n. n ≤ greatest) amounts
unfolding availabilities
availabilities_spelled k s amounts e =
    then_ok (amounts_at k [] s) _ amounts e (λ x read e.
    then_ok (end_at x.1) _ amounts e (λ u nothing_left e.
    let all = amounts_goes k [] s x read in
    let same : all.0 ≡ amounts = sym all.1 ∙ same_ok x.0 amounts e in
    let P : List ℕ → Type 0 = λ ns. (length ns ≡ k) × Spells s.words ns × AreAmounts ns in
    subst P same (all.2, goes_spells s x.1 all.0 all.3 (end_none x.1 u nothing_left), all.4)))

-- words that spell a result are read as that result
pub availabilities_read : (s : Stream) (amounts : List ℕ) → Spells s.words amounts → AllByRecursion (λ n. n ≤ greatest) amounts → availabilities (length amounts) s ≡ Ok amounts
unfolding availabilities
availabilities_read s amounts h small =
    let a = spells_goes s amounts h in
    ok_bind (amounts_at (length amounts) [] s) _ (amounts, a.0) amounts (goes_amounts [] amounts s a.0 a.1 small)
    (ok_bind (end_at a.0) _ tt amounts (none_end a.0 a.2) refl)
