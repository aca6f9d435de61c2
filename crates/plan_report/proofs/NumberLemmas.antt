-- The tokens of a text of starts, and the loop over them.
use Rattle.std.proofs.Common.{◌≡◌, ℕ, zero, suc, ◌-◌, ◌+◌, ◌≤◌, ◌<◌, true, false, List, [], ◌∷◌, ◌++◌, Result, Ok, length, refl, sym, ap, ◌∙◌, subst, append_assoc, append-nil}
use Rattle.std.specs.List.{AllByRecursion}
use Rattle.std.proofs.lemmas.List.Elements.{All-from_recursion, recursion_from_All}
use Rattle.plan_psplib.specs.declared.text.fault.Fault.{Fault}
use Rattle.plan_psplib.specs.declared.text.fault.ReadError.{ReadError}
use Rattle.plan_psplib.specs.Lines.{NumberedLine}
use Rattle.plan_psplib.specs.Streams.{Stream, rows}
use Rattle.plan_psplib.specs.Tokens.{◌>>=◌, Fails, within_at, end_at}
use Rattle.plan_psplib.proofs.GoesLemmas.{Goes, goes_append, goes_spells, spells_goes, then_ok, ok_bind, same_ok, within_goes, goes_within, end_none, none_end}
use Rattle.plan_psplib.proofs.LoopLemmas.{goes_on, fails, is_done}
use Rattle.plan_orlib.proofs.BlockLemmas as blocks
use Rattle.plan_gantt.specs.Limits.{latest_start}
use Rattle.plan_report.specs.StartNumbers.{SaysNumbers, all_tokens, starts_at, numbers_in}

-- if each line is a row and none is an end, all are rows
pub all_rows : (all : List NumberedLine) → rows (λ _. true) (λ _. false) all ≡ all
all_rows all = blocks.all_rows all

-- the state of the loop: the starts so far and the tokens that are left
abbrev Starts : Type 0
Starts = List ℕ × Stream

abbrev others : ℕ → Starts → Result (List ℕ × Stream) Fault
others k s = starts_at k s.0 s.1

abbrev one : Starts → Result (ℕ × Stream) Fault
one s = within_at latest_start s.1

abbrev behind : Starts → (ℕ × Stream) → Starts
behind s v = (s.0 ++ v.0 ∷ [], v.1)

starts-suc : (k : ℕ) (s : Starts) → others (suc k) s ≡ (one s >>= λ v. others k (behind s v))
unfolding starts_at
starts-suc k s = refl

pub starts_go_on : (count i : ℕ) (before : List ℕ) (s : Stream) (start : ℕ) (after : Stream)
    (total : Result (List ℕ × Stream) Fault)
    → i < count → within_at latest_start s ≡ Ok (start, after) → starts_at (count - i) before s ≡ total
    → starts_at (count - (i + 1)) (before ++ start ∷ []) after ≡ total
starts_go_on count i before s start after total = goes_on others one behind starts-suc count i (before, s) (start, after) total

pub starts_fail : (e : ReadError) (count i : ℕ) (before : List ℕ) (s : Stream)
    (total : Result (List ℕ × Stream) Fault)
    → i < count → Fails e (within_at latest_start s) → starts_at (count - i) before s ≡ total → Fails e total
starts_fail e count i before s total = fails others one behind starts-suc e count i (before, s) total

pub starts_done : (count i : ℕ) (before : List ℕ) (s : Stream) (total : Result (List ℕ × Stream) Fault)
    → count ≤ i → starts_at (count - i) before s ≡ total → total ≡ Ok (before, s)
unfolding starts_at
starts_done count i before s total past whole = sym (is_done others one behind starts-suc count i (before, s) total past whole)

-- no start is after the latest
abbrev AreEarly : List ℕ → Type 0
AreEarly ns = AllByRecursion (λ n. n ≤ latest_start) ns

-- the starts that are read are the numbers of as many tokens
starts_goes : (more : ℕ) (before : List ℕ) (s : Stream) (x : List ℕ × Stream) → starts_at more before s ≡ Ok x
    → (new : List ℕ) × (x.0 ≡ before ++ new) × (length new ≡ more) × Goes s new x.1 × AreEarly new
unfolding starts_at
starts_goes zero before s x e =
    let P : List ℕ × Stream → Type 0 = λ z. (new : List ℕ) × (z.0 ≡ before ++ new) × (length new ≡ 0) × Goes s new z.1 × AreEarly new in
    subst P (same_ok (before, s) x e) ([], sym (append-nil before), refl, refl, tt)
starts_goes (suc more) before s x e =
    then_ok (within_at latest_start s) _ x e (λ y read e.
    let one = within_goes latest_start y.0 s y.1 read in
    let rest = starts_goes more (before ++ y.0 ∷ []) y.1 x e in
    (y.0 ∷ rest.0, rest.1 ∙ append_assoc before (y.0 ∷ []) rest.0, ap suc rest.2, goes_append s y.1 x.1 (y.0 ∷ []) rest.0 one.0 rest.3, (one.1, rest.4)))

-- the numbers that are read are those in the text
pub numbers_said : (count : ℕ) (text starts : List ℕ) → numbers_in count text ≡ Ok starts
    → SaysNumbers count text starts
unfolding numbers_in
numbers_said count text starts e =
    then_ok (starts_at count [] (all_tokens text)) _ starts e (λ x read e.
    then_ok (end_at x.1) _ starts e (λ v nothing_left e.
    let all = starts_goes count [] (all_tokens text) x read in
    let same : all.0 ≡ starts = sym all.1 ∙ same_ok x.0 starts e in
    let whole : SaysNumbers count text all.0 = record {
      spelled = goes_spells (all_tokens text) x.1 all.0 all.3 (end_none x.1 v nothing_left);
      whole = all.2;
      in_time = All-from_recursion (λ t. t ≤ latest_start) all.0 all.4;
    } in
    subst (SaysNumbers count text) same whole))

-- numbers up to the latest start are read as starts
goes_starts : (before new : List ℕ) (s t : Stream) → Goes s new t → AreEarly new
    → starts_at (length new) before s ≡ Ok (before ++ new, t)
unfolding starts_at
goes_starts before [] s t p are = ap (λ (u : Stream). Ok (before, u)) (sym p) ∙ ap (λ (xs : List ℕ). Ok (xs, t)) (sym (append-nil before))
goes_starts before (n ∷ ns) s t p are =
    let mid : Stream = record { last = p.0.line; words = p.1 } in
    ok_bind (within_at latest_start s) _ (n, mid) (before ++ n ∷ ns, t) (goes_within latest_start n s mid (p.0, p.1, p.2, p.3, refl) are.0)
    (goes_starts (before ++ n ∷ []) ns mid t p.4 are.1 ∙ ap (λ (xs : List ℕ). Ok (xs, t)) (append_assoc before (n ∷ []) ns))

-- the numbers in a text are read
pub numbers_read : (count : ℕ) (text starts : List ℕ) → SaysNumbers count text starts
    → numbers_in count text ≡ Ok starts
unfolding numbers_in
numbers_read count text starts says =
    let s = all_tokens text in
    let a = spells_goes s starts says.spelled in
    let read : starts_at count [] s ≡ Ok (starts, a.0) =
    ap (λ (n : ℕ). starts_at n [] s) (sym says.whole) ∙ goes_starts [] starts s a.0 a.1 (recursion_from_All (λ t. t ≤ latest_start) starts says.in_time) in
    ok_bind (starts_at count [] s) _ (starts, a.0) starts read
    (ok_bind (end_at a.0) _ tt starts (none_end a.0 a.2) refl)
