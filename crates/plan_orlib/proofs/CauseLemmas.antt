-- The condition on a text that its first error states.
use Rattle.std.proofs.Common.{◌≡◌, ◌≢◌, ◌⊎◌, ℕ, zero, suc, ◌+◌, ◌<◌, ◌≤◌, ◌&&◌, Bool, true, false, List, [], ◌∷◌, ◌++◌, Option, Some, None, Result, Ok, Err, length, sum, inl, inr, refl, sym, ap, ◌∙◌, subst, arith}
use Rattle.std.specs.Prelude.{nat_le, nat_lt}
use Rattle.std.proofs.lemmas.Bool.{leb-false, ltb-false}
use Rattle.std.proofs.lemmas.List.Sums.{sum_by-append, sum_by_push, sum_by-cons}
use Rattle.plan_psplib.specs.declared.text.fault.FileCode.{FileCode}
use Rattle.plan_psplib.specs.declared.text.fault.FileCode.TheVariants as code
use Rattle.plan_psplib.specs.declared.text.fault.Fault.{Fault}
use Rattle.plan_psplib.specs.Lines.{last_line}
use Rattle.plan_psplib.specs.Numbers.{number}
use Rattle.plan_psplib.specs.Plain.{longest_text, plain}
use Rattle.plan_psplib.specs.Streams.{LineWord, Stream}
use Rattle.plan_psplib.specs.Tokens.{◌>>=◌, LineNumber, check, as_number, number_of_words, number_at, limited, limited_at, duration_at, greatest, greatest_total}
use Rattle.plan_psplib.specs.Causes.{NextIs}
use Rattle.plan_psplib.proofs.GoesLemmas.{Goes, goes_append, then_ok, same_ok, number_goes, limited_goes}
use Rattle.plan_psplib.proofs.CauseLemmas.{plain_err}
use Rattle.plan_psplib.proofs.FailLemmas.{same_err, then_err, check_err, both_false, outside, next_is}
use Rattle.plan_psplib.proofs.SaysLemmas.{plain_is}
use Rattle.plan_orlib.specs.declared.steps.Step.{Step}
use Rattle.plan_orlib.specs.Instances.{stream_of}
use Rattle.plan_orlib.specs.Shop.{Shop, most_jobs, most_machines, time_of, total_time}
use Rattle.plan_orlib.specs.ShopText.{machine_at, step_at, steps_at, jobs_at, shop_at, found_stream, shop}
use Rattle.plan_orlib.specs.Causes.{StopsIn, IsWrong, Shows, ErrorsShow, ReadTextsAreRight}
use Rattle.plan_orlib.proofs.ShopLemmas.{machine_goes, step_goes}

-- a stream stops with this error
abbrev Stops : Stream → Fault → Type 0
Stops s f = StopsIn s f.code f.line

stop_as : (s : Stream) (c : FileCode) (line : ℕ) (f : Fault) → f ≡ record { code = c; line = line } → StopsIn s c line → Stops s f
stop_as s c line f e h = subst (λ (g : Fault). Stops s g) (sym e) h

number_stops : (o s : Stream) (done : List ℕ) (f : Fault) → Goes o done s → number_at s ≡ Err f → Stops o f
unfolding number_at
number_stops o s done f g e = from s.words refl e
  where
    found : (word : LineWord) (words : List LineWord) (n : Option ℕ) → number word.text ≡ n → s.words ≡ word ∷ words
        → as_number word n (record { last = word.line; words = words }) ≡ Err f → Stops o f
    found word words None is at e =
        stop_as o code.BadNumber word.line f (sym (same_err (record { code = code.BadNumber; line = word.line }) f e)) (done, s, g, (word, words, at, refl, is))
    found word words (Some n) is at e = absurd (cc)

    from : (words : List LineWord) → s.words ≡ words → number_of_words s.last words ≡ Err f → Stops o f
    from [] at e = stop_as o code.Count s.last f (sym (same_err (record { code = code.Count; line = s.last }) f e)) (done, s, g, (at, refl))
    from (word ∷ words) at e = found word words (number word.text) refl at e

-- a number of jobs or of machines
limited_stops : (most : ℕ) (o s : Stream) (done : List ℕ) (f : Fault) → Goes o done s
    → ((line : ℕ) → NextIs s line (λ n. (n < 1) ⊎ (most < n)) → StopsIn o code.Limit line) → limited_at 1 most s ≡ Err f → Stops o f
unfolding limited_at limited
limited_stops most o s done f g make e =
    then_err (number_at s) _ f e (λ e. number_stops o s done f g e) (λ x read e.
    then_err (limited 1 most x.0) _ f e
    (λ e. then_err (check (nat_le 1 x.0.value && nat_le x.0.value most) code.Limit x.0.line) _ f e
    (λ e. let both = check_err (nat_le 1 x.0.value && nat_le x.0.value most) code.Limit x.0.line f e in
    stop_as o code.Limit x.0.line f both.1 (make x.0.line (next_is s x (λ n. (n < 1) ⊎ (most < n)) read (outside 1 most x.0.value both.0))))
    (λ u holds e. absurd (cc)))
    (λ v is e. absurd (cc)))

machine_stops : (jobs machines : ℕ) (rest : List ℕ) (o s : Stream) (f : Fault) → Goes o (jobs ∷ machines ∷ rest) s → machine_at machines s ≡ Err f → Stops o f
unfolding machine_at
machine_stops jobs machines rest o s f g e =
    then_err (number_at s) _ f e (λ e. number_stops o s (jobs ∷ machines ∷ rest) f g e) (λ x read e.
    then_err (check (nat_lt x.0.value machines) code.BadMachine x.0.line) _ f e
    (λ e. let both = check_err (nat_lt x.0.value machines) code.BadMachine x.0.line f e in
    stop_as o code.BadMachine x.0.line f both.1
    (jobs ∷ machines ∷ rest, s, g, (jobs, machines, rest, refl, next_is s x (λ n. machines ≤ n) read (ltb-false x.0.value machines both.0))))
    (λ u holds e. absurd (cc)))

duration_stops : (total : ℕ) (o s : Stream) (done : List ℕ) (f : Fault) → total ≤ sum done → Goes o done s → duration_at total s ≡ Err f → Stops o f
unfolding duration_at
duration_stops total o s done f below g e =
    then_err (number_at s) _ f e (λ e. number_stops o s done f g e) (λ x read e.
    then_err (check (nat_le x.0.value greatest && nat_le (total + x.0.value) greatest_total) code.Limit x.0.line) _ f e
    (λ e. let both = check_err (nat_le x.0.value greatest && nat_le (total + x.0.value) greatest_total) code.Limit x.0.line f e in
    stop_as o code.Limit x.0.line f both.1 (
      done,
      s,
      g,
      inr (inr (next_is s x (λ n. (greatest < n) ⊎ (greatest_total < sum done + n)) read
          (beyond x.0.value (both_false (nat_le x.0.value greatest) (nat_le (total + x.0.value) greatest_total) both.0)))),
    ))
    (λ u holds e. absurd (cc)))
  where
    beyond : (n : ℕ) → (nat_le n greatest ≡ false) ⊎ (nat_le (total + n) greatest_total ≡ false) → (greatest < n) ⊎ (greatest_total < sum done + n)
    beyond n (inl high) = inl (leb-false n greatest high)
    beyond n (inr high) = let over : greatest_total < total + n = leb-false (total + n) greatest_total high in inr (omega (arith, over, below))

step_stops : (jobs machines total : ℕ) (rest : List ℕ) (o s : Stream) (f : Fault) → total ≤ sum (jobs ∷ machines ∷ rest) → Goes o (jobs ∷ machines ∷ rest) s
    → step_at machines total s ≡ Err f → Stops o f
unfolding step_at
step_stops jobs machines total rest o s f below g e =
    then_err (machine_at machines s) _ f e (λ e. machine_stops jobs machines rest o s f g e) (λ m first e.
    let gm = goes_append o s m.1 (jobs ∷ machines ∷ rest) (m.0 ∷ []) g (machine_goes machines s m first).0 in
    let pushed = sum_by_push (λ n. n) (jobs ∷ machines ∷ rest) m.0 in
    then_err (duration_at total m.1) _ f e (λ e. duration_stops total o m.1 (jobs ∷ machines ∷ rest ++ m.0 ∷ []) f (omega (arith, below, pushed)) gm e)
    (λ p second e. absurd (cc)))

-- the numbers behind the sizes, after steps that are read; their times are among them
record AreRead (jobs machines total : ℕ) (steps : List Step) (o t : Stream) : Type 0 where
  rest : List ℕ
  goes : Goes o (jobs ∷ machines ∷ rest) t
  below : total + time_of steps ≤ sum (jobs ∷ machines ∷ rest)

one_read : (jobs machines total : ℕ) (before : List Step) (o s : Stream) (y : Step × Stream) → AreRead jobs machines total before o s
    → step_at machines (total + time_of before) s ≡ Ok y → AreRead jobs machines total (before ++ y.0 ∷ []) o y.1
one_read jobs machines total before o s y read e =
    let pushed = sum_by_push (λ (step : Step). step.time) before y.0 in
    let added = sum_by-append (λ n. n) (jobs ∷ machines ∷ read.rest) (y.0.machine ∷ y.0.time ∷ []) in
    let first = sum_by-cons (λ n. n) y.0.machine (y.0.time ∷ []) in
    let second = sum_by-cons (λ n. n) y.0.time [] in
    let below = read.below in
    record {
      rest = read.rest ++ y.0.machine ∷ y.0.time ∷ [];
      goes = goes_append o s y.1 (jobs ∷ machines ∷ read.rest) (y.0.machine ∷ y.0.time ∷ []) read.goes (step_goes machines (total + time_of before) s y e).0;
      below = omega (arith, below, pushed, added, first, second);
    }

steps_stop : (jobs machines total more : ℕ) (before : List Step) (o s : Stream) (f : Fault) → AreRead jobs machines total before o s
    → steps_at machines total more before s ≡ Err f → Stops o f
unfolding steps_at
steps_stop jobs machines total zero before o s f read e = absurd (cc)
steps_stop jobs machines total (suc more) before o s f read e =
    then_err (step_at machines (total + time_of before) s) _ f e
    (λ e. step_stops jobs machines (total + time_of before) read.rest o s f read.below read.goes e) (λ y one e.
    steps_stop jobs machines total more (before ++ y.0 ∷ []) o y.1 f (one_read jobs machines total before o s y read one) e)

steps_are_read : (jobs machines total more : ℕ) (before : List Step) (o s : Stream) (x : List Step × Stream) → AreRead jobs machines total before o s
    → steps_at machines total more before s ≡ Ok x → AreRead jobs machines total x.0 o x.1
unfolding steps_at
steps_are_read jobs machines total zero before o s x read e =
    subst (λ (y : List Step × Stream). AreRead jobs machines total y.0 o y.1) (same_ok (before, s) x e) read
steps_are_read jobs machines total (suc more) before o s x read e =
    then_ok (step_at machines (total + time_of before) s) _ x e (λ y one e.
    steps_are_read jobs machines total more (before ++ y.0 ∷ []) o y.1 x (one_read jobs machines total before o s y read one) e)

jobs_stop : (jobs machines more : ℕ) (before : List (List Step)) (rest : List ℕ) (o s : Stream) (f : Fault) → total_time before ≤ sum (jobs ∷ machines ∷ rest)
    → Goes o (jobs ∷ machines ∷ rest) s → jobs_at machines more before s ≡ Err f → Stops o f
unfolding jobs_at
jobs_stop jobs machines zero before rest o s f below g e = absurd (cc)
jobs_stop jobs machines (suc more) before rest o s f below g e =
    let start : AreRead jobs machines (total_time before) [] o s = record { rest = rest; goes = g; below = omega (arith, below) } in
    then_err (steps_at machines (total_time before) machines [] s) _ f e
    (λ e. steps_stop jobs machines (total_time before) machines [] o s f start e) (λ y one e.
    let read = steps_are_read jobs machines (total_time before) machines [] o s y start one in
    let pushed = sum_by_push time_of before y.0 in
    let below_now = read.below in
    jobs_stop jobs machines more (before ++ y.0 ∷ []) read.rest o y.1 f (omega (arith, pushed, below_now)) read.goes e)

shop_stops : (s : Stream) (f : Fault) → shop_at s ≡ Err f → Stops s f
unfolding shop_at
shop_stops s f e =
    then_err (limited_at 1 most_jobs s) _ f e
    (λ e. limited_stops most_jobs s s [] f refl (λ line next. ([], s, refl, inl (refl, next))) e) (λ jobs first e.
    let gj = (limited_goes 1 most_jobs s jobs first).0 in
    then_err (limited_at 1 most_machines jobs.1) _ f e
    (λ e. limited_stops most_machines s jobs.1 (jobs.0 ∷ []) f gj (λ line next. (jobs.0 ∷ [], jobs.1, gj, inr (inl (jobs.0, refl, next)))) e) (λ machines second e.
    let gm = goes_append s jobs.1 machines.1 (jobs.0 ∷ []) (machines.0 ∷ []) gj (limited_goes 1 most_machines jobs.1 machines second).0 in
    then_err (jobs_at machines.0 jobs.0 [] machines.1) _ f e
    (λ e. jobs_stop jobs.0 machines.0 jobs.0 [] [] s machines.1 f (omega arith) gm e)
    (λ rows third e. absurd (cc))))

-- ---- the text

abbrev ShowsOf : List ℕ → List ℕ → Fault → Type 0
ShowsOf name text f = Shows name f.code text f.line

show_as : (name text : List ℕ) (c : FileCode) (line : ℕ) (f : Fault) → f ≡ record { code = c; line = line } → IsWrong name c text line → ShowsOf name text f
show_as name text c line f e h = subst (λ (g : Fault). ShowsOf name text g) (sym e) (inl h)

plain_shows : (name text : List ℕ) (f : Fault) → plain text ≡ Err f → ShowsOf name text f
plain_shows name text f e = elim (plain_err text f e) [
  | inl long ↦ show_as name text code.TooLong 0 f long.0 (long.1, refl)
  | inr byte ↦ show_as name text code.NotText byte.0 f byte.1 byte.2
]

missing_shows : (name text : List ℕ) (o : Option Stream) (f : Fault) → stream_of name text ≡ o → found_stream (last_line text) o ≡ Err f → ShowsOf name text f
missing_shows name text None f at e =
    show_as name text code.NoInstance (last_line text) f (sym (same_err (record { code = code.NoInstance; line = last_line text }) f e)) (at, refl)
missing_shows name text (Some s) f at e = absurd (cc)

found_as : (name text : List ℕ) (o : Option Stream) (s : Stream) → stream_of name text ≡ o → found_stream (last_line text) o ≡ Ok s → stream_of name text ≡ Some s
found_as name text None s at e = absurd (cc)
found_as name text (Some t) s at e = at ∙ ap (λ (u : Stream). Some u) (same_ok t s e)

pub errors_show : ErrorsShow
unfolding ErrorsShow shop
errors_show = λ name text f e.
    then_err (plain text) _ f e (λ e. plain_shows name text f e) (λ u good e.
    then_err (found_stream (last_line text) (stream_of name text)) _ f e (λ e. missing_shows name text (stream_of name text) f refl e) (λ s found e.
    inr (s, found_as name text (stream_of name text) s refl found, shop_stops s f e)))

-- ---- texts that are read

nothing_wrong : (name text : List ℕ) (s : Stream) (c : FileCode) (line : ℕ) (u : Unit {0}) → plain text ≡ Ok u → stream_of name text ≡ Some s
    → IsWrong name c text line → ⊥
nothing_wrong name text s code.TooLong line u good found (long, at) = let short = (plain_is text u good).0 in absurd (omega (arith, long, short))
nothing_wrong name text s code.NotText line u good found (i, below, none, first, at) = (plain_is text u good).1 i 0 below none
nothing_wrong name text s code.NoInstance line u good found (lacks, at) = none_some (stream_of name text) s lacks found
  where
    none_some : (o : Option Stream) (x : Stream) → o ≡ None → o ≡ Some x → ⊥
    none_some None x e h = absurd (cc)
    none_some (Some y) x e h = absurd (cc)
nothing_wrong name text s code.MissingHead line u good found h = h
nothing_wrong name text s code.Unsupported line u good found h = h
nothing_wrong name text s code.MissingSection line u good found h = h
nothing_wrong name text s code.BadNumber line u good found h = h
nothing_wrong name text s code.JobOrder line u good found h = h
nothing_wrong name text s code.Modes line u good found h = h
nothing_wrong name text s code.Count line u good found h = h
nothing_wrong name text s code.Limit line u good found h = h
nothing_wrong name text s code.Double line u good found h = h
nothing_wrong name text s code.Cycle line u good found h = h
nothing_wrong name text s code.BadMachine line u good found h = h
nothing_wrong name text s code.Memory line u good found h = h

pub read_texts_are_right : ReadTextsAreRight
unfolding ReadTextsAreRight shop
read_texts_are_right = λ name text listed c line e wrong.
    then_ok (plain text) _ listed e (λ u good e.
    then_ok (found_stream (last_line text) (stream_of name text)) _ listed e (λ s found e.
    nothing_wrong name text s c line u good (found_as name text (stream_of name text) s refl found) wrong))
