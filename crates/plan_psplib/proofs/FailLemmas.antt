-- Readings that fail, and the word at which they fail.
use Rattle.std.proofs.Common.{◌≡◌, ◌≢◌, ◌⊎◌, ℕ, zero, suc, ◌+◌, ◌<◌, ◌≤◌, ◌==◌, ◌&&◌, Bool, true, false, List, [], ◌∷◌, ◌++◌, Option, Some, None, Result, Ok, Err, length, inl, inr, refl, sym, ap, ◌∙◌, subst, append_assoc, arith, ◌-◌, append-nil}
use Rattle.std.specs.Prelude.{nat_le}
use Rattle.std.specs.List.{AllByRecursion}
use Rattle.std.proofs.lemmas.Bool.{leb-false, eqb-true, eqb-false, leb-true}
use Rattle.plan_psplib.specs.declared.text.fault.FileCode.{FileCode}
use Rattle.plan_psplib.specs.declared.text.fault.FileCode.TheVariants as code
use Rattle.plan_psplib.specs.declared.text.fault.Fault.{Fault}
use Rattle.plan_psplib.specs.Numbers.{number}
use Rattle.plan_psplib.specs.Streams.{LineWord, Stream}
use Rattle.plan_psplib.specs.Tokens.{◌>>=◌, LineNumber, check, as_number, number_of_words, number_at, expect_at, within_at, end_of_words, end_at, greatest}
use Rattle.plan_psplib.specs.Requests.{amounts_at}
use Rattle.plan_psplib.specs.Places.{AreFirstAmounts}
use Rattle.plan_psplib.specs.Causes.{NextIs, NextIsNoNumber, EndsAt, GoesOnAt, StopsIn}
use Rattle.plan_psplib.proofs.GoesLemmas.{Goes, goes_append, same_ok, number_goes, goes_number, within_goes, between_true, goes_within}

-- ---- two steps, of which one fails

pub same_err : {A : Type 0} (f g : Fault) → Path (Result A Fault) (Err f) (Err g) → f ≡ g
same_err f g e = cc

pub then_err : {A B P : Type 0} (r : Result A Fault) (f : A → Result B Fault) (g : Fault) → (r >>= f) ≡ Err g
    → (r ≡ Err g → P) → ((x : A) → r ≡ Ok x → f x ≡ Err g → P) → P
then_err (Ok x) f g e bad go = go x refl e
then_err {A} (Err h) f g e bad go = bad (ap (λ (x : Fault). let r : Result A Fault = Err x in r) (same_err h g e))

pub check_err : (b : Bool) (c : FileCode) (line : ℕ) (f : Fault) → check b c line ≡ Err f → (b ≡ false) × (f ≡ record { code = c; line = line })
check_err true c line f e = absurd (cc)
check_err false c line f e = (refl, sym (same_err (record { code = c; line = line }) f e))

pub both_false : (a b : Bool) → (a && b) ≡ false → (a ≡ false) ⊎ (b ≡ false)
both_false true b e = inr e
both_false false b e = inl refl

pub outside : (least most n : ℕ) → (nat_le least n && nat_le n most) ≡ false → (n < least) ⊎ (most < n)
outside least most n e = elim (both_false (nat_le least n) (nat_le n most) e) [
  | inl low ↦ inl (leb-false least n low)
  | inr high ↦ inr (leb-false n most high)
]

pub next_is : (s : Stream) (x : LineNumber × Stream) (P : ℕ → Type 0) → number_at s ≡ Ok x → P x.0.value → NextIs s x.0.line P
next_is s x P read holds =
    let g = number_goes s x read in
    let same : (record { value = x.0.value; line = x.1.last }, x.1) ≡ x = same_ok (record { value = x.0.value; line = x.1.last }, x.1) x (sym (goes_number s x.1 x.0.value g) ∙ read) in
    let line : x.0.line ≡ g.0.line = sym (ap (λ (y : LineNumber × Stream). y.0.line) same) ∙ ap (λ (u : Stream). u.last) g.4 in
    (g.0, g.1, g.2, line, x.0.value, g.3, holds)

-- ---- a section stops

-- what is wrong with the next word, behind the numbers of a section before it
abbrev pub Kind : Type 1
Kind = FileCode → List ℕ → Stream → ℕ → Type 0

pub stop_at : (P : Kind) (o s : Stream) (done : List ℕ) (c : FileCode) (line : ℕ) (f : Fault) → Goes o done s → f ≡ record { code = c; line = line } → P c done s line → StopsIn P o f.code f.line
stop_at P o s done c line f g e h = subst (λ (x : Fault). StopsIn P o x.code x.line) (sym e) (done, s, g, h)

pub number_stops : (P : Kind) (o s : Stream) (done : List ℕ) (f : Fault) → Goes o done s
    → ((line : ℕ) → NextIsNoNumber s line → P code.BadNumber done s line)
    → ((line : ℕ) → EndsAt s line → P code.Count done s line)
    → number_at s ≡ Err f → StopsIn P o f.code f.line
unfolding number_at
number_stops P o s done f g bad ends e = from s.words refl e
  where
    found : (word : LineWord) (words : List LineWord) (n : Option ℕ) → number word.text ≡ n → s.words ≡ word ∷ words
        → as_number word n (record { last = word.line; words = words }) ≡ Err f → StopsIn P o f.code f.line
    found word words None is at e =
        stop_at P o s done code.BadNumber word.line f g (sym (same_err (record { code = code.BadNumber; line = word.line }) f e)) (bad word.line (word, words, at, refl, is))
    found word words (Some n) is at e = absurd (cc)

    from : (words : List LineWord) → s.words ≡ words → number_of_words s.last words ≡ Err f → StopsIn P o f.code f.line
    from [] at e = stop_at P o s done code.Count s.last f g (sym (same_err (record { code = code.Count; line = s.last }) f e)) (ends s.last (at, refl))
    from (word ∷ words) at e = found word words (number word.text) refl at e

pub expect_stops : (P : Kind) (n : ℕ) (c : FileCode) (o s : Stream) (done : List ℕ) (f : Fault) → Goes o done s
    → ((line : ℕ) → NextIsNoNumber s line → P code.BadNumber done s line)
    → ((line : ℕ) → EndsAt s line → P code.Count done s line)
    → ((line : ℕ) → NextIs s line (λ m. m ≢ n) → P c done s line)
    → expect_at n c s ≡ Err f → StopsIn P o f.code f.line
unfolding expect_at
expect_stops P n c o s done f g bad ends other e =
    then_err (number_at s) _ f e (λ e. number_stops P o s done f g bad ends e) (λ x read e.
    then_err (check (x.0.value == n) c x.0.line) _ f e
    (λ e. let both = check_err (x.0.value == n) c x.0.line f e in
    stop_at P o s done c x.0.line f g both.1 (other x.0.line (next_is s x (λ m. m ≢ n) read (λ same. eqb-false x.0.value n both.0 same))))
    (λ u holds e. absurd (cc)))

pub within_stops : (P : Kind) (o s : Stream) (done : List ℕ) (f : Fault) → Goes o done s
    → ((line : ℕ) → NextIsNoNumber s line → P code.BadNumber done s line)
    → ((line : ℕ) → EndsAt s line → P code.Count done s line)
    → ((line : ℕ) → NextIs s line (λ m. greatest < m) → P code.Limit done s line)
    → within_at greatest s ≡ Err f → StopsIn P o f.code f.line
unfolding within_at
within_stops P o s done f g bad ends beyond e =
    then_err (number_at s) _ f e (λ e. number_stops P o s done f g bad ends e) (λ x read e.
    then_err (check (nat_le x.0.value greatest) code.Limit x.0.line) _ f e
    (λ e. let both = check_err (nat_le x.0.value greatest) code.Limit x.0.line f e in
    stop_at P o s done code.Limit x.0.line f g both.1 (beyond x.0.line (next_is s x (λ m. greatest < m) read (leb-false x.0.value greatest both.0))))
    (λ u holds e. absurd (cc)))

pub end_stops : (P : Kind) (o s : Stream) (done : List ℕ) (f : Fault) → Goes o done s
    → ((line : ℕ) → GoesOnAt s line → P code.Count done s line) → end_at s ≡ Err f → StopsIn P o f.code f.line
unfolding end_at
end_stops P o s done f g more e = from s.words refl e
  where
    from : (words : List LineWord) → s.words ≡ words → end_of_words words ≡ Err f → StopsIn P o f.code f.line
    from [] at e = absurd (cc)
    from (word ∷ words) at e =
        stop_at P o s done code.Count word.line f g (sym (same_err (record { code = code.Count; line = word.line }) f e)) (more word.line (word, words, at, refl))

-- ---- numbers with one more at the end

pub all_push : {A : Type 0} (P : A → Type 0) (xs : List A) (x : A) → AllByRecursion P xs → P x → AllByRecursion P (xs ++ x ∷ [])
all_push P [] x h p = (p, tt)
all_push P (y ∷ xs) x h p = (h.0, all_push P xs x h.1 p)

pub length_push : {A : Type 0} (xs : List A) (x : A) → length (xs ++ x ∷ []) ≡ length xs + 1
length_push [] x = refl
length_push (y ∷ xs) x = let rest = length_push xs x in omega (arith, rest)

pub goes_push : (o s t : Stream) (whole own more : List ℕ) → Goes o (whole ++ own) s → Goes s more t → Goes o (whole ++ (own ++ more)) t
goes_push o s t whole own more g p = subst (λ (done : List ℕ). Goes o done t) (append_assoc whole own more) (goes_append o s t (whole ++ own) more g p)

-- ---- amounts behind other numbers

pub amounts_stop : (P : Kind) (k more : ℕ) (front listed : List ℕ) (o s : Stream) (f : Fault)
    → ((ns : List ℕ) (t : Stream) (line : ℕ) → AreFirstAmounts k ns → NextIsNoNumber t line → P code.BadNumber (front ++ ns) t line)
    → ((ns : List ℕ) (t : Stream) (line : ℕ) → AreFirstAmounts k ns → EndsAt t line → P code.Count (front ++ ns) t line)
    → ((ns : List ℕ) (t : Stream) (line : ℕ) → AreFirstAmounts k ns → NextIs t line (λ m. greatest < m) → P code.Limit (front ++ ns) t line)
    → length listed + more ≡ k → AllByRecursion (λ n. n ≤ greatest) listed
    → Goes o (front ++ listed) s → amounts_at more listed s ≡ Err f → StopsIn P o f.code f.line
unfolding amounts_at
amounts_stop P k zero front listed o s f bad ends beyond count small g e = absurd (cc)
amounts_stop P k (suc more) front listed o s f bad ends beyond count small g e =
    let first : AreFirstAmounts k listed = (omega (arith, count), small) in
    then_err (within_at greatest s) _ f e
    (λ e. within_stops P o s (front ++ listed) f g (λ line next. bad listed s line first next) (λ line over. ends listed s line first over) (λ line next. beyond listed s line first next) e)
    (λ y read e.
    let one = within_goes greatest y.0 s y.1 read in
    let long = length_push listed y.0 in
    amounts_stop P k more front (listed ++ y.0 ∷ []) o y.1 f bad ends beyond (omega (arith, count, long)) (all_push (λ n. n ≤ greatest) listed y.0 small one.1)
    (goes_push o s y.1 front listed (y.0 ∷ []) g one.0) e)

-- ---- a word that is wrong is read as its error

pub ok_then : {A B : Type 0} (r : Result A Fault) (f : A → Result B Fault) (x : A) (y : Result B Fault) → r ≡ Ok x → f x ≡ y → (r >>= f) ≡ y
ok_then r f x y e h = ap (λ s. s >>= f) e ∙ h

pub err_then : {A B : Type 0} (r : Result A Fault) (f : A → Result B Fault) (g : Fault) → r ≡ Err g → (r >>= f) ≡ Err g
err_then r f g e = ap (λ s. s >>= f) e

pub err_check : (b : Bool) (c : FileCode) (line : ℕ) → b ≡ false → check b c line ≡ Err (record { code = c; line = line })
err_check b c line e = ap (λ b. check b c line) e

pub bad_number : (s : Stream) (line : ℕ) → NextIsNoNumber s line → number_at s ≡ Err (record { code = code.BadNumber; line = line })
unfolding number_at
bad_number s line (word, words, at, is, none) =
    ap (number_of_words s.last) at ∙ ap (λ o. as_number word o (record { last = word.line; words = words })) none
    ∙ ap (λ n. let r : Result (LineNumber × Stream) Fault = Err (record { code = code.BadNumber; line = n }) in r) (sym is)

pub no_number : (s : Stream) (line : ℕ) → EndsAt s line → number_at s ≡ Err (record { code = code.Count; line = line })
unfolding number_at
no_number s line (at, is) =
    ap (number_of_words s.last) at ∙ ap (λ n. let r : Result (LineNumber × Stream) Fault = Err (record { code = code.Count; line = n }) in r) (sym is)

-- the number that is next
pub record Next (s : Stream) (line : ℕ) (P : ℕ → Type 0) : Type 0 where
  pub value : ℕ
  pub rest : Stream
  pub read : number_at s ≡ Ok (record { value = value; line = line }, rest)
  pub holds : P value

pub next_read : (s : Stream) (line : ℕ) (P : ℕ → Type 0) → NextIs s line P → Next s line P
unfolding number_at
next_read s line P (word, words, at, is, n, number_is, holds) =
    let rest : Stream = record { last = word.line; words = words } in
    record {
      value = n;
      rest = rest;
      read =
          ap (number_of_words s.last) at ∙ ap (λ o. as_number word o rest) number_is
          ∙ ap (λ l. let r : Result (LineNumber × Stream) Fault = Ok (record { value = n; line = l }, rest) in r) (sym is);
      holds = holds;
    }

pub not_same : (n m : ℕ) → n ≢ m → (n == m) ≡ false
not_same n m other = by_case (n == m) refl
  where
    by_case : (b : Bool) → (n == m) ≡ b → b ≡ false
    by_case true e = absurd (other (eqb-true n m e))
    by_case false e = refl

pub above_false : (most n : ℕ) → most < n → nat_le n most ≡ false
above_false most n above = by_case (nat_le n most) refl
  where
    by_case : (b : Bool) → nat_le n most ≡ b → b ≡ false
    by_case true e = let below = leb-true n most e in absurd (omega (arith, above, below))
    by_case false e = refl

pub not_between : (least most n : ℕ) → (n < least) ⊎ (most < n) → (nat_le least n && nat_le n most) ≡ false
not_between least most n out = by_case (nat_le least n && nat_le n most) refl
  where
    by_case : (b : Bool) → (nat_le least n && nat_le n most) ≡ b → b ≡ false
    by_case true e = let inside = between_true least most n e in absurd (none out inside.0 inside.1)
      where
        none : (n < least) ⊎ (most < n) → least ≤ n → n ≤ most → ⊥
        none (inl low) p q = absurd (omega (arith, low, p))
        none (inr high) p q = absurd (omega (arith, high, q))
    by_case false e = refl

pub bad_expect : (n : ℕ) (c : FileCode) (s : Stream) (f : Fault) → number_at s ≡ Err f → expect_at n c s ≡ Err f
unfolding expect_at
bad_expect n c s f e = err_then (number_at s) _ f e

pub other_expect : (n : ℕ) (c : FileCode) (s : Stream) (line : ℕ) → NextIs s line (λ m. m ≢ n) → expect_at n c s ≡ Err (record { code = c; line = line })
unfolding expect_at
other_expect n c s line next =
    let x = next_read s line (λ m. m ≢ n) next in
    ok_then (number_at s) _ (record { value = x.value; line = line }, x.rest) (Err (record { code = c; line = line })) x.read
    (err_then (check (x.value == n) c line) _ (record { code = c; line = line }) (err_check (x.value == n) c line (not_same x.value n x.holds)))

pub more_end : (s : Stream) (line : ℕ) → GoesOnAt s line → end_at s ≡ Err (record { code = code.Count; line = line })
unfolding end_at
more_end s line (word, words, at, is) = ap end_of_words at ∙ ap (λ n. let r : Result (Unit {0}) Fault = Err (record { code = code.Count; line = n }) in r) (sym is)

pub bad_within : (s : Stream) (f : Fault) → number_at s ≡ Err f → within_at greatest s ≡ Err f
unfolding within_at
bad_within s f e = err_then (number_at s) _ f e

pub beyond_within : (s : Stream) (line : ℕ) → NextIs s line (λ m. greatest < m) → within_at greatest s ≡ Err (record { code = code.Limit; line = line })
unfolding within_at
beyond_within s line next =
    let x = next_read s line (λ m. greatest < m) next in
    let f : Fault = record { code = code.Limit; line = line } in
    ok_then (number_at s) _ (record { value = x.value; line = line }, x.rest) (Err f) x.read
    (err_then (check (nat_le x.value greatest) code.Limit line) _ f (err_check (nat_le x.value greatest) code.Limit line (above_false greatest x.value x.holds)))

pub amounts_read : (more : ℕ) (before listed : List ℕ) (s t : Stream) → Goes s listed t → AllByRecursion (λ n. n ≤ greatest) listed
    → amounts_at (length listed + more) before s ≡ amounts_at more (before ++ listed) t
unfolding amounts_at
amounts_read more before [] s t p small =
    let none : length {A = ℕ} [] + more ≡ more = omega arith in
    ap (λ m. amounts_at m before s) none ∙ ap (λ (u : Stream). amounts_at more before u) (sym p) ∙ ap (λ (xs : List ℕ). amounts_at more xs t) (sym (append-nil before))
amounts_read more before (n ∷ ns) s t p small =
    let mid : Stream = record { last = p.0.line; words = p.1 } in
    let one : length (n ∷ ns) + more ≡ suc (length ns + more) = omega arith in
    ap (λ m. amounts_at m before s) one ∙ ok_then (within_at greatest s) _ (n, mid) (amounts_at more (before ++ n ∷ ns) t) (goes_within greatest n s mid (p.0, p.1, p.2, p.3, refl) small.0)
    (amounts_read more (before ++ n ∷ []) ns mid t p.4 small.1 ∙ ap (λ (xs : List ℕ). amounts_at more xs t) (append_assoc before (n ∷ []) ns))

-- the next of k amounts isn't read
pub amounts_fail : (k : ℕ) (listed : List ℕ) (s t : Stream) (f : Fault) → AreFirstAmounts k listed → Goes s listed t → within_at greatest t ≡ Err f → amounts_at k [] s ≡ Err f
unfolding amounts_at
amounts_fail k listed s t f first p e =
    let fewer = first.0 in
    let more = k - suc (length listed) in
    let count : k ≡ length listed + suc more = omega (arith, fewer) in
    ap (λ m. amounts_at m [] s) count ∙ amounts_read (suc more) [] listed s t p first.1 ∙ err_then (within_at greatest t) _ f e
