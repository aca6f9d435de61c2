-- Streams that begin with numbers, and the result of reading them.
use Rattle.std.proofs.Common.{◌≡◌, ℕ, ◌≤◌, ◌==◌, ◌&&◌, Bool, true, false, List, [], ◌∷◌, ◌++◌, Option, Some, None, Result, Ok, Err, map, refl, sym, ap, ◌∙◌, subst}
use Rattle.std.proofs.lemmas.Bool.{leb-true, le-leb, eqb-true, eq-eqb}
use Rattle.std.specs.Prelude.{nat_le}
use Rattle.plan_psplib.specs.declared.text.fault.FileCode.{FileCode}
use Rattle.plan_psplib.specs.declared.text.fault.FileCode.TheVariants as code
use Rattle.plan_psplib.specs.declared.text.fault.Fault.{Fault}
use Rattle.plan_psplib.specs.Numbers.{number}
use Rattle.plan_psplib.specs.Streams.{LineWord, Stream}
use Rattle.plan_psplib.specs.Tokens.{◌>>=◌, LineNumber, check, as_number, number_of_words, number_at, expect_at, within_at, limited, limited_at, end_of_words, end_at}
use Rattle.plan_psplib.specs.Says.{Spells}
use Rattle.plan_psplib.specs.Causes.{BeginsWith}

-- a reading in two steps succeeds if both steps do
pub then_ok : {A B P : Type 0} (r : Result A Fault) (f : A → Result B Fault) (y : B) → (r >>= f) ≡ Ok y → ((x : A) → r ≡ Ok x → f x ≡ Ok y → P) → P
then_ok (Ok x) f y e go = go x refl e
then_ok (Err g) f y e go = absurd (cc)

pub same_ok : {A : Type 0} (x y : A) → Path (Result A Fault) (Ok x) (Ok y) → x ≡ y
same_ok x y e = cc

pub ok_bind : {A B : Type 0} (r : Result A Fault) (f : A → Result B Fault) (x : A) (y : B) → r ≡ Ok x → f x ≡ Ok y → (r >>= f) ≡ Ok y
ok_bind r f x y e h = ap (λ s. s >>= f) e ∙ h

pub check_ok : (b : Bool) (c : FileCode) (n : ℕ) (u : Unit {0}) → check b c n ≡ Ok u → b ≡ true
check_ok true c n u e = refl
check_ok false c n u e = absurd (cc)

pub ok_check : (b : Bool) (c : FileCode) (n : ℕ) → b ≡ true → check b c n ≡ Ok tt
ok_check b c n e = ap (λ b. check b c n) e

pub both_true : (a b : Bool) → (a && b) ≡ true → (a ≡ true) × (b ≡ true)
both_true true b e = (refl, e)
both_true false b e = absurd (cc)

pub true_both : (a b : Bool) → a ≡ true → b ≡ true → (a && b) ≡ true
true_both a b p q = ap (λ a. a && b) p ∙ q

pub between_true : (a b n : ℕ) → (nat_le a n && nat_le n b) ≡ true → (a ≤ n) × (n ≤ b)
between_true a b n e = let both = both_true (nat_le a n) (nat_le n b) e in (leb-true a n both.0, leb-true n b both.1)

pub true_between : (a b n : ℕ) → a ≤ n → n ≤ b → (nat_le a n && nat_le n b) ≡ true
true_between a b n p q = true_both (nat_le a n) (nat_le n b) (le-leb a n p) (le-leb n b q)

-- a stream begins with these numbers, and then continues as the other
abbrev pub Goes : Stream → List ℕ → Stream → Type 0
Goes s ns t = BeginsWith s ns t

pub goes_append : (s t u : Stream) (ms ns : List ℕ) → Goes s ms t → Goes t ns u → Goes s (ms ++ ns) u
goes_append s t u [] ns p q = let P : Stream → Type 0 = λ v. Goes v ns u in subst P p q
goes_append s t u (m ∷ ms) ns p q = (p.0, p.1, p.2, p.3, goes_append (record { last = p.0.line; words = p.1 }) t u ms ns p.4 q)

pub goes_split : (s u : Stream) (ms ns : List ℕ) → Goes s (ms ++ ns) u → (t : Stream) × Goes s ms t × Goes t ns u
goes_split s u [] ns p = (s, refl, p)
goes_split s u (m ∷ ms) ns p = let rest = goes_split (record { last = p.0.line; words = p.1 }) u ms ns p.4 in (rest.0, (p.0, p.1, p.2, p.3, rest.1), rest.2)

same_first : {A : Type 0} (x y : A) (xs ys : List A) → x ∷ xs ≡ y ∷ ys → x ≡ y
same_first x y xs ys e = cc

same_rest : {A : Type 0} (x y : A) (xs ys : List A) → x ∷ xs ≡ y ∷ ys → xs ≡ ys
same_rest x y xs ys e = cc

spelled : (last : ℕ) (words : List LineWord) (ns : List ℕ) → Spells words ns → (t : Stream) × Goes (record { last = last; words = words }) ns t × (t.words ≡ [])
spelled last [] [] e = (record { last = last; words = [] }, refl, refl)
spelled last [] (n ∷ ns) e = absurd (cc)
spelled last (word ∷ words) [] e = absurd (cc)
spelled last (word ∷ words) (n ∷ ns) e =
    let rest = spelled word.line words ns (same_rest (number word.text) (Some n) (map (λ w. number w.text) words) (map Some ns) e) in
    (rest.0, (word, words, refl, same_first (number word.text) (Some n) (map (λ w. number w.text) words) (map Some ns) e, rest.1), rest.2)

-- a stream that these numbers spell begins with them, and no word is left
pub spells_goes : (s : Stream) (ns : List ℕ) → Spells s.words ns → (t : Stream) × Goes s ns t × (t.words ≡ [])
spells_goes s ns e = spelled s.last s.words ns e

-- if no word is left after the numbers, they spell the stream
pub goes_spells : (s t : Stream) (ns : List ℕ) → Goes s ns t → t.words ≡ [] → Spells s.words ns
goes_spells s t [] p e = ap (map (λ w. number w.text)) (sym (ap (λ u. u.words) p) ∙ e)
goes_spells s t (n ∷ ns) p e =
    let rest = goes_spells (record { last = p.0.line; words = p.1 }) t ns p.4 e in
    ap (map (λ w. number w.text)) p.2 ∙ ap (λ x. x ∷ map (λ w. number w.text) p.1) p.3 ∙ ap (λ xs. Some n ∷ xs) rest

-- ---- one number

pub number_goes : (s : Stream) (x : LineNumber × Stream) → number_at s ≡ Ok x → Goes s (x.0.value ∷ []) x.1
unfolding number_at
number_goes s x e = from s.words refl e
  where
    found : (word : LineWord) (words : List LineWord) (o : Option ℕ) → number word.text ≡ o →
        s.words ≡ word ∷ words → as_number word o (record { last = word.line; words = words }) ≡ Ok x →
        Goes s (x.0.value ∷ []) x.1
    found word words None is at e = absurd (cc)
    found word words (Some n) is at e = let same :
        (record { value = n; line = word.line }, record { last = word.line; words = words }) ≡ x = cc in
        subst (λ (y : LineNumber × Stream). Goes s (y.0.value ∷ []) y.1) same (word, words, at, is, refl)

    from : (ws : List LineWord) → s.words ≡ ws → number_of_words s.last ws ≡ Ok x → Goes s (x.0.value ∷ []) x.1
    from [] at e = absurd (cc)
    from (word ∷ words) at e = found word words (number word.text) refl at e

pub goes_number : (s t : Stream) (n : ℕ) → Goes s (n ∷ []) t → number_at s ≡ Ok (record { value = n; line = t.last }, t)
unfolding number_at
goes_number s t n p =
    let next : Stream = record { last = p.0.line; words = p.1 } in
    ap (number_of_words s.last) p.2 ∙ ap (λ o. as_number p.0 o next) p.3 ∙ ap (λ (u : Stream). Ok (record { value = n; line = u.last }, u)) (sym p.4)

pub expect_goes : (n : ℕ) (c : FileCode) (s t : Stream) → expect_at n c s ≡ Ok t → Goes s (n ∷ []) t
unfolding expect_at
expect_goes n c s t e =
    then_ok (number_at s) _ t e (λ x read e.
    then_ok (check (x.0.value == n) c x.0.line) _ t e (λ u holds e.
    let value : x.0.value ≡ n = eqb-true x.0.value n (check_ok (x.0.value == n) c x.0.line u holds) in
    let rest : x.1 ≡ t = same_ok x.1 t e in
    let P : ℕ → Type 0 = λ m. Goes s (m ∷ []) t in
    let Q : Stream → Type 0 = λ v. Goes s (x.0.value ∷ []) v in
    subst P value (subst Q rest (number_goes s x read))))

pub goes_expect : (n : ℕ) (c : FileCode) (s t : Stream) → Goes s (n ∷ []) t → expect_at n c s ≡ Ok t
unfolding expect_at
goes_expect n c s t p =
    ok_bind (number_at s) _ (record { value = n; line = t.last }, t) t (goes_number s t n p)
    (ok_bind (check (n == n) c t.last) _ tt t (ok_check (n == n) c t.last (eq-eqb n n refl)) refl)

pub within_goes : (limit n : ℕ) (s t : Stream) → within_at limit s ≡ Ok (n, t) → Goes s (n ∷ []) t × (n ≤ limit)
unfolding within_at
within_goes limit n s t e =
    then_ok (number_at s) _ (n, t) e (λ x read e.
    then_ok (check (nat_le x.0.value limit) code.Limit x.0.line) _ (n, t) e (λ u holds e.
    let small : x.0.value ≤ limit = leb-true x.0.value limit (check_ok (nat_le x.0.value limit) code.Limit x.0.line u holds) in
    let same : (x.0.value, x.1) ≡ (n, t) = same_ok (x.0.value, x.1) (n, t) e in
    let P : ℕ × Stream → Type 0 = λ y. Goes s (y.0 ∷ []) y.1 × (y.0 ≤ limit) in
    subst P same (number_goes s x read, small)))

pub goes_within : (limit n : ℕ) (s t : Stream) → Goes s (n ∷ []) t → n ≤ limit → within_at limit s ≡ Ok (n, t)
unfolding within_at
goes_within limit n s t p small =
    ok_bind (number_at s) _ (record { value = n; line = t.last }, t) (n, t) (goes_number s t n p)
    (ok_bind (check (nat_le n limit) code.Limit t.last) _ tt (n, t) (ok_check (nat_le n limit) code.Limit t.last (le-leb n limit small)) refl)

pub limited_is : (least most : ℕ) (v : LineNumber) (n : ℕ) → limited least most v ≡ Ok n → (v.value ≡ n) × (least ≤ v.value) × (v.value ≤ most)
unfolding limited
limited_is least most v n e =
    then_ok (check (nat_le least v.value && nat_le v.value most) code.Limit v.line) _ n e (λ u holds e.
    let inside = between_true least most v.value (check_ok _ code.Limit v.line u holds) in
    (same_ok v.value n e, inside.0, inside.1))

pub is_limited : (least most : ℕ) (v : LineNumber) → least ≤ v.value → v.value ≤ most → limited least most v ≡ Ok v.value
unfolding limited
is_limited least most v low high = ok_bind (check (nat_le least v.value && nat_le v.value most) code.Limit
    v.line) _ tt v.value (ok_check _ code.Limit v.line (true_between least most v.value low high)) refl

pub limited_goes : (least most : ℕ) (s : Stream) (x : ℕ × Stream) → limited_at least most s ≡ Ok x → Goes s (x.0 ∷ []) x.1 × (least ≤ x.0) × (x.0 ≤ most)
unfolding limited_at
limited_goes least most s x e =
    then_ok (number_at s) _ x e (λ n read e.
    then_ok (limited least most n.0) _ x e (λ m is e.
    let inside = limited_is least most n.0 m is in
    let P : ℕ × Stream → Type 0 = λ z. Goes s (z.0 ∷ []) z.1 × (least ≤ z.0) × (z.0 ≤ most) in
    let Q : ℕ → Type 0 = λ k. Goes s (k ∷ []) n.1 × (least ≤ k) × (k ≤ most) in
    subst P (same_ok (m, n.1) x e) (subst Q inside.0 (number_goes s n read, inside.1, inside.2))))

pub goes_limited : (least most n : ℕ) (s t : Stream) → Goes s (n ∷ []) t → least ≤ n → n ≤ most → limited_at least most s ≡ Ok (n, t)
unfolding limited_at
goes_limited least most n s t p low high =
    ok_bind (number_at s) _ (record { value = n; line = t.last }, t) (n, t) (goes_number s t n p)
    (ok_bind (limited least most (record { value = n; line = t.last })) _ n (n, t) (is_limited least most (record { value = n; line = t.last }) low high) refl)

pub end_none : (s : Stream) (u : Unit {0}) → end_at s ≡ Ok u → s.words ≡ []
unfolding end_at
end_none s u e = from s.words e
  where
    from : (words : List LineWord) → end_of_words words ≡ Ok u → words ≡ []
    from [] e = refl
    from (word ∷ words) e = absurd (cc)

pub none_end : (s : Stream) → s.words ≡ [] → end_at s ≡ Ok tt
unfolding end_at
none_end s e = ap end_of_words e
