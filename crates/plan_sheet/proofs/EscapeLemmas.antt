-- The laws of escaped text.
use Rattle.std.proofs.Common.{◌≡◌, ℕ, ◌<◌, ◌≤◌, Bool, true, false, ◌||◌, ◌==◌, if◌then◌else◌, Some, None, List, [], ◌∷◌, ◌++◌, get_or, flat_map, chars, codes}
use Rattle.std.proofs.Common.{encode_utf8, inl, inr, refl, sym, ap, ◌∙◌, subst, arith, append-nil}
use Rattle.std.specs.List.{list_any}
use Rattle.std.proofs.lemmas.Bool.{cases_lt, eqb-true}
use Rattle.std.proofs.lemmas.Bool.Decides.{nat_tests}
use Rattle.std.proofs.lemmas.List.Elements.{All-from_get_or}
use Rattle.std.proofs.lemmas.List.Folds.{list_any-append, list_any_none}
use Rattle.std.proofs.lemmas.Str.{inside_one, encode_ascii}
use Rattle.plan_sheet.specs.Escape.{is_hidden, shown, is_markup, escaped_char, escaped, shown_text, with_char, read_from}

-- a fact of both choices
pub if_cases : {A : Type 0} (P : A → Type 0) (b : Bool) (x y : A) → (b ≡ true → P x) → (b ≡ false → P y) → P (if b then x else y)
if_cases P true x y at_true at_false = at_true refl
if_cases P false x y at_true at_false = at_false refl

-- the parts of a test that fails
pub or_left : (a b : Bool) → (a || b) ≡ false → a ≡ false
or_left false b e = refl
or_left true b e = e

pub or_right : (a b : Bool) → (a || b) ≡ false → b ≡ false
or_right false b e = e
or_right true b e = cc

-- a test that fails at a character and at all bytes from 128 on fails at each byte of the character
pub none_of_char : (p : ℕ → Bool) (c : ℕ) → p c ≡ false → ((b : ℕ) → 128 ≤ b → p b ≡ false) → list_any p (encode_utf8 c) ≡ false
none_of_char p c own high =
    list_any_none p (encode_utf8 c) (All-from_get_or (λ b. p b ≡ false) (encode_utf8 c) 0 (λ k below.
    elim (cases_lt (get_or (encode_utf8 c) k 0) 128) [
      | inl low ↦ subst (λ b. p b ≡ false) (inside_one c [] (encode_utf8 c) k (sym (append-nil _)) below low) own
      | inr above ↦ high (get_or (encode_utf8 c) k 0) above
    ]))

high_markup : (b : ℕ) → 128 ≤ b → is_markup b ≡ false
high_markup b high = grind (arith, nat_tests)

high_ampersand : (b : ℕ) → 128 ≤ b → (b == 38) ≡ false
high_ampersand b high = grind (arith, nat_tests)

shown_plain : (p : ℕ → Bool) (c : ℕ) → p 0xFFFD ≡ false → p c ≡ false → p (shown c) ≡ false
shown_plain p c mark own = if_cases (λ d. p d ≡ false) (is_hidden c) 0xFFFD c (λ _. mark) (λ _. own)

markup_of_char : (c : ℕ) → list_any is_markup (escaped_char c) ≡ false
unfolding escaped_char
markup_of_char c =
    let P : List ℕ → Type 0 = λ bytes. list_any is_markup bytes ≡ false in
    if_cases P (c == 38) _ _ (λ _. refl) (λ _.
    if_cases P (c == 60) _ _ (λ _. refl) (λ less.
    if_cases P (c == 62) _ _ (λ _. refl) (λ greater.
    if_cases P (c == 34) _ _ (λ _. refl) (λ double.
    if_cases P (c == 39) _ _ (λ _. refl) (λ single.
    none_of_char is_markup (shown c) (shown_plain is_markup c refl (rw (less, greater, double, single))) high_markup)))))

markup_of_chars : (cs : List ℕ) → list_any is_markup (flat_map escaped_char cs) ≡ false
markup_of_chars [] = refl
markup_of_chars (c ∷ cs) = list_any-append is_markup (escaped_char c) (flat_map escaped_char cs) ∙ rw (markup_of_char c, markup_of_chars cs)

-- no byte of an escaped text opens or closes a tag or a quoted attribute
pub no_markup : (text : List ℕ) → list_any is_markup (escaped text) ≡ false
no_markup text = markup_of_chars (chars text)

read_plain : (bytes rest text : List ℕ) → list_any (λ b. b == 38) bytes ≡ false → read_from None rest ≡ Some text → read_from None (bytes ++ rest) ≡ Some (bytes ++ text)
read_plain [] rest text plain reads = reads
read_plain (b ∷ bytes) rest text plain reads =
    rw (or_left (b == 38) _ plain, read_plain bytes rest text (or_right (b == 38) _ plain) reads)

shown_ascii : (c : ℕ) → c < 128 → is_hidden c ≡ false → encode_utf8 (shown c) ≡ c ∷ []
shown_ascii c small plain = ap (λ hidden. encode_utf8 (if hidden then 0xFFFD else c)) plain ∙ encode_ascii c small

read_entity : (k c : ℕ) (rest text bytes : List ℕ) → read_from None bytes ≡ with_char (Some k) (read_from None rest) → k < 128 → is_hidden k ≡ false →
    c ≡ k → read_from None rest ≡ Some text → read_from None bytes ≡ Some (encode_utf8 (shown c) ++ text)
read_entity k c rest text bytes begins small plain is reads =
    begins ∙ ap (with_char (Some k)) reads
    ∙ ap (λ char. Some (char ++ text)) (sym (ap (λ d. encode_utf8 (shown d)) is ∙ shown_ascii k small plain))

read_char : (c : ℕ) (rest text : List ℕ) → read_from None rest ≡ Some text → read_from None (escaped_char c ++ rest) ≡ Some (encode_utf8 (shown c) ++ text)
unfolding escaped_char
read_char c rest text reads =
    let P : List ℕ → Type 0 = λ bytes. read_from None (bytes ++ rest) ≡ Some (encode_utf8 (shown c) ++ text) in
    if_cases P (c == 38) _ _ (λ e. read_entity 38 c rest text (codes "&amp;" ++ rest) refl (omega arith) refl (eqb-true c 38 e) reads) (λ ampersand.
    if_cases P (c == 60) _ _ (λ e. read_entity 60 c rest text (codes "&lt;" ++ rest) refl (omega arith) refl (eqb-true c 60 e) reads) (λ _.
    if_cases P (c == 62) _ _ (λ e. read_entity 62 c rest text (codes "&gt;" ++ rest) refl (omega arith) refl (eqb-true c 62 e) reads) (λ _.
    if_cases P (c == 34) _ _ (λ e. read_entity 34 c rest text (codes "&quot;" ++ rest) refl (omega arith) refl (eqb-true c 34 e) reads) (λ _.
    if_cases P (c == 39) _ _ (λ e. read_entity 39 c rest text (codes "&#39;" ++ rest) refl (omega arith) refl (eqb-true c 39 e) reads) (λ _.
    read_plain (encode_utf8 (shown c)) rest text
    (none_of_char (λ b. b == 38) (shown c) (shown_plain (λ b. b == 38) c refl ampersand) high_ampersand) reads)))))

read_chars : (cs : List ℕ) → read_from None (flat_map escaped_char cs) ≡ Some (flat_map (λ c. encode_utf8 (shown c)) cs)
read_chars [] = refl
read_chars (c ∷ cs) = read_char c (flat_map escaped_char cs) (flat_map (λ c. encode_utf8 (shown c)) cs) (read_chars cs)

-- a reader gets back the text as it is shown
pub reads_back : (text : List ℕ) → read_from None (escaped text) ≡ Some (shown_text text)
reads_back text = read_chars (chars text)
