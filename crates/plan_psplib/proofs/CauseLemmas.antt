-- The condition on a text that its first error states.
use Rattle.std.proofs.Common.{◌≡◌, ◌≢◌, ◌⊎◌, ℕ, ◌+◌, ◌<◌, ◌≤◌, ◌==◌, ◌&&◌, List, Option, Some, None, Result, Ok, Err, codes, length, take, get_or, inl, inr, refl, sym, ap, ◌∙◌, subst, arith}
use Rattle.std.specs.Prelude.{nat_le, count_by}
use Rattle.std.specs.List.{position}
use Rattle.std.specs.Option.{option_map}
use Rattle.std.proofs.lemmas.Bool.{leb-false, eqb-true, eqb-false}
use Rattle.std.proofs.lemmas.List.Quantifiers.{position-Some}
use Rattle.plan_net.specs.Limits.{fewest_activities, most_activities}
use Rattle.plan_psplib.specs.declared.text.fault.FileCode.{FileCode}
use Rattle.plan_psplib.specs.declared.text.fault.FileCode.TheVariants as code
use Rattle.plan_psplib.specs.declared.text.fault.Fault.{Fault}
use Rattle.plan_psplib.specs.Lines.{NumberedLine, is_line_feed, last_line}
use Rattle.plan_psplib.specs.Numbers.{number}
use Rattle.plan_psplib.specs.Plain.{longest_text, is_zero, zero_line, no_zero, plain}
use Rattle.plan_psplib.specs.Streams.{Stream}
use Rattle.plan_psplib.specs.Sections.{kept_lines, head_of, section, key_line, value_word, precedence_title, requests_title, availabilities_title}
use Rattle.plan_psplib.specs.Tokens.{LineNumber, check, limited}
use Rattle.plan_psplib.specs.Head.{most_resources, Keys, key_lines, found_line, found_lines, value_of, value_of_word, key_value, values, supported, sizes_in, sizes}
use Rattle.plan_psplib.specs.Precedence.{precedence}
use Rattle.plan_psplib.specs.Requests.{requests, availabilities}
use Rattle.plan_psplib.specs.Document.{Document, found_section, document}
use Rattle.plan_psplib.specs.Says.{Says, HasValue}
use Rattle.plan_psplib.specs.Causes.{IsKey, LacksKey, LacksValue, GivesAt, HasZeroByte, IsSectionTitle, IsWrong, Shows, ErrorsShow, ReadTextsAreRight, ASectionStops}
use Rattle.plan_psplib.proofs.SaysLemmas.{document_said}
use Rattle.plan_psplib.proofs.HeadLemmas.{AreFound, found_lines_are, HasNumber, AreNumbers, values_are, sizes_spelled}
use Rattle.plan_psplib.proofs.GoesLemmas.{same_ok}
use Rattle.plan_psplib.proofs.ArcsLemmas.{precedence_read}
use Rattle.plan_psplib.proofs.AmountsLemmas.{requests_read, availabilities_read}
use Rattle.plan_psplib.proofs.OnceLemmas.{never_both}
use Rattle.plan_psplib.proofs.FailLemmas.{same_err, then_err, check_err, outside}
use Rattle.plan_psplib.proofs.PrecedenceStopLemmas.{precedence_stops, stops_precedence}
use Rattle.plan_psplib.proofs.RequestStopLemmas.{requests_stop, availabilities_stop, stops_requests, stops_availabilities}

-- ---- the text

-- an error of a text shows what it says
abbrev ShowsOf : List ℕ → Fault → Type 0
ShowsOf text f = Shows f.code text f.line

show_as : (text : List ℕ) (c : FileCode) (line : ℕ) (f : Fault) → f ≡ record { code = c; line = line } → IsWrong c text line → ShowsOf text f
show_as text c line f e h = subst (λ (g : Fault). ShowsOf text g) (sym e) (inl h)

-- a section that isn't found
missing_shows : (text title : List ℕ) (o : Option Stream) (f : Fault) → IsSectionTitle title → section title (kept_lines text) ≡ o → found_section (last_line text) o ≡ Err f → ShowsOf text f
missing_shows text title None f is at e =
    show_as text code.MissingSection (last_line text) f (sym (same_err (record { code = code.MissingSection; line = last_line text }) f e)) ((title, is, at), refl)
missing_shows text title (Some s) f is at e = absurd (cc)

found_as : (text title : List ℕ) (o : Option Stream) (s : Stream) → section title (kept_lines text) ≡ o → found_section (last_line text) o ≡ Ok s → section title (kept_lines text) ≡ Some s
found_as text title None s at e = absurd (cc)
found_as text title (Some t) s at e = at ∙ ap (λ (u : Stream). Some u) (same_ok t s e)

-- the first two checks
pub plain_err : (text : List ℕ) (f : Fault) → plain text ≡ Err f
    → ((f ≡ record { code = code.TooLong; line = 0 }) × (longest_text < length text))
    ⊎ ((line : ℕ) × (f ≡ record { code = code.NotText; line = line }) × HasZeroByte text line)
unfolding plain
plain_err text f e =
    then_err (check (nat_le (length text) longest_text) code.TooLong 0) _ f e
    (λ e. let both = check_err (nat_le (length text) longest_text) code.TooLong 0 f e in
    inl (both.1, leb-false (length text) longest_text both.0))
    (λ u short e. by_place (position is_zero text) refl e)
  where
    by_place : (o : Option ℕ) → position is_zero text ≡ o → no_zero (option_map (λ i. count_by is_line_feed (take i text) + 1) o) ≡ Err f
        → ((f ≡ record { code = code.TooLong; line = 0 }) × (longest_text < length text))
        ⊎ ((line : ℕ) × (f ≡ record { code = code.NotText; line = line }) × HasZeroByte text line)
    by_place None at e = absurd (cc)
    by_place (Some i) at e =
        let line = count_by is_line_feed (take i text) + 1 in
        let is = position-Some is_zero text i 0 at in
        inr (
          line,
          sym (same_err (record { code = code.NotText; line = line }) f e),
          (i, is.0, eqb-true (get_or text i 0) 0 is.1, (λ k below zero. eqb-false (get_or text k 0) 0 (is.2 k below) zero), refl),
        )

plain_shows : (text : List ℕ) (f : Fault) → plain text ≡ Err f → ShowsOf text f
plain_shows text f e = elim (plain_err text f e) [
  | inl long ↦ show_as text code.TooLong 0 f long.0 (long.1, refl)
  | inr byte ↦ show_as text code.NotText byte.0 f byte.1 byte.2
]

-- ---- the head

no_line : (text key : List ℕ) (o : Option NumberedLine) (f : Fault) → IsKey key → key_line key (head_of text) ≡ o → found_line (last_line text) o ≡ Err f → ShowsOf text f
no_line text key None f is at e =
    show_as text code.MissingHead (last_line text) f (sym (same_err (record { code = code.MissingHead; line = last_line text }) f e)) ((key, is, at), refl)
no_line text key (Some line) f is at e = absurd (cc)

lines_show : (text : List ℕ) (f : Fault) → found_lines (last_line text) (key_lines (head_of text)) ≡ Err f → ShowsOf text f
unfolding found_lines
lines_show text f e =
    then_err (found_line (last_line text) (key_line (codes "projects") (head_of text))) _ f e (λ e. no_line text (codes "projects") _ f (inl refl) refl e) (λ a is_a e.
    then_err (found_line (last_line text) (key_line (codes "jobs") (head_of text))) _ f e (λ e. no_line text (codes "jobs") _ f (inr (inl refl)) refl e) (λ b is_b e.
    then_err (found_line (last_line text) (key_line (codes "- renewable") (head_of text))) _ f e (λ e. no_line text (codes "- renewable") _ f (inr (inr (inl refl))) refl e) (λ c is_c e.
    then_err (found_line (last_line text) (key_line (codes "- nonrenewable") (head_of text))) _ f e (λ e. no_line text (codes "- nonrenewable") _ f (inr (inr (inr (inl refl)))) refl e) (λ d is_d e.
    then_err (found_line (last_line text) (key_line (codes "- doubly constrained") (head_of text))) _ f e (λ e. no_line text (codes "- doubly constrained") _ f (inr (inr (inr (inr refl)))) refl e) (λ g is_g e. absurd (cc))))))

no_value : (text key : List ℕ) (line : NumberedLine) (f : Fault) → IsKey key → key_line key (head_of text) ≡ Some line → key_value line ≡ Err f → ShowsOf text f
no_value text key line f is at e = by_word (value_word line.text) refl e
  where
    bad : Path (Result LineNumber Fault) (Err (record { code = code.BadNumber; line = line.number })) (Err f) → ((word : List ℕ) → value_word line.text ≡ Some word → number word ≡ None) → ShowsOf text f
    bad e none = show_as text code.BadNumber line.number f (sym (same_err (record { code = code.BadNumber; line = line.number }) f e)) (key, is, (line, at, refl, none))

    by_number : (word : List ℕ) (o : Option ℕ) → value_word line.text ≡ Some word → number word ≡ o → value_of_word line.number o ≡ Err f → ShowsOf text f
    by_number word None is_word is_number e =
        bad e (λ other is_other. ap number (same_some other word (sym is_other ∙ is_word)) ∙ is_number)
      where
        same_some : (x y : List ℕ) → Path (Option (List ℕ)) (Some x) (Some y) → x ≡ y
        same_some x y e = cc
    by_number word (Some n) is_word is_number e = absurd (cc)

    by_word : (o : Option (List ℕ)) → value_word line.text ≡ o → value_of line.number o ≡ Err f → ShowsOf text f
    by_word None is_word e = bad e (λ other is_other. absurd (never other (sym is_word ∙ is_other)))
      where
        never : (x : List ℕ) → Path (Option (List ℕ)) None (Some x) → ⊥
        never x e = cc
    by_word (Some word) is_word e = by_number word (number word) is_word refl e

values_show : (text : List ℕ) (lines : Keys NumberedLine) (f : Fault) → AreFound (key_lines (head_of text)) lines → values lines ≡ Err f → ShowsOf text f
unfolding values
values_show text lines f found e =
    then_err (key_value lines.projects) _ f e (λ e. no_value text (codes "projects") lines.projects f (inl refl) found.projects e) (λ a is_a e.
    then_err (key_value lines.jobs) _ f e (λ e. no_value text (codes "jobs") lines.jobs f (inr (inl refl)) found.jobs e) (λ b is_b e.
    then_err (key_value lines.renewable) _ f e (λ e. no_value text (codes "- renewable") lines.renewable f (inr (inr (inl refl))) found.renewable e) (λ c is_c e.
    then_err (key_value lines.nonrenewable) _ f e (λ e. no_value text (codes "- nonrenewable") lines.nonrenewable f (inr (inr (inr (inl refl)))) found.nonrenewable e) (λ d is_d e.
    then_err (key_value lines.doubly_constrained) _ f e (λ e. no_value text (codes "- doubly constrained") lines.doubly_constrained f (inr (inr (inr (inr refl)))) found.doubly_constrained e) (λ g is_g e. absurd (cc))))))

gives_at : (text key : List ℕ) (line : NumberedLine) (v : LineNumber) → key_line key (head_of text) ≡ Some line → HasNumber line v → GivesAt text key v.line v.value
gives_at text key line v at has = (line, at, sym has.3, has.0, has.1, has.2)

supported_err : (only : ℕ) (v : LineNumber) (f : Fault) → supported only v ≡ Err f → (v.value ≢ only) × (f ≡ record { code = code.Unsupported; line = v.line })
supported_err only v f e =
    let both = check_err (v.value == only) code.Unsupported v.line f e in
    ((λ same. eqb-false v.value only both.0 same), both.1)

limited_err : (least most : ℕ) (v : LineNumber) (f : Fault) → limited least most v ≡ Err f → ((v.value < least) ⊎ (most < v.value)) × (f ≡ record { code = code.Limit; line = v.line })
unfolding limited
limited_err least most v f e =
    then_err (check (nat_le least v.value && nat_le v.value most) code.Limit v.line) _ f e
    (λ e. let both = check_err (nat_le least v.value && nat_le v.value most) code.Limit v.line f e in (outside least most v.value both.0, both.1))
    (λ u holds e. absurd (cc))

sizes_in_show : (text : List ℕ) (lines : Keys NumberedLine) (vs : Keys LineNumber) (f : Fault) → AreFound (key_lines (head_of text)) lines → AreNumbers lines vs
    → sizes_in vs ≡ Err f → ShowsOf text f
unfolding sizes_in
sizes_in_show text lines vs f found has e =
    then_err (supported 1 vs.projects) _ f e
    (λ e. let bad = supported_err 1 vs.projects f e in
    show_as text code.Unsupported vs.projects.line f bad.1 (inl (vs.projects.value, gives_at text (codes "projects") lines.projects vs.projects found.projects has.projects, bad.0))) (λ a is_a e.
    then_err (supported 0 vs.nonrenewable) _ f e
    (λ e. let bad = supported_err 0 vs.nonrenewable f e in
    show_as text code.Unsupported vs.nonrenewable.line f bad.1
    (inr (inl (vs.nonrenewable.value, gives_at text (codes "- nonrenewable") lines.nonrenewable vs.nonrenewable found.nonrenewable has.nonrenewable, bad.0)))) (λ b is_b e.
    then_err (supported 0 vs.doubly_constrained) _ f e
    (λ e. let bad = supported_err 0 vs.doubly_constrained f e in
    show_as text code.Unsupported vs.doubly_constrained.line f bad.1
    (inr (inr (vs.doubly_constrained.value, gives_at text (codes "- doubly constrained") lines.doubly_constrained vs.doubly_constrained found.doubly_constrained has.doubly_constrained, bad.0)))) (λ c is_c e.
    then_err (limited 2 502 vs.jobs) _ f e
    (λ e. let bad = limited_err 2 502 vs.jobs f e in
    show_as text code.Limit vs.jobs.line f bad.1 (inl (vs.jobs.value, gives_at text (codes "jobs") lines.jobs vs.jobs found.jobs has.jobs, bad.0))) (λ d is_d e.
    then_err (limited 1 16 vs.renewable) _ f e
    (λ e. let bad = limited_err 1 16 vs.renewable f e in
    show_as text code.Limit vs.renewable.line f bad.1 (inr (vs.renewable.value, gives_at text (codes "- renewable") lines.renewable vs.renewable found.renewable has.renewable, bad.0))) (λ g is_g e. absurd (cc))))))

sizes_show : (text : List ℕ) (f : Fault) → sizes (last_line text) (head_of text) ≡ Err f → ShowsOf text f
unfolding sizes
sizes_show text f e =
    then_err (found_lines (last_line text) (key_lines (head_of text))) _ f e (λ e. lines_show text f e) (λ lines is_lines e.
    let found = found_lines_are (last_line text) (key_lines (head_of text)) lines is_lines in
    then_err (values lines) _ f e (λ e. values_show text lines f found e) (λ vs is_values e.
    sizes_in_show text lines vs f found (values_are lines vs is_values) e))

-- ---- the whole text

found_shows : (text title : List ℕ) (f : Fault) → IsSectionTitle title → found_section (last_line text) (section title (kept_lines text)) ≡ Err f → ShowsOf text f
found_shows text title f is e = missing_shows text title (section title (kept_lines text)) f is refl e

-- a section that is found
at_section : (text title : List ℕ) (s : Stream) → found_section (last_line text) (section title (kept_lines text)) ≡ Ok s → section title (kept_lines text) ≡ Some s
at_section text title s found = found_as text title (section title (kept_lines text)) s refl found

pub errors_show : ErrorsShow
unfolding ErrorsShow document
errors_show = λ text f e.
    then_err (plain text) _ f e (λ e. plain_shows text f e) (λ u good e.
    then_err (sizes (last_line text) (head_of text)) _ f e (λ e. sizes_show text f e) (λ size is_size e.
    let head = sizes_spelled (last_line text) (head_of text) size is_size in
    then_err (found_section (last_line text) (section precedence_title (kept_lines text))) _ f e (λ e. found_shows text precedence_title f (inl refl) e) (λ first is_first e.
    then_err (precedence size.jobs first) _ f e
    (λ e. inr (size.jobs, size.resources, head.jobs, head.resources, inl (first, at_section text precedence_title first is_first, precedence_stops size.jobs first f e))) (λ arcs is_arcs e.
    then_err (found_section (last_line text) (section requests_title (kept_lines text))) _ f e (λ e. found_shows text requests_title f (inr (inl refl)) e) (λ second is_second e.
    then_err (requests size.jobs size.resources second) _ f e
    (λ e. inr (size.jobs, size.resources, head.jobs, head.resources, inr (inl (second, at_section text requests_title second is_second, requests_stop size.jobs size.resources second f e)))) (λ jobs is_jobs e.
    then_err (found_section (last_line text) (section availabilities_title (kept_lines text))) _ f e (λ e. found_shows text availabilities_title f (inr (inr refl)) e) (λ third is_third e.
    then_err (availabilities size.resources third) _ f e
    (λ e. inr (size.jobs, size.resources, head.jobs, head.resources, inr (inr (third, at_section text availabilities_title third is_third, availabilities_stop size.resources third f e)))) (λ available is_available e. absurd (cc)))))))))

-- ---- texts that are read

none_some : {A : Type 0} (o : Option A) (x : A) → o ≡ None → o ≡ Some x → ⊥
none_some None x e h = absurd (cc)
none_some (Some y) x e h = absurd (cc)

same_some : {A : Type 0} (o : Option A) (x y : A) → o ≡ Some x → o ≡ Some y → x ≡ y
same_some None x y e h = absurd (cc)
same_some (Some z) x y e h = cc

-- a key has one value
one_value : (text key : List ℕ) (at n m : ℕ) → GivesAt text key at n → HasValue text key m → n ≡ m
one_value text key at n m (line, found, number_is, word, word_is, is) (other, also, there, also_is, is_m) =
    let same : line ≡ other = same_some (key_line key (head_of text)) line other found there in
    let words : word ≡ also = same_some (value_word line.text) word also word_is (ap (λ (l : NumberedLine). value_word l.text) same ∙ also_is) in
    same_some (number word) n m is (ap number words ∙ is_m)

no_key : (text key : List ℕ) (n : ℕ) → LacksKey text key → HasValue text key n → ⊥
no_key text key n lacks (line, word, found, word_is, is) = none_some (key_line key (head_of text)) line lacks found

no_number : (text key : List ℕ) (at n : ℕ) → LacksValue text key at → HasValue text key n → ⊥
no_number text key at n (line, found, number_is, none) (other, word, there, word_is, is) =
    let same : line ≡ other = same_some (key_line key (head_of text)) line other found there in
    none_some (number word) n (none word (ap (λ (l : NumberedLine). value_word l.text) same ∙ word_is)) is

-- each key of a head that is read has a value
has_value : (text key : List ℕ) (d : Document) → Says text d → IsKey key → (n : ℕ) × HasValue text key n
has_value text key d says (inl e) = subst (λ (k : List ℕ). (n : ℕ) × HasValue text k n) (sym e) (1, says.one_project)
has_value text key d says (inr (inl e)) = subst (λ (k : List ℕ). (n : ℕ) × HasValue text k n) (sym e) (length d.requests.durations, says.jobs)
has_value text key d says (inr (inr (inl e))) = subst (λ (k : List ℕ). (n : ℕ) × HasValue text k n) (sym e) (length d.available, says.resources)
has_value text key d says (inr (inr (inr (inl e)))) = subst (λ (k : List ℕ). (n : ℕ) × HasValue text k n) (sym e) (0, says.no_nonrenewable)
has_value text key d says (inr (inr (inr (inr e)))) = subst (λ (k : List ℕ). (n : ℕ) × HasValue text k n) (sym e) (0, says.no_doubly_constrained)

has_section : (text title : List ℕ) (d : Document) → Says text d → IsSectionTitle title → (s : Stream) × (section title (kept_lines text) ≡ Some s)
has_section text title d says (inl e) =
    subst (λ (t : List ℕ). (s : Stream) × (section t (kept_lines text) ≡ Some s)) (sym e) (says.precedence.0, says.precedence.1)
has_section text title d says (inr (inl e)) =
    subst (λ (t : List ℕ). (s : Stream) × (section t (kept_lines text) ≡ Some s)) (sym e) (says.requests.0, says.requests.1)
has_section text title d says (inr (inr e)) =
    subst (λ (t : List ℕ). (s : Stream) × (section t (kept_lines text) ≡ Some s)) (sym e) (says.availabilities.0, says.availabilities.1)

not_outside : (least most n m : ℕ) → n ≡ m → least ≤ m → m ≤ most → (n < least) ⊎ (most < n) → ⊥
not_outside least most n m same low high (inl below) = absurd (omega (arith, same, low, below))
not_outside least most n m same low high (inr above) = absurd (omega (arith, same, high, above))

nothing_wrong : (text : List ℕ) (d : Document) (c : FileCode) (line : ℕ) → Says text d → IsWrong c text line → ⊥
nothing_wrong text d code.TooLong line says (long, zero_line) = let short = says.short in absurd (omega (arith, long, short))
nothing_wrong text d code.NotText line says (i, below, none, first, at) = says.plain i 0 below none
nothing_wrong text d code.MissingHead line says ((key, is, lacks), at) =
    let given = has_value text key d says is in no_key text key given.0 lacks given.1
nothing_wrong text d code.Unsupported line says (inl (n, gives, wrong)) = wrong (one_value text (codes "projects") line n 1 gives says.one_project)
nothing_wrong text d code.Unsupported line says (inr (inl (n, gives, wrong))) = wrong (one_value text (codes "- nonrenewable") line n 0 gives says.no_nonrenewable)
nothing_wrong text d code.Unsupported line says (inr (inr (n, gives, wrong))) = wrong (one_value text (codes "- doubly constrained") line n 0 gives says.no_doubly_constrained)
nothing_wrong text d code.MissingSection line says ((title, is, lacks), at) =
    let found = has_section text title d says is in none_some (section title (kept_lines text)) found.0 lacks found.1
nothing_wrong text d code.BadNumber line says (key, is, lacks) =
    let given = has_value text key d says is in no_number text key line given.0 lacks given.1
nothing_wrong text d code.Limit line says (inl (n, gives, beyond)) =
    not_outside fewest_activities most_activities n (length d.requests.durations) (one_value text (codes "jobs") line n (length d.requests.durations) gives says.jobs) says.jobs_fit.0 says.jobs_fit.1 beyond
nothing_wrong text d code.Limit line says (inr (n, gives, beyond)) =
    not_outside 1 most_resources n (length d.available) (one_value text (codes "- renewable") line n (length d.available) gives says.resources) says.resources_fit.0 says.resources_fit.1 beyond
nothing_wrong text d code.JobOrder line says h = h
nothing_wrong text d code.Modes line says h = h
nothing_wrong text d code.Count line says h = h
nothing_wrong text d code.Double line says h = h
nothing_wrong text d code.Cycle line says h = h
nothing_wrong text d code.NoInstance line says h = h
nothing_wrong text d code.BadMachine line says h = h
nothing_wrong text d code.Memory line says h = h

-- a key that is read has its value
has_one : (text key : List ℕ) (n m : ℕ) → HasValue text key n → HasValue text key m → n ≡ m
has_one text key n m (line, word, found, word_is, is) has = one_value text key line.number n m (line, found, refl, word, word_is, is) has

no_stop : (text : List ℕ) (d : Document) (c : FileCode) (line : ℕ) → Says text d → ASectionStops text c line → ⊥
no_stop text d c line says (n, k, jobs, resources, inl (s, at, stops)) =
    let m = length d.requests.durations in
    let same = has_one text (codes "jobs") n m jobs says.jobs in
    let is : s ≡ says.precedence.0 = same_some (section precedence_title (kept_lines text)) s says.precedence.0 at says.precedence.1 in
    let bad : precedence m says.precedence.0 ≡ Err (record { code = c; line = line }) = subst (λ (u : Stream). precedence m u ≡ Err (record { code = c; line = line })) is (subst (λ j. precedence j s ≡ Err (record { code = c; line = line })) same (stops_precedence n s c line stops)) in
    never_both (precedence m says.precedence.0) d.arcs (record { code = c; line = line }) (precedence_read m says.precedence.0 d.arcs says.precedence.3) bad
no_stop text d c line says (n, k, jobs, resources, inr (inl (s, at, stops))) =
    let m = length d.requests.durations in
    let l = length d.available in
    let same_n = has_one text (codes "jobs") n m jobs says.jobs in
    let same_k = has_one text (codes "- renewable") k l resources says.resources in
    let t = says.requests.0 in
    let is : s ≡ t = same_some (section requests_title (kept_lines text)) s t at says.requests.1 in
    let good = requests_read m l t d.requests (record {
      spelled = says.requests.2;
      durations_count = refl;
      needs_count = says.rows;
      small = says.durations_fit;
      total = says.total_fits;
      each = says.needs;
    }) in
    let bad = subst (λ (u : Stream). requests m l u ≡ Err (record { code = c; line = line })) is
    (subst (λ i. requests m i s ≡ Err (record { code = c; line = line })) same_k
    (subst (λ j. requests j k s ≡ Err (record { code = c; line = line })) same_n (stops_requests n k s c line stops))) in
    never_both (requests m l t) d.requests (record { code = c; line = line }) good bad
no_stop text d c line says (n, k, jobs, resources, inr (inr (s, at, stops))) =
    let l = length d.available in
    let same = has_one text (codes "- renewable") k l resources says.resources in
    let t = says.availabilities.0 in
    let is : s ≡ t = same_some (section availabilities_title (kept_lines text)) s t at says.availabilities.1 in
    let good = availabilities_read t d.available says.availabilities.2 says.available_fit in
    let bad = subst (λ (u : Stream). availabilities l u ≡ Err (record { code = c; line = line })) is
    (subst (λ i. availabilities i s ≡ Err (record { code = c; line = line })) same (stops_availabilities k s c line stops)) in
    never_both (availabilities l t) d.available (record { code = c; line = line }) good bad

nothing_shown : (text : List ℕ) (d : Document) (c : FileCode) (line : ℕ) → Says text d → Shows c text line → ⊥
nothing_shown text d c line says (inl wrong) = nothing_wrong text d c line says wrong
nothing_shown text d c line says (inr stops) = no_stop text d c line says stops

pub read_texts_are_right : ReadTextsAreRight
unfolding ReadTextsAreRight
read_texts_are_right = λ text d c line e shown. nothing_shown text d c line (document_said text d e) shown
