-- A line of an id or a name changes nothing of the project that a text says.
use Rattle.std.proofs.Common.{◌≡◌, ℕ, ◌+◌, ◌&&◌, ◌||◌, Bool, true, false, List, [], ◌∷◌, ◌++◌, Option, Some, None, length, map, drop, codes, refl, sym, ap, ◌∙◌, subst, append_assoc, cond}
use Rattle.std.specs.Prelude.{not, nat_eq}
use Rattle.std.specs.List.{flat_map}
use Rattle.std.proofs.lemmas.Bool.{and_parts, and_from, not-true, not_from_false, eqb-true, false≢true, or_parts}
use Rattle.std.proofs.lemmas.List.{map-append}
use Rattle.std.proofs.lemmas.List.Folds.{list_all-append}
use Rattle.plan_psplib.specs.Document.{Document}
use Rattle.plan_psplib.specs.Lines.{NumberedLine, raw_lines, trim, words}
use Rattle.plan_psplib.specs.Numbers.{number}
use Rattle.plan_psplib.specs.Project.{Project, SaysProject}
use Rattle.plan_psplib.specs.Says.{HasValue, Says, SectionSpells, Spells, precedence_numbers}
use Rattle.plan_psplib.specs.Sections.{availabilities_title, before_title, begins_with, head_of, information_title, is_kept, is_title, kept_lines, key_line, precedence_title, requests_title, section, section_from}
use Rattle.plan_psplib.specs.Streams.{LineWord, Stream, words_at, words_of}
use Rattle.plan_table.specs.NameLines.{HasNameLine, IsReadable, NameLinesChangeNothing, is_name_line}
use Rattle.plan_table.proofs.RowListLemmas.{no_availabilities, no_requests}
use Rattle.plan_table.proofs.SectionLemmas.{kept_at, kept_from, no_titles, none_begins, section_past}

-- ---- texts of lines and words, whatever their numbers

abbrev line_texts : List NumberedLine → List (List ℕ)
line_texts ls = map (λ (l : NumberedLine). l.text) ls

abbrev word_texts : List LineWord → List (List ℕ)
word_texts ws = map (λ (w : LineWord). w.text) ws

abbrev texts : Option Stream → Option (List (List ℕ))
texts None = None
texts (Some s) = Some (word_texts s.words)

words_at_texts : (n : ℕ) (ws : List (List ℕ)) → word_texts (words_at n ws) ≡ ws
words_at_texts n [] = refl
words_at_texts n (w ∷ ws) = ap (λ os. w ∷ os) (words_at_texts n ws)

words_by_lines : (ls : List NumberedLine) → word_texts (words_of ls) ≡ flat_map words (line_texts ls)
words_by_lines [] = refl
words_by_lines (l ∷ ls) =
    map-append (λ (w : LineWord). w.text) (words_at l.number (words l.text)) (words_of ls)
    ∙ ap (λ ws. ws ++ word_texts (words_of ls)) (words_at_texts l.number (words l.text))
    ∙ ap (λ ws. words l.text ++ ws) (words_by_lines ls)

drop_texts : (ls ks : List NumberedLine) → line_texts ls ≡ line_texts ks → line_texts (drop 1 ls) ≡ line_texts (drop 1 ks)
drop_texts [] [] e = refl
drop_texts [] (k ∷ ks) e = absurd (cc)
drop_texts (l ∷ ls) [] e = absurd (cc)
drop_texts (l ∷ ls) (k ∷ ks) e = cc

section_texts : (n m : ℕ) (ls ks : List NumberedLine) → line_texts (before_title ls) ≡ line_texts (before_title ks) → texts (Some (section_from n ls)) ≡ texts (Some (section_from m ks))
section_texts n m ls ks e =
    ap (λ (ws : List (List ℕ)). Some ws) (words_by_lines (drop 1 (before_title ls)) ∙ ap (flat_map words) (drop_texts (before_title ls) (before_title ks) e)
    ∙ sym (words_by_lines (drop 1 (before_title ks))))

-- ---- lines with other numbers

before_moved : (n m : ℕ) (ls : List (List ℕ)) → line_texts (before_title (kept_from n ls)) ≡ line_texts (before_title (kept_from m ls))
before_moved n m [] = refl
before_moved n m (l ∷ ls) = by_kept (is_kept (trim l)) (is_title (trim l)) (before_moved (n + 1) (m + 1) ls)
  where
    by_title : (t : Bool) → line_texts (before_title (kept_from (n + 1) ls)) ≡ line_texts (before_title (kept_from (m + 1) ls)) →
        line_texts (cond t [] (kept_at n l ∷ before_title (kept_from (n + 1) ls))) ≡ line_texts (cond t [] (kept_at m l ∷ before_title (kept_from (m + 1) ls)))
    by_title true rest = refl
    by_title false rest = ap (λ ts. trim l ∷ ts) rest

    by_kept : (b t : Bool) → line_texts (before_title (kept_from (n + 1) ls)) ≡ line_texts (before_title (kept_from (m + 1) ls)) →
        line_texts (before_title (cond b (kept_at n l ∷ kept_from (n + 1) ls) (kept_from (n + 1) ls))) ≡ line_texts (before_title (cond b (kept_at m l ∷ kept_from (m + 1) ls) (kept_from (m + 1) ls)))
    by_kept true t rest = by_title (is_title (trim l)) rest
    by_kept false t rest = rest

section_moved : (title : List ℕ) (n m : ℕ) (ls : List (List ℕ)) → texts (section title (kept_from n ls)) ≡ texts (section title (kept_from m ls))
section_moved title n m [] = refl
section_moved title n m (l ∷ ls) = by_kept (is_kept (trim l)) (section_moved title (n + 1) (m + 1) ls)
  where
    by_begins : (t : Bool) → texts (section title (kept_from (n + 1) ls)) ≡ texts (section title (kept_from (m + 1) ls)) →
        texts (cond t (Some (section_from n (kept_from (n + 1) ls))) (section title (kept_from (n + 1) ls)))
        ≡ texts (cond t (Some (section_from m (kept_from (m + 1) ls))) (section title (kept_from (m + 1) ls)))
    by_begins true rest = section_texts n m (kept_from (n + 1) ls) (kept_from (m + 1) ls) (before_moved (n + 1) (m + 1) ls)
    by_begins false rest = rest

    by_kept : (b : Bool) → texts (section title (kept_from (n + 1) ls)) ≡ texts (section title (kept_from (m + 1) ls)) →
        texts (section title (cond b (kept_at n l ∷ kept_from (n + 1) ls) (kept_from (n + 1) ls))) ≡ texts (section title (cond b (kept_at m l ∷ kept_from (m + 1) ls) (kept_from (m + 1) ls)))
    by_kept true rest = by_begins (begins_with (trim l) title) rest
    by_kept false rest = rest

-- ---- lines behind a title

-- what stands before a title line doesn't depend on what stands behind it
before_same : (n : ℕ) (before : List (List ℕ)) (title : List ℕ) (xs ys : List (List ℕ)) → is_kept (trim title) ≡ true → is_title (trim title) ≡ true →
    before_title (kept_from n (before ++ title ∷ xs)) ≡ before_title (kept_from n (before ++ title ∷ ys))
before_same n [] title xs ys kept is = by_lines xs ∙ sym (by_lines ys)
  where
    by_lines : (zs : List (List ℕ)) → before_title (kept_from n (title ∷ zs)) ≡ []
    by_lines zs = ap (λ b. before_title (cond b (kept_at n title ∷ kept_from (n + 1) zs) (kept_from (n + 1) zs))) kept
        ∙ ap (λ b. cond b [] (kept_at n title ∷ before_title (kept_from (n + 1) zs))) is
before_same n (l ∷ before) title xs ys kept is = by_kept (is_kept (trim l)) (before_same (n + 1) before title xs ys kept is)
  where
    by_kept : (b : Bool) → before_title (kept_from (n + 1) (before ++ title ∷ xs)) ≡ before_title (kept_from (n + 1) (before ++ title ∷ ys)) →
        before_title (cond b (kept_at n l ∷ kept_from (n + 1) (before ++ title ∷ xs)) (kept_from (n + 1) (before ++ title ∷ xs)))
        ≡ before_title (cond b (kept_at n l ∷ kept_from (n + 1) (before ++ title ∷ ys)) (kept_from (n + 1) (before ++ title ∷ ys)))
    by_kept true rest = ap (λ ls. cond (is_title (trim l)) [] (kept_at n l ∷ ls)) rest
    by_kept false rest = rest

-- sections of lines behind a title that isn't theirs
section_behind : (wanted : List ℕ) (n : ℕ) (before : List (List ℕ)) (title : List ℕ) (xs ys : List (List ℕ)) → is_kept (trim title) ≡ true → is_title (trim title) ≡ true →
    begins_with (trim title) wanted ≡ false → ((k : ℕ) → texts (section wanted (kept_from k xs)) ≡ texts (section wanted (kept_from k ys))) →
    texts (section wanted (kept_from n (before ++ title ∷ xs))) ≡ texts (section wanted (kept_from n (before ++ title ∷ ys)))
section_behind wanted n [] title xs ys kept is other same = by_lines xs ∙ same (n + 1) ∙ sym (by_lines ys)
  where
    by_lines : (zs : List (List ℕ)) → texts (section wanted (kept_from n (title ∷ zs))) ≡ texts (section wanted (kept_from (n + 1) zs))
    by_lines zs = ap (λ b. texts (section wanted (cond b (kept_at n title ∷ kept_from (n + 1) zs) (kept_from (n + 1) zs)))) kept
        ∙ ap (λ b. texts (cond b (Some (section_from n (kept_from (n + 1) zs))) (section wanted (kept_from (n + 1) zs)))) other
section_behind wanted n (l ∷ before) title xs ys kept is other same =
    by_kept (is_kept (trim l)) (section_behind wanted (n + 1) before title xs ys kept is other same)
  where
    a : List NumberedLine
    a = kept_from (n + 1) (before ++ title ∷ xs)

    b : List NumberedLine
    b = kept_from (n + 1) (before ++ title ∷ ys)

    by_begins : (t : Bool) → texts (section wanted a) ≡ texts (section wanted b) → texts (cond t (Some (section_from n a)) (section wanted a)) ≡ texts (cond t (Some (section_from n b)) (section wanted b))
    by_begins true rest = section_texts n n a b (ap line_texts (before_same (n + 1) before title xs ys kept is))
    by_begins false rest = rest

    by_kept : (t : Bool) → texts (section wanted a) ≡ texts (section wanted b) → texts (section wanted (cond t (kept_at n l ∷ a) a)) ≡ texts (section wanted (cond t (kept_at n l ∷ b) b))
    by_kept true rest = by_begins (begins_with (trim l) wanted) rest
    by_kept false rest = rest

-- ---- names

-- lines that are no titles begin with none
none_wanted : (wanted : List ℕ) → ((text : List ℕ) → is_title text ≡ false → begins_with text wanted ≡ false) → (ls : List (List ℕ)) → no_titles ls ≡ true → none_begins wanted ls ≡ true
none_wanted wanted none [] h = refl
none_wanted wanted none (l ∷ ls) h =
    let parts = and_parts (not (is_title (trim l))) (no_titles ls) h in
    and_from _ _ (not_from_false _ (none (trim l) (not-true (is_title (trim l)) parts.0))) (none_wanted wanted none ls parts.1)

-- sections behind lines that are no titles
sections_past : (wanted : List ℕ) → ((text : List ℕ) → is_title text ≡ false → begins_with text wanted ≡ false) → (ls ks back : List (List ℕ)) → no_titles ls ≡ true → no_titles ks ≡ true →
    (k : ℕ) → texts (section wanted (kept_from k (ls ++ back))) ≡ texts (section wanted (kept_from k (ks ++ back)))
sections_past wanted none ls ks back h j k =
    let a = section_past wanted ls back k (none_wanted wanted none ls h) in
    let b = section_past wanted ks back k (none_wanted wanted none ks j) in
    ap texts a.1 ∙ section_moved wanted a.0 b.0 back ∙ sym (ap texts b.1)

-- a line of an id or a name is no title
name_no_title : (text : List ℕ) → is_name_line text ≡ true → is_title text ≡ false
name_no_title [] h = refl
name_no_title (b ∷ bs) h = by_first (nat_eq 110 b) (nat_eq 114 b) (nat_eq 105 b) _ _ _ refl refl refl h
  where
    by_first : (x y z p q r : Bool) → nat_eq 110 b ≡ x → nat_eq 114 b ≡ y → nat_eq 105 b ≡ z → (x && p || y && q || z && r) ≡ true → is_title (b ∷ bs) ≡ false
    by_first true y z p q r e f g h = subst (λ c. is_title (c ∷ bs) ≡ false) (eqb-true 110 b e) refl
    by_first false true z p q r e f g h = subst (λ c. is_title (c ∷ bs) ≡ false) (eqb-true 114 b f) refl
    by_first false false true p q r e f g h = subst (λ c. is_title (c ∷ bs) ≡ false) (eqb-true 105 b g) refl
    by_first false false false p q r e f g h = absurd (cc)

-- the first letters of an information title
letters : (text : List ℕ) → begins_with text information_title ≡ true → (rest : List ℕ) × (text ≡ 80 ∷ 82 ∷ 79 ∷ rest)
letters [] h = absurd (cc)
letters (a ∷ []) h = absurd (let p = and_parts (nat_eq 80 a) false h in false≢true p.1)
letters (a ∷ b ∷ []) h = absurd (let p = and_parts (nat_eq 80 a) _ h in let q = and_parts (nat_eq 82 b) false p.1 in false≢true q.1)
letters (a ∷ b ∷ c ∷ rest) h =
    let p = and_parts (nat_eq 80 a) (begins_with (b ∷ c ∷ rest) (codes "ROJECT INFORMATION")) h in
    let q = and_parts (nat_eq 82 b) (begins_with (c ∷ rest) (codes "OJECT INFORMATION")) p.1 in
    let r = and_parts (nat_eq 79 c) (begins_with rest (codes "JECT INFORMATION")) q.1 in
    let first : 80 ≡ a = eqb-true 80 a p.0 in
    let second : 82 ≡ b = eqb-true 82 b q.0 in
    let third : 79 ≡ c = eqb-true 79 c r.0 in
    (rest, cc)

-- an information title is kept, and is none of the others
record IsInformation (text : List ℕ) : Type 0 where
  kept : is_kept text ≡ true
  title : is_title text ≡ true
  precedence : begins_with text precedence_title ≡ false
  requests : begins_with text requests_title ≡ false
  availabilities : begins_with text availabilities_title ≡ false

information : (text : List ℕ) → begins_with text information_title ≡ true → IsInformation text
information text h =
    let l = letters text h in
    record {
      kept = ap is_kept l.1;
      title = ap (λ b. b || begins_with text precedence_title || begins_with text requests_title || begins_with text availabilities_title) h;
      precedence = ap (λ t. begins_with t precedence_title) l.1;
      requests = ap (λ t. begins_with t requests_title) l.1;
      availabilities = ap (λ t. begins_with t availabilities_title) l.1;
    }

-- ---- two texts

no_precedence : (text : List ℕ) → is_title text ≡ false → begins_with text precedence_title ≡ false
no_precedence text e = (or_parts _ _ (or_parts _ _ (or_parts _ _ e).0).0).1

-- two texts that the project reader reads alike, but for the numbers of lines
record AreAlike (a b : List ℕ) : Type 0 where
  head : head_of a ≡ head_of b
  precedence : texts (section precedence_title (kept_lines a)) ≡ texts (section precedence_title (kept_lines b))
  requests : texts (section requests_title (kept_lines a)) ≡ texts (section requests_title (kept_lines b))
  availabilities : texts (section availabilities_title (kept_lines a)) ≡ texts (section availabilities_title (kept_lines b))

turned : (a b : List ℕ) → AreAlike a b → AreAlike b a
turned a b h = record { head = sym h.head; precedence = sym h.precedence; requests = sym h.requests; availabilities = sym h.availabilities }

same_stream : (o : Option Stream) (s : Stream) → texts (Some s) ≡ texts o → (r : Stream) × (o ≡ Some r) × (word_texts s.words ≡ word_texts r.words)
same_stream None s e = absurd (cc)
same_stream (Some r) s e = (r, refl, cc)

map_numbers : (ws : List LineWord) → map (λ (w : LineWord). number w.text) ws ≡ map number (word_texts ws)
map_numbers [] = refl
map_numbers (w ∷ ws) = ap (λ os. number w.text ∷ os) (map_numbers ws)

same_numbers : (vs ws : List LineWord) (ns : List ℕ) → word_texts vs ≡ word_texts ws → Spells vs ns → Spells ws ns
same_numbers vs ws ns e h = map_numbers ws ∙ ap (map number) (sym e) ∙ sym (map_numbers vs) ∙ h

stream_alike : (a b title : List ℕ) → texts (section title (kept_lines a)) ≡ texts (section title (kept_lines b)) → (s : Stream) → section title (kept_lines a) ≡ Some s →
    (r : Stream) × (section title (kept_lines b) ≡ Some r) × (word_texts s.words ≡ word_texts r.words)
stream_alike a b title same s at = same_stream (section title (kept_lines b)) s (sym (ap texts at) ∙ same)

section_alike : (a b title ns : List ℕ) → texts (section title (kept_lines a)) ≡ texts (section title (kept_lines b)) → SectionSpells a title ns → SectionSpells b title ns
section_alike a b title ns same h =
    let r = stream_alike a b title same h.0 h.1 in
    (r.0, r.1, same_numbers h.0.words r.0.words ns r.2 h.2)

value_alike : (a b key : List ℕ) (n : ℕ) → head_of a ≡ head_of b → HasValue a key n → HasValue b key n
value_alike a b key n same h = (h.0, h.1, ap (key_line key) (sym same) ∙ h.2, h.3, h.4)

-- a text that is read alike says the same, but for the line of a title
says_alike : (a b : List ℕ) (d : Document) → AreAlike a b → IsReadable b → Says a d → (line : ℕ) × Says b (record d { precedence_line = line })
says_alike a b d same good h =
    let p = h.precedence in
    let r = stream_alike a b precedence_title same.precedence p.0 p.1 in
    let arcs = p.3 in (
      r.0.last,
      record {
        short = good.0;
        plain = good.1;
        one_project = value_alike a b (codes "projects") 1 same.head h.one_project;
        jobs = value_alike a b (codes "jobs") (length d.requests.durations) same.head h.jobs;
        resources = value_alike a b (codes "- renewable") (length d.available) same.head h.resources;
        no_nonrenewable = value_alike a b (codes "- nonrenewable") 0 same.head h.no_nonrenewable;
        no_doubly_constrained = value_alike a b (codes "- doubly constrained") 0 same.head h.no_doubly_constrained;
        jobs_fit = h.jobs_fit;
        resources_fit = h.resources_fit;
        precedence = (r.0, r.1, refl, (arcs.0, arcs.1, arcs.2, same_numbers p.0.words r.0.words (precedence_numbers 1 arcs.0) r.2 arcs.3, arcs.4));
        requests = section_alike a b requests_title _ same.requests h.requests;
        rows = h.rows;
        needs = h.needs;
        durations_fit = h.durations_fit;
        total_fits = h.total_fits;
        availabilities = section_alike a b availabilities_title _ same.availabilities h.availabilities;
        available_fit = h.available_fit;
      },
    )

project_alike : (a b : List ℕ) → AreAlike a b → IsReadable b → {p : Project} → SaysProject a p → SaysProject b p
project_alike a b same good h =
    let d = h.0 in
    let says = says_alike a b d same good h.1 in
    (record d { precedence_line = says.0 }, says.1, h.2, h.3)

alike : (other text : List ℕ) → HasNameLine other text → AreAlike other text
alike other text h =
    let s = h.section in
    let is = information (trim s.title) s.named in
    let inside = h.back in
    let more = s.behind ++ h.line ∷ [] in
    let no_line : no_titles more ≡ true =
    list_all-append (λ l. not (is_title (trim l))) s.behind (h.line ∷ []) ∙ and_from _ _ s.last (and_from _ _ (not_from_false _ (name_no_title (trim h.line) h.names)) refl) in
    let without : raw_lines other ≡ s.before ++ s.title ∷ (s.behind ++ inside) =
    h.without ∙ ap (λ ls. ls ++ inside) s.parts ∙ append_assoc s.before (s.title ∷ s.behind) inside in
    let whole : raw_lines text ≡ s.before ++ s.title ∷ (more ++ inside) =
    h.whole ∙ ap (λ ls. ls ++ h.line ∷ inside) s.parts ∙ append_assoc s.before (s.title ∷ s.behind) (h.line ∷ inside)
    ∙ ap (λ ls. s.before ++ s.title ∷ ls) (sym (append_assoc s.behind (h.line ∷ []) inside)) in
    let Section : (wanted : List ℕ) → Type 0 = λ wanted. texts (section wanted (kept_lines other)) ≡ texts (section wanted (kept_lines text)) in
    let at : (wanted : List ℕ) → ((t : List ℕ) → is_title t ≡ false → begins_with t wanted ≡ false) → begins_with (trim s.title) wanted ≡ false → Section wanted =
    λ wanted none no. ap (λ ls. texts (section wanted (kept_from 1 ls))) without
    ∙ section_behind wanted 1 s.before s.title (s.behind ++ inside) (more ++ inside) is.kept is.title no (sections_past wanted none s.behind more inside s.last no_line)
    ∙ sym (ap (λ ls. texts (section wanted (kept_from 1 ls))) whole) in
    record {
      head = ap (λ ls. before_title (kept_from 1 ls)) without
          ∙ before_same 1 s.before s.title (s.behind ++ inside) (more ++ inside) is.kept is.title ∙ sym (ap (λ ls. before_title (kept_from 1 ls)) whole);
      precedence = at precedence_title no_precedence is.precedence;
      requests = at requests_title no_requests is.requests;
      availabilities = at availabilities_title no_availabilities is.availabilities;
    }

pub names_change_nothing : NameLinesChangeNothing
unfolding NameLinesChangeNothing
names_change_nothing other text p h good_other good_text =
    let same = alike other text h in
    (project_alike other text same good_text, project_alike text other (turned other text same) good_other)
