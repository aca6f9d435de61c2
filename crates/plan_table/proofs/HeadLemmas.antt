-- The lines of the head, and those before the sections that are read.
use Rattle.std.proofs.Common.{◌≡◌, ℕ, ◌<◌, ◌&&◌, Bool, true, false, List, [], ◌∷◌, ◌++◌, Some, map, take, drop, codes, refl, sym, ap, ◌∙◌, append-nil, arith, cond}
use Rattle.std.specs.Prelude.{not}
use Rattle.std.specs.List.{AllByRecursion, list_all}
use Rattle.std.specs.Fmt.{decimal}
use Rattle.std.proofs.lemmas.Bool.{and_from, not_from_false}
use Rattle.std.proofs.lemmas.List.{take-map}
use Rattle.std.proofs.lemmas.List.Folds.{list_all-map}
use Rattle.plan_psplib.specs.Lines.{NumberedLine, is_blank, trim, trim_start, trim_end, before_trimmed, words}
use Rattle.plan_psplib.specs.Numbers.{number}
use Rattle.plan_psplib.specs.Sections.{is_kept, is_title, begins_with, before_title, key_line, value_word, first_of}
use Rattle.plan_table.specs.Columns.{spaced}
use Rattle.plan_table.specs.ProjectText.{placed}
use Rattle.plan_table.proofs.DigitLemmas.{number-decimal}
use Rattle.plan_table.proofs.LineLemmas.{IsPlain, plain_append, plain_decimal, plain_column, words-decimal, words-spaces, trim_end-before, solid_decimal}
use Rattle.plan_table.proofs.SectionLemmas.{none_begins, kept_from, kept_at, key_at}
use Rattle.plan_table.proofs.TextLineLemmas.{rule, head_lines, numbers_row, information_lines}

-- ---- trimmed lines by their first byte

trimmed_first : (c : ℕ) (o : List ℕ) → is_blank c ≡ false → (ys : List ℕ) × (before_trimmed c o ≡ c ∷ ys)
trimmed_first c [] inside = ([], ap (λ b. cond b [] (c ∷ [])) inside)
trimmed_first c (d ∷ ds) inside = (d ∷ ds, refl)

-- a trimmed line begins with the first byte of the line that is no blank
pub trim_first : (c : ℕ) (text : List ℕ) → is_blank c ≡ false → (ys : List ℕ) × (trim (c ∷ text) ≡ c ∷ ys)
trim_first c text inside =
    let rest = trimmed_first c (trim_end text) inside in
    (rest.0, ap (λ b. trim_end (cond b (trim_start text) (c ∷ text))) inside ∙ rest.1)

-- ---- the head

-- the lines of the head without the blanks at their ends
abbrev pub head_texts : ℕ → ℕ → ℕ → List (List ℕ)
head_texts jobs horizon resources =
    rule ∷ codes "file with basedata            : plan import" ∷ codes "initial value random generator: 1" ∷ rule
    ∷ codes "projects                      :  1" ∷ (codes "jobs (incl. supersource/sink ):  " ++ decimal jobs)
    ∷ (codes "horizon                       :  " ++ decimal horizon) ∷ codes "RESOURCES"
    ∷ (codes "- renewable                 :  " ++ decimal resources ++ codes "   R")
    ∷ codes "- nonrenewable              :  0   N" ∷ codes "- doubly constrained        :  0   D" ∷ rule ∷ []

abbrev texts_with : List ℕ → List ℕ → List ℕ → List (List ℕ)
texts_with a b c =
    rule ∷ codes "file with basedata            : plan import" ∷ codes "initial value random generator: 1" ∷ rule
    ∷ codes "projects                      :  1" ∷ a ∷ b ∷ codes "RESOURCES" ∷ c
    ∷ codes "- nonrenewable              :  0   N" ∷ codes "- doubly constrained        :  0   D" ∷ rule ∷ []

-- the numbers of a head are small
pub record AreSmall (n h k : ℕ) : Type 0 where
  pub jobs : n < 1000000000
  pub horizon : h < 1000000000
  pub resources : k < 1000000000

jobs_trimmed : (n : ℕ) → n < 1000000000 → trim (codes "jobs (incl. supersource/sink ):  " ++ decimal n) ≡ codes "jobs (incl. supersource/sink ):  " ++ decimal n
jobs_trimmed n small = trim_end-before (codes "jobs (incl. supersource/sink ):  ") (decimal n) (solid_decimal n small)

horizon_trimmed : (n : ℕ) → n < 1000000000 → trim (codes "horizon                       :  " ++ decimal n) ≡ codes "horizon                       :  " ++ decimal n
horizon_trimmed n small = trim_end-before (codes "horizon                       :  ") (decimal n) (solid_decimal n small)

resources_trimmed : (n : ℕ) → trim (codes "  - renewable                 :  " ++ decimal n ++ codes "   R") ≡ codes "- renewable                 :  " ++ decimal n ++ codes "   R"
resources_trimmed n = trim_end-before (codes "- renewable                 :  " ++ decimal n) (codes "   R") (record { some = omega arith; end = refl })

head_trimmed : (jobs horizon resources : ℕ) → AreSmall jobs horizon resources → map trim (head_lines jobs horizon resources) ≡ head_texts jobs horizon resources
head_trimmed jobs horizon resources small =
    let a = jobs_trimmed jobs small.jobs in
    let b = horizon_trimmed horizon small.horizon in
    let c = resources_trimmed resources in
    ap (λ x. texts_with x (trim (codes "horizon                       :  " ++ decimal horizon)) (trim (codes "  - renewable                 :  " ++ decimal resources ++ codes "   R"))) a
    ∙ ap (λ x. texts_with (codes "jobs (incl. supersource/sink ):  " ++ decimal jobs) x (trim (codes "  - renewable                 :  " ++ decimal resources ++ codes "   R"))) b
    ∙ ap (λ x. texts_with (codes "jobs (incl. supersource/sink ):  " ++ decimal jobs) (codes "horizon                       :  " ++ decimal horizon) x) c

-- a test that the first lines of the head pass
head_first : (p : List ℕ → Bool) (i jobs horizon resources : ℕ) → AreSmall jobs horizon resources → list_all p (take i (head_texts jobs horizon resources)) ≡ true →
    list_all (λ l. p (trim l)) (take i (head_lines jobs horizon resources)) ≡ true
head_first p i jobs horizon resources small pass =
    sym (list_all-map p trim (take i (head_lines jobs horizon resources)))
    ∙ ap (list_all p) (sym (take-map trim i (head_lines jobs horizon resources)) ∙ ap (take i) (head_trimmed jobs horizon resources small)) ∙ pass

-- no line of the head begins with a title
pub head_none_begins : (title : List ℕ) (jobs horizon resources : ℕ) → AreSmall jobs horizon resources →
    list_all (λ t. not (begins_with t title)) (take 12 (head_texts jobs horizon resources)) ≡ true → none_begins title (head_lines jobs horizon resources) ≡ true
head_none_begins title jobs horizon resources small pass = head_first (λ t. not (begins_with t title)) 12 jobs horizon resources small pass

pub head_plain : (jobs horizon resources : ℕ) → AreSmall jobs horizon resources → AllByRecursion IsPlain (head_lines jobs horizon resources)
head_plain jobs horizon resources small =
    let a = plain_append (codes "jobs (incl. supersource/sink ):  ") (decimal jobs) refl (plain_decimal jobs small.jobs) in
    let b = plain_append (codes "horizon                       :  ") (decimal horizon) refl (plain_decimal horizon small.horizon) in
    let c = plain_append (codes "  - renewable                 :  " ++ decimal resources) (codes "   R")
    (plain_append (codes "  - renewable                 :  ") (decimal resources) refl (plain_decimal resources small.resources)) refl in
    (refl, (refl, (refl, (refl, (refl, (a, (b, (refl, (c, (refl, (refl, (refl, tt))))))))))))

-- ---- the project's own numbers

pub information_none : (title : List ℕ) (activities horizon : ℕ) → begins_with (codes "PROJECT INFORMATION:") title ≡ false →
    begins_with (codes "pronr.  #jobs rel.date duedate tardcost  MPM-Time") title ≡ false → ((ys : List ℕ) → begins_with (49 ∷ ys) title ≡ false) → begins_with rule title ≡ false →
    none_begins title (information_lines activities horizon) ≡ true
information_none title activities horizon a b c d =
    let row = trim_first 49 (spaced 6 activities ++ placed (codes "      0") 8 horizon ++ placed (codes "        0") 8 horizon) refl in
    let e : begins_with (trim (numbers_row activities horizon)) title ≡ false = ap (λ t. begins_with t title) row.1 ∙ c row.0 in
    and_from _ _ (not_from_false _ a) (and_from _ _ (not_from_false _ b) (and_from _ _ (not_from_false _ e) (and_from _ _ (not_from_false _ d) refl)))

pub information_plain : (activities horizon : ℕ) → activities < 1000000000 → horizon < 1000000000 → AllByRecursion IsPlain (information_lines activities horizon)
information_plain activities horizon few small =
    let a = plain_append (codes "    1") (spaced 6 activities) refl (plain_column 6 activities few) in
    let b = plain_append (codes "      0") (spaced 8 horizon) refl (plain_column 8 horizon small) in
    let c = plain_append (codes "        0") (spaced 8 horizon) refl (plain_column 8 horizon small) in
    let row = plain_append (placed (codes "    1") 6 activities ++ placed (codes "      0") 8 horizon) (placed (codes "        0") 8 horizon)
    (plain_append (placed (codes "    1") 6 activities) (placed (codes "      0") 8 horizon) a b) c in
    (refl, (refl, (row, (refl, tt))))

-- ---- the keys

-- the head gives a key this number
abbrev pub GivesValue : List NumberedLine → List ℕ → ℕ → Type 0
GivesValue head key n = (line : NumberedLine) × (word : List ℕ) × (key_line key head ≡ Some line) × (value_word line.text ≡ Some word) × (number word ≡ Some n)

abbrev head_of_lines : ℕ → ℕ → ℕ → List (List ℕ) → List NumberedLine
head_of_lines jobs horizon resources rest = before_title (kept_from 1 (head_lines jobs horizon resources ++ rest))

pub projects_value : (jobs horizon resources : ℕ) (rest : List (List ℕ)) → AreSmall jobs horizon resources →
    GivesValue (head_of_lines jobs horizon resources rest) (codes "projects") 1
projects_value jobs horizon resources rest small =
    let l = codes "projects                      :  1" in
    let at = key_at (codes "projects") (take 4 (head_lines jobs horizon resources)) l (drop 5 (head_lines jobs horizon resources) ++ rest) 1 refl refl refl refl in
    (kept_at at.0 l, codes "1", at.1, refl, refl)

number_alone : (n : ℕ) → n < 1000000000 → words (decimal n) ≡ decimal n ∷ []
number_alone n small = ap words (sym (append-nil (decimal n))) ∙ words-decimal n [] small tt

pub jobs_value : (jobs horizon resources : ℕ) (rest : List (List ℕ)) → AreSmall jobs horizon resources →
    GivesValue (head_of_lines jobs horizon resources rest) (codes "jobs") jobs
jobs_value jobs horizon resources rest small =
    let l = codes "jobs (incl. supersource/sink ):  " ++ decimal jobs in
    let is = jobs_trimmed jobs small.jobs in
    let at = key_at (codes "jobs") (take 5 (head_lines jobs horizon resources)) l (drop 6 (head_lines jobs horizon resources) ++ rest) 1 refl (ap is_kept is) (ap is_title is) (ap (λ t. begins_with t (codes "jobs")) is) in
    (kept_at at.0 l, decimal jobs, at.1, ap value_word is ∙ ap first_of (words-spaces 2 (decimal jobs) ∙ number_alone jobs small.jobs), number-decimal jobs small.jobs)

pub resources_value : (jobs horizon resources : ℕ) (rest : List (List ℕ)) → AreSmall jobs horizon resources →
    GivesValue (head_of_lines jobs horizon resources rest) (codes "- renewable") resources
resources_value jobs horizon resources rest small =
    let l = codes "  - renewable                 :  " ++ decimal resources ++ codes "   R" in
    let is = resources_trimmed resources in
    let none = head_first (λ t. not (is_title t) && not (begins_with t (codes "- renewable"))) 8 jobs horizon resources small refl in
    let at = key_at (codes "- renewable") (take 8 (head_lines jobs horizon resources)) l (drop 9 (head_lines jobs horizon resources) ++ rest) 1 none (ap is_kept is) (ap is_title is) (ap (λ t. begins_with t (codes "- renewable")) is) in (
      kept_at at.0 l,
      decimal resources,
      at.1,
      ap value_word is ∙ ap first_of (words-spaces 2 (decimal resources ++ codes "   R") ∙ words-decimal resources (codes "   R") small.resources refl),
      number-decimal resources small.resources,
    )

pub nonrenewable_value : (jobs horizon resources : ℕ) (rest : List (List ℕ)) → AreSmall jobs horizon resources →
    GivesValue (head_of_lines jobs horizon resources rest) (codes "- nonrenewable") 0
nonrenewable_value jobs horizon resources rest small =
    let l = codes "  - nonrenewable              :  0   N" in
    let none = head_first (λ t. not (is_title t) && not (begins_with t (codes "- nonrenewable"))) 9 jobs horizon resources small refl in
    let at = key_at (codes "- nonrenewable") (take 9 (head_lines jobs horizon resources)) l (drop 10 (head_lines jobs horizon resources) ++ rest) 1 none refl refl refl in
    (kept_at at.0 l, codes "0", at.1, refl, refl)

pub doubly_value : (jobs horizon resources : ℕ) (rest : List (List ℕ)) → AreSmall jobs horizon resources →
    GivesValue (head_of_lines jobs horizon resources rest) (codes "- doubly constrained") 0
doubly_value jobs horizon resources rest small =
    let l = codes "  - doubly constrained        :  0   D" in
    let none = head_first (λ t. not (is_title t) && not (begins_with t (codes "- doubly constrained"))) 10 jobs horizon resources small refl in
    let at = key_at (codes "- doubly constrained") (take 10 (head_lines jobs horizon resources)) l (drop 11 (head_lines jobs horizon resources) ++ rest) 1 none refl refl refl in
    (kept_at at.0 l, codes "0", at.1, refl, refl)
