-- The head: reading succeeds exactly for the words that spell the result.
use Rattle.std.proofs.Common.{◌≡◌, ℕ, ◌≤◌, ◌==◌, List, Option, Some, None, Ok, codes, refl, sym, ap, ◌∙◌, subst, arith}
use Rattle.std.proofs.lemmas.Bool.{eqb-true, eq-eqb}
use Rattle.plan_psplib.specs.declared.text.fault.FileCode.TheVariants as code
use Rattle.plan_psplib.specs.Lines.{NumberedLine}
use Rattle.plan_psplib.specs.Numbers.{number}
use Rattle.plan_psplib.specs.Sections.{key_line, value_word}
use Rattle.plan_psplib.specs.Tokens.{LineNumber, limited}
use Rattle.plan_psplib.specs.Head.{Keys, Sizes, key_lines, found_line, found_lines, value_of_word, value_of, key_value, values, supported, sizes_in, sizes}
use Rattle.plan_psplib.proofs.GoesLemmas.{then_ok, ok_bind, same_ok, check_ok, ok_check, limited_is, is_limited}

found_is : (last : ℕ) (o : Option NumberedLine) (line : NumberedLine) → found_line last o ≡ Ok line → o ≡ Some line
found_is last None line e = absurd (cc)
found_is last (Some l) line e = ap (λ (x : NumberedLine). Some x) (same_ok l line e)

is_found : (last : ℕ) (o : Option NumberedLine) (line : NumberedLine) → o ≡ Some line → found_line last o ≡ Ok line
is_found last o line e = ap (found_line last) e

-- each key is found in its line
pub record AreFound (os : Keys (Option NumberedLine)) (lines : Keys NumberedLine) : Type 0 where
  pub projects : os.projects ≡ Some lines.projects
  pub jobs : os.jobs ≡ Some lines.jobs
  pub renewable : os.renewable ≡ Some lines.renewable
  pub nonrenewable : os.nonrenewable ≡ Some lines.nonrenewable
  pub doubly_constrained : os.doubly_constrained ≡ Some lines.doubly_constrained

pub found_lines_are : (last : ℕ) (os : Keys (Option NumberedLine)) (lines : Keys NumberedLine) → found_lines last os ≡ Ok lines → AreFound os lines
unfolding found_lines
found_lines_are last os lines e =
    then_ok (found_line last os.projects) _ lines e (λ a is_a e.
    then_ok (found_line last os.jobs) _ lines e (λ b is_b e.
    then_ok (found_line last os.renewable) _ lines e (λ c is_c e.
    then_ok (found_line last os.nonrenewable) _ lines e (λ d is_d e.
    then_ok (found_line last os.doubly_constrained) _ lines e (λ f is_f e.
    let P : Keys NumberedLine → Type 0 = λ ls. AreFound os ls in
    subst P (same_ok (record { projects = a; jobs = b; renewable = c; nonrenewable = d; doubly_constrained = f }) lines e) (record {
      projects = found_is last os.projects a is_a;
      jobs = found_is last os.jobs b is_b;
      renewable = found_is last os.renewable c is_c;
      nonrenewable = found_is last os.nonrenewable d is_d;
      doubly_constrained = found_is last os.doubly_constrained f is_f;
    }))))))

are_found_lines : (last : ℕ) (os : Keys (Option NumberedLine)) (lines : Keys NumberedLine) → AreFound os lines → found_lines last os ≡ Ok lines
unfolding found_lines
are_found_lines last os lines h =
    ok_bind (found_line last os.projects) _ lines.projects lines (is_found last os.projects lines.projects h.projects)
    (ok_bind (found_line last os.jobs) _ lines.jobs lines (is_found last os.jobs lines.jobs h.jobs)
    (ok_bind (found_line last os.renewable) _ lines.renewable lines (is_found last os.renewable lines.renewable h.renewable)
    (ok_bind (found_line last os.nonrenewable) _ lines.nonrenewable lines (is_found last os.nonrenewable lines.nonrenewable h.nonrenewable)
    (ok_bind (found_line last os.doubly_constrained) _ lines.doubly_constrained lines (is_found last os.doubly_constrained lines.doubly_constrained h.doubly_constrained) refl))))

-- the number after the colon of a line
abbrev pub HasNumber : NumberedLine → LineNumber → Type 0
HasNumber line v = (word : List ℕ) × (value_word line.text ≡ Some word) × (number word ≡ Some v.value) × (v.line ≡ line.number)

value_is : (line : NumberedLine) (v : LineNumber) → key_value line ≡ Ok v → HasNumber line v
value_is line v e = by_word (value_word line.text) refl e
  where
    by_number : (word : List ℕ) (o : Option ℕ) → value_word line.text ≡ Some word → number word ≡ o → value_of_word line.number o ≡ Ok v → HasNumber line v
    by_number word None is_word is_number e = absurd (cc)
    by_number word (Some n) is_word is_number e =
        let P : LineNumber → Type 0 = λ u. HasNumber line u in
        subst P (same_ok (record { value = n; line = line.number }) v e) (word, is_word, is_number, refl)

    by_word : (o : Option (List ℕ)) → value_word line.text ≡ o → value_of line.number o ≡ Ok v → HasNumber line v
    by_word None is_word e = absurd (cc)
    by_word (Some word) is_word e = by_number word (number word) is_word refl e

is_value : (line : NumberedLine) (v : LineNumber) → HasNumber line v → key_value line ≡ Ok v
is_value line v h =
    ap (value_of line.number) h.1 ∙ ap (value_of_word line.number) h.2 ∙ ap (λ n. let u : LineNumber = record { value = v.value; line = n } in Ok u) (sym h.3)

pub record AreNumbers (lines : Keys NumberedLine) (vs : Keys LineNumber) : Type 0 where
  pub projects : HasNumber lines.projects vs.projects
  pub jobs : HasNumber lines.jobs vs.jobs
  pub renewable : HasNumber lines.renewable vs.renewable
  pub nonrenewable : HasNumber lines.nonrenewable vs.nonrenewable
  pub doubly_constrained : HasNumber lines.doubly_constrained vs.doubly_constrained

pub values_are : (lines : Keys NumberedLine) (vs : Keys LineNumber) → values lines ≡ Ok vs → AreNumbers lines vs
unfolding values
values_are lines vs e =
    then_ok (key_value lines.projects) _ vs e (λ a is_a e.
    then_ok (key_value lines.jobs) _ vs e (λ b is_b e.
    then_ok (key_value lines.renewable) _ vs e (λ c is_c e.
    then_ok (key_value lines.nonrenewable) _ vs e (λ d is_d e.
    then_ok (key_value lines.doubly_constrained) _ vs e (λ f is_f e.
    let P : Keys LineNumber → Type 0 = λ us. AreNumbers lines us in
    subst P (same_ok (record { projects = a; jobs = b; renewable = c; nonrenewable = d; doubly_constrained = f }) vs e) (record {
      projects = value_is lines.projects a is_a;
      jobs = value_is lines.jobs b is_b;
      renewable = value_is lines.renewable c is_c;
      nonrenewable = value_is lines.nonrenewable d is_d;
      doubly_constrained = value_is lines.doubly_constrained f is_f;
    }))))))

are_values : (lines : Keys NumberedLine) (vs : Keys LineNumber) → AreNumbers lines vs → values lines ≡ Ok vs
unfolding values
are_values lines vs h =
    ok_bind (key_value lines.projects) _ vs.projects vs (is_value lines.projects vs.projects h.projects)
    (ok_bind (key_value lines.jobs) _ vs.jobs vs (is_value lines.jobs vs.jobs h.jobs)
    (ok_bind (key_value lines.renewable) _ vs.renewable vs (is_value lines.renewable vs.renewable h.renewable)
    (ok_bind (key_value lines.nonrenewable) _ vs.nonrenewable vs (is_value lines.nonrenewable vs.nonrenewable h.nonrenewable)
    (ok_bind (key_value lines.doubly_constrained) _ vs.doubly_constrained vs (is_value lines.doubly_constrained vs.doubly_constrained h.doubly_constrained) refl))))

supported_is : (only : ℕ) (v : LineNumber) (u : Unit {0}) → supported only v ≡ Ok u → v.value ≡ only
supported_is only v u e = eqb-true v.value only (check_ok (v.value == only) code.Unsupported v.line u e)

is_supported : (only : ℕ) (v : LineNumber) → v.value ≡ only → supported only v ≡ Ok tt
is_supported only v e = ok_check (v.value == only) code.Unsupported v.line (eq-eqb v.value only e)

-- the values are supported and within their limits, and these are the sizes among them
record AreSizes (vs : Keys LineNumber) (z : Sizes) : Type 0 where
  projects : vs.projects.value ≡ 1
  nonrenewable : vs.nonrenewable.value ≡ 0
  doubly_constrained : vs.doubly_constrained.value ≡ 0
  jobs : vs.jobs.value ≡ z.jobs
  resources : vs.renewable.value ≡ z.resources
  jobs_fit : (2 ≤ z.jobs) × (z.jobs ≤ 502)
  resources_fit : (1 ≤ z.resources) × (z.resources ≤ 16)

sizes_in_are : (vs : Keys LineNumber) (z : Sizes) → sizes_in vs ≡ Ok z → AreSizes vs z
unfolding sizes_in
sizes_in_are vs z e =
    then_ok (supported 1 vs.projects) _ z e (λ a is_a e.
    then_ok (supported 0 vs.nonrenewable) _ z e (λ b is_b e.
    then_ok (supported 0 vs.doubly_constrained) _ z e (λ c is_c e.
    then_ok (limited 2 502 vs.jobs) _ z e (λ jobs is_jobs e.
    then_ok (limited 1 16 vs.renewable) _ z e (λ resources is_resources e.
    let P : Sizes → Type 0 = λ y. AreSizes vs y in
    let j = limited_is 2 502 vs.jobs jobs is_jobs in
    let r = limited_is 1 16 vs.renewable resources is_resources in
    subst P (same_ok (record { jobs = jobs; resources = resources }) z e) (record {
      projects = supported_is 1 vs.projects a is_a;
      nonrenewable = supported_is 0 vs.nonrenewable b is_b;
      doubly_constrained = supported_is 0 vs.doubly_constrained c is_c;
      jobs = j.0;
      resources = r.0;
      jobs_fit = (omega (arith, j.0, j.1), omega (arith, j.0, j.2));
      resources_fit = (omega (arith, r.0, r.1), omega (arith, r.0, r.2));
    }))))))

are_sizes_in : (vs : Keys LineNumber) (z : Sizes) → AreSizes vs z → sizes_in vs ≡ Ok z
unfolding sizes_in
are_sizes_in vs z h =
    let jobs = h.jobs in
    let resources = h.resources in
    let jobs_fit = h.jobs_fit in
    let resources_fit = h.resources_fit in
    ok_bind (supported 1 vs.projects) _ tt z (is_supported 1 vs.projects h.projects)
    (ok_bind (supported 0 vs.nonrenewable) _ tt z (is_supported 0 vs.nonrenewable h.nonrenewable)
    (ok_bind (supported 0 vs.doubly_constrained) _ tt z (is_supported 0 vs.doubly_constrained h.doubly_constrained)
    (ok_bind (limited 2 502 vs.jobs) _ vs.jobs.value z (is_limited 2 502 vs.jobs (omega (arith, jobs, jobs_fit.0)) (omega (arith, jobs, jobs_fit.1)))
    (ok_bind (limited 1 16 vs.renewable) _ vs.renewable.value z (is_limited 1 16 vs.renewable (omega (arith, resources, resources_fit.0)) (omega (arith, resources, resources_fit.1)))
    (ap (λ n. let y : Sizes = record { jobs = n; resources = vs.renewable.value } in Ok y) jobs ∙ ap (λ n. let y : Sizes = record { jobs = z.jobs; resources = n } in Ok y) resources)))))

-- the value of a key in the head is this number
abbrev pub GivesValue : List NumberedLine → List ℕ → ℕ → Type 0
GivesValue head key n = (line : NumberedLine) × (word : List ℕ) × (key_line key head ≡ Some line) × (value_word line.text ≡ Some word) × (number word ≡ Some n)

-- the sizes that were read are those in the head
pub record SpellsSizes (head : List NumberedLine) (z : Sizes) : Type 0 where
  pub projects : GivesValue head (codes "projects") 1
  pub jobs : GivesValue head (codes "jobs") z.jobs
  pub resources : GivesValue head (codes "- renewable") z.resources
  pub nonrenewable : GivesValue head (codes "- nonrenewable") 0
  pub doubly_constrained : GivesValue head (codes "- doubly constrained") 0
  pub jobs_fit : (2 ≤ z.jobs) × (z.jobs ≤ 502)
  pub resources_fit : (1 ≤ z.resources) × (z.resources ≤ 16)

gives : (head : List NumberedLine) (key : List ℕ) (line : NumberedLine) (v : LineNumber) (n : ℕ) → key_line key head ≡ Some line → HasNumber line v → v.value ≡ n → GivesValue head key n
gives head key line v n found has same = (line, has.0, found, has.1, has.2 ∙ ap (λ (m : ℕ). Some m) same)

-- the words that were read spell the result
pub sizes_spelled : (last : ℕ) (head : List NumberedLine) (z : Sizes) → sizes last head ≡ Ok z → SpellsSizes head z
unfolding sizes
sizes_spelled last head z e =
    then_ok (found_lines last (key_lines head)) _ z e (λ lines is_lines e.
    then_ok (values lines) _ z e (λ vs is_values e.
    let found = found_lines_are last (key_lines head) lines is_lines in
    let has = values_are lines vs is_values in
    let are = sizes_in_are vs z e in
    record {
      projects = gives head (codes "projects") lines.projects vs.projects 1 found.projects has.projects are.projects;
      jobs = gives head (codes "jobs") lines.jobs vs.jobs z.jobs found.jobs has.jobs are.jobs;
      resources = gives head (codes "- renewable") lines.renewable vs.renewable z.resources found.renewable has.renewable are.resources;
      nonrenewable = gives head (codes "- nonrenewable") lines.nonrenewable vs.nonrenewable 0 found.nonrenewable has.nonrenewable are.nonrenewable;
      doubly_constrained = gives head (codes "- doubly constrained") lines.doubly_constrained vs.doubly_constrained 0 found.doubly_constrained has.doubly_constrained are.doubly_constrained;
      jobs_fit = are.jobs_fit;
      resources_fit = are.resources_fit;
    }))

value_given : (head : List NumberedLine) (key : List ℕ) (n : ℕ) → GivesValue head key n → LineNumber
value_given head key n g = record { value = n; line = g.0.number }

-- words that spell a result are read as that result
pub sizes_read : (last : ℕ) (head : List NumberedLine) (z : Sizes) → SpellsSizes head z → sizes last head ≡ Ok z
unfolding sizes value_given
sizes_read last head z h =
    let a = h.projects in
    let b = h.jobs in
    let c = h.resources in
    let d = h.nonrenewable in
    let f = h.doubly_constrained in
    let lines : Keys NumberedLine = record { projects = a.0; jobs = b.0; renewable = c.0; nonrenewable = d.0; doubly_constrained = f.0 } in
    let vs : Keys LineNumber = record {
      projects = value_given head (codes "projects") 1 a;
      jobs = value_given head (codes "jobs") z.jobs b;
      renewable = value_given head (codes "- renewable") z.resources c;
      nonrenewable = value_given head (codes "- nonrenewable") 0 d;
      doubly_constrained = value_given head (codes "- doubly constrained") 0 f;
    } in
    ok_bind (found_lines last (key_lines head)) _ lines z
    (are_found_lines last (key_lines head) lines
    (record {
      projects = a.2;
      jobs = b.2;
      renewable = c.2;
      nonrenewable = d.2;
      doubly_constrained =
          f.2;
    }))
    (ok_bind (values lines) _ vs z (are_values lines vs (record {
      projects = (a.1, a.3, a.4, refl);
      jobs = (b.1, b.3, b.4, refl);
      renewable = (c.1, c.3, c.4, refl);
      nonrenewable = (d.1, d.3, d.4, refl);
      doubly_constrained = (f.1, f.3, f.4, refl);
    }))
    (are_sizes_in vs z (record { projects = refl; nonrenewable = refl; doubly_constrained = refl; jobs = refl; resources = refl; jobs_fit = h.jobs_fit; resources_fit = h.resources_fit })))
