-- The whole text: reading succeeds exactly for the document that the text describes.
use Rattle.std.proofs.Common.{◌≡◌, ◌≢◌, ℕ, ◌+◌, ◌≤◌, true, false, List, Option, Some, None, Result, Ok, Err, length, take, get_or, codes, refl, sym, ap, ◌∙◌, subst, arith}
use Rattle.std.specs.Prelude.{nat_le, All, IfOk}
use Rattle.std.specs.Prelude.{count_by}
use Rattle.std.specs.Option.{option_map}
use Rattle.plan_psplib.specs.declared.sm.document.Document as declared
use Rattle.plan_psplib.specs.declared.text.fault.ReadError.{ReadError}
use Rattle.std.specs.List.{AllByRecursion, position}
use Rattle.std.proofs.lemmas.Bool.{leb-true, le-leb, eqb-true, eq-eqb}
use Rattle.std.proofs.lemmas.List.Quantifiers.{position-Some}
use Rattle.std.proofs.lemmas.List.Sums.{fails_before_first}
use Rattle.plan_psplib.specs.declared.text.fault.FileCode.TheVariants as code
use Rattle.plan_psplib.specs.declared.text.fault.Fault.{Fault}
use Rattle.plan_psplib.specs.Lines.{is_line_feed, last_line}
use Rattle.plan_psplib.specs.Streams.{Stream}
use Rattle.plan_psplib.specs.Sections.{kept_lines, head_of, section, precedence_title, requests_title, availabilities_title}
use Rattle.plan_psplib.specs.Tokens.{Gives, check}
use Rattle.plan_psplib.specs.Head.{Sizes, sizes}
use Rattle.plan_psplib.specs.Precedence.{precedence}
use Rattle.plan_psplib.specs.Requests.{requests, availabilities}
use Rattle.plan_psplib.specs.Document.{Document, found_section, document, document_of}
use Rattle.plan_psplib.specs.Plain.{longest_text, is_zero, zero_line, no_zero, plain}
use Rattle.plan_psplib.specs.Says.{Says, HasValue, IsNeeds, SpellsArcs}
use Rattle.plan_psplib.proofs.CutLemmas.{position-long}
use Rattle.plan_psplib.proofs.GoesLemmas.{then_ok, ok_bind, same_ok, check_ok, ok_check}
use Rattle.plan_psplib.proofs.HeadLemmas.{sizes_spelled, sizes_read}
use Rattle.plan_psplib.proofs.ArcsLemmas.{precedence_spelled, precedence_read}
use Rattle.plan_psplib.proofs.AmountsLemmas.{requests_spelled, requests_read, availabilities_spelled, availabilities_read}

no_zero_byte : (text : List ℕ) → position is_zero text ≡ None → All (λ byte. byte ≢ 0) text
no_zero_byte text e k d below zero_at =
    let long = position-long is_zero text e in
    let other = fails_before_first is_zero text k d (omega (arith, below, long)) in
    let here : is_zero (get_or text k d) ≡ true = eq-eqb (get_or text k d) 0 zero_at in
    let both : true ≡ false = sym here ∙ other in
    absurd (cc)

no_place : (text : List ℕ) → All (λ byte. byte ≢ 0) text → position is_zero text ≡ None
no_place text none = by_place (position is_zero text) refl
  where
    by_place : (o : Option ℕ) → position is_zero text ≡ o → o ≡ None
    by_place None e = refl
    by_place (Some i) e = let at = position-Some is_zero text i 0 e in absurd (none i 0 at.0 (eqb-true (get_or text i 0) 0 at.1))

zero_none : (text : List ℕ) (u : Unit {0}) → no_zero (zero_line text) ≡ Ok u → position is_zero text ≡ None
zero_none text u = by_place (position is_zero text)
  where
    by_place : (o : Option ℕ) → no_zero (option_map (λ i. count_by is_line_feed (take i text) + 1) o) ≡ Ok u → o ≡ None
    by_place None e = refl
    by_place (Some i) e = absurd (cc)

pub plain_is : (text : List ℕ) (u : Unit {0}) → plain text ≡ Ok u → (length text ≤ longest_text) × All (λ byte. byte ≢ 0) text
unfolding plain
plain_is text u e =
    then_ok (check (nat_le (length text) longest_text) code.TooLong 0) _ u e (λ v holds e.
    (leb-true (length text) longest_text (check_ok _ code.TooLong 0 v holds), no_zero_byte text (zero_none text u e)))

is_plain : (text : List ℕ) → length text ≤ longest_text → All (λ byte. byte ≢ 0) text → plain text ≡ Ok tt
unfolding plain
is_plain text short none =
    ok_bind (check (nat_le (length text) longest_text) code.TooLong 0) _ tt tt (ok_check _ code.TooLong 0 (le-leb (length text) longest_text short))
    (ap (λ o. no_zero (option_map (λ i. count_by is_line_feed (take i text) + 1) o)) (no_place text none))

section_is : (last : ℕ) (o : Option Stream) (s : Stream) → found_section last o ≡ Ok s → o ≡ Some s
section_is last None s e = absurd (cc)
section_is last (Some t) s e = ap (λ (x : Stream). Some x) (same_ok t s e)

-- the document that was read is the one that the text describes
pub document_said : (text : List ℕ) (d : Document) → document text ≡ Ok d → Says text d
unfolding document
document_said text d e =
    then_ok (plain text) _ d e (λ u is_plain e.
    then_ok (sizes (last_line text) (head_of text)) _ d e (λ z is_sizes e.
    then_ok (found_section (last_line text) (section precedence_title (kept_lines text))) _ d e (λ first is_first e.
    then_ok (precedence z.jobs first) _ d e (λ arcs is_arcs e.
    then_ok (found_section (last_line text) (section requests_title (kept_lines text))) _ d e (λ second is_second e.
    then_ok (requests z.jobs z.resources second) _ d e (λ jobs are_jobs e.
    then_ok (found_section (last_line text) (section availabilities_title (kept_lines text))) _ d e (λ third is_third e.
    then_ok (availabilities z.resources third) _ d e (λ available are_available e.
    let good = plain_is text u is_plain in
    let head = sizes_spelled (last_line text) (head_of text) z is_sizes in
    let rows = precedence_spelled z.jobs first arcs is_arcs in
    let spelled = requests_spelled z.jobs z.resources second jobs are_jobs in
    let amounts = availabilities_spelled z.resources third available are_available in
    let n = spelled.durations_count in
    let k = amounts.0 in
    let HasJobs : ℕ → Type 0 = λ m. HasValue text (codes "jobs") m in
    let HasResources : ℕ → Type 0 = λ m. HasValue text (codes "- renewable") m in
    let JobsFit : ℕ → Type 0 = λ m. (2 ≤ m) × (m ≤ 502) in
    let ResourcesFit : ℕ → Type 0 = λ m. (1 ≤ m) × (m ≤ 16) in
    let Arcs : ℕ → Type 0 = λ m. SpellsArcs m first.words arcs in
    let Needs : ℕ → Type 0 = λ m. AllByRecursion (IsNeeds m) jobs.needs in
    let P : Document → Type 0 = λ c. Says text c in
    subst P (same_ok (record { requests = jobs; arcs = arcs; available = available; precedence_line = first.last }) d e) (record {
      short = good.0;
      plain = good.1;
      one_project = head.projects;
      jobs = subst HasJobs (sym n) head.jobs;
      resources = subst HasResources (sym k) head.resources;
      no_nonrenewable = head.nonrenewable;
      no_doubly_constrained = head.doubly_constrained;
      jobs_fit = subst JobsFit (sym n) head.jobs_fit;
      resources_fit = subst ResourcesFit (sym k) head.resources_fit;
      precedence = (first, section_is (last_line text) (section precedence_title (kept_lines text)) first is_first, refl, subst Arcs (sym n) rows);
      requests = (second, section_is (last_line text) (section requests_title (kept_lines text)) second is_second, spelled.spelled);
      rows = spelled.needs_count ∙ sym n;
      needs = subst Needs (sym k) spelled.each;
      durations_fit = spelled.small;
      total_fits = spelled.total;
      availabilities = (third, section_is (last_line text) (section availabilities_title (kept_lines text)) third is_third, amounts.1);
      available_fit = amounts.2;
    })))))))))

-- the document that a text describes is read
pub said_document : (text : List ℕ) (d : Document) → Says text d → document text ≡ Ok d
unfolding document
said_document text d h =
    let z : Sizes = record { jobs = length d.requests.durations; resources = length d.available } in
    let last = last_line text in
    let a = h.precedence in
    let b = h.requests in
    let c = h.availabilities in
    ok_bind (plain text) _ tt d (is_plain text h.short h.plain)
    (ok_bind (sizes last (head_of text)) _ z d (sizes_read last (head_of text) z
    (record {
      projects = h.one_project;
      jobs = h.jobs;
      resources = h.resources;
      nonrenewable =
          h.no_nonrenewable;
      doubly_constrained = h.no_doubly_constrained;
      jobs_fit =
          h.jobs_fit;
      resources_fit = h.resources_fit;
    }))
    (ok_bind (found_section last (section precedence_title (kept_lines text))) _ a.0 d (ap (found_section last) a.1)
    (ok_bind (precedence z.jobs a.0) _ d.arcs d (precedence_read z.jobs a.0 d.arcs a.3)
    (ok_bind (found_section last (section requests_title (kept_lines text))) _ b.0 d (ap (found_section last) b.1)
    (ok_bind (requests z.jobs z.resources b.0) _ d.requests d
    (requests_read z.jobs z.resources b.0 d.requests
    (record {
      spelled = b.2;
      durations_count = refl;
      needs_count = h.rows;
      small =
          h.durations_fit;
      total = h.total_fits;
      each = h.needs;
    }))
    (ok_bind (found_section last (section availabilities_title (kept_lines text))) _ c.0 d (ap (found_section last) c.1)
    (ok_bind (availabilities z.resources c.0) _ d.available d (availabilities_read c.0 d.available c.2 h.available_fit)
    (ap (λ n. let e : Document = record { requests = d.requests; arcs = d.arcs; available = d.available; precedence_line = n } in Ok e) a.2))))))))

-- the same for a result that the reading gives
pub read_is_said : (text : List ℕ) (r : Result declared.Document ReadError) → Gives document_of r (document text) → IfOk r (λ d. Says text (document_of d))
read_is_said text (Ok d) e = document_said text (document_of d) e
read_is_said text (Err f) e = tt

pub said_is_read : (text : List ℕ) (r : Result declared.Document ReadError) (d : Document) → Says text d → Gives document_of r (document text) → Gives document_of r (Ok d)
said_is_read text r d h e = let P : Result Document Fault → Type 0 = λ x. Gives document_of r x in subst P (said_document text d h) e
