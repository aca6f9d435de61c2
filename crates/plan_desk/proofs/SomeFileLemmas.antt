-- Texts of a calendar and files are either read or refused.
use Rattle.std.proofs.Common.{◌≡◌, ℕ, ◌+◌, ◌-◌, ◌*◌, ◌/◌, ◌%◌, ◌≤◌, inl, inr, ◌⊎◌, Bool, true, false, List, [], ◌∷◌, ◌++◌, get_or, length, map, Result, Ok, Err, refl, sym, ◌∙◌, ap, subst, arith, pos}
use Rattle.std.specs.Prelude.{◌&&◌, ◌==◌, ℤ}
use denote.RawPtr.{null_ptr}
use Rattle.std.specs.Global.{Vec}
use Rattle.std.specs.List.{list_any}
use Rattle.std.proofs.lemmas.Bool.{cases_Bool, both_ways, and_parts, and_from, eqb-true, eq-eqb, leb-true, le-leb}
use Rattle.jiff_core.specs.Calendar.{IsBetween, days_in_month}
use Rattle.jiff_core.specs.declared.civil.date.Date.{Date}
use Rattle.jiff_core.proofs.SignedLemmas.{signed_arith}
use Rattle.jiff_fmt.specs.Text.{year_text, pad2}
use Rattle.plan_net.specs.Cycle.{IsNamedCycle}
use Rattle.plan_net.proofs.SomeOrderLemmas.{SomeCycle}
use Rattle.plan_psplib.specs.declared.text.fault.Fault.{Fault}
use Rattle.plan_psplib.specs.declared.text.fault.FileCode.TheVariants as code
use Rattle.plan_psplib.specs.declared.text.fault.FileFault.{FileFault}
use Rattle.plan_psplib.specs.Lines.{last_line}
use Rattle.plan_psplib.specs.Document.{Document, document}
use Rattle.plan_psplib.specs.Plain.{plain}
use Rattle.plan_psplib.specs.Project.{Project, SaysProject, network_of, project_of}
use Rattle.plan_psplib.specs.Says.{Says}
use Rattle.plan_psplib.proofs.GoesLemmas.{then_ok}
use Rattle.plan_psplib.proofs.NetworkLemmas.{project_or_cycle}
use Rattle.plan_psplib.proofs.SaysLemmas.{document_said}
use Rattle.plan_orlib.specs.Instances.{stream_of}
use Rattle.plan_orlib.specs.Shop.{Shop}
use Rattle.plan_orlib.specs.ShopText.{found_stream, shop}
use Rattle.plan_orlib.specs.Says.{Says as SaysShop}
use Rattle.plan_orlib.proofs.ShopLemmas.{shop_spelled}
use Rattle.plan_orlib.proofs.TextLemmas.{stream_is}
use Rattle.plan_gantt.specs.FaultText.{file_fault_text_of}
use Rattle.plan_gantt.specs.FirstFaults.{TellsFirstFailing, TellsFirstShopFault}
use Rattle.plan_gantt.specs.CalendarFaultText.{calendar_fault_text_of}
use Rattle.plan_calendar.specs.WorkingDay.{Workdays}
use Rattle.plan_calendar.specs.CalendarText.{IsStartText, HasNoStart, IsMarksText, HasNoMarks, IsCalendar, date_bytes, mark_digit}
use Rattle.plan_calendar.specs.declared.calendar.CalendarFault.TheVariants as fault
use Rattle.plan_calendar.proofs.TextLemmas.{natural_year}
use Rattle.plan_rows.specs.World.{Text, same_text}
use Rattle.plan_rows.specs.Names.{is_from_to}
use Rattle.plan_rows.proofs.OwnerLemmas.{text_from_same, same_text_refl}
use Rattle.plan_desk.specs.PlanRoutes.{TellsTexts}

-- ---- dates

-- the number of the two digits from a place on
abbrev two_at : Text → ℕ → ℕ
two_at text k = (get_or text k 0 - 48) * 10 + (get_or text (k + 1) 0 - 48)

abbrev year_in : Text → ℕ
year_in text = two_at text 0 * 100 + two_at text 2

-- the text is that of the date which its digits give
abbrev is_start : Text → ℕ → ℕ → ℕ → Bool
is_start text year month day =
    same_text text (date_bytes year month day)
    && (is_from_to 1900 2199 year && (is_from_to 1 12 month && is_from_to 1 (days_in_month (pos year) month) day))

pub from_to : (least most n : ℕ) → is_from_to least most n ≡ true → (least ≤ n) × (n ≤ most)
from_to least most n e =
    let parts = and_parts _ _ e in (leb-true least n parts.0, leb-true n most parts.1)

pub to_from : (least most n : ℕ) → least ≤ n → n ≤ most → is_from_to least most n ≡ true
to_from least most n a b = and_from _ _ (le-leb least n a) (le-leb n most b)

start_is : (text : Text) (year month day : ℕ) → is_start text year month day ≡ true → (date : Date) × IsStartText text date
start_is text year month day e =
    let spelled = and_parts _ _ e in
    let year_ok = and_parts _ _ spelled.1 in
    let month_ok = and_parts _ _ year_ok.1 in
    let years = from_to 1900 2199 year year_ok.0 in (
      record {
        year = pos year;
        month = month;
        day = day;
        year_in = (omega (arith, signed_arith, years.0), omega (arith, signed_arith, years.1));
        month_in = from_to 1 12 month month_ok.0;
        day_in = from_to 1 (days_in_month (pos year) month) day month_ok.1;
      },
      record {
        spelled = text_from_same text (date_bytes year month day) spelled.0;
        year = (omega (arith, signed_arith, years.0), omega (arith, signed_arith, years.1));
      },
    )

year_of : (a b c d n : ℕ) → a ≡ 48 + n / 100 / 10 → b ≡ 48 + n / 100 % 10 → c ≡ 48 + n % 100 / 10 → d ≡ 48 + n % 100 % 10
    → n ≡ ((a - 48) * 10 + (b - 48)) * 100 + ((c - 48) * 10 + (d - 48))
year_of a b c d n p q r s = omega (arith, p, q, r, s)

two_of : (a b n : ℕ) → a ≡ 48 + n / 10 → b ≡ 48 + n % 10 → n ≡ (a - 48) * 10 + (b - 48)
two_of a b n p q = omega (arith, p, q)

years_of : (n : ℕ) → IsBetween (pos 1900) (pos 2199) (pos n) → is_from_to 1900 2199 n ≡ true
years_of n range = to_from 1900 2199 n (omega (arith, signed_arith, range.0)) (omega (arith, signed_arith, range.1))

is_of_start : (text : Text) (date : Date) → IsStartText text date → is_start text (year_in text) (two_at text 5) (two_at text 8) ≡ true
is_of_start text date start =
    let natural = natural_year date.year start.year in
    let n = natural.0 in
    let spelled : text ≡ date_bytes n date.month date.day =
    start.spelled ∙ ap (λ (y : ℤ). year_text y ++ 45 ∷ [] ++ pad2 date.month ++ 45 ∷ [] ++ pad2 date.day) natural.1 in
    let digit : (k : ℕ) → get_or text k 0 ≡ get_or (date_bytes n date.month date.day) k 0 = λ k. ap (λ bytes. get_or bytes k 0) spelled in
    let of_parts : is_start text n date.month date.day ≡ true =
    and_from _ _ (subst (λ t. same_text text t ≡ true) spelled (same_text_refl text))
    (and_from _ _ (years_of n (subst (IsBetween (pos 1900) (pos 2199)) natural.1 start.year))
    (and_from _ _ (to_from 1 12 date.month date.month_in.0 date.month_in.1)
    (subst (λ (y : ℤ). is_from_to 1 (days_in_month y date.month) date.day ≡ true) natural.1
    (to_from 1 (days_in_month date.year date.month) date.day date.day_in.0 date.day_in.1)))) in
    subst (λ year. is_start text year (two_at text 5) (two_at text 8) ≡ true) (year_of _ _ _ _ n (digit 0) (digit 1) (digit 2) (digit 3))
    (subst (λ month. is_start text n month (two_at text 8) ≡ true) (two_of _ _ date.month (digit 5) (digit 6))
    (subst (λ day. is_start text n date.month day ≡ true) (two_of _ _ date.day (digit 8) (digit 9)) of_parts))

some_start : (text : Text) → ((date : Date) × IsStartText text date) ⊎ HasNoStart text
some_start text = by_test (cases_Bool (is_start text (year_in text) (two_at text 5) (two_at text 8)))
  where
    by_test : (is_start text (year_in text) (two_at text 5) (two_at text 8) ≡ true) ⊎ (is_start text (year_in text) (two_at text 5) (two_at text 8) ≡ false)
        → ((date : Date) × IsStartText text date) ⊎ HasNoStart text
    by_test (inl is) = inl (start_is text _ _ _ is)
    by_test (inr not_) = inr (λ date start. both_ways _ not_ (is_of_start text date start))

-- ---- marks of weekdays

abbrev marks_in : Text → List Bool
marks_in text = map (λ byte. byte == 49) text

read_again : (marks : List Bool) → marks_in (map mark_digit marks) ≡ marks
read_again [] = refl
read_again (true ∷ marks) = ap (λ (ms : List Bool). true ∷ ms) (read_again marks)
read_again (false ∷ marks) = ap (λ (ms : List Bool). false ∷ ms) (read_again marks)

-- the text is that of these marks
abbrev are_marks : Text → List Bool → Bool
are_marks text marks = same_text text (map mark_digit marks) && ((length marks == 7) && list_any (λ mark. mark) marks)

marks_are : (text : Text) (marks : List Bool) → are_marks text marks ≡ true → IsMarksText text marks
marks_are text marks e =
    let parts = and_parts _ _ e in
    let week = and_parts _ _ parts.1 in
    record {
      spelled = text_from_same text (map mark_digit marks) parts.0;
      week = record { seven = eqb-true (length marks) 7 week.0; some = week.1 };
    }

are_of_marks : (text : Text) (marks : List Bool) → IsMarksText text marks → are_marks text (marks_in text) ≡ true
are_of_marks text marks is =
    let same : marks_in text ≡ marks = ap marks_in is.spelled ∙ read_again marks in
    subst (λ ms. are_marks text ms ≡ true) (sym same)
    (and_from _ _ (subst (λ t. same_text text t ≡ true) is.spelled (same_text_refl text)) (and_from _ _ (eq-eqb _ _ is.week.seven) is.week.some))

some_marks : (text : Text) → ((marks : List Bool) × IsMarksText text marks) ⊎ HasNoMarks text
some_marks text = by_test (cases_Bool (are_marks text (marks_in text)))
  where
    by_test : (are_marks text (marks_in text) ≡ true) ⊎ (are_marks text (marks_in text) ≡ false) → ((marks : List Bool) × IsMarksText text marks) ⊎ HasNoMarks text
    by_test (inl are) = inl (marks_in text, marks_are text _ are)
    by_test (inr not_) = inr (λ marks is. both_ways _ not_ (are_of_marks text marks is))

-- two texts are those of a calendar, or a line refuses them
pub some_texts : (start marks : Text) → ((line : Text) × TellsTexts start marks line) ⊎ ((c : Workdays) × IsCalendar start marks c)
some_texts start marks = by_parts (some_start start) (some_marks marks)
  where
    by_parts : ((date : Date) × IsStartText start date) ⊎ HasNoStart start → ((ms : List Bool) × IsMarksText marks ms) ⊎ HasNoMarks marks
        → ((line : Text) × TellsTexts start marks line) ⊎ ((c : Workdays) × IsCalendar start marks c)
    by_parts (inr none) others = inl (calendar_fault_text_of fault.BadDate, (fault.BadDate, none, refl))
    by_parts (inl date) (inr none) = inl (calendar_fault_text_of fault.BadDays, (fault.BadDays, (date, none), refl))
    by_parts (inl (date, is)) (inl (ms, are)) = inr (record { start = date; marks = ms; holidays = [] }, record { start_text = is; marks_text = are; no_holidays = refl })

-- ---- files of shops

-- a shop that is read from a file is the one that the file spells
shop_said : (name text : Text) (d : Shop) → shop name text ≡ Ok d → SaysShop name text d
unfolding shop
shop_said name text d e =
    then_ok (plain text) _ d e (λ u good e.
    then_ok (found_stream (last_line text) (stream_of name text)) _ d e (λ s found e.
    let spelled = shop_spelled s d e in
    record { readable = good; stream = (s, stream_is (last_line text) (stream_of name text) s found, spelled.0); limits = spelled.1 }))

-- a `Vec` of up to 1,000 numbers
pub vec_of : (xs : List ℕ) → length xs ≤ 1000 → (v : Vec ℕ) × (v.items ≡ xs)
vec_of xs few = (
  record {
    ptr = null_ptr;
    len = length xs;
    cap = length xs;
    alloc = record { memory = record { seal = tt } };
    items = xs;
    ok = (refl, omega arith);
    small = omega (arith, few);
  },
  refl,
)

-- a fault of a file that isn't a cycle
of_fault : (f : Fault) → (told : FileFault) × (f ≡ record { code = told.code; line = told.line }) × (told.cycle.items ≡ [])
of_fault f =
    let none = vec_of [] (omega arith) in
    (record { code = f.code; line = f.line; cycle = none.0 }, refl, none.1)

-- a file spells a shop by a name, or a line refuses the file
pub some_shop : (name text : Text) → ((line : Text) × TellsFirstShopFault name text line) ⊎ ((d : Shop) × SaysShop name text d)
some_shop name text = by_read (shop name text) refl
  where
    by_read : (read : Result Shop Fault) → shop name text ≡ read → ((line : Text) × TellsFirstShopFault name text line) ⊎ ((d : Shop) × SaysShop name text d)
    by_read (Ok d) e = inr (d, shop_said name text d e)
    by_read (Err f) e =
        let told = of_fault f in
        inl (file_fault_text_of told.0, (told.0, (e ∙ ap (λ (g : Fault). Err g) told.1, told.2), refl))

-- ---- files of projects

-- a line gives the cycle of a document
some_cycle : (text : Text) (d : Document) → document text ≡ Ok d → Says text d → SomeCycle (network_of d) → (line : Text) × TellsFirstFailing text line
some_cycle text d e says (members, named, short) =
    let kept = vec_of members (omega (arith, short, says.jobs_fit)) in
    let told : FileFault = record { code = code.Cycle; line = d.precedence_line; cycle = kept.0 } in
    let named' : IsNamedCycle (network_of d) kept.0.items = subst (IsNamedCycle (network_of d)) (sym kept.1) named in
    (file_fault_text_of told, (told, inr (d, e, (refl, refl, named')), refl))

-- a file spells a project, or a line refuses the file
pub some_project : (text : Text) → ((line : Text) × TellsFirstFailing text line) ⊎ ((p : Project) × SaysProject text p)
some_project text = by_read (document text) refl
  where
    by_network : (d : Document) → document text ≡ Ok d → Says text d → SaysProject text (project_of d) ⊎ SomeCycle (network_of d)
        → ((line : Text) × TellsFirstFailing text line) ⊎ ((p : Project) × SaysProject text p)
    by_network d e says (inl project) = inr (project_of d, project)
    by_network d e says (inr cycle) = inl (some_cycle text d e says cycle)

    by_read : (read : Result Document Fault) → document text ≡ read → ((line : Text) × TellsFirstFailing text line) ⊎ ((p : Project) × SaysProject text p)
    by_read (Ok d) e = let says = document_said text d e in by_network d e says (project_or_cycle text d says)
    by_read (Err f) e =
        let told = of_fault f in
        inl (file_fault_text_of told.0, (told.0, inl (e ∙ ap (λ (g : Fault). Err g) told.1, told.2), refl))
