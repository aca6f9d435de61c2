-- The days that lines name, line by line.
use Rattle.std.proofs.Common.{◌≡◌, ◌+◌, ◌<◌, ◌⊎◌, inl, inr, ℕ, Bool, false, List, [], ◌∷◌, ◌++◌, Option, Some, length, refl, sym, ap, ◌∙◌, subst, append_assoc, append-nil, arith}
use denote.Ref.{Bor}
use Rattle.std.specs.Bool.{nat_eq}
use Rattle.std.proofs.lemmas.Bool.{both_ways, eq-eqb}
use Rattle.std.proofs.lemmas.List.Splits.{length-slice_split}
use Rattle.jiff_core.specs.declared.civil.date.Date.{Date}
use Rattle.plan_holidays.specs.declared.fault.HolidayFault.{HolidayFault}
use Rattle.plan_holidays.specs.declared.fault.HolidayFault.TheVariants as fault
use Rattle.plan_holidays.specs.HolidayText.{is_line_feed, lines, entry, IsSpan, AreDays, NamesDays, IsBadLine, NameDays, AreHolidays, AddsDays, RefusesLine, AreRead, RefusesLines}
use Rattle.plan_holidays.specs.Rest.{rest_lines}

-- a line that is neither blank nor a span is bad
pub bad_line : (line : List ℕ) → (entry line ≡ [] → ⊥) → ((first last : Date) → IsSpan (entry line) first last → ⊥) → IsBadLine line
bad_line line shown none days (inl blank) = shown blank.0
bad_line line shown none days (inr (first, last, is, are)) = none first last is

-- a line that names days is one more
name_more : (before : List (List ℕ)) (days : List Date) (line : List ℕ) (more : List Date) → NameDays before days → NamesDays line more
    → NameDays (before ++ line ∷ []) (days ++ more)
name_more [] days line more none here = (more, [], here, refl, ap (λ (d : List Date). d ++ more) none ∙ sym (append-nil more))
name_more (other ∷ before) days line more (first, rest, is, others, whole) here =
    (first, rest ++ more, is, name_more before rest line more others here, ap (λ (d : List Date). d ++ more) whole ∙ append_assoc first rest more)

pub none_read : (all : List (List ℕ)) → AreRead all [] all []
none_read all = record { split = refl; named = refl; few = omega arith }

pub more_read : (all before : List (List ℕ)) (line : List ℕ) (after : List (List ℕ)) (days new : List Date)
    → AreRead all before (line ∷ after) days → AddsDays days line new → AreRead all (before ++ line ∷ []) after new
more_read all before line after days new read (more, here, whole, few) = record {
  split = read.split ∙ sym (append_assoc before (line ∷ []) after);
  named = subst (NameDays (before ++ line ∷ [])) (sym whole) (name_more before days line more read.named here);
  few = few;
}

pub all_read : (all before : List (List ℕ)) (days : List Date) → AreRead all before [] days → AreHolidays all days
all_read all before days read = record {
  named = subst (λ (ls : List (List ℕ)). NameDays ls days) (sym (read.split ∙ append-nil before)) read.named;
  few = read.few;
}

-- the next line of what is left
pub next_read : (all before : List (List ℕ)) (rest : Option (Bor (List ℕ))) (left : Bor (List ℕ)) (line : List ℕ) (others : Option (Bor (List ℕ))) (days : List Date)
    → rest ≡ Some left → lines left.now ≡ line ∷ rest_lines others → AreRead all before (rest_lines rest) days → AreRead all before (line ∷ rest_lines others) days
next_read all before rest left line others days same cut read =
    subst (λ (after : List (List ℕ)). AreRead all before after days) (ap rest_lines same ∙ cut) read

pub refused_lines : (all before : List (List ℕ)) (line : List ℕ) (after : List (List ℕ)) (days : List Date) (number : ℕ) (first : HolidayFault)
    → AreRead all before (line ∷ after) days → number ≡ length before + 1 → RefusesLine days number line first → RefusesLines all first
refused_lines all before line after days number first read counted refused = record {
  before = before;
  line = line;
  after = after;
  days = days;
  so_far = read;
  refused = subst (λ (n : ℕ). RefusesLine days n line first) counted refused;
}

-- memory can run out at the first line
memory_first : (all : List (List ℕ)) → 0 < length all → RefusesLines all fault.Memory
memory_first [] some = absurd (omega (arith, some))
memory_first (line ∷ after) some = record {
  before = [];
  line = line;
  after = after;
  days = [];
  so_far = record { split = refl; named = refl; few = omega arith };
  refused = tt;
}

pub memory_refused : (text : List ℕ) (first : HolidayFault) → first ≡ fault.Memory → RefusesLines (lines text) first
memory_refused text first memory =
    let long = length-slice_split is_line_feed text in
    subst (RefusesLines (lines text)) (sym memory) (memory_first (lines text) (omega (arith, long)))

-- ---- one line

-- an entry that isn't empty and is no span
pub bad_entry : (line shown read : List ℕ) (n : ℕ) (empty : Bool) → shown ≡ entry line → n ≡ length shown → empty ≡ nat_eq n 0 → empty ≡ false
    → read ≡ shown → ((first last : Date) → IsSpan read first last → ⊥) → IsBadLine line
bad_entry line shown read n empty same long test isnt equal none =
    bad_line line
    (λ e. both_ways empty isnt (test ∙ eq-eqb n 0 (long ∙ ap length (same ∙ e))))
    (λ first last is. none first last (subst (λ (t : List ℕ). IsSpan t first last) (sym (equal ∙ same)) is))

pub span_named : (line shown read : List ℕ) (first last : Date) (days : List Date) → shown ≡ entry line → read ≡ shown → IsSpan read first last
    → AreDays first last days → NamesDays line days
span_named line shown read first last days same equal is are =
    inr (first, last, subst (λ (t : List ℕ). IsSpan t first last) (equal ∙ same) is, are)

-- the error of a line follows the days before it
pub refused_line : (old : List Date) (number : ℕ) (line : List ℕ) (first : HolidayFault) → (first ≡ fault.Memory) ⊎ ((first ≡ fault.BadLine number) × IsBadLine line)
    → RefusesLine old number line first
refused_line old number line first (inl memory) = subst (RefusesLine old number line) (sym memory) tt
refused_line old number line first (inr (bad, is)) = subst (RefusesLine old number line) (sym bad) (refl, is)

pub memory_line : (old : List Date) (number : ℕ) (line : List ℕ) (first : HolidayFault) → first ≡ fault.Memory → RefusesLine old number line first
memory_line old number line first memory = subst (RefusesLine old number line) (sym memory) tt
