-- Errors as JSON: their values have no float and are nested two levels deep.
use Rattle.std.proofs.Common.{ℕ, suc, ◌≡◌, ◌≤◌, false, List, [], ◌∷◌, Option, Some, None, Ordering, Less, Equal, Greater, map, fold, codes, length, refl, sym, ap, ◌∙◌, true≢false, eqb, arith}
use Rattle.std.specs.Prelude.{string_bytes}
use Rattle.std.specs.Cmp.Lexicographic.{slice_cmp}
use Rattle.std.specs.Ordering.{nat_cmp, match_ordering}
use denote.Ref.{Bor}
use Rattle.serde_json.specs.Data.{Data, Members, no_members, member, object, array, string, put, depth, members_depth, items_depth}
use Rattle.serde_json.specs.Written.{has_float, members_have_float, items_have_float}
use Rattle.serde_json.specs.View.{items_of, items_view}
use Rattle.serde_json.specs.declared.value.Value.{Value}
use Rattle.plan_psplib.specs.Lines.{words}
use Rattle.plan_errors.specs.Codes.{name_of}
use Rattle.plan_errors.specs.Faults.{code_of, line_of, subject_of}
use Rattle.plan_errors.specs.HintText.{advice_of}
use Rattle.plan_errors.specs.Parts.{word_of}
use Rattle.plan_errors.specs.Subjects.{argument_of}
use Rattle.plan_errors.specs.ErrorData.{number_data, items_of_numbers, front_numbers, with_numbers, with_part, with_parts, argument_key, with_argument, with_members, error_data}
use Rattle.plan_errors.specs.declared.context.Context.{Context}
use Rattle.plan_errors.specs.declared.context.About.{About}
use Rattle.plan_errors.specs.declared.fault.CliFault.{CliFault}
use Rattle.plan_errors.specs.declared.fault.CliFault.TheVariants as fault
use Rattle.plan_errors.specs.declared.parts.Part.{Part}
use Rattle.plan_errors.specs.declared.parts.Part.TheVariants as part

-- a value has no float, and is nested at most n levels deep
abbrev pub Fits : ℕ → Data → Type 0
Fits n d = (has_float d ≡ false) × (depth d ≤ n)

abbrev AllFit : ℕ → List Data → Type 0
AllFit n [] = Unit {0}
AllFit n (d ∷ ds) = Fits n d × AllFit n ds

abbrev MembersFit : ℕ → Members → Type 0
MembersFit n no_members = Unit {0}
MembersFit n (member k d ms) = Fits n d × MembersFit n ms

members_floats : (n : ℕ) (ms : Members) → MembersFit n ms → members_have_float ms ≡ false
members_floats n no_members fit = refl
members_floats n (member k d ms) fit = rw fit.0.0 (members_floats n ms fit.1)

members_deep : (n : ℕ) (ms : Members) → MembersFit n ms → members_depth ms ≤ n
members_deep n no_members fit = omega arith
members_deep n (member k d ms) fit = omega (arith, fit.0.1, members_deep n ms fit.1)

object_fits : (n : ℕ) (ms : Members) → MembersFit n ms → Fits (suc n) (object ms)
object_fits n ms fit = (members_floats n ms fit, omega (arith, members_deep n ms fit))

items_floats : (n : ℕ) (ds : List Data) → AllFit n ds → items_have_float (items_of ds) ≡ false
items_floats n [] fit = refl
items_floats n (d ∷ ds) fit = rw fit.0.0 (items_floats n ds fit.1)

items_deep : (n : ℕ) (ds : List Data) → AllFit n ds → items_depth (items_of ds) ≤ n
items_deep n [] fit = omega arith
items_deep n (d ∷ ds) fit = omega (arith, fit.0.1, items_deep n ds fit.1)

array_fits : (n : ℕ) (ds : List Data) → AllFit n ds → Fits (suc n) (array (items_of ds))
array_fits n ds fit = (items_floats n ds fit, omega (arith, items_deep n ds fit))

pick_fits : (n : ℕ) (o : Ordering) (a b c : Members) → MembersFit n a → MembersFit n b → MembersFit n c → MembersFit n (match_ordering o a b c)
pick_fits n Less a b c x y z = x
pick_fits n Equal a b c x y z = y
pick_fits n Greater a b c x y z = z

put_fits : (n : ℕ) (k : List ℕ) (d : Data) (ms : Members) → Fits n d → MembersFit n ms → MembersFit n (put k d ms)
put_fits n k d no_members fit rest = (fit, tt)
put_fits n k d (member l e ms) fit rest =
    pick_fits n (slice_cmp nat_cmp k l) (member k d (member l e ms)) (member l d ms) (member l e (put k d ms)) (fit, rest) (fit, rest.1) (rest.0, put_fits n k d ms fit rest.1)

numbers_fit : (ns : List ℕ) → AllFit 0 (map number_data ns)
numbers_fit [] = tt
numbers_fit (n ∷ ns) = ((refl, omega arith), numbers_fit ns)

number_fits : (key : List ℕ) (n : ℕ) (ms : Members) → MembersFit 1 ms → MembersFit 1 (put key (number_data n) ms)
number_fits key n ms fit = put_fits 1 key (number_data n) ms (refl, omega arith) fit

text_fits : (key text : List ℕ) (ms : Members) → MembersFit 1 ms → MembersFit 1 (put key (string text) ms)
text_fits key text ms fit = put_fits 1 key (string text) ms (refl, omega arith) fit

array_put_fits : (key : List ℕ) (ns : List ℕ) (ms : Members) → MembersFit 1 ms → MembersFit 1 (with_numbers key ns ms)
array_put_fits key [] ms fit = fit
array_put_fits key (n ∷ ns) ms fit =
    put_fits 1 key (array (items_of_numbers (n ∷ ns))) ms (array_fits 0 (map number_data (n ∷ ns)) (numbers_fit (n ∷ ns))) fit

part_fits : (ms : Members) (p : Part) → MembersFit 1 ms → MembersFit 1 (with_part ms p)
part_fits ms (part.Words words) fit = fit
part_fits ms (part.Number key n) fit = number_fits (word_of key) n ms fit
part_fits ms (part.Bare key n) fit = number_fits (word_of key) n ms fit
part_fits ms (part.Numbers key ns) fit = array_put_fits (word_of key) ns.items ms fit
part_fits ms (part.Text text) fit = fit
part_fits ms (part.Ids ids) fit = array_put_fits (codes "cycle") (front_numbers (words (string_bytes ids))) ms fit

parts_fit : (ps : List Part) (ms : Members) → MembersFit 1 ms → MembersFit 1 (fold with_part ms ps)
parts_fit [] ms fit = fit
parts_fit (p ∷ ps) ms fit = parts_fit ps (with_part ms p) (part_fits ms p fit)

fault_fits : (f : CliFault) (ms : Members) → MembersFit 1 ms → MembersFit 1 (with_parts f ms)
fault_fits (fault.Refused refusal) ms fit = parts_fit refusal.parts.items ms fit
fault_fits fault.Memory ms fit = fit
fault_fits (fault.Input unread) ms fit = fit
fault_fits fault.Output ms fit = fit

argument_fits : (about : About) (argument : Option (Bor (List ℕ))) (ms : Members) → MembersFit 1 ms → MembersFit 1 (with_argument about argument ms)
argument_fits about None ms fit = fit
argument_fits about (Some argument) ms fit = text_fits (argument_key about) argument.now ms fit

-- the value of an error
pub error_fits : (context : Context) (f : CliFault) → Fits 2 (error_data context f)
error_fits context f =
    object_fits 1 (with_members context f (put (codes "code") (string (name_of (code_of f))) no_members))
    (text_fits (codes "hint") (advice_of context f) _
    (text_fits (codes "text") (line_of f) _
    (argument_fits (subject_of f) (argument_of context (subject_of f)) _
    (fault_fits f _ (text_fits (codes "code") (name_of (code_of f)) no_members tt)))))

-- numbers that were collected, under a key
pub values_put : (key ns : List ℕ) (items : List Value) (len : ℕ) (ms : Members) → items_view items ≡ items_of_numbers ns → length items ≡ len → false ≡ eqb len 0
    → put key (array (items_view items)) ms ≡ with_numbers key ns ms
values_put key [] [] len ms same size some = absurd (true≢false (sym (some ∙ ap (λ n. eqb n 0) (sym size))))
values_put key [] (v ∷ vs) len ms same size some = absurd (cc same)
values_put key (n ∷ ns) items len ms same size some = ap (λ found. put key (array found) ms) same
