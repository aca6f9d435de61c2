-- The use of a resource stays as it was between two changes.
use Rattle.std.proofs.Common.{◌≡◌, ◌≢◌, ℕ, zero, suc, ◌+◌, ◌-◌, ◌<◌, ◌≤◌, Bool, true, false, ◌&&◌, ◌==◌, if◌then◌else◌, nat_le, nat_lt, List, [], ◌∷◌, ◌++◌}
use Rattle.std.proofs.Common.{min, flat_map, refl, sym, ap, ap₂, ◌∙◌, subst, arith, append-nil}
use Rattle.std.specs.List.{range_with_len, sum_by}
use Rattle.std.proofs.lemmas.Bool.Decides.{nat_tests}
use Rattle.std.proofs.lemmas.List.{flat_map_more}
use Rattle.std.proofs.lemmas.List.Elements.{All-nil, All-cons, All-head, All-tail}
use Rattle.std.proofs.lemmas.List.Sums.{sum_by-cons}
use Rattle.jiff_core.specs.declared.civil.date.Date.{Date}
use Rattle.plan_sheet.specs.Axis.{begin_place}
use Rattle.plan_sheet.specs.Changes.{IsQuiet, change_after, earlier, least_after}
use Rattle.plan_sheet.specs.Usage.{level, step, step_at}
use Rattle.plan_sheet.specs.Uses.{amount_at, used_at, used_before}
use Rattle.plan_sheet.specs.declared.uses.Use.{Use}
use Rattle.plan_sheet.proofs.NumberedLemmas.{range_more}

-- an instant that is not before the lesser one is no end
least_later : (t at next : ℕ) → t < next → t < least_after t at next
least_later t at next late = grind (arith, nat_tests)

least_most : (t at next : ℕ) → least_after t at next ≤ next
least_most t at next = grind (arith, nat_tests)

least_quiet : (t at next u : ℕ) → t < u → u < least_after t at next → at ≢ u
least_quiet t at next u late before = grind (arith, nat_tests)

earlier_later : (t next : ℕ) (one : Use) → t < next → t < earlier t one next
unfolding earlier
earlier_later t next one late = least_later t one.to (least_after t one.from next) (least_later t one.from next late)

earlier_most : (t next : ℕ) (one : Use) → earlier t one next ≤ next
unfolding earlier
earlier_most t next one =
    omega (arith, least_most t one.to (least_after t one.from next), least_most t one.from next)

earlier_quiet : (t next u : ℕ) (one : Use) → t < u → u < earlier t one next → (one.from ≢ u) × (one.to ≢ u)
unfolding earlier
earlier_quiet t next u one late before =
    let first = least_after t one.from next in (
      least_quiet t one.from next u late (omega (arith, before, least_most t one.to first)),
      least_quiet t one.to first u late before,
    )

-- the first change is after t, and at most the last instant
pub change_later : (uses : List Use) (t last : ℕ) → t < last → t < change_after t last uses
change_later [] t last late = late
change_later (one ∷ uses) t last late = change_later uses t (earlier t one last) (earlier_later t last one late)

pub change_most : (uses : List Use) (t last : ℕ) → change_after t last uses ≤ last
change_most [] t last = omega arith
change_most (one ∷ uses) t last =
    omega (arith, change_most uses t (earlier t one last), earlier_most t last one)

-- no use begins or ends between t and the first change
pub change_quiet : (uses : List Use) (t last u : ℕ) → t < u → u < change_after t last uses → IsQuiet uses u
change_quiet [] t last u late before = All-nil _
change_quiet (one ∷ uses) t last u late before =
    let P : Use → Type 0 = λ x. (x.from ≢ u) × (x.to ≢ u) in
    let next = earlier t one last in
    let within : u < next = omega (arith, before, change_most uses t next) in
    All-cons P one uses (earlier_quiet t last u one late within) (change_quiet uses t next u late before)

le_same : (a t : ℕ) → a ≢ t + 1 → nat_le a (t + 1) ≡ nat_le a t
le_same a t other = grind (arith, nat_tests)

lt_same : (a t : ℕ) → a ≢ t + 1 → nat_lt (t + 1) a ≡ nat_lt t a
lt_same a t other = grind (arith, nat_tests)

-- the amount of a use that neither begins nor ends
amount_same : (t : ℕ) (one : Use) → one.from ≢ t + 1 → one.to ≢ t + 1 → amount_at (t + 1) one ≡ amount_at t one
unfolding amount_at
amount_same t one from to =
    ap₂ (λ x y. if x && y then one.amount else 0) (le_same one.from t from) (lt_same one.to t to)

sum_same : (uses : List Use) (t : ℕ) → IsQuiet uses (t + 1) → sum_by (amount_at (t + 1)) uses ≡ sum_by (amount_at t) uses
sum_same [] t quiet = refl
sum_same (one ∷ uses) t quiet =
    let P : Use → Type 0 = λ x. (x.from ≢ t + 1) × (x.to ≢ t + 1) in
    let this = All-head P one uses quiet in
    sum_by-cons (amount_at (t + 1)) one uses
    ∙ ap₂ (λ x y. x + y) (amount_same t one this.0 this.1) (sum_same uses t (All-tail P one uses quiet))
    ∙ sym (sum_by-cons (amount_at t) one uses)

before_same : (uses : List Use) (t : ℕ) → IsQuiet uses (t + 1) → used_at uses (t + 1) ≡ used_before uses (t + 1)
unfolding used_before
before_same uses t quiet =
    let same : used_at uses (t + 1) ≡ used_at uses t = ap (λ n. min n 4294967295) (sum_same uses t quiet) in
    let later : nat_lt (t + 1) 1 ≡ false = grind (arith, nat_tests) in
    let back : t + 1 - 1 ≡ t = omega arith in
    same ∙ sym (ap (λ b. if b then 0 else used_at uses (t + 1 - 1)) later ∙ ap (λ n. used_at uses n) back)

same_test : (a b : ℕ) → a ≡ b → (a == b) ≡ true
same_test a b same = grind (arith, nat_tests)

quiet_next : (span : ℕ) (days : List Date) (per_day : ℕ) (capacity : ℕ) (uses : List Use) (t : ℕ) → IsQuiet uses (t + 1) → step_at span days per_day capacity uses (t + 1) ≡ []
quiet_next span days per_day capacity uses t quiet =
    ap (λ (b : Bool). if b then [] else step (begin_place span days per_day (t + 1)) (level capacity (used_at uses (t + 1))))
    (same_test (used_at uses (t + 1)) (used_before uses (t + 1)) (before_same uses t quiet))

-- no step at a quiet instant
pub quiet_step : (span : ℕ) (days : List Date) (per_day : ℕ) (capacity : ℕ) (uses : List Use) (t u : ℕ) → t < u → IsQuiet uses u → step_at span days per_day capacity uses u ≡ []
quiet_step span days per_day capacity uses t u late quiet =
    let is : u - 1 + 1 ≡ u = omega (arith, late) in
    subst (λ n. step_at span days per_day capacity uses n ≡ []) is
    (quiet_next span days per_day capacity uses (u - 1) (subst (λ n. IsQuiet uses n) (sym is) quiet))

-- numbers that add nothing
skip : (f : ℕ → List ℕ) (before : List ℕ) (n k m : ℕ) → k + n ≡ m → ((u : ℕ) → k ≤ u → u < m → f u ≡ []) →
    before ++ flat_map f (range_with_len 0 k) ≡ before ++ flat_map f (range_with_len 0 m)
skip f before zero k m total nothing = ap (λ x. before ++ flat_map f (range_with_len 0 x)) (omega (arith, total))
skip f before (suc n) k m total nothing =
    let last : k + n + 1 ≡ m = omega (arith, total) in
    skip f before n k (k + n) refl (λ u late early. nothing u late (omega (arith, early, last)))
    ∙ sym (append-nil (before ++ flat_map f (range_with_len 0 (k + n))))
    ∙ ap (λ x. (before ++ flat_map f (range_with_len 0 (k + n))) ++ x) (sym (nothing (k + n) (omega arith) (omega (arith, last))))
    ∙ flat_map_more f before (range_with_len 0 (k + n)) (k + n)
    ∙ ap (λ ns. before ++ flat_map f ns) (sym (range_more (k + n)))
    ∙ ap (λ x. before ++ flat_map f (range_with_len 0 x)) last

-- the next number that adds something
pub next_after : (f : ℕ → List ℕ) (before old new : List ℕ) (k m : ℕ) → k < m → ((u : ℕ) → k < u → u < m → f u ≡ []) →
    old ≡ before ++ flat_map f (range_with_len 0 k) → new ≡ old ++ f k → new ≡ before ++ flat_map f (range_with_len 0 m)
next_after f before old new k m less nothing so_far step =
    let total : k + 1 + (m - (k + 1)) ≡ m = omega (arith, less) in
    step ∙ ap (λ bytes. bytes ++ f k) so_far ∙ flat_map_more f before (range_with_len 0 k) k
    ∙ ap (λ ns. before ++ flat_map f ns) (sym (range_more k))
    ∙ skip f before (m - (k + 1)) (k + 1) m total (λ u late early. nothing u (omega (arith, late)) early)
