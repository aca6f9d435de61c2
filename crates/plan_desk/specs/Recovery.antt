-- Evidence for facts that are only known to hold. It is recovered if a fact has at most one proof,
-- or if reading the file decides the fact.
use Rattle.std.specs.Prelude.{◌≡◌, ℕ, Bool, false, List, [], ◌∷◌, length, Option, Some, None, Result, Ok, Err}
use Rattle.std.specs.List.{AllByRecursion}
use Rattle.std.proofs.Common.{refl, sym, ap, ◌∙◌, subst, inl, inr, arith, length-append}
use Rattle.std.proofs.Math.Logic.{∥∥₁_elim, ∥∥₁_map}
use mathlib.Core.Bool.{Bool-set}
use mathlib.Core.HLevel.{Σ_prop_path, is_prop→PathP}
use Rattle.std.proofs.Props.{props}
use Rattle.std.specs.Int.{IsInRange}
use Rattle.jiff_core.specs.Calendar.{IsYear, days_in_month}
use Rattle.jiff_core.specs.declared.civil.date.Date.{Date}
use Rattle.jiff_core.proofs.DateLemmas.{epoch_day_injective}
use Rattle.plan_psplib.specs.declared.text.fault.Fault.{Fault}
use Rattle.plan_psplib.specs.Lines.{last_line}
use Rattle.plan_psplib.specs.Document.{Document, document}
use Rattle.plan_psplib.specs.Plain.{plain}
use Rattle.plan_psplib.specs.Project.{Project, IsProject, SaysProject, project_of}
use Rattle.plan_psplib.proofs.GoesLemmas.{then_ok, same_ok}
use Rattle.plan_psplib.proofs.SaysLemmas.{document_said, said_document}
use Rattle.plan_psplib.proofs.OnceLemmas.{never_both, document_once}
use Rattle.plan_orlib.specs.Instances.{stream_of}
use Rattle.plan_orlib.specs.Shop as docs
use Rattle.plan_orlib.specs.ShopText.{found_stream, shop}
use Rattle.plan_orlib.specs.Says.{Says}
use Rattle.plan_orlib.proofs.ShopLemmas.{shop_spelled}
use Rattle.plan_orlib.proofs.TextLemmas.{stream_is, said_shop}
use Rattle.plan_calendar.specs.WorkingDay.{Workdays}
use Rattle.plan_calendar.specs.CalendarText.{IsCalendar}
use Rattle.plan_calendar.proofs.CalendarOnceLemmas.{start_once, marks_once}
use Rattle.plan_rows.specs.declared.kinds.PlanKind.{PlanKind}
use Rattle.plan_rows.specs.declared.kinds.PlanKind.TheVariants as kinds
use Rattle.plan_rows.specs.World.{Text}
use Rattle.plan_rows.specs.Plans.{HasPlaces}
use Rattle.plan_rows.specs.Rules.{HasCalendar, AllDiffer, IsThereAnd}

-- a fact that is known to hold has evidence
abbrev pub Recovers : Type 0 → Type 0
Recovers A = ∥ A ∥₁ → A

-- a fact with at most one proof
pub single : {A : Type 0} → IsProp A → Recovers A
single one t = ∥∥₁_elim t one (λ x. x)

-- two truth values are equal
pub equal : (a b : Bool) → Recovers (a ≡ b)
equal a b = single (Bool-set a b)

-- two facts
pub pair : {A B : Type 0} → Recovers A → Recovers B → Recovers (A × B)
pair a b t = (a (∥∥₁_map t (λ x. x.0)), b (∥∥₁_map t (λ x. x.1)))

-- a fact about each element of a list
pub each : {A : Type 0} {P : A → Type 0} → ((x : A) → Recovers (P x)) → (xs : List A)
    → Recovers (AllByRecursion P xs)
each one [] t = tt
each one (x ∷ xs) t = (one x (∥∥₁_map t (λ all. all.0)), each one xs (∥∥₁_map t (λ all. all.1)))

-- a row exists, with a fact about it
pub there : {A : Type 0} {P : A → Type 0} → ((x : A) → Recovers (P x)) → (o : Option A)
    → Recovers (IsThereAnd o P)
there one None t = absurd (∥∥₁_elim t (λ x y. absurd x) (λ x. x))
there one (Some x) t = one x t

-- the elements of a list differ
pub differ : {A : Type 0} (alike : A → A → Bool) (xs : List A) → Recovers (AllDiffer alike xs)
differ alike [] t = tt
differ alike (x ∷ xs) t = (
  each (λ y. equal (alike x y) false) xs (∥∥₁_map t (λ all. all.0)),
  differ alike xs (∥∥₁_map t
      (λ all. all.1)),
)

-- ---- files

IsProject-prop : (p : Project) → IsProp (IsProject p)
IsProject-prop p = hlevel props

-- the project that a file spells, with a fact about it
pub project : (body : Text) (Q : Project → Type 0) → ((p : Project) → Recovers (Q p))
    → Recovers ((p : Project) × SaysProject body p × Q p)
project body Q one t = at_read (document body) refl
  where
    at_read : (r : Result Document Fault) → document body ≡ r
        → (p : Project) × SaysProject body p × Q p
    at_read (Err f) e = absurd (∥∥₁_elim t (λ x y. absurd x)
        (λ (p, (d, said, is, good), q). never_both (document body) d f (said_document body d said) e))
    at_read (Ok d) e =
        let said = document_said body d e in
        let sound : IsProject (project_of d) =
        ∥∥₁_elim t (IsProject-prop (project_of d)) (λ (p, (other, says, is, good), q).
        subst IsProject (is ∙ ap project_of (document_once body other d says said)) good) in
        let more : Q (project_of d) =
        one (project_of d) (∥∥₁_map t (λ (p, (other, says, is, good), q).
        subst Q (is ∙ ap project_of (document_once body other d says said)) q)) in
        (project_of d, (d, said, refl, sound), more)

-- a shop that is read from a text is the one that the text spells
shop_said : (name text : List ℕ) (d : docs.Shop) → shop name text ≡ Ok d → Says name text d
unfolding shop
shop_said name text d e =
    then_ok (plain text) _ d e (λ u good e.
    then_ok (found_stream (last_line text) (stream_of name text)) _ d e (λ s found e.
    let spelled = shop_spelled s d e in
    record { readable = good; stream = (s, stream_is (last_line text) (stream_of name text) s found, spelled.0); limits = spelled.1 }))

shop_doc : (name body : Text) (Q : docs.Shop → Type 0) → ((d : docs.Shop) → Recovers (Q d))
    → Recovers ((d : docs.Shop) × Says name body d × Q d)
shop_doc name body Q one t = at_read (shop name body) refl
  where
    at_read : (r : Result docs.Shop Fault) → shop name body ≡ r
        → (d : docs.Shop) × Says name body d × Q d
    at_read (Err f) e = absurd (∥∥₁_elim t (λ x y. absurd x)
        (λ (d, said, q). never_both (shop name body) d f (said_shop name body d said) e))
    at_read (Ok d) e = (
      d,
      shop_said name body d e,
      one d (∥∥₁_map t
          (λ (other, said, q). subst Q (same_ok other d (sym (said_shop name body other said) ∙ e)) q)),
    )

-- the number of places of a plan, with a fact about it
pub places : (kind : PlanKind) (name body : Text) (Q : ℕ → Type 0) → ((n : ℕ) → Recovers (Q n))
    → Recovers ((count : ℕ) × HasPlaces kind name body count × Q count)
places kinds.Project name body Q one t =
    let found = project body (λ p. Q (length p.available)) (λ p. one (length p.available))
    (∥∥₁_map t (λ (count, (p, said, is), q). (p, said, subst Q is q))) in
    (length found.0.available, (found.0, found.1, refl), found.2)
places kinds.Shop name body Q one t =
    let found = shop_doc name body (λ d. Q d.machines) (λ d. one d.machines)
    (∥∥₁_map t (λ (count, (d, said, is), q). (d, said, subst Q is q))) in
    (found.0.machines, (found.0, found.1, refl), found.2)

-- ---- calendars

IsCalendar-prop : (start days : Text) (c : Workdays) → IsProp (IsCalendar start days c)
IsCalendar-prop start days c = hlevel props

-- two dates with the same year, month and day are equal
one_date : (a b : Date) → (a.year ≡ b.year) × (a.month ≡ b.month) × (a.day ≡ b.day) → a ≡ b
one_date a b same = λ i. record {
  year = same.0 i;
  month = same.1 i;
  day = same.2 i;
  year_in = is_prop→PathP (λ j. IsYear (same.0 j)) (λ j. hlevel props) a.year_in b.year_in i;
  month_in = is_prop→PathP (λ j. IsInRange 1 12 (same.1 j))
      (λ j. hlevel props) a.month_in b.month_in i;
  day_in = is_prop→PathP (λ j. IsInRange 1 (days_in_month (same.0 j) (same.1 j)) (same.2 j))
      (λ j. hlevel props) a.day_in b.day_in i;
}

one_calendar : (start days : Text) (c d : Workdays) → IsCalendar start days c
    → IsCalendar start days d → c ≡ d
one_calendar start days c d first second =
    let dates = one_date c.start d.start (epoch_day_injective c.start d.start (start_once start c.start d.start first.start_text second.start_text)) in
    let marks = marks_once days c.marks d.marks first.marks_text second.marks_text in
    let holidays = first.no_holidays ∙ sym second.no_holidays in
    λ i. record { start = dates i; marks = marks i; holidays = holidays i }

-- the calendar that two texts spell
pub calendar : (start days : Text) → Recovers ((c : Workdays) × IsCalendar start days c)
calendar start days =
    single (λ x y. Σ_prop_path (IsCalendar-prop start days) (one_calendar start days x.0 y.0 x.1 y.1))

-- no calendar has an empty first date
no_calendar : (days : Text) (c : Workdays) → IsCalendar [] days c → ⊥
no_calendar days c is = omega (arith, simp length-append at (ap length is.start_text.spelled))

-- two empty texts, or a calendar that two texts spell
pub has_calendar : (start days : Text) → Recovers (HasCalendar start days)
has_calendar [] days t = inl (
  refl,
  ∥∥₁_elim t (texts [] days)
      (λ h. elim h [ inl both ↦ both.1 | inr cal ↦ absurd (no_calendar days cal.0 cal.1) ]),
)
  where
    texts : (a b : Text) → IsProp (b ≡ a)
    texts a b = hlevel props
has_calendar (x ∷ start) days t = inr (calendar (x ∷ start) days (∥∥₁_map t
    (λ h. elim h [ inl both ↦ absurd (omega (arith, ap length both.0)) | inr cal ↦ cal ])))
