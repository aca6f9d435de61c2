-- Code can hold each row of an office: its texts are UTF-8, and its numbers fit.
use Rattle.std.proofs.Common.{◌≡◌, inl, inr, ◌<◌, ◌≤◌, ◌^◌, ℕ, zero, suc, pos, Bool, true, false, ◌&&◌, ◌||◌, ◌==◌, not, nat_eq, List, [], ◌∷◌, ◌++◌, length}
use Rattle.std.proofs.Common.{map, Option, Some, None, refl, sym, ap, subst, ◌∙◌, arith, IsUtf8, IsAscii}
use Rattle.std.specs.List.{AllByRecursion, list_all, list_any}
use Rattle.std.proofs.lemmas.Bool.{and_parts}
use Rattle.std.proofs.lemmas.Bool.Decides.{nat_tests}
use Rattle.std.proofs.lemmas.List.Elements.{recursion_from_All}
use Rattle.std.proofs.lemmas.Slice.Eq.{bytes_eq-Decides}
use Rattle.std.proofs.lemmas.Str.{IsUtf8-from_ascii}
use Rattle.sqlite_keyed.proofs.ListLemmas.{all_weaker, all_both}
use Rattle.jiff_core.specs.Calendar.{IsBetween}
use Rattle.jiff_core.specs.declared.civil.date.Date.{Date}
use Rattle.jiff_core.proofs.SignedLemmas.{signed_arith}
use Rattle.jiff_core.proofs.CalendarLemmas.{days_in_month_bounds}
use Rattle.jiff_fmt.specs.Text.{year_text, pad2}
use Rattle.plan_net.specs.Network.{Net, joins, count_of}
use Rattle.plan_net.specs.Limits.{IsGoodArc}
use Rattle.plan_psplib.specs.Project.{Project, SaysProject}
use Rattle.plan_calendar.specs.CalendarText.{IsStartText, date_bytes, mark_digit}
use Rattle.plan_calendar.proofs.TextLemmas.{natural_year}
use Rattle.plan_rows.specs.World.{Published, Desk, Plan, World, same_text, is_code, is_desk, is_plan, code_in, desk_in, plan_in}
use Rattle.plan_rows.specs.Names.{is_name, is_name_byte, is_digest, begins_with, is_from_to}
use Rattle.plan_rows.specs.Rules.{IsWorld, IsThereAnd, IsOwned, IsBindRow, IsLagRow, IsPlanRow, HasCalendar, is_published_row, is_desk_row}
use Rattle.plan_rows.specs.Plans.{has_arc}
use Rattle.plan_rows.proofs.RuleLemmas.{found_has}
use Rattle.plan_store.specs.UntrustedRows.{HoldsCode, HoldsDesk, HoldsPlan, HoldsBind, HoldsLag}

-- ---- texts

abbrev IsLow : ℕ → Type 0
IsLow b = b < 128

low_text : (text : List ℕ) → AllByRecursion IsLow text → IsAscii text
low_text [] all i = omega arith
low_text (b ∷ text) all zero = all.0
low_text (b ∷ text) all (suc i) = low_text text all.1 i

name_byte : (b : ℕ) → is_name_byte b ≡ true → b < 128
name_byte b h = grind (arith, nat_tests)

name_bytes : (text : List ℕ) → list_all is_name_byte text ≡ true → AllByRecursion IsLow text
name_bytes [] h = tt
name_bytes (b ∷ text) h = let p = and_parts (is_name_byte b) (list_all is_name_byte text) h in (name_byte b p.0, name_bytes text p.1)

name_text : (text : List ℕ) → is_name text ≡ true → IsUtf8 text
name_text text h =
    let more = (and_parts (is_from_to 1 32 (length text)) (list_all is_name_byte text && not (begins_with 45 text)) h).1 in
    IsUtf8-from_ascii text (low_text text (name_bytes text (and_parts (list_all is_name_byte text) (not (begins_with 45 text)) more).0))

mark_bytes : (marks : List Bool) → AllByRecursion IsLow (map mark_digit marks)
mark_bytes [] = tt
mark_bytes (true ∷ marks) = (omega arith, mark_bytes marks)
mark_bytes (false ∷ marks) = (omega arith, mark_bytes marks)

date_low : (n month day : ℕ) → n ≤ 2199 → month ≤ 12 → day ≤ 31 → AllByRecursion IsLow (date_bytes n month day)
date_low n month day year_in month_in day_in = (omega arith, (omega arith, (omega arith, (omega arith, (omega arith, (omega arith, (omega arith, (omega arith, (omega arith, (omega arith, tt))))))))))

start_text : (text : List ℕ) (date : Date) → IsStartText text date → IsUtf8 text
start_text text date h =
    let natural = natural_year date.year h.year in
    let n = natural.0 in
    let spelled : date_bytes n date.month date.day ≡ text = ap (λ y. year_text y ++ 45 ∷ [] ++ pad2 date.month ++ 45 ∷ [] ++ pad2 date.day) (sym natural.1) ∙ sym h.spelled in
    let range = subst (IsBetween (pos 1900) (pos 2199)) natural.1 h.year in
    let low = date_low n date.month date.day (omega (arith, signed_arith, range.1)) date.month_in.1
    (let m = (days_in_month_bounds date.year date.month).0 in let d = date.day_in.1 in
    omega (arith, m, d)) in
    IsUtf8-from_ascii text (subst IsAscii spelled (low_text (date_bytes n date.month date.day) low))

calendar_texts : (start days : List ℕ) → HasCalendar start days → IsUtf8 start × IsUtf8 days
calendar_texts start days (inl none) = (IsUtf8-from_ascii start (subst IsAscii (sym none.0) (low_text [] tt)), IsUtf8-from_ascii days (subst IsAscii (sym none.1) (low_text [] tt)))
calendar_texts start days (inr some) = (
  start_text start some.0.start some.1.start_text,
  IsUtf8-from_ascii days (subst IsAscii (sym some.1.marks_text.spelled) (low_text (map mark_digit _) (mark_bytes _))),
)

-- ---- numbers of activities

arc_low : (net : Net) (source target : ℕ) (arcs : List (ℕ × ℕ)) → count_of net ≤ 502 → AllByRecursion (IsGoodArc net) arcs → list_any (λ arc. joins arc source target) arcs ≡ true
    → (source < 2 ^ 32) × (target < 2 ^ 32)
arc_low net source target [] few all h = cc
arc_low net source target (arc ∷ arcs) few all h = go (joins arc source target) refl h (arc_low net source target arcs few all.1)
  where
    go : (b : Bool) → joins arc source target ≡ b → (b || list_any (λ a. joins a source target) arcs) ≡ true →
        (list_any (λ a. joins a source target) arcs ≡ true → (source < 2 ^ 32) × (target < 2 ^ 32)) →
        (source < 2 ^ 32) × (target < 2 ^ 32)
    go true e h more =
        let p = and_parts (nat_eq arc.0 source) (nat_eq arc.1 target) e in
        let from : arc.0 ≡ source = let t = p.0 in grind (arith, nat_tests) in
        let to : arc.1 ≡ target = let t = p.1 in grind (arith, nat_tests) in
        (let m = all.0.0.1 in omega (arith, from, few, m), let m = all.0.1.1 in omega (arith, to, few, m))
    go false e h more = more h

arc_ends : (body : List ℕ) (p : Project) → SaysProject body p → (source target : ℕ) → has_arc p.network source target ≡ true → (source < 2 ^ 32) × (target < 2 ^ 32)
arc_ends body p says source target h =
    let limits = says.3.network.limits in
    arc_low p.network source target p.network.arcs limits.size.1 (recursion_from_All (IsGoodArc p.network) p.network.arcs limits.arcs) h

-- ---- rows

there : {A : Type 0} (o : Option A) (P : A → Type 0) → IsThereAnd o P → (x : A) × (o ≡ Some x) × P x
there None P h = absurd h
there (Some x) P h = (x, refl, h)

module _ (w : World) (rules : IsWorld w) (names : AllByRecursion (λ (row : Plan). IsUtf8 row.name) w.plans) where
  desk_text : (desk : List ℕ) (P : Desk → Type 0) → IsThereAnd (desk_in w desk) P → IsUtf8 desk
  desk_text desk P h =
      let it = there (desk_in w desk) P h in
      let found = found_has (λ row. is_desk_row row ≡ true) (is_desk desk) w.desks it.0 it.1 rules.desks in
      let same = (bytes_eq-Decides it.0.desk desk).0 found.1 in
      subst IsUtf8 same (name_text it.0.desk (and_parts (is_name it.0.desk) _ found.0).0)

  code_text : (code : List ℕ) (P : Published → Type 0) → IsThereAnd (code_in w.published code) P → IsUtf8 code
  code_text code P h =
      let it = there (code_in w.published code) P h in
      let found = found_has (λ row. is_published_row row ≡ true) (is_code code) w.published it.0 it.1 rules.published in
      let same = (bytes_eq-Decides it.0.code code).0 found.1 in
      subst IsUtf8 same (name_text it.0.code (and_parts (is_name it.0.code) _ found.0).0)

  -- the owner of an existing plan
  owner_text : (desk : List ℕ) (n : ℕ) (plan : Plan) → plan_in w desk n ≡ Some plan → IsUtf8 desk
  owner_text desk n plan is =
      let found = found_has (IsOwned w) (is_plan desk n) w.plans plan is rules.owned in
      let same = (bytes_eq-Decides plan.desk desk).0 (and_parts (same_text plan.desk desk) (plan.n == n) found.1).0 in
      subst IsUtf8 same (desk_text plan.desk _ found.0)

  pub codes_hold : AllByRecursion HoldsCode w.published
  codes_hold = all_weaker (λ row. is_published_row row ≡ true) HoldsCode (λ row h. name_text row.code (and_parts (is_name row.code) _ h).0) w.published rules.published

  pub desks_hold : AllByRecursion HoldsDesk w.desks
  desks_hold = all_weaker (λ row. is_desk_row row ≡ true) HoldsDesk
      (λ row h. let p = and_parts (is_name row.desk)
      (is_digest row.digest && is_from_to 1 1000001 row.next) h in
      (name_text row.desk p.0, (and_parts (is_digest row.digest) _ p.1).0)) w.desks rules.desks

  pub plans_hold : AllByRecursion HoldsPlan w.plans
  plans_hold =
      all_both (λ row. IsUtf8 row.desk × IsUtf8 row.name) IsPlanRow HoldsPlan (λ row a b. let texts = calendar_texts row.start row.days b.calendar in (a.0, a.1, texts.0, texts.1)) w.plans
      (all_both (IsOwned w) (λ row. IsUtf8 row.name) (λ row. IsUtf8 row.desk × IsUtf8 row.name) (λ row a b. (desk_text row.desk _ a, b)) w.plans rules.owned names) rules.plans

  pub binds_hold : AllByRecursion HoldsBind w.binds
  binds_hold = all_weaker (IsBindRow w) HoldsBind (λ row h. let it = there (plan_in w row.desk row.n) _ h in (owner_text row.desk row.n it.0 it.1, code_text row.code _ it.2.1)) w.binds rules.bound

  pub lags_hold : AllByRecursion HoldsLag w.lags
  lags_hold = all_weaker (IsLagRow w) HoldsLag (λ row h.
      let it = there (plan_in w row.desk row.n) _ h in
      let says = it.2.1 in
      let ends = arc_ends it.0.body says.0 says.1 row.source row.target says.2 in
      (owner_text row.desk row.n it.0 it.1, ends.0, ends.1)) w.lags rules.lagged
