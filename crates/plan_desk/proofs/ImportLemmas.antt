-- The decision on an import, from the answers of a book.
use Rattle.std.proofs.Common.{◌≡◌, ◌+◌, inl, inr, ℕ, Option, Some, None, List, [], ◌∷◌, length, refl, sym, ap, ◌∙◌, subst, arith}
use Rattle.std.proofs.lemmas.Bool.{cases_Bool}
use Rattle.std.proofs.lemmas.List.{length-map}
use Rattle.plan_psplib.specs.Project.{SaysProject}
use Rattle.plan_orlib.specs.Says.{Says}
use Rattle.plan_rows.specs.declared.kinds.PlanKind.{PlanKind}
use Rattle.plan_rows.specs.declared.kinds.PlanKind.TheVariants as kinds
use Rattle.plan_rows.specs.declared.rows.DeskRow.{DeskRow}
use Rattle.plan_rows.specs.declared.rows.PlanEntry.{PlanEntry}
use Rattle.plan_rows.specs.World.{Text, Desk, Plan, World, desk_in}
use Rattle.plan_rows.specs.Changes.{Keep, AddPlan}
use Rattle.plan_desk.specs.Calls.{Reply, answer}
use Rattle.plan_rows.specs.Views.{View, view}
use Rattle.plan_rows.specs.Plans.{put_in_order, in_order}
use Rattle.plan_desk.specs.JsonTexts.{plan_text}
use Rattle.plan_rows.specs.Plans.{plan_before}
use Rattle.plan_rows.specs.Books.{Matches, IsDeskAnswer, ListsPlans, entry_in, entry_of}
use Rattle.plan_desk.specs.PlanRoutes.{Imports}
use Rattle.plan_desk.specs.Refusals.{not_found}
use Rattle.plan_desk.specs.RouteRefusals.{IsRead, IsImportRefusal}
use Rattle.plan_desk.specs.FoundFiles.{ImportsFile}
use Rattle.plan_desk.proofs.RefusedLemmas.{imports_kept, imports_refused, not_none}
use Rattle.plan_desk.proofs.RouteLemmas.{given_nothing}

longer : (x : Plan) (l : List Plan) → length (put_in_order plan_before x l) ≡ length l + 1
longer x [] = refl
longer x (y ∷ l) = grind (arith, cases_Bool (plan_before y x), longer x l)

as_long : (xs : List Plan) → length (in_order plan_before xs) ≡ length xs
as_long [] = refl
as_long (x ∷ xs) = let more = longer x (in_order plan_before xs) in let rest = as_long xs in omega (arith, more, rest)

-- a desk holds as many plans as a book lists
pub held_are : (rows : List Plan) (answer : List PlanEntry) → ListsPlans rows answer → length answer ≡ length rows
held_are rows answer is =
    sym (length-map answer entry_in) ∙ ap (λ l. length l) is ∙ length-map (in_order plan_before rows) entry_of ∙ as_long rows

-- the row of a desk, from the answer of a book
pub record HasDesk (v : View) (row : DeskRow) : Type 0 where
  pub desk : Desk
  pub there : v.desk ≡ Some desk
  pub next : row.next ≡ desk.next

pub desk_answered : (w : World) (desk : Text) (row : DeskRow) → Matches IsDeskAnswer (desk_in w desk) (Some row) → HasDesk (view desk w) row
desk_answered w desk row is = by_row (desk_in w desk) refl is
  where
    by_row : (o : Option Desk) → desk_in w desk ≡ o → Matches IsDeskAnswer o (Some row) → HasDesk (view desk w) row
    by_row None e h = absurd h
    by_row (Some found) e h = record { desk = found; there = e; next = h.next }

pub desk_missing : (w : World) (desk : Text) → Matches IsDeskAnswer (desk_in w desk) None → desk_in w desk ≡ None
desk_missing w desk is = by_row (desk_in w desk) is
  where
    by_row : (o : Option Desk) → Matches IsDeskAnswer o None → o ≡ None
    by_row None h = refl
    by_row (Some found) h = absurd h

imports_nowhere : {A : Type 0} (v : View) (kind : PlanKind) (name body : Text) (Tells : Text → Type 0) (Reads : A → Type 0) → v.desk ≡ None
    → Imports v kind name body Tells Reads not_found Keep
unfolding Imports
imports_nowhere v kind name body Tells Reads absent = given_nothing v.desk not_found _ absent

-- no desk
pub file_nowhere : (kind : PlanKind) (v : View) (name body : Text) → v.desk ≡ None → ImportsFile kind v name body not_found Keep
file_nowhere kinds.Project v name body absent = imports_nowhere v kinds.Project name body _ _ absent
file_nowhere kinds.Shop v name body absent = imports_nowhere v kinds.Shop name body _ _ absent

-- the refusal of a file is the reply to the desk
pub file_not_kept : (kind : PlanKind) (v : View) (name body : Text) (row : DeskRow) (held : ℕ) (reply : Reply) → HasDesk v row → held ≡ length v.plans
    → IsImportRefusal held row.next kind name body (Some reply) → ImportsFile kind v name body reply Keep
file_not_kept kind v name body row held reply has many refused =
    by_kind kind
    (subst (λ (m : ℕ). IsImportRefusal (length v.plans) m kind name body (Some reply)) has.next
    (subst (λ (m : ℕ). IsImportRefusal m row.next kind name body (Some reply)) many refused))
  where
    by_kind : (k : PlanKind) → IsImportRefusal (length v.plans) has.desk.next k name body (Some reply) → ImportsFile k v name body reply Keep
    by_kind kinds.Project h = imports_refused v has.desk kinds.Project name body (SaysProject body) reply has.there h
    by_kind kinds.Shop h = imports_refused v has.desk kinds.Shop name body (Says name body) reply has.there h

-- a file that isn't refused is read
read_of : (held next : ℕ) (kind : PlanKind) (name body : Text) → IsImportRefusal held next kind name body None → IsRead kind name body
read_of held next kind name body (inl (full, e)) = absurd (not_none _ (sym e))
read_of held next kind name body (inr (inl (free, spent, e))) = absurd (not_none _ (sym e))
read_of held next kind name body (inr (inr (free, unspent, file))) = file

pub file_kept : (kind : PlanKind) (v : View) (name body : Text) (row : DeskRow) (held : ℕ) → HasDesk v row → held ≡ length v.plans
    → IsImportRefusal held row.next kind name body None
    → ImportsFile kind v name body (answer 201 (plan_text row.next kind)) (AddPlan kind name body)
file_kept kind v name body row held has many passed =
    subst (λ (m : ℕ). ImportsFile kind v name body (answer 201 (plan_text m kind)) (AddPlan kind name body)) (sym has.next)
    (by_kind kind
    (subst (λ (m : ℕ). IsImportRefusal (length v.plans) m kind name body None) has.next
    (subst (λ (m : ℕ). IsImportRefusal m row.next kind name body None) many passed)))
  where
    by_kind : (k : PlanKind) → IsImportRefusal (length v.plans) has.desk.next k name body None
        → ImportsFile k v name body (answer 201 (plan_text has.desk.next k)) (AddPlan k name body)
    by_kind kinds.Project h =
        let read = read_of _ _ kinds.Project name body h in
        imports_kept v has.desk kinds.Project name body (SaysProject body) read.0 has.there read.1 h
    by_kind kinds.Shop h =
        let read = read_of _ _ kinds.Shop name body h in
        imports_kept v has.desk kinds.Shop name body (Says name body) read.0 has.there read.1 h
