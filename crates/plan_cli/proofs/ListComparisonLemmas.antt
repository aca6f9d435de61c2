-- Comparisons of two lists by their ids.
use Rattle.std.proofs.Common.{◌≡◌, inl, inr, ℕ, List, codes, subst, sym}
use Rattle.plan_report.specs.StartsText.{SaysStarts}
use Rattle.plan_errors.specs.Faults.{refusal_line}
use Rattle.plan_errors.specs.Output.{Refuses}
use Rattle.plan_errors.specs.declared.fault.CliFault.{CliFault}
use Rattle.plan_errors.specs.declared.fault.CliFault.TheVariants as cli
use Rattle.plan_documents.specs.Documents.{IsDocumentOf, RefusesSubject, TellsNoDocument, TellsNoPlan, sheet_of}
use Rattle.plan_documents.specs.Lists.{RefusesReading}
use Rattle.plan_documents.specs.declared.documents.Plan.{Plan}
use Rattle.plan_documents.specs.declared.documents.Document.{Document}
use Rattle.plan_documents.specs.declared.documents.Document.TheVariants as document
use Rattle.plan_documents.specs.declared.documents.Subject.{Subject}
use Rattle.plan_documents.specs.declared.documents.Subject.TheVariants as subject
use Rattle.plan_documents.proofs.ErrorLemmas.{refuses_as}
use Rattle.plan_cli.specs.CompareRun.{IsNamedFault, TellsNoStartsOf, named_line}
use Rattle.plan_cli.specs.ListComparisons.{IsOldLine, TellsNoIds, TellsNoLists, TellsNoOld, TellsNoPlans, old_words}

-- an old line of another kind
old_as : (IsLine IsOther : List ℕ → Type 0) (line : List ℕ) → ((plain : List ℕ) → IsLine plain → IsOther plain) → IsOldLine IsLine line → IsOldLine IsOther line
old_as IsLine IsOther line same (plain, is, shown) = (plain, same plain is, shown)

-- the old plan has no ids
pub no_old_ids : (first second : List ℕ) (after before : Plan) (e : CliFault)
    → Refuses (TellsNoIds (codes "no column id of the old list") before) e → Refuses (TellsNoPlans first second after before) e
no_old_ids first second after before e told =
    refuses_as (TellsNoIds (codes "no column id of the old list") before) (TellsNoPlans first second after before) e (λ line tells. inl tells) told

-- the starts of the old plan are refused
pub no_old_starts : (first second : List ℕ) (after before : Plan) (e : CliFault)
    → Refuses (TellsNoStartsOf (codes "A") (sheet_of before) first) e → Refuses (TellsNoPlans first second after before) e
no_old_starts first second after before e told =
    refuses_as (TellsNoStartsOf (codes "A") (sheet_of before) first) (TellsNoPlans first second after before) e (λ line tells. inr (inl tells)) told

-- the starts of the new plan are refused
pub no_new_starts : (first second a : List ℕ) (after before : Plan) (e : CliFault) → SaysStarts (sheet_of before) first a
    → Refuses (TellsNoStartsOf (codes "B") (sheet_of after) second) e → Refuses (TellsNoPlans first second after before) e
no_new_starts first second a after before e said told =
    refuses_as (TellsNoStartsOf (codes "B") (sheet_of after) second) (TellsNoPlans first second after before) e (λ line tells. inr (inr (a, said, tells))) told

-- the project or the job shop in the old file is refused
pub no_old : (IsLine : List ℕ → Type 0) (s : Subject) (text first second : List ℕ) (after : Plan) (e : CliFault)
    → ((plain : List ℕ) → IsLine plain → RefusesSubject s (λ before none. ⊥) text plain)
    → Refuses (IsOldLine IsLine) e → Refuses (TellsNoOld s text first second after) e
no_old IsLine s text first second after e same told =
    refuses_as (IsOldLine IsLine) (TellsNoOld s text first second after) e
    (λ line tells. inl (old_as IsLine (RefusesSubject s (λ before none. ⊥) text) line same tells)) told

-- the new plan has no ids
pub no_new_ids : (of : Subject) (old first second : List ℕ) (after : Plan) (e : CliFault)
    → Refuses (TellsNoIds (codes "no column id") after) e → Refuses (TellsNoLists of old first second after) e
no_new_ids of old first second after e told =
    refuses_as (TellsNoIds (codes "no column id") after) (TellsNoLists of old first second after) e (λ line tells. inl tells) told

-- the old file is a list with an error
pub no_old_list : (of : Subject) (old first second : List ℕ) (after : Plan) (e : CliFault)
    → Refuses (IsOldLine (RefusesReading of old)) e → Refuses (TellsNoLists of old first second after) e
no_old_list of old first second after e told =
    refuses_as (IsOldLine (RefusesReading of old)) (TellsNoLists of old first second after) e (λ line tells. inr (inl tells)) told

document_line : (s : Subject) → (text line : List ℕ) → TellsNoDocument s text line → RefusesSubject s (λ before none. ⊥) text line
document_line (subject.Project given) text line (inl first) = inl first
document_line (subject.Project given) text line (inr (p, says, unknown)) = inr (p, says, inl unknown)
document_line (subject.Shop instance) text line first = inl first

plan_line : (s : Subject) → (text : List ℕ) (d : Document) → (line : List ℕ) → IsDocumentOf s text d → TellsNoPlan d line
    → RefusesSubject s (λ before none. ⊥) text line
plan_line (subject.Project given) text (document.Project p capacities) line is need = inr (p, is.0, inr (capacities.items, is.1, inl need))
plan_line (subject.Project given) text (document.Shop doc) line is need = absurd is
plan_line (subject.Shop instance) text (document.Project p capacities) line is need = absurd is
plan_line (subject.Shop instance) text (document.Shop doc) line is need = absurd need

-- the document of the old file is refused
pub no_old_document : (s : Subject) (text first second : List ℕ) (after : Plan) (e : CliFault)
    → Refuses (IsOldLine (TellsNoDocument s text)) e → Refuses (TellsNoOld s text first second after) e
no_old_document s text first second after e told = no_old (TellsNoDocument s text) s text first second after e (document_line s text) told

-- the plan of the old file is refused
pub no_old_plan : (s : Subject) (text : List ℕ) (d : Document) (first second : List ℕ) (after : Plan) (e : CliFault) → IsDocumentOf s text d
    → Refuses (IsOldLine (TellsNoPlan d)) e → Refuses (TellsNoOld s text first second after) e
no_old_plan s text d first second after e is told =
    no_old (TellsNoPlan d) s text first second after e (λ line need. plan_line s text d line is need) told
