-- Texts and lines for the project or the job shop in a file.
use Rattle.std.proofs.Common.{◌≡◌, ◌⊎◌, inl, inr, ℕ, List, sym, subst}
use Rattle.plan_errors.specs.declared.fault.CliFault.{CliFault}
use Rattle.plan_errors.specs.Output.{Refuses}
use Rattle.plan_documents.specs.Documents.{IsDocumentOf, TellsNoDocument, plan_in, ids_in, HasFit, TellsNoPlan, IsOfSubject, RefusesSubject}
use Rattle.plan_documents.specs.declared.documents.Subject.{Subject}
use Rattle.plan_documents.specs.declared.documents.Subject.TheVariants as subject
use Rattle.plan_documents.specs.declared.documents.Document.{Document}
use Rattle.plan_documents.specs.declared.documents.Document.TheVariants as document
use Rattle.plan_documents.specs.declared.documents.Plan.{Plan}
use Rattle.plan_psplib.specs.Project.{Project, SaysProject}
use Rattle.plan_table.specs.Names.{Name}
use Rattle.plan_documents.specs.Capacities.{TellsUnknown}
use Rattle.plan_documents.specs.Plans.{resources_in}
use Rattle.plan_documents.specs.declared.capacities.Capacity.{Capacity}
use denote.Ref.{Bor}
use Rattle.plan_documents.proofs.ErrorLemmas.{refuses_as}

of_document : {X : Type 0} (s : Subject) (file : List ℕ) (d : Document) (IsText : Plan → X → Type 0) (text : X)
    → IsDocumentOf s file d → HasFit (plan_in d (ids_in file)) → IsText (plan_in d (ids_in file)) text → IsOfSubject s IsText file text
of_document (subject.Project given) file (document.Project p capacities) IsText text is fit made = (p, is.0, (capacities.items, is.1, (fit, made)))
of_document (subject.Project given) file (document.Shop doc) IsText text is fit made = absurd is
of_document (subject.Shop instance) file (document.Project p capacities) IsText text is fit made = absurd is
of_document (subject.Shop instance) file (document.Shop doc) IsText text is fit made = (doc, is, made)

-- a text or a value for the plan of a document is one for the file of the document
pub of_subject : {X : Type 0} (s : Subject) (file : List ℕ) (d : Document) (p : Plan) (IsText : Plan → X → Type 0) (text : X)
    → IsDocumentOf s file d → p ≡ plan_in d (ids_in file) → HasFit p → IsText p text → IsOfSubject s IsText file text
of_subject s file d p IsText text is same fit made =
    of_document s file d IsText text is (subst HasFit same fit) (subst (λ (q : Plan). IsText q text) same made)

-- a capacity of a resource that a project lacks refuses its document
pub unknown_document : (given : Bor (List Capacity)) (file : List ℕ) (names : List Name) (p : Project) (list : List ℕ) (e : CliFault)
    → SaysProject file p → names ≡ resources_in file → list ≡ p.available
    → Refuses (TellsUnknown names given.now list) e → Refuses (TellsNoDocument (subject.Project given) file) e
unknown_document given file names p list e says named same told =
    refuses_as (TellsUnknown names given.now list) (TellsNoDocument (subject.Project given) file) e
    (λ line tells. inr (
      p,
      says,
      subst (λ (n : List Name). TellsUnknown n given.now p.available line) named
          (subst (λ (l : List ℕ). TellsUnknown names given.now l line) same tells),
    )) told

no_document_line : (s : Subject) (file : List ℕ) (IsLine : Plan → List ℕ → Type 0) (line : List ℕ)
    → TellsNoDocument s file line → RefusesSubject s IsLine file line
no_document_line (subject.Project given) file IsLine line (inl first) = inl first
no_document_line (subject.Project given) file IsLine line (inr (p, says, unknown)) = inr (p, says, inl unknown)
no_document_line (subject.Shop instance) file IsLine line first = inl first

-- an error of a document refuses all texts for its file
pub no_document : (s : Subject) (file : List ℕ) (IsLine : Plan → List ℕ → Type 0) (e : CliFault)
    → Refuses (TellsNoDocument s file) e → Refuses (RefusesSubject s IsLine file) e
no_document s file IsLine e t =
    refuses_as (TellsNoDocument s file) (RefusesSubject s IsLine file) e (no_document_line s file IsLine) t

no_plan_line : (s : Subject) (file : List ℕ) (d : Document) (IsLine : Plan → List ℕ → Type 0) (line : List ℕ)
    → IsDocumentOf s file d → TellsNoPlan d line → RefusesSubject s IsLine file line
no_plan_line (subject.Project given) file (document.Project p capacities) IsLine line is need = inr (p, is.0, inr (capacities.items, is.1, inl need))
no_plan_line (subject.Project given) file (document.Shop doc) IsLine line is need = absurd is
no_plan_line (subject.Shop instance) file (document.Project p capacities) IsLine line is need = absurd is
no_plan_line (subject.Shop instance) file (document.Shop doc) IsLine line is need = absurd need

-- a need above its capacity refuses all texts for the file of a document
pub no_plan : (s : Subject) (file : List ℕ) (d : Document) (IsLine : Plan → List ℕ → Type 0) (e : CliFault)
    → IsDocumentOf s file d → Refuses (TellsNoPlan d) e → Refuses (RefusesSubject s IsLine file) e
no_plan s file d IsLine e is t =
    refuses_as (TellsNoPlan d) (RefusesSubject s IsLine file) e (λ line tells. no_plan_line s file d IsLine line is tells) t

refused_line : (s : Subject) (file : List ℕ) (d : Document) (IsLine : Plan → List ℕ → Type 0) (line : List ℕ)
    → IsDocumentOf s file d → HasFit (plan_in d (ids_in file)) → IsLine (plan_in d (ids_in file)) line → RefusesSubject s IsLine file line
refused_line (subject.Project given) file (document.Project p capacities) IsLine line is fit tells = inr (p, is.0, inr (capacities.items, is.1, inr (fit, tells)))
refused_line (subject.Project given) file (document.Shop doc) IsLine line is fit tells = absurd is
refused_line (subject.Shop instance) file (document.Project p capacities) IsLine line is fit tells = absurd is
refused_line (subject.Shop instance) file (document.Shop doc) IsLine line is fit tells = inr (doc, is, tells)

-- an error of the plan of a document refuses the text for its file
pub no_text : (s : Subject) (file : List ℕ) (d : Document) (p : Plan) (IsLine : Plan → List ℕ → Type 0) (e : CliFault)
    → IsDocumentOf s file d → p ≡ plan_in d (ids_in file) → HasFit p → Refuses (IsLine p) e → Refuses (RefusesSubject s IsLine file) e
no_text s file d p IsLine e is same fit t =
    refuses_as (IsLine p) (RefusesSubject s IsLine file) e
    (λ line tells. refused_line s file d IsLine line is (subst HasFit same fit) (subst (λ (q : Plan). IsLine q line) same tells)) t
