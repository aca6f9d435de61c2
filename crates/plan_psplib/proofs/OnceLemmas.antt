-- A text has at most one document, one project and one first check that it fails.
use Rattle.std.proofs.Common.{◌≡◌, ℕ, inl, inr, List, Result, Ok, Err, sym, ap, ◌∙◌, subst}
use Rattle.plan_net.specs.Limits.{IsSound}
use Rattle.plan_net.specs.Cycle.{IsNamedCycle}
use Rattle.plan_net.proofs.OnceLemmas.{cycle_once, sound_unnamed}
use Rattle.plan_psplib.specs.declared.text.fault.Fault.{Fault}
use Rattle.plan_psplib.specs.declared.text.fault.FileFault.{FileFault}
use Rattle.plan_psplib.specs.Document.{Document, document}
use Rattle.plan_psplib.specs.Says.{Says}
use Rattle.plan_psplib.specs.Project.{Project, SaysProject, IsFirstFailing, NamesCycleOf, network_of, project_of}
use Rattle.plan_psplib.proofs.GoesLemmas.{same_ok}
use Rattle.plan_psplib.proofs.SaysLemmas.{said_document}

-- two equal faults: of one check, at one line, with one cycle
pub record ReadAlike (a b : FileFault) : Type 0 where
  pub code : a.code ≡ b.code
  pub line : a.line ≡ b.line
  pub cycle : a.cycle.items ≡ b.cycle.items

-- a reading doesn't both succeed and fail
pub never_both : {A : Type 0} (r : Result A Fault) (x : A) (f : Fault) → r ≡ Ok x → r ≡ Err f → ⊥
never_both {A = A} r x f good bad = let both : Path (Result A Fault) (Ok x) (Err f) = sym good ∙ bad in cc

-- a reading fails with one fault
pub fault_once : {A : Type 0} (r : Result A Fault) (f g : Fault) → r ≡ Err f → r ≡ Err g → f ≡ g
fault_once {A = A} r f g first second = let both : Path (Result A Fault) (Err f) (Err g) = sym first ∙ second in cc

-- a text describes at most one document
pub document_once : (text : List ℕ) (a b : Document) → Says text a → Says text b → a ≡ b
document_once text a b first second = same_ok a b (sym (said_document text a first) ∙ said_document text b second)

-- and one project
pub project_once : (text : List ℕ) (p q : Project) → SaysProject text p → SaysProject text q → p ≡ q
project_once text p q (a, says_a, is_a, good_a) (b, says_b, is_b, good_b) =
    is_a ∙ ap project_of (document_once text a b says_a says_b) ∙ sym is_b

-- a document's arcs have one named cycle
cycles_alike : (a b : Document) (f g : FileFault) → a ≡ b → NamesCycleOf a f → NamesCycleOf b g → ReadAlike f g
cycles_alike a b f g same first second =
    let named = subst (λ (d : Document). IsNamedCycle (network_of d) f.cycle.items) same first.2 in
    record {
      code = first.0 ∙ sym second.0;
      line = first.1 ∙ ap (λ (d : Document). d.precedence_line) same ∙ sym second.1;
      cycle = cycle_once (network_of b) f.cycle.items g.cycle.items named second.2;
    }

-- a text fails one check first
pub failing_once : (text : List ℕ) (f g : FileFault) → IsFirstFailing text f → IsFirstFailing text g → ReadAlike f g
failing_once text f g (inl (first, none)) (inl (second, other)) =
    let same = fault_once (document text) (record { code = f.code; line = f.line }) (record { code = g.code; line = g.line }) first second in
    record {
      code = ap (λ (fault : Fault). fault.code) same;
      line = ap (λ (fault : Fault). fault.line) same;
      cycle = none ∙ sym other;
    }
failing_once text f g (inl (first, none)) (inr (d, second, names)) = absurd (never_both (document text) d _ second first)
failing_once text f g (inr (d, first, names)) (inl (second, none)) = absurd (never_both (document text) d _ first second)
failing_once text f g (inr (a, first, names_a)) (inr (b, second, names_b)) =
    cycles_alike a b f g (same_ok a b (sym first ∙ second)) names_a names_b

-- a text that describes a project fails no check
pub said_fails_none : (text : List ℕ) (p : Project) (f : FileFault) → SaysProject text p → IsFirstFailing text f → ⊥
said_fails_none text p f (d, says, is, good) (inl (failing, none)) = never_both (document text) d _ (said_document text d says) failing
said_fails_none text p f (d, says, is, good) (inr (other, read, names)) =
    let same : other ≡ d = same_ok other d (sym read ∙ said_document text d says) in
    let named = subst (λ (x : Document). IsNamedCycle (network_of x) f.cycle.items) same names.2 in
    let sound = subst (λ (x : Project). IsSound x.network) is good.network in
    sound_unnamed (network_of d) f.cycle.items sound named
