-- For a text and a name there is at most one shop and one first check that fails.
use Rattle.std.proofs.Common.{◌≡◌, ℕ, List, Result, sym, ap, ◌∙◌}
use Rattle.plan_psplib.specs.declared.text.fault.Fault.{Fault}
use Rattle.plan_psplib.specs.declared.text.fault.FileFault.{FileFault}
use Rattle.plan_psplib.proofs.GoesLemmas.{same_ok}
use Rattle.plan_psplib.proofs.OnceLemmas.{ReadAlike, never_both, fault_once}
use Rattle.plan_orlib.specs.Shop.{Shop}
use Rattle.plan_orlib.specs.ShopText.{shop, FailsWith}
use Rattle.plan_orlib.specs.Says.{Says}
use Rattle.plan_orlib.proofs.TextLemmas.{said_shop}

-- a text describes at most one shop of a name
pub shop_once : (name text : List ℕ) (a b : Shop) → Says name text a → Says name text b → a ≡ b
shop_once name text a b first second = same_ok a b (sym (said_shop name text a first) ∙ said_shop name text b second)

-- a reading fails one check first
pub failing_once : {A : Type 0} (read : Result A Fault) (f g : FileFault) → FailsWith read f → FailsWith read g → ReadAlike f g
failing_once read f g first second =
    let same = fault_once read (record { code = f.code; line = f.line }) (record { code = g.code; line = g.line }) first.0 second.0 in
    record {
      code = ap (λ (fault : Fault). fault.code) same;
      line = ap (λ (fault : Fault). fault.line) same;
      cycle = first.1 ∙ sym second.1;
    }

-- a text that describes a shop of a name fails no check for it
pub said_fails_none : (name text : List ℕ) (s : Shop) (f : FileFault) → Says name text s → FailsWith (shop name text) f → ⊥
said_fails_none name text s f says failing = never_both (shop name text) s _ (said_shop name text s says) failing.0
