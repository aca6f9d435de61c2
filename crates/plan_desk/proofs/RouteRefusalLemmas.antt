-- The line of a file's fault gives the first check that the file fails.
use Rattle.std.proofs.Common.{◌≡◌, ◌⊎◌, inl, inr, List, ℕ, refl, sym, subst}
use Rattle.plan_psplib.specs.declared.text.fault.FileFault.{FileFault}
use Rattle.plan_psplib.specs.Faults.{IsWantOfMemory}
use Rattle.plan_psplib.specs.Project.{IsFirstFailing}
use Rattle.plan_orlib.specs.ShopText.{FailsWith, shop}
use Rattle.plan_gantt.specs.FaultText.{file_fault_text_of}
use Rattle.plan_rows.specs.declared.kinds.PlanKind.{PlanKind}
use Rattle.plan_rows.specs.declared.kinds.PlanKind.TheVariants as kinds
use Rattle.plan_desk.specs.RouteRefusals.{TellsFileFault}

-- memory ran out, or the line of the fault gives the first check that the file fails
abbrev pub IsTold : PlanKind → List ℕ → List ℕ → FileFault → Type 0
IsTold kind name body first = IsWantOfMemory first ⊎ TellsFileFault kind name body (file_fault_text_of first)

-- the line of a project's fault
pub project_told : (kind : PlanKind) (name body : List ℕ) (first : FileFault) → kind ≡ kinds.Project
    → IsWantOfMemory first ⊎ IsFirstFailing body first → IsTold kind name body first
project_told kind name body first is judged = subst (λ (k : PlanKind). IsTold k name body first) (sym is) (of_project judged)
  where
    of_project : IsWantOfMemory first ⊎ IsFirstFailing body first → IsTold kinds.Project name body first
    of_project (inl memory) = inl memory
    of_project (inr failing) = inr (first, failing, refl)

-- the line of a shop's fault, by the bytes of the instance's name
pub shop_told : (kind : PlanKind) (name given body : List ℕ) (first : FileFault) → kind ≡ kinds.Shop → given ≡ name
    → IsWantOfMemory first ⊎ FailsWith (shop given body) first → IsTold kind name body first
shop_told kind name given body first is same judged =
    subst (λ (k : PlanKind). IsTold k name body first) (sym is)
    (of_shop (subst (λ (n : List ℕ). IsWantOfMemory first ⊎ FailsWith (shop n body) first) same judged))
  where
    of_shop : IsWantOfMemory first ⊎ FailsWith (shop name body) first → IsTold kinds.Shop name body first
    of_shop (inl memory) = inl memory
    of_shop (inr failing) = inr (first, failing, refl)
