-- Lines of the table of a shop.
use Rattle.std.proofs.Common.{◌≡◌, ℕ, List, ◌++◌, Some, get_or, slice_index, sym, subst}
use Rattle.std.specs.List.{slice_get}
use Rattle.plan_orlib.specs.declared.steps.Step.{Step}
use Rattle.plan_shop.specs.Shop.{JobShop, idle}
use Rattle.std.proofs.lemmas.Option.{get_or_from_slice_get}
use Rattle.plan_gantt.specs.ShopTable.{step_line, shop_line}

-- the line of a step that is read from the shop
pub shop_line-read : (s : JobShop) (starts : List ℕ) (x machines start : ℕ) (w : Step) (old new : List ℕ) → slice_get s.steps x ≡ Some w → machines ≡ s.machines → start ≡ slice_index starts x
    → new ≡ old ++ step_line machines x w start → new ≡ old ++ shop_line s starts x
unfolding shop_line
shop_line-read s starts x machines start w old new read is at made =
    let here : new ≡ old ++ step_line s.machines x w start = subst (λ m. new ≡ old ++ step_line m x w start) is made in
    let there : new ≡ old ++ step_line s.machines x (get_or s.steps x idle) start =
    subst (λ v. new ≡ old ++ step_line s.machines x v start) (sym (get_or_from_slice_get s.steps x w idle read)) here in
    subst (λ t. new ≡ old ++ step_line s.machines x (get_or s.steps x idle) t) at there
