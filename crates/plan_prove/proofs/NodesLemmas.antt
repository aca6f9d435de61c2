-- A text that spells a number of nodes begins with a digit above 0, and is the decimal spelling of
-- the number.
use Rattle.std.proofs.Common.{◌≡◌, ◌∙◌, ℕ, ◌<◌, ◌≤◌, zero, suc, List, Result, Ok, Err, refl, sym, subst, arith}
use Rattle.std.specs.Prelude.{get_or}
use Rattle.std.specs.Fmt.{decimal}
use Rattle.std.specs.Str.Parse.{ParsesUnsigned}
use Rattle.std.proofs.lemmas.Fmt.{parse-decimal, decimal_digit}
use Rattle.plan_exact.specs.Budgets.{BeginsAboveZero}
use Rattle.plan_exact.proofs.BudgetLemmas.{read_back, begins_above, IsRead, IsOf}
use Rattle.plan_prove.specs.Nodes.{IsNodesText}

-- a text that no number is read from spells no number of nodes
pub unread : {E : Type 0} (text : List ℕ) (r : Result ℕ E) (e : E) → ParsesUnsigned 64 10 text r → r ≡ Err e → (nodes : ℕ) → IsNodesText text nodes → ⊥
unread {E} text r e parsed fails nodes spelled =
    let most = spelled.0.1 in
    let reads = parse-decimal 64 nodes text r (omega (arith, most)) (omega (arith, most)) spelled.1 parsed in
    absurd (subst IsRead (sym reads ∙ fails) tt)

-- a text that a greater number is read from spells none
pub too_great : {E : Type 0} (text : List ℕ) (r : Result ℕ E) (n : ℕ) → ParsesUnsigned 64 10 text r → r ≡ Ok n → 1000000000 < n → (nodes : ℕ) → IsNodesText text nodes → ⊥
too_great text r n parsed reads great nodes spelled =
    let most = spelled.0.1 in
    let same = parse-decimal 64 nodes text r (omega (arith, most)) (omega (arith, most)) spelled.1 parsed in
    let equal : n ≡ nodes = subst (IsOf nodes) (sym same ∙ reads) refl in
    absurd (omega (arith, equal, most, great))

-- a text that begins with no digit above 0 spells none
pub not_above : (text : List ℕ) → (BeginsAboveZero text → ⊥) → (nodes : ℕ) → IsNodesText text nodes → ⊥
not_above text low nodes spelled =
    let least = spelled.0.0 in
    let most = spelled.0.1 in
    low (subst BeginsAboveZero (sym spelled.1) (begins_above nodes (omega (arith, least)) (omega (arith, most))))

-- a number of nodes that is read is above 0
pub positive : {E : Type 0} (text : List ℕ) (r : Result ℕ E) (n : ℕ) → ParsesUnsigned 64 10 text r → BeginsAboveZero text → r ≡ Ok n → n ≤ 1000000000 → IsNodesText text n
positive text r n parsed above e most =
    let back = read_back text r n parsed above e in
    let first : 48 < get_or (decimal n) 0 0 = subst (λ (bytes : List ℕ). 48 < get_or bytes 0 0) back (omega (arith, above.0)) in
    ((some n first, most), back)
  where
    some : (n : ℕ) → 48 < get_or (decimal n) 0 0 → 0 < n
    some zero first = absurd (omega (arith, subst (λ (bytes : List ℕ). 48 < get_or bytes 0 0) (decimal_digit 0 (omega arith)) first))
    some (suc n) first = omega arith
