-- Kept clauses: the literals of one of them, and the same in another order.
use Rattle.std.proofs.Common.{◌≡◌, ℕ, ◌<◌, ◌⊎◌, inl, inr, List, Vec, [], ◌∷◌, Option, Some, None, Contains, length, get_or, set, refl, sym, subst, arith}
use Rattle.std.specs.List.{All}
use Rattle.std.specs.List.Sorted.{IsPermutation}
use Rattle.std.specs.declared.alloc.Global.{Global}
use Rattle.std.proofs.lemmas.List.{set-set}
use Rattle.std.proofs.lemmas.List.Elements.{All-contains, All-contains_itself, All-set, All-weaker}
use Rattle.std.proofs.lemmas.List.Sorted.{All-permutation, IsPermutation-sym}
use Rattle.plan_kernel.specs.declared.literal.Literal.{Literal}
use Rattle.plan_kernel.specs.declared.input.Input.{Input}
use Rattle.plan_kernel.specs.Literals.{Fails}
use Rattle.plan_kernel.specs.Clauses.{IsConsequence}
use Rattle.plan_kernel.specs.Kernels.{Kept, IsKept, IsAmong, IsReordered, HasReordered}

-- what is one of the clauses, or one of them in another order
abbrev pub IsOneOf : List Kept → Kept → Type 0
IsOneOf old kept = Contains old kept ⊎ ((other : Kept) × Contains old other × IsReordered other kept)

pub reordered_none : (old : List Kept) → HasReordered old old
reordered_none old = All-weaker (Contains old) (IsOneOf old) (λ kept there. inl there) old (All-contains_itself old)

pub reordered_set : (old : List Kept) (place : ℕ) (kept : Kept) → IsOneOf old kept → HasReordered old (set old place kept)
reordered_set old place kept one = All-set (IsOneOf old) old place kept one (reordered_none old)

-- a clause in another order holds
reordered_follows : (input : Input) (upper : ℕ) (old new : Kept) → IsReordered old new → IsKept input upper old → IsKept input upper new
reordered_follows input upper None new never kept = absurd never
reordered_follows input upper (Some old) None never kept = absurd never
reordered_follows input upper (Some old) (Some new) same kept = λ starts short fail.
    kept starts short (All-permutation (Fails input starts) new.items old.items (IsPermutation-sym old.items new.items same) fail)

-- so do all
pub reordered_kept : (input : Input) (upper : ℕ) (old new : List Kept) → HasReordered old new → All (IsKept input upper) old → All (IsKept input upper) new
reordered_kept input upper old new are kept = All-weaker (IsOneOf old) (IsKept input upper) each new are where
  each : (clause : Kept) → IsOneOf old clause → IsKept input upper clause
  each clause (inl there) = All-contains (IsKept input upper) old clause kept there
  each clause (inr (other, there, same)) = reordered_follows input upper other clause same (All-contains (IsKept input upper) old other kept there)

-- a clause was taken out and put back in another order
pub swapped_at : (old : List Kept) (place : ℕ) (was : Kept) (hole : Kept) (literals new : Vec Literal Global) → place < length old → was ≡ get_or old place was
    → was ≡ Some literals → IsPermutation literals.items new.items → HasReordered old (set (set old place hole) place (Some new))
swapped_at old place was hole literals new inside there is same =
    subst (λ (xs : List Kept). HasReordered old xs) (sym (set-set old place hole (Some new)))
    (reordered_set old place (Some new) (inr (was, contained, subst (λ (o : Kept). IsReordered o (Some new)) (sym is) same))) where
      contained : Contains old was
      contained = (place, inside, sym there)

-- a hole was put where one is
pub hole_at : (old : List Kept) (place : ℕ) (was hole : Kept) → place < length old → was ≡ get_or old place was → hole ≡ was → HasReordered old (set old place hole)
hole_at old place was hole inside there same =
    reordered_set old place hole (inl (subst (λ (o : Kept). Contains old o) (sym same) contained)) where
      contained : Contains old was
      contained = (place, inside, sym there)

-- a clause at a place is one of all
pub kept_at : (clauses : List Kept) (place : ℕ) (was : Kept) (literals : Vec Literal Global) → place < length clauses → was ≡ get_or clauses place was
    → was ≡ Some literals → Contains clauses (Some literals)
kept_at clauses place was literals inside there is = subst (λ (o : Kept). Contains clauses o) is (let at : Contains clauses was = (place, inside, sym there) in at)

-- a clause of one literal
pub one_literal : (clause : List Literal) (d : Literal) → length clause ≡ 1 → clause ≡ get_or clause 0 d ∷ []
one_literal [] d one = absurd (omega (arith, one))
one_literal (l ∷ []) d one = refl
one_literal (l ∷ (m ∷ rest)) d one = absurd (omega (arith, one))
