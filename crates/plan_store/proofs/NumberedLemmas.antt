-- A plan that is added with the number of its desk is the desk's next one.
use Rattle.std.proofs.Common.{◌≡◌, ◌+◌, ℕ, Bool, true, false, cond, List, [], ◌∷◌, ◌++◌, find, Option, Some, None, IsSomeAnd, IsTrue, refl, sym, ap, ap₂, ◌∙◌}
use Rattle.std.specs.List.{AllByRecursion}
use Rattle.std.proofs.lemmas.Bool.{both_ways}
use Rattle.std.proofs.lemmas.Slice.Eq.{bytes_eq-Decides}
use Rattle.sqlite.specs.State.{State, HasCleanDisk}
use Rattle.plan_rows.specs.declared.kinds.PlanKind.{PlanKind}
use Rattle.plan_rows.specs.World.{Desk, World, same_text, is_desk, desk_in}
use Rattle.plan_rows.specs.Changes.{apply, changed, risen, next_of, new_plan, AddPlan}
use Rattle.plan_rows.specs.Rules.{AllDiffer}
use Rattle.plan_store.specs.Stores.{world_of}
use Rattle.plan_store.specs.BookCalls.{IsReady, IsNextNumber, numbered_plan}

module _ (desk : List ℕ) (n : ℕ) where
  numbered : Desk → Desk
  numbered row = record row { next = n + 1 }

  -- no row behind the desk's own is the desk's
  unchanged : (row : Desk) → is_desk desk row ≡ true → (xs : List Desk) →
      AllByRecursion (λ y. same_text row.desk y.desk ≡ false) xs →
      changed (is_desk desk) numbered xs ≡ changed (is_desk desk) risen xs
  unchanged row own [] all = refl
  unchanged row own (x ∷ xs) all = ap₂ ◌∷◌ (other (is_desk desk x) refl) (unchanged row own xs all.1)
    where
      other : (b : Bool) → is_desk desk x ≡ b → cond b (numbered x) x ≡ cond b (risen x) x
      other false e = refl
      other true e = absurd (both_ways (same_text row.desk x.desk) all.0 ((bytes_eq-Decides row.desk x.desk).1 ((bytes_eq-Decides row.desk desk).0 own ∙ sym ((bytes_eq-Decides x.desk desk).0 e))))

  raised : (xs : List Desk) → AllDiffer (λ a b. same_text a.desk b.desk) xs → (row : Desk) →
      find (is_desk desk) xs ≡ Some row → row.next ≡ n →
      changed (is_desk desk) numbered xs ≡ changed (is_desk desk) risen xs
  unfolding numbered
  raised [] apart row found next = refl
  raised (x ∷ xs) apart row found next = go (is_desk desk x) refl found (λ is. raised xs apart.1 row is next)
    where
      go : (b : Bool) → is_desk desk x ≡ b → cond b (Some x) (find (is_desk desk) xs) ≡ Some row →
          (find (is_desk desk) xs ≡ Some row → changed (is_desk desk) numbered xs ≡ changed
          (is_desk desk) risen xs) → cond b (numbered x) x
          ∷ changed (is_desk desk) numbered xs ≡ cond b (risen x) x ∷ changed (is_desk desk) risen xs
      go true e is more =
          let same : x ≡ row = cc in
          let here : x.next ≡ n = ap (λ (d : Desk). d.next) same ∙ next in
          ap₂ ◌∷◌ (ap (λ k. record x { next = k + 1 }) (sym here)) (unchanged x e xs apart.0)
      go false e is more = ap (λ l. x ∷ l) (more is)

  pub numbered_is_next : (w : World) → AllDiffer (λ a b. same_text a.desk b.desk) w.desks → IsSomeAnd (desk_in w desk) (λ row. row.next ≡ n)
      → (kind : PlanKind) (name body : List ℕ) → numbered_plan desk n kind name body w ≡ apply desk (AddPlan kind name body) w
  unfolding numbered
  numbered_is_next w apart told kind name body = go (desk_in w desk) refl told
    where
      go : (o : Option Desk) → desk_in w desk ≡ o → IsSomeAnd o (λ row. row.next ≡ n) → numbered_plan desk n kind name body w ≡ apply desk (AddPlan kind name body) w
      go None e h = absurd h
      go (Some row) e next =
          let number : next_of (desk_in w desk) ≡ n = ap next_of e ∙ next in
          λ i. record w {
            desks = raised w.desks apart row e next i;
            plans = w.plans ++ new_plan desk (sym number i) kind name body ∷ [];
          }

-- as far as the tables can be seen
pub numbered_now : (s : State) → IsReady s → (desk : List ℕ) (n : ℕ) → IsNextNumber s desk n → (kind : PlanKind) (name body : List ℕ) → HasCleanDisk s → IsTrue s.is_open
    → numbered_plan desk n kind name body (world_of s.now.trees) ≡ apply desk (AddPlan kind name body) (world_of s.now.trees)
numbered_now s ready desk n is kind name body clean live =
    numbered_is_next desk n (world_of s.now.trees) (ready.stands clean live).store.rules.desks_differ (is clean live) kind name body
