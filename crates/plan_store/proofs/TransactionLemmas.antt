-- The effect of the statements of one transaction on a connection.
use Rattle.std.proofs.Common.{rules, ◌≡◌, ◌⊎◌, inl, inr, ◌≤◌, ◌<◌, ◌+◌, ℕ, true, false, List, map, drop, get_or, length, Ok, Err, Result, OnOk, IsTrue, refl, sym, subst, ◌∙◌, arith}
use Rattle.std.specs.Prelude.{MatchResult, IfOk, IfErr, IsErrAnd, OnErr}
use Rattle.std.proofs.lemmas.List.{drop_more, drop_all}
use Rattle.std.specs.Borrow.{Bor}
use Rattle.sqlite_value.specs.declared.value.ValueRef.{ValueRef}
use Rattle.sqlite.specs.Values.{bound}
use Rattle.sqlite_trees.specs.declared.store.Store.{Ghosts}
use Rattle.sqlite_trees.specs.Tree.{Trees}
use Rattle.sqlite.specs.State.{State, HasCleanDisk, KeepsCommit, Survives, Executes, Shows, IsUnchanged, IsRolledBack}
use Rattle.sqlite.specs.Held.{Held, state}
use Rattle.sqlite.proofs.InsideLemmas.{unchanged_keeps}
use Rattle.sqlite.proofs.StateLemmas.{survives_then}
use Rattle.sqlite.proofs.Callers.{survives_begin}
use Rattle.plan_store.specs.Transactions.{Statement, said, RanAll, LeavesAll, MayMake}

-- the two outcomes of a result whose error is mapped
pub mapped : {X E D : Type 0} (r : Result X E) (q : Result X D) (Post : E → D → Type 0) (P : Type 0) → MatchResult r (λ x. q ≡ Ok x) (λ e. IsErrAnd q (Post e))
    → ((x : X) → r ≡ Ok x → q ≡ Ok x → P) → ((e : E) (d : D) → r ≡ Err e → q ≡ Err d → Post e d → P) → P
mapped (Ok x) q Post P same ok err = ok x refl same
mapped (Err e) (Err d) Post P post ok err = err e d refl refl post
mapped (Err e) (Ok x) Post P post ok err = absurd post

-- a result that is fine after its error is mapped was fine before
pub mapped_ok : {X E D : Type 0} (r : Result X E) (q : Result X D) (x : X) (Post : E → D → Type 0) →
    MatchResult r (λ y. q ≡ Ok y) (λ e. IsErrAnd q (Post e)) → q ≡ Ok x → r ≡ Ok x
mapped_ok (Ok y) q x Post same is = search rules
mapped_ok (Err e) (Err d) x Post post is = search rules
mapped_ok (Err e) (Ok y) x Post post is = absurd post

-- a fact of a result that is fine is one of the result whose error is mapped
pub mapped_if_ok : {X E D : Type 0} (r : Result X E) (q : Result X D) (Post : E → D → Type 0) (P Q : X → Type 0) →
    MatchResult r (λ y. q ≡ Ok y) (λ e. IsErrAnd q (Post e)) → IfOk r P → ((x : X) → P x → Q x) → IfOk q Q
mapped_if_ok (Ok y) q Post P Q same it more = subst (λ k. IfOk k Q) (sym same) (more y it)
mapped_if_ok (Err e) (Err d) Post P Q post it more = tt
mapped_if_ok (Err e) (Ok d) Post P Q post it more = absurd post

-- an error that is mapped was an error before
pub mapped_err : {X E D : Type 0} (r : Result X E) (q : Result X D) (d : D) (Post : E → D → Type 0) →
    MatchResult r (λ x. q ≡ Ok x) (λ e. IsErrAnd q (Post e)) → q ≡ Err d → (e : E) × (r ≡ Err e) × Post e d
mapped_err (Ok x) q d Post same is = search rules
mapped_err (Err e) (Err other) d Post post is = (e, refl, subst (λ k. IfErr k (Post e)) is post)
mapped_err (Err e) (Ok x) d Post post is = absurd post

-- a result that is an error
pub failed_with : {X E : Type 0} (r : Result X E) (Q : E → Type 0) (P : Type 0) → IsErrAnd r Q → ((e : E) → r ≡ Err e → Q e → P) → P
failed_with (Err e) Q P h use_it = use_it e refl h
failed_with (Ok x) Q P h use_it = absurd h

pub was_ok : {X E : Type 0} {A : Type 0} (r : Result X E) (x : X) → r ≡ Ok x → OnOk r A → A
was_ok {X} {E} {A} r x is h = subst (λ k. OnOk k A) is h

pub was_err : {X E : Type 0} {A : Type 0} (r : Result X E) (e : E) → r ≡ Err e → OnErr r A → A
was_err {X} {E} {A} r e is h = subst (λ k. OnErr k A) is h

pub keeps_itself : (s : State) → KeepsCommit s s
keeps_itself s = record { was_open = λ h. h; committed = λ _. refl }

pub survives_itself : (s : State) (P : Trees → Type 0) → Survives s s P
survives_itself s P = record { clean = omega arith; shield = λ h. h; counts = omega arith; limit = refl; closes = λ _ h. inl h; crash = λ _ _ h. inl h }

pub survives_on : (a b c : State) → Survives a b (λ _. ⊥) → Survives b c (λ _. ⊥) → Survives a c (λ _. ⊥)
survives_on a b c = survives_then a b c (λ _. ⊥) (λ _. ⊥) (λ _. ⊥) (λ _ _ none. none) (λ _ _ none. none)

module _ {S : Type 0} (g : Ghosts S) (statements : List (Bor (List ℕ) × Bor (List ValueRef))) (i : ℕ) where
  -- one statement more, and then those behind it
  pub ran_more : (d : Bor (List ℕ) × Bor (List ValueRef)) → i < length statements → (now next last : Held S) (count : ℕ) → IsTrue (state g now).is_open
      → Executes (get_or statements i d).0.now (bound (get_or statements i d).1.now) (state g now) (state g next) (Ok count)
      → RanAll g (map said (drop (i + 1) statements)) next last → RanAll g (map said (drop i statements)) now last
  ran_more d low now next last count live ran more = subst (λ l. RanAll g (map said l) now last) (sym (drop_more statements i d low)) (next, count, live, ran, more)

  pub none_left : length statements ≤ i → (now : Held S) → RanAll g (map said (drop i statements)) now now
  none_left past now = subst (λ l. RanAll g (map said l) now now) (sym (drop_all i statements past)) refl

-- a statement inside a transaction commits nothing, whether it ran or failed
module _ (old new : State) where
  pub kept_where_ran : Shows old new new.now old.committed true → KeepsCommit old new
  kept_where_ran h = record { was_open = λ _. h.was_open; committed = λ _. h.committed_is }

  pub kept_where_failed : {X Y Z : Type 0} → (X × (IsUnchanged old new ⊎ IsRolledBack old new)) ⊎ (Y × Z × IsUnchanged old new) → KeepsCommit old new
  kept_where_failed (inl h) = unchanged_keeps old new h.1
  kept_where_failed (inr h) = unchanged_keeps old new (inl h.2)

module _ {S : Type 0} (g : Ghosts S) (statements : List Statement) (start tx last end : Held S) (begun : tx ≡ record start { in_transaction = true }) where
  -- a committed transaction leaves the tables after its statements
  pub committed_all : RanAll g statements tx last → Shows (state g last) (state g end) (state g last).now (state g last).now false
      → IsTrue (state g end).is_open × ((state g end).now ≡ (state g end).committed) × LeavesAll g statements start (state g end).now
  committed_all ran shown =
      (shown.is_open, shown.now_is ∙ sym shown.committed_is, (last, subst (λ h. RanAll g statements h last) begun ran, shown.now_is))

  -- a crash leaves these, or trees that it could leave before
  pub survives_all : Survives (state g tx) (state g last) (λ _. ⊥) → (HasCleanDisk (state g last) → RanAll g statements tx last)
      → Survives (state g last) (state g end) (λ db. db ≡ (state g last).now.trees) → Survives (state g start) (state g end) (MayMake g statements start)
  survives_all inside ran ending =
      survives_then (state g start) (state g last) (state g end) (λ _. ⊥) (λ db. db ≡ (state g last).now.trees) (MayMake g statements start) (λ _ _ none. absurd none)
      (λ clean db is. ((state g last).now, (last, subst (λ h. RanAll g statements h last) begun (ran (omega (arith, ending.clean))), refl), is))
      (survives_begin g start (state g last) (λ _. ⊥) (subst (λ h. Survives (state g h) (state g last) (λ _. ⊥)) begun inside)) ending

pub on_ok : {X E : Type 0} {A B : Type 0} (r : Result X E) → (A → B) → OnOk r A → OnOk r B
on_ok (Ok x) f h = f h
on_ok (Err e) f h = tt
