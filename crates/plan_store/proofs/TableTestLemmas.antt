-- The effect of a call that reads tables of a layout, alone and after another call.
use Rattle.std.proofs.Common.{◌≡◌, Result, Ok, IfOk, IsTrue, sym, subst, ◌∙◌}
use Rattle.sqlite_trees.specs.Tree.{Trees}
use Rattle.sqlite.specs.Effect.{Database, IsDatabase}
use Rattle.sqlite.specs.State.{State, HasCleanDisk}
use Rattle.plan_rows.specs.declared.fault.BookFault.{BookFault}
use Rattle.plan_store.specs.declared.layout.Layout.{Layout}
use Rattle.plan_store.specs.QueryEffect.{IsAtRest, Queries}
use Rattle.plan_store.specs.Layouts.{schema_of, AreInOrder}
use Rattle.plan_store.specs.TableTests.{IsLaid, IsReadable, Looks}
use Rattle.plan_store.proofs.QueryEffectLemmas.{if_ok}
use Rattle.plan_store.proofs.EnduringLemmas.{endures_then}

module _ (layout : Layout) where
  -- tables that are laid out are at rest
  pub rest_in : (s : State) → IsReadable layout s → IsAtRest s
  rest_in s ready = record { outside = ready.outside; settled = λ clean live. (ready.laid clean live).in_order.settled }

  -- a query
  pub looks_from : (old new : State) → IsReadable layout old → {X : Type 0} (r : Result X BookFault) (Is Other : X → Type 0) → ((x : X) → IsLaid layout old → Is x → Other x)
      → Queries old new r Is → Looks layout old new r Other
  looks_from old new ready r Is Other f it = record {
    ready = record {
      outside = it.rest.outside;
      laid = λ clean live.
          let same = it.same clean live in
          let was = ready.laid (it.honesty clean) same.0 in
          record {
            in_order = record {
              is_open = live;
              outside = it.rest.outside;
              settled = it.rest.settled clean live;
              order = subst AreInOrder (sym same.1) was.in_order.order;
              sound = subst IsDatabase (sym same.1) was.in_order.sound;
            };
            schema = subst (λ (d : Database). d.schema ≡ schema_of layout) (sym same.1) was.schema;
          };
    };
    honesty = it.honesty;
    same = it.same;
    answer = if_ok r (λ x h clean.
        let live = (it.same clean (h clean).0).0 in
        ((h clean).0, f x (ready.laid (it.honesty clean) live) (h clean).1)) it.answer;
    crash = it.crash;
    endures = it.endures;
  }

  -- a fact about a result, from another one
  pub looks_again : (old new : State) {X Y : Type 0} (r : Result X BookFault) (Is : X → Type 0) (q : Result Y BookFault) (Other : Y → Type 0)
      → Looks layout old new r Is → IfOk q (λ y. HasCleanDisk new → IsTrue new.is_open × Other y) → Looks layout old new q Other
  looks_again old new r Is q Other it answer = record { ready = it.ready; honesty = it.honesty; same = it.same; answer = answer; crash = it.crash; endures = it.endures }

  -- an equal fact about a result
  pub looks_map : (old new : State) → IsReadable layout old → {X : Type 0} (r : Result X BookFault) (Is Other : X → Type 0) → ((x : X) → IsLaid layout old → Is x → Other x)
      → Looks layout old new r Is → Looks layout old new r Other
  looks_map old new ready r Is Other f it = looks_again old new r Is r Other it (if_ok r (λ x h clean.
      let live = (it.same clean (h clean).0).0 in
      ((h clean).0, f x (ready.laid (it.honesty clean) live) (h clean).1)) it.answer)

  -- two calls that read, one after another
  pub looks_then : (a b c : State) {X Y Z : Type 0} (r : Result X BookFault) (Is : X → Type 0) (q : Result Y BookFault) (Other : Y → Type 0) (out : Result Z BookFault) (Last : Z → Type 0)
      → Looks layout a b r Is → Looks layout b c q Other → IfOk out (λ z. HasCleanDisk c → IsTrue c.is_open × Last z) → Looks layout a c out Last
  looks_then a b c r Is q Other out Last one two answer = record {
    ready = two.ready;
    honesty = λ clean. one.honesty (two.honesty clean);
    same = λ clean live.
        let late = two.same clean live in
        let early = one.same (two.honesty clean) late.0 in
        (early.0, late.1 ∙ early.1);
    answer = answer;
    crash = λ clean trees may. one.crash (two.honesty clean) trees (two.crash clean trees may);
    endures = endures_then a b c two.honesty one.endures two.endures;
  }

  -- the results of two calls on the same tables, one after another
  pub looks_both : (a b c : State) {X Y : Type 0} (r : X) (Is : X → Type 0) (q : Y) (Other : Trees → Y → Type 0) → Looks layout a b (Ok r) Is → Looks layout b c (Ok q) (Other b.now.trees)
      → Looks layout a c {X = X × Y} (Ok (r, q)) (λ both. Is both.0 × Other a.now.trees both.1)
  looks_both a b c {X} {Y} r Is q Other one two = looks_then a b c {Z = X × Y} (Ok r) Is (Ok q) (Other b.now.trees) (Ok (r, q)) _ one two (λ clean.
      let late = two.answer clean in
      let live = (two.same clean late.0).0 in
      let early = one.answer (two.honesty clean) in
      let same = (one.same (two.honesty clean) live).1 in
      (late.0, (early.1, subst (λ (d : Database). Other d.trees q) same late.1)))

  -- a fact about a result, from another one
  pub looks_made : (a b : State) {X Y : Type 0} (r : X) (Is : X → Type 0) (out : Y) (Last : Y → Type 0) → (Is r → Last out) → Looks layout a b (Ok r) Is → Looks layout a b (Ok out) Last
  looks_made a b r Is out Last f it = looks_again a b (Ok r) Is (Ok out) Last it (λ clean. ((it.answer clean).0, f (it.answer clean).1))
