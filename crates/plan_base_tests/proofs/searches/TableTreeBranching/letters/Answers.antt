use Rattle.std.proofs.Common.{◌≡◌, ℕ, true, false, Bool, List, [], ◌∷◌, get_or, sym, ap, ◌∙◌}
use Rattle.plan_base_tests.specs.TableTree.{may_follow}
use Rattle.plan_base_tests.proofs.TableLemmas.{letter_taken, letter_left}
use Rattle.plan_base_tests.proofs.searches.TableTreeBranching.letters.Goals.{then-has+in_ok-push, else-has}
use Rattle.plan_base_tests.proofs.searches.TableTreeBranching.letters.Goals as goal

pub loop-letter-preserved : goal.loop-letter-preserved
loop-letter-preserved c =
    let three : List ℕ = 1 ∷ 2 ∷ 3 ∷ [] in
    let i : ℕ = c.loop-letter.letter-index in
    let p : ℕ → Bool = may_follow c.args.self.now.floors c.args.self.now.word.items in
    elim c.if-has.branch [
      | then-has+in_ok-push w ↦
          let passes : p (get_or three i 0) ≡ true = sym c.has.ensures ∙ w.if-has.true in
          ap (λ v. v.items) w.list-is ∙ w.in_ok-push.ensures.items
          ∙ letter_taken p three c.args.list.now.items c.loop-letter.list.items i c.loop-letter-test.true passes c.loop-letter.invariant
      | else-has w ↦
          let fails : p (get_or three i 0) ≡ false = sym c.has.ensures ∙ w.if-has.false in
          ap (λ v. v.items) w.list-is
          ∙ letter_left p three c.args.list.now.items c.loop-letter.list.items i c.loop-letter-test.true fails c.loop-letter.invariant
    ]
