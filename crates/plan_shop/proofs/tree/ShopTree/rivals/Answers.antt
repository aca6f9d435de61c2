use Rattle.std.proofs.Common.{◌≡◌, ◌++◌, ℕ, List, [], ◌∷◌, map, suc, ap, sym, ◌∙◌, add-one, Vec, Global, arith}
use Rattle.plan_shop.specs.Shop.{those_below}
use Rattle.plan_shop.specs.Words.{letter_of}
use Rattle.plan_shop.specs.Trees.{Standing, is_rival}
use Rattle.plan_shop.proofs.LetterLemmas.{first-next, letters-rivals, rivals-yes, rivals-no}
use Rattle.plan_shop.proofs.tree.ShopTree.rivals.Goals as goal
use Rattle.plan_shop.proofs.tree.ShopTree.rivals.Goals.{then-is_rival+in_ok-push, else-is_rival}

pub next_step-machine-requires-clause-job : goal.next_step-machine-requires-clause-job
next_step-machine-requires-clause-job c = (first-next c.args.self.now _ c.requires.first).0

pub next_step-machine-requires-clause-next : goal.next_step-machine-requires-clause-next
next_step-machine-requires-clause-next c = (first-next c.args.self.now _ c.requires.first).1

pub loop-job-preserved : goal.loop-job-preserved
loop-job-preserved c = rw add-one (elim c.if-is_rival.branch [
  | then-is_rival+in_ok-push w ↦
      let list : c.if-is_rival.list.items ≡ c.loop-job.list.items ++ suc c.loop-job.job ∷ [] =
      ap (λ (v : Vec ℕ Global). v.items) w.list-is ∙ w.in_ok-push.ensures.items ∙ ap (λ (n : ℕ). c.loop-job.list.items ++ n ∷ []) (add-one c.loop-job.job) in
      rivals-yes c.args.self.now c.next_step-machine.result.machine c.args.end c.loop-job.job
      c.args.list.now.items c.loop-job.list.items c.if-is_rival.list.items c.loop-job.invariant
      (sym w.if-is_rival.ensures) list
  | else-is_rival w ↦
      ap (λ (v : Vec ℕ Global). v.items) w.list-is
      ∙ rivals-no c.args.self.now c.next_step-machine.result.machine c.args.end
      c.loop-job.job c.args.list.now.items c.loop-job.list.items c.loop-job.invariant
      (sym w.if-is_rival.ensures)
])

pub returns : goal.returns
returns c =
    let jobs = ap (λ (v : Standing). v.shop.jobs) c.self.view_is in
    let all : c.loop-job.job ≡ c.args.self.now.shop.jobs = omega (arith, jobs, c.jobs-job-end.ensures.value, c.loop-job-test.false, c.loop-job.auto.job-end) in
    c.loop-job.invariant
    ∙ ap (λ (n : ℕ). c.args.list.now.items ++ map letter_of (those_below n (is_rival c.args.self.now c.next_step-machine.result.machine c.args.end))) all
    ∙ ap (λ (xs : List ℕ). c.args.list.now.items ++ xs)
    (sym (letters-rivals c.args.self.now _ c.next_step-machine.result.machine c.requires.zeros
    c.requires.first c.next_step-machine.ensures.machine))
