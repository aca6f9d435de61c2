use Rattle.std.proofs.Common.{◌≡◌, ◌∙◌, ◌*◌, ◌<◌, ℕ, ap, sym, subst, add-one, arith}
use Rattle.std.specs.Prelude.{Contains}
use Rattle.plan_shop.specs.Shop.{JobShop}
use Rattle.plan_shop.specs.Words.{letters_after}
use Rattle.plan_shop.specs.Laws.{placed_in}
use Rattle.plan_shop.specs.Trees.{Standing}
use Rattle.plan_shop.proofs.RuleLemmas.{GoesOn, goes-first, goes-more, next-letter, next-none}
use Rattle.plan_shop.proofs.dispatch.at_word_of.Goals as goal
use Rattle.plan_shop.proofs.dispatch.at_word_of.Goals.{in-Some+in_ok-push, in_default}

pub loop-turn-init : goal.loop-turn-init
loop-turn-init c =
    let Q : Standing → Type 0 = λ t. GoesOn c.args.rule c.args.shop.now t 0 in
    subst Q (sym c.in_ok-tree.ensures) (goes-first c.args.rule c.args.shop.now)

pub push-requires : goal.push-requires
push-requires c =
    let count : c.jobs.result * c.machines.result ≡ c.args.shop.now.jobs * c.args.shop.now.machines =
    ap (λ (n : ℕ). n * c.machines.result) c.jobs.ensures.value
    ∙ ap (λ (n : ℕ). c.args.shop.now.jobs * n) c.machines.ensures.value in
    let next = next-letter c.args.rule c.args.shop.now c.loop-turn.tree c.loop-turn._turn
    c.loop-turn.invariant (omega (arith, count, c.loop-turn-test.true)) c.choice.result c.choice.ensures
    c.in-Some.letter c.in-Some.is in
    let Q : JobShop → Type 0 = λ s. Contains (letters_after s (placed_in s c.loop-turn.tree.word)) c.in-Some.letter in
    subst Q (sym c.loop-turn.invariant.shop) next.follows

pub loop-turn-preserved : goal.loop-turn-preserved
loop-turn-preserved c =
    let count : c.jobs.result * c.machines.result ≡ c.args.shop.now.jobs * c.args.shop.now.machines =
    ap (λ (n : ℕ). n * c.machines.result) c.jobs.ensures.value
    ∙ ap (λ (n : ℕ). c.args.shop.now.jobs * n) c.machines.ensures.value in
    let less : c.loop-turn._turn < c.args.shop.now.jobs * c.args.shop.now.machines = omega (arith, count, c.loop-turn-test.true) in
    rw add-one (elim c.match-choice.branch [
      | in-Some+in_ok-push w ↦
          let next = next-letter c.args.rule c.args.shop.now c.loop-turn.tree c.loop-turn._turn c.loop-turn.invariant less c.choice.result c.choice.ensures w.in-Some.letter w.in-Some.is in
          goes-more c.args.rule c.args.shop.now c.loop-turn.tree c.match-choice.tree c.loop-turn._turn w.in-Some.letter c.loop-turn.invariant less next (w.tree-is ∙ w.in_ok-push.ensures.ok)
      | in_default w ↦ absurd (next-none c.args.rule c.args.shop.now c.loop-turn.tree c.loop-turn._turn c.loop-turn.invariant less c.choice.result c.choice.ensures w.in_default.is)
    ])
