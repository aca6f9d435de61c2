use Rattle.std.proofs.Common.{◌≡◌, ◌-◌, ◌+◌, ◌*◌, ◌≤◌, ◌<◌, ℕ, List, [], ◌∷◌, ◌++◌, length, ap, sym, subst, ◌∙◌, add-one, arith}
use Rattle.std.proofs.lemmas.List.{get_or_read}
use Rattle.std.proofs.Math.Nat.{mul-le-mul}
use Rattle.plan_shop.specs.Shop.{JobShop}
use Rattle.plan_shop.specs.Trees.{Standing, standing, placed}
use Rattle.plan_shop.proofs.ShopBasics.{number_below}
use Rattle.plan_active.specs.Ranks.{letters_of, AreNextSteps}
use Rattle.plan_active.proofs.GuideLemmas.{letter_of_job, guided_first, guided_some, guided_more, guided_full, steps_counted, guided_schedule}
use Rattle.plan_active.proofs.shops.active_shop_schedule.Goals as goal

pub loop-turn-init : goal.loop-turn-init
loop-turn-init c = guided_first c.args.shop.now c.args.starts.now c.in_ok-next.next.items c.in_ok-tree.tree c.jobs.ensures.shop.shop c.in_ok-next.ensures c.in_ok-tree.ensures

pub choice-requires-clause-shop : goal.choice-requires-clause-shop
choice-requires-clause-shop c = sym c.loop-turn.invariant.shop

pub choice-requires-clause-word : goal.choice-requires-clause-word
choice-requires-clause-word c = c.loop-turn.invariant.at_word

pub choice-requires-clause-some : goal.choice-requires-clause-some
choice-requires-clause-some c =
    let t = c.loop-turn.tree in
    let are : c.deref.result.now ≡ letters_of t = c.deref.ensures.value ∙ c.in_ok-letters.ensures ∙ ap (λ (xs : List ℕ). xs ++ letters_of t) c.clear.ensures.items in
    let steps = steps_counted c.args.shop.now c.jobs.result c.machines.result c.jobs.ensures.value c.machines.ensures.value in
    omega (arith, ap length are, guided_some c.args.shop.now c.args.starts.now t c.loop-turn._turn c.loop-turn.next.items c.loop-turn.invariant (omega (arith, steps, c.loop-turn-test.true)))

pub choice-requires-clause-next : goal.choice-requires-clause-next
choice-requires-clause-next c = subst (λ (xs : List ℕ). AreNextSteps c.loop-turn.tree.shop (placed c.loop-turn.tree) xs) (sym c.deref-in-loop-turn.ensures.value) c.loop-turn.invariant.steps

pub overflow_sub-letter : goal.overflow_sub-letter
overflow_sub-letter c = omega (arith, (letter_of_job c.loop-turn.tree.shop (placed c.loop-turn.tree) c.in_ok-letter.letter c.in_ok-letter.ensures.least.follows).is)

pub index_mut-requires : goal.index_mut-requires
index_mut-requires c =
    let letter = letter_of_job c.loop-turn.tree.shop (placed c.loop-turn.tree) c.in_ok-letter.letter c.in_ok-letter.ensures.least.follows in
    omega (arith, letter.job, c.loop-turn.invariant.steps.size, c.deref-in-loop-turn.ensures.len, ap length c.deref-in-loop-turn.ensures.value)

pub overflow_add-index_mut : goal.overflow_add-index_mut
overflow_add-index_mut c =
    let g = c.loop-turn.invariant in
    let t = c.loop-turn.tree in
    let j = c.in_ok-letter.letter - 1 in
    let letter = letter_of_job t.shop (placed t) c.in_ok-letter.letter c.in_ok-letter.ensures.least.follows in
    let most : c.args.shop.now.jobs * c.args.shop.now.machines ≤ 50 * 20 = mul-le-mul c.jobs.ensures.shop.few_jobs c.jobs.ensures.shop.few_machines in
    let inside : j < length c.loop-turn.next.items = omega (arith, letter.job, g.steps.size) in
    omega (
      arith,
      get_or_read c.loop-turn.next.items j c.index_mut.result.now inside c.index_mut.ensures.value 0,
      g.steps.each j letter.job,
      number_below t.shop g.at_word.shop j _ letter.job letter.next,
      g.at_word.shop.all_steps,
      ap (λ (v : JobShop). v.jobs * v.machines) g.shop,
      most,
    )

pub loop-turn-preserved : goal.loop-turn-preserved
loop-turn-preserved c =
    let g = c.loop-turn.invariant in
    let t = c.loop-turn.tree in
    let a = c.in_ok-letter.letter in
    let inside : a - 1 < length c.loop-turn.next.items = omega (arith, (letter_of_job t.shop (placed t) a c.in_ok-letter.ensures.least.follows).job, g.steps.size) in
    let pushed : c.push.new.self ≡ standing t.shop (t.word ++ a ∷ []) = c.in_ok-push.ensures.ok ∙ ap (λ (u : Standing). standing u.shop (u.word ++ a ∷ [])) c.in_ok-letter.ensures.same in
    rw add-one (guided_more c.args.shop.now c.args.starts.now t c.push.new.self c.loop-turn._turn a c.index_mut.result.now c.loop-turn.next.items
    g c.in_ok-letter.ensures.least pushed (get_or_read c.loop-turn.next.items (a - 1) c.index_mut.result.now inside c.index_mut.ensures.value 0))

pub schedule-requires : goal.schedule-requires
schedule-requires c =
    let steps = steps_counted c.args.shop.now c.jobs.result c.machines.result c.jobs.ensures.value c.machines.ensures.value in
    guided_full c.args.shop.now c.args.starts.now c.loop-turn.tree c.loop-turn._turn c.loop-turn.next.items c.loop-turn.invariant
    (omega (arith, steps, c.loop-turn-test.false, c.loop-turn.auto._turn-end))

pub returns-clause-active : goal.returns-clause-active
returns-clause-active c =
    let steps = steps_counted c.args.shop.now c.jobs.result c.machines.result c.jobs.ensures.value c.machines.ensures.value in
    (guided_schedule c.args.shop.now c.args.starts.now c.loop-turn.tree c.loop-turn._turn c.loop-turn.next.items c.in_ok-schedule.field-0 c.loop-turn.invariant
    (omega (arith, steps, c.loop-turn-test.false, c.loop-turn.auto._turn-end)) c.in_ok-schedule.ensures.starts c.in_ok-schedule.ensures.makespan c.in_ok-schedule.ensures.within).active

pub returns-clause-no_later : goal.returns-clause-no_later
returns-clause-no_later c =
    let steps = steps_counted c.args.shop.now c.jobs.result c.machines.result c.jobs.ensures.value c.machines.ensures.value in
    (guided_schedule c.args.shop.now c.args.starts.now c.loop-turn.tree c.loop-turn._turn c.loop-turn.next.items c.in_ok-schedule.field-0 c.loop-turn.invariant
    (omega (arith, steps, c.loop-turn-test.false, c.loop-turn.auto._turn-end)) c.in_ok-schedule.ensures.starts c.in_ok-schedule.ensures.makespan c.in_ok-schedule.ensures.within).no_later

pub returns-clause-no_longer : goal.returns-clause-no_longer
returns-clause-no_longer c =
    let steps = steps_counted c.args.shop.now c.jobs.result c.machines.result c.jobs.ensures.value c.machines.ensures.value in
    (guided_schedule c.args.shop.now c.args.starts.now c.loop-turn.tree c.loop-turn._turn c.loop-turn.next.items c.in_ok-schedule.field-0 c.loop-turn.invariant
    (omega (arith, steps, c.loop-turn-test.false, c.loop-turn.auto._turn-end)) c.in_ok-schedule.ensures.starts c.in_ok-schedule.ensures.makespan c.in_ok-schedule.ensures.within).no_longer
