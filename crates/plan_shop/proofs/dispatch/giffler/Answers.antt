use Rattle.std.proofs.Common.{◌≡◌, ◌∙◌, List, ℕ, true, ap, sym, subst}
use Rattle.plan_sgs.specs.Problem.{IsActive, makespan}
use Rattle.plan_shop.specs.Shop.{IsShop, problem_of}
use Rattle.plan_shop.specs.Words.{is_full, makespan_of, starts_of}
use Rattle.plan_shop.specs.Trees.{Standing, placed}
use Rattle.plan_shop.proofs.HeldLemmas.{held}
use Rattle.plan_shop.proofs.RuleLemmas.{word_by-full, word_by-active}
use Rattle.plan_shop.proofs.dispatch.giffler.Goals as goal

pub schedule-requires : goal.schedule-requires
schedule-requires c =
    let Q : Standing → Type 0 = λ t. is_full t.shop (placed t) ≡ true in
    subst Q (sym c.in_ok-tree.ensures) (word_by-full c.args.rule c.args.shop.now)

pub returns-clause-makespan : goal.returns-clause-makespan
unfolding makespan_of
returns-clause-makespan c =
    c.in_ok-schedule.ensures.makespan ∙ ap (λ (t : Standing). makespan (problem_of t.shop) (starts_of t.shop (placed t))) c.in_ok-tree.ensures
    ∙ ap (λ (xs : List ℕ). makespan (problem_of c.args.shop.now) xs) (sym (c.in_ok-schedule.ensures.starts ∙ ap (λ (t : Standing). starts_of t.shop (placed t)) c.in_ok-tree.ensures))

pub returns-clause-active : goal.returns-clause-active
returns-clause-active c =
    let h = held _ _ _ _ _ _ _ _ c.tree.view_is c.tree.invariant.kept in
    let Q : List ℕ → Type 0 = λ xs. IsActive (problem_of c.args.shop.now) xs in
    let P : Standing → Type 0 = λ t. IsShop t.shop in
    subst Q (sym (c.in_ok-schedule.ensures.starts ∙ ap
    (λ (t : Standing). starts_of t.shop (placed t)) c.in_ok-tree.ensures))
    (word_by-active c.args.rule c.args.shop.now (subst P c.in_ok-tree.ensures h.small.shop))
