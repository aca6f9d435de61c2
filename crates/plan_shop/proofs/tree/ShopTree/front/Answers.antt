use Rattle.std.proofs.Common.{◌≡◌, ◌<◌, ◌+◌, ◌&&◌, ℕ, Bool, Option, suc, ap, sym, ◌∙◌, add-one, refl, subst, arith}
use Rattle.std.specs.Prelude.{nat_eq}
use Rattle.std.proofs.lemmas.Bool.{and_from, and_left, and_right, eq-eqb, ne_eqb}
use Rattle.plan_shop.specs.Shop.{time_of}
use Rattle.plan_shop.specs.Words.{has_next, next_step, next_end}
use Rattle.plan_shop.specs.Trees.{Standing, placed}
use Rattle.plan_shop.proofs.LetterLemmas.{IsSoFar, none-more, those-none, at_once-first, so_far-none, so_far-skips, so_far-more, so_far-some, so_far-empty, letters-none}
use Rattle.plan_shop.proofs.tree.ShopTree.front.Goals as goal
use Rattle.plan_shop.proofs.tree.ShopTree.front.Goals.{then-has_next+else-time-eq0, else-has_next}

pub loop-job-init : goal.loop-job-init
loop-job-init c = record {
  lasting = λ i below. absurd (omega (arith, below));
  first = so_far-none c.args.self.now 0 refl;
}

pub loop-job-preserved : goal.loop-job-preserved
loop-job-preserved c =
    let s = c.args.self.now.shop in
    let xs = placed c.args.self.now in
    let j : ℕ = c.loop-job.job in
    let f : ℕ → Bool = λ i. has_next s xs i && nat_eq (time_of s (next_step s xs i)) 0 in
    let Q : Option (ℕ × ℕ) → Type 0 = λ o. IsSoFar c.args.self.now (suc j) o in
    rw add-one (elim c.if-has_next.branch [
      | then-has_next+else-time-eq0 w ↦
          let end : w.ready.result + w.next_step-time.result.time ≡ next_end s xs j = omega (arith, w.ready.ensures.value, w.next_step-time.ensures.time) in
          record {
            lasting = none-more j f c.loop-job.invariant.lasting (and_right (has_next s xs j) (nat_eq (time_of s (next_step s xs j)) 0)
                (ne_eqb (time_of s (next_step s xs j)) 0 (λ e. w.if-time-eq0.false (w.next_step-time.ensures.time ∙ e))));
            first = subst Q (sym w.first-is) (so_far-more c.args.self.now j
                (w.ready.result + w.next_step-time.result.time) c.loop-job.first w.sooner.result c.loop-job.invariant.first
                (sym w.if-has_next.ensures) end w.sooner.ensures);
          }
      | else-has_next w ↦
          record {
            lasting = none-more j f c.loop-job.invariant.lasting (and_left (has_next s xs j) (nat_eq (time_of s (next_step s xs j)) 0) (sym w.if-has_next.ensures));
            first = subst Q (sym w.first-is) (so_far-skips c.args.self.now j c.loop-job.first c.loop-job.invariant.first (sym w.if-has_next.ensures));
          }
    ])

pub returns-then-time-eq0-clause-front : goal.returns-then-time-eq0-clause-front
returns-then-time-eq0-clause-front c =
    let jobs = ap (λ (v : Standing). v.shop.jobs) c.self.view_is in
    let below : c.loop-job.job < c.args.self.now.shop.jobs = omega (arith, jobs, c.jobs-job-end.ensures.value, c.loop-job-test.true) in (
      at_once-first c.args.self.now.shop (placed c.args.self.now) c.loop-job.job below c.loop-job.invariant.lasting
          (and_from _ _ (sym c.if-has_next.ensures) (eq-eqb _ 0 (sym c.next_step-time.ensures.time ∙ c.if-time-eq0.true))),
      below,
    )

pub returns-in-Some-clause-front : goal.returns-in-Some-clause-front
returns-in-Some-clause-front c =
    let jobs = ap (λ (v : Standing). v.shop.jobs) c.self.view_is in
    let all : c.loop-job.job ≡ c.args.self.now.shop.jobs = omega (arith, jobs, c.jobs-job-end.ensures.value, c.loop-job-test.false, c.loop-job.auto.job-end) in (
      those-none c.args.self.now.shop.jobs _ (λ i below. c.loop-job.invariant.lasting i (omega (arith, all, below))),
      so_far-some c.args.self.now c.loop-job.job _ (subst (IsSoFar c.args.self.now c.loop-job.job) c.in-Some.is c.loop-job.invariant.first) all,
    )

pub returns-in-None-clause-front : goal.returns-in-None-clause-front
returns-in-None-clause-front c =
    let jobs = ap (λ (v : Standing). v.shop.jobs) c.self.view_is in
    let all : c.loop-job.job ≡ c.args.self.now.shop.jobs = omega (arith, jobs, c.jobs-job-end.ensures.value, c.loop-job-test.false, c.loop-job.auto.job-end) in
    letters-none c.args.self.now (those-none c.args.self.now.shop.jobs _ (λ i below. c.loop-job.invariant.lasting i (omega (arith, all, below))))
    (so_far-empty c.args.self.now c.loop-job.job (subst (IsSoFar c.args.self.now c.loop-job.job) c.in-None.is c.loop-job.invariant.first) all)
