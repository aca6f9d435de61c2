use Rattle.std.proofs.Common.{ℕ, ◌-◌, ◌<◌, inl, inr, get_or, subst, arith}
use Rattle.std.proofs.lemmas.Bool.{cases_lt, iff_false}
use Rattle.plan_profile.specs.InUse.{in_use, capacities}
use Rattle.plan_profile.specs.Usage.{Fits}
use Rattle.plan_report.proofs.FitLemmas.{fits_until, fits_inside, index_at, index_below}
use Rattle.plan_report.proofs.slack.longest_fit.Goals as goal

pub returns-then-not-fits-2 : goal.returns-then-not-fits-2
returns-then-not-fits-2 c =
    let caps = capacities c.args.profile.now in
    let used = in_use c.args.profile.now in
    let needs = c.args.needs.now in
    let from = c.args.from in
    let items = c.changes-change-items.result.now in
    let n = c.loop-change.change-index in
    let change = get_or items n 0 in
    let first : Fits caps used from 1 needs = c.fits.ensures.0 c.if-not-fits.false in
    let full : Fits caps used change 1 needs → ⊥ = iff_false c.fits-then-from-change.ensures c.if-not-fits-2.true in
    let later : from < change = c.if-from-change.true in (
      (
        omega (arith, c.min.ensures),
        fits_until caps used from c.min.result needs first (λ u since before is.
            let found = index_below items n u c.changes-change-items.ensures.rising c.loop-change-test.true
            ((c.changes-change-items.ensures.exact u).1 is) (omega (arith, before, c.min.ensures, later)) in
            subst (λ (x : ℕ). Fits caps used x 1 needs) found.2 (c.loop-change.invariant found.0 found.1 (omega (arith, since, found.2)))),
      ),
      λ v has. elim (cases_lt (change - from) v) [
        | inl more ↦ absurd (full (fits_inside caps used from v change needs (omega (arith, later)) (omega (arith, more, later)) has.1))
        | inr less ↦ omega (arith, c.min.ensures, less, has.0)
      ],
    )

pub returns : goal.returns
returns c =
    let caps = capacities c.args.profile.now in
    let used = in_use c.args.profile.now in
    let needs = c.args.needs.now in
    let from = c.args.from in
    let items = c.changes-change-items.result.now in
    let first : Fits caps used from 1 needs = c.fits.ensures.0 c.if-not-fits.false in (
      (
        omega arith,
        fits_until caps used from c.args.limit needs first (λ u since before is.
            let found = index_at items u ((c.changes-change-items.ensures.exact u).1 is) in
            subst (λ (x : ℕ). Fits caps used x 1 needs) found.2
            (c.loop-change.invariant found.0 (omega (arith, found.1, c.loop-change-test.false)) (omega (arith, since, found.2)))),
      ),
      λ v has. has.0,
    )
