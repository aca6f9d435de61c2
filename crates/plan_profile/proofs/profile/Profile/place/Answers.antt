-- Needs that fit keep the capacities, which fit into 64 bits.
use Rattle.std.proofs.Common.{length, arith}
use Rattle.plan_profile.specs.InUse.{in_use, capacities}
use Rattle.plan_profile.specs.Steps.{lists, amount}
use Rattle.plan_profile.proofs.SeekLemmas.{fits_at}
use Rattle.plan_profile.proofs.profile.Profile.place.Goals as goal

pub place_between-requires-clause-sums : goal.place_between-requires-clause-sums
unfolding in_use capacities
place_between-requires-clause-sums c =
    let rows = lists (length c.args.self.now.caps.items) c.args.self.now.changes.items c.args.self.now.rows.items in
    rw c.requires.needs (λ t k since before inside.
    let within = fits_at c.args.self.now.caps.items (amount c.args.self.now.changes.items rows) c.args.start c.args.d c.args.needs.now t k c.requires.fits since before
    (omega arith) in
    let small = c.args.self.now.small k in
    omega arith)
