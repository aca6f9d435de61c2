use Rattle.std.proofs.Common.{ℕ, ◌<◌, ◌≤◌, subst, arith}
use Rattle.plan_net.specs.Network.{count_of}
use Rattle.plan_report.specs.IdSheets.{places_from}
use Rattle.plan_report.specs.Waits.{place_before}
use Rattle.plan_report.proofs.IdSheetLemmas.{places_end, places_go_on}
use Rattle.plan_report.proofs.id_sheets.places_from.Goals as goal

pub loop-j-preserved : goal.loop-j-preserved
loop-j-preserved c =
    let net = c.args.network.now in
    let j = c.loop-j.j in
    let below : j < count_of net = subst (λ (n : ℕ). j < n) c.len-j-end.ensures.count c.loop-j-test.true in
    places_go_on (place_before net) j (count_of net) c.loop-j.places.items c.push.new.self.items _ (places_from net c.args.behind) below c.loop-j.invariant
    c.in_ok-push.ensures.items c.place_before.ensures

pub returns : goal.returns
returns c =
    let net = c.args.network.now in
    let past : count_of net ≤ c.loop-j.j = omega (arith, c.loop-j-test.false, c.len-j-end.ensures.count) in
    places_end (place_before net) c.loop-j.j (count_of net) c.loop-j.places.items (places_from net c.args.behind) past c.loop-j.invariant
