use Rattle.std.proofs.Common.{ℕ, ◌≡◌, ◌-◌, ◌≤◌, ◌<◌, List, length, refl, ◌∙◌, ap, subst, arith, Vec}
use Rattle.std.specs.declared.alloc.Global.{Global}
use Rattle.std.specs.List.{Contains}
use Rattle.plan_net.specs.Network.{Net, with_lag}
use Rattle.plan_net.specs.Indexed.{row_at}
use Rattle.plan_net.proofs.RowLemmas.{row_at-read}
use Rattle.plan_net.proofs.IndexLemmas.{rows_rise, placed_in, arc_at, no_arc, lag_within, net_of-set_lag, IsIndexed-set_lag}
use Rattle.plan_net.proofs.arcs.Arcs.set_lag.Goals as goal

pub place_in-requires : goal.place_in-requires
place_in-requires c = rows_rise c.self.inside c.deref.result.now c.self.invariant c.deref.ensures.value

pub returns-then-lag-gt-LONGEST_LAG-clause-refused : goal.returns-then-lag-gt-LONGEST_LAG-clause-refused
returns-then-lag-gt-LONGEST_LAG-clause-refused c =
    let at = placed_in c.self.inside c.deref.result.now c.args.i c.args.j c.in-Some.row c.in-Some.place c.deref.ensures.value c.in-Some.ensures.some in
    (refl, refl, arc_at c.self.inside c.args.self.now c.args.i c.args.j c.in-Some.row c.in-Some.place c.self.invariant c.self.view_is at, c.if-lag-gt-LONGEST_LAG.true)

pub index_mut-requires-in-Some : goal.index_mut-requires-in-Some
index_mut-requires-in-Some c =
    let at = placed_in c.self.inside c.deref.result.now c.args.i c.args.j c.in-Some.row c.in-Some.place c.deref.ensures.value c.in-Some.ensures.some in
    let within = lag_within c.self.inside c.args.i c.args.j c.in-Some.row c.in-Some.place c.self.invariant at in
    let read : row_at c.self.inside.lags.items c.in-Some.row ≡ c.index_mut.result.now.items =
    row_at-read c.self.inside.lags.items c.in-Some.row c.index_mut.result.now within.0
    c.index_mut.ensures.value in
    let inside : c.in-Some.place < length c.index_mut.result.now.items = subst (λ (xs : List ℕ). c.in-Some.place < length xs) read within.1 in
    omega (arith, inside, c.index_mut.result.now.ok.0)

pub invariant_of-self : goal.invariant_of-self
invariant_of-self c =
    let at = placed_in c.self.inside c.deref.result.now c.args.i c.args.j c.in-Some.row c.in-Some.place c.deref.ensures.value c.in-Some.ensures.some in
    IsIndexed-set_lag c.self.inside c.args.i c.args.j c.in-Some.row c.in-Some.place c.args.lag c.index_mut.result.now c.if-lag-gt-LONGEST_LAG.false c.self.invariant at c.index_mut.ensures.value

pub returns-in-None-clause-refused : goal.returns-in-None-clause-refused
returns-in-None-clause-refused c = (
  refl,
  refl,
  no_arc c.self.inside c.args.self.now c.args.i c.args.j c.self.invariant c.self.view_is
      (subst (λ (rows : List (Vec ℕ Global)). 1 ≤ c.args.j → c.args.j ≤ length rows → Contains (row_at rows (c.args.j - 1)) c.args.i → ⊥) c.deref.ensures.value c.in-None.ensures.none),
)

pub returns-else-lag-gt-LONGEST_LAG-clause-ok : goal.returns-else-lag-gt-LONGEST_LAG-clause-ok
returns-else-lag-gt-LONGEST_LAG-clause-ok c =
    let at = placed_in c.self.inside c.deref.result.now c.args.i c.args.j c.in-Some.row c.in-Some.place c.deref.ensures.value c.in-Some.ensures.some in (
      arc_at c.self.inside c.args.self.now c.args.i c.args.j c.in-Some.row c.in-Some.place c.self.invariant c.self.view_is at,
      c.if-lag-gt-LONGEST_LAG.false,
      net_of-set_lag c.self.inside c.args.i c.args.j c.in-Some.row c.in-Some.place c.args.lag c.index_mut.result.now c.self.invariant at c.index_mut.ensures.value
          ∙ ap (λ (net : Net). with_lag net c.args.i c.args.j c.args.lag) c.self.view_is,
    )
