use Rattle.std.proofs.Common.{ℕ, ◌≡◌, ◌-◌, ◌≤◌, ◌<◌, List, length, get_or, sym, ◌∙◌, subst, arith, Vec}
use Rattle.std.specs.declared.alloc.Global.{Global}
use Rattle.std.specs.List.{Contains}
use Rattle.std.proofs.lemmas.List.{get_or_read}
use Rattle.plan_net.specs.Indexed.{row_at}
use Rattle.plan_net.proofs.RowLemmas.{row_at-read}
use Rattle.plan_net.proofs.IndexLemmas.{rows_rise, placed_in, arc_at, no_arc, lag_at, lag_within}
use Rattle.plan_net.proofs.arcs.Arcs.lag.Goals as goal

pub place_in-requires : goal.place_in-requires
place_in-requires c = rows_rise c.self.inside c.deref.result.now c.self.invariant c.deref.ensures.value

pub index-requires-in-Some : goal.index-requires-in-Some
index-requires-in-Some c =
    let at = placed_in c.self.inside c.deref.result.now c.args.i c.args.j c.in-Some.row c.in-Some.place c.deref.ensures.value c.in-Some.ensures.some in
    let within = lag_within c.self.inside c.args.i c.args.j c.in-Some.row c.in-Some.place c.self.invariant at in
    let read : row_at c.self.inside.lags.items c.in-Some.row ≡ c.index.result.now.items = row_at-read c.self.inside.lags.items c.in-Some.row c.index.result.now within.0 c.index.ensures in
    let inside : c.in-Some.place < length c.index.result.now.items = subst (λ (xs : List ℕ). c.in-Some.place < length xs) read within.1 in
    omega (arith, inside, c.index.result.now.ok.0)

pub returns-in-Some-clause-some : goal.returns-in-Some-clause-some
returns-in-Some-clause-some c =
    let at = placed_in c.self.inside c.deref.result.now c.args.i c.args.j c.in-Some.row c.in-Some.place c.deref.ensures.value c.in-Some.ensures.some in
    let within = lag_within c.self.inside c.args.i c.args.j c.in-Some.row c.in-Some.place c.self.invariant at in
    let read : row_at c.self.inside.lags.items c.in-Some.row ≡ c.index.result.now.items = row_at-read c.self.inside.lags.items c.in-Some.row c.index.result.now within.0 c.index.ensures in
    let inside : c.in-Some.place < length c.index.result.now.items = subst (λ (xs : List ℕ). c.in-Some.place < length xs) read within.1 in
    let value : c.index-in-Some.result.now ≡ get_or (row_at c.self.inside.lags.items c.in-Some.row) c.in-Some.place 0 =
    subst (λ (xs : List ℕ). c.index-in-Some.result.now ≡ get_or xs c.in-Some.place 0) (sym read)
    (get_or_read c.index.result.now.items c.in-Some.place c.index-in-Some.result.now inside
    c.index-in-Some.ensures 0) in (
      arc_at c.self.inside c.args.self.now c.args.i c.args.j c.in-Some.row c.in-Some.place c.self.invariant c.self.view_is at,
      value ∙ lag_at c.self.inside c.args.self.now c.args.i c.args.j c.in-Some.row c.in-Some.place c.self.invariant c.self.view_is at,
    )

pub returns-in-None-clause-none : goal.returns-in-None-clause-none
returns-in-None-clause-none c =
    no_arc c.self.inside c.args.self.now c.args.i c.args.j c.self.invariant c.self.view_is
    (subst (λ (rows : List (Vec ℕ Global)). 1 ≤ c.args.j → c.args.j ≤ length rows → Contains (row_at rows (c.args.j - 1)) c.args.i → ⊥) c.deref.ensures.value c.in-None.ensures.none)
