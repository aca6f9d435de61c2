use Rattle.std.proofs.Common.{rules, ◌≡◌, Some, None, w64, subst, arith}
use Rattle.std.proofs.lemmas.Int.{ints}
use mir.Val.{SFits, to_z, of_z}
use Rattle.sqlite_trees.specs.Tree.{Trees}
use Rattle.sqlite.specs.Held.{state}
use Rattle.plan_store.specs.TableTests.{HoldsOthers, TakesOthers}
use Rattle.plan_store.specs.UntrustedRows.{TakesMeta, TakesCodes, TakesDesks, TakesBinds, TakesLags, TakesBoth}
use Rattle.plan_store.proofs.TableTestLemmas.{looks_both, looks_made}
use Rattle.plan_store.proofs.UntrustedTableLemmas.{no_meta, no_open, no_placed, all_others}
use Rattle.plan_store.proofs.untrusted_tables.try_others.Goals as goal

pub returns-in_default : goal.returns-in_default
returns-in_default g c =
    let l = c.args.layout in
    let s0 = state g.S.Store c.args.conn.now in
    let s1 = state g.S.Store c.try_meta.new.conn in
    looks_made l s0 s1 c.in_ok-meta.field-0 _ None (TakesOthers l s0.now) (λ h. no_meta l s0.now (subst (TakesMeta (s0.now.trees 0)) c.in_default.is h)) c.in_ok-meta.ensures

pub returns-in_default-2 : goal.returns-in_default-2
returns-in_default-2 g c =
    let l = c.args.layout in
    let s0 = state g.S.Store c.args.conn.now in
    let s1 = state g.S.Store c.try_meta.new.conn in
    let s2 = state g.S.Store c.codes_and_desks.new.conn in
    let opened = λ (t : Trees). TakesBoth (TakesCodes t) (TakesDesks t) in
    let two = looks_both l s0 s1 s2 c.in_ok-meta.field-0 _ c.in_ok-published.field-0 opened c.in_ok-meta.ensures c.in_ok-published.ensures in
    looks_made l s0 s2 (c.in_ok-meta.field-0, c.in_ok-published.field-0) _ None (TakesOthers l s0.now) (λ h. no_open l s0.now (subst (opened s0.now.trees) c.in_default-2.is h.1)) two

pub returns-in_default-3 : goal.returns-in_default-3
returns-in_default-3 g c =
    let l = c.args.layout in
    let s0 = state g.S.Store c.args.conn.now in
    let s1 = state g.S.Store c.try_meta.new.conn in
    let s2 = state g.S.Store c.codes_and_desks.new.conn in
    let s3 = state g.S.Store c.binds_and_lags.new.conn in
    let opened = λ (t : Trees). TakesBoth (TakesCodes t) (TakesDesks t) in
    let placed = λ (t : Trees). TakesBoth (TakesBinds t) (TakesLags l t) in
    let two = looks_both l s0 s1 s2 c.in_ok-meta.field-0 _ c.in_ok-published.field-0 opened c.in_ok-meta.ensures c.in_ok-published.ensures in
    let three = looks_both l s0 s2 s3 (c.in_ok-meta.field-0, c.in_ok-published.field-0) _ c.in_ok-binds.field-0 placed two c.in_ok-binds.ensures in
    looks_made l s0 s3 ((c.in_ok-meta.field-0, c.in_ok-published.field-0), c.in_ok-binds.field-0) _ None (TakesOthers l s0.now)
    (λ h. no_placed l s0.now (subst (placed s0.now.trees) c.in_default-3.is h.1)) three

pub returns : goal.returns
returns g c =
    let l = c.args.layout in
    let s0 = state g.S.Store c.args.conn.now in
    let s1 = state g.S.Store c.try_meta.new.conn in
    let s2 = state g.S.Store c.codes_and_desks.new.conn in
    let s3 = state g.S.Store c.binds_and_lags.new.conn in
    let opened = λ (t : Trees). TakesBoth (TakesCodes t) (TakesDesks t) in
    let placed = λ (t : Trees). TakesBoth (TakesBinds t) (TakesLags l t) in
    let two = looks_both l s0 s1 s2 c.in_ok-meta.field-0 _ c.in_ok-published.field-0 opened c.in_ok-meta.ensures c.in_ok-published.ensures in
    let three = looks_both l s0 s2 s3 (c.in_ok-meta.field-0, c.in_ok-published.field-0) _ c.in_ok-binds.field-0 placed two c.in_ok-binds.ensures in
    let version = c.in-Some.meta.0 in
    let fits : SFits w64 version = search rules in
    let same : version ≡ to_z w64 (of_z w64 version) = omega (arith, ints, fits) in
    looks_made l s0 s3 ((c.in_ok-meta.field-0, c.in_ok-published.field-0), c.in_ok-binds.field-0) _ (Some _) (TakesOthers l s0.now)
    (λ h.
    let meta = subst (TakesMeta (s0.now.trees 0)) c.in-Some.is h.0.0 in
    let first = subst (opened s0.now.trees) c.in-Some-2.is h.0.1 in
    let place = subst (placed s0.now.trees) c.in-Some-3.is h.1 in
    subst (λ v. HoldsOthers l s0.now (record {
      version = v;
      office = c.in-Some.meta.1;
      published = c.in-Some-2.published;
      desks = c.in-Some-2.desks;
      binds = c.in-Some-3.binds;
      lags = c.in-Some-3.lags;
    })) same
    (all_others s0.now version c.in-Some.meta.1 meta c.in-Some-2.published c.in-Some-2.desks c.in-Some-3.binds c.in-Some-3.lags first.0 first.1 place.0 l place.1)) three
