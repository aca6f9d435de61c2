use Rattle.std.proofs.Common.{◌≡◌, Option, Ok, None, Vec, Global, option_map, option_and_then, sym, ap, subst, ◌∙◌}
use Rattle.sqlite.specs.Held.{state}
use Rattle.plan_store.specs.UntrustedRows.{Meta, TakesMeta, only_one}
use Rattle.plan_store.proofs.TableTestLemmas.{looks_map, looks_made}
use Rattle.plan_store.proofs.TableMeanings.{meta_asks}
use Rattle.plan_store.proofs.LaidLemmas.{meta_read}
use Rattle.plan_store.proofs.untrusted_tables.try_meta.Goals as goal

abbrev one_of : Option (Vec Meta Global) → Option Meta
one_of found = option_and_then only_one (option_map (λ v. v.items) found)

pub try_rows-requires-clause-query : goal.try_rows-requires-clause-query
try_rows-requires-clause-query g c = meta_asks c.args.layout

pub returns-in-Some : goal.returns-in-Some
returns-in-Some g c =
    let old = state g.S.Store c.args.conn.now in
    let new = state g.S.Store c.try_rows.new.conn in
    let rows = old.now.trees 0 in
    let it = looks_map c.args.layout old new c.requires.ready (Ok c.in_ok-all.field-0) _ (λ found. TakesMeta rows (one_of found))
    (λ found laid h. meta_read c.args.layout old laid (option_map (λ v. v.items) found) h.0 h.1 h.2) c.in_ok-all.ensures in
    let same : one_of c.in_ok-all.field-0 ≡ c.only_one.result = ap one_of c.in-Some.is ∙ sym (c.only_one.ensures ∙ ap only_one c.as_slice.ensures.value) in
    looks_made c.args.layout old new c.in_ok-all.field-0 _ c.only_one.result (TakesMeta rows) (subst (TakesMeta rows) same) it

pub returns-in-None : goal.returns-in-None
returns-in-None g c =
    let old = state g.S.Store c.args.conn.now in
    let new = state g.S.Store c.try_rows.new.conn in
    let rows = old.now.trees 0 in
    let it = looks_map c.args.layout old new c.requires.ready (Ok c.in_ok-all.field-0) _ (λ found. TakesMeta rows (one_of found))
    (λ found laid h. meta_read c.args.layout old laid (option_map (λ v. v.items) found) h.0 h.1 h.2) c.in_ok-all.ensures in
    looks_made c.args.layout old new c.in_ok-all.field-0 _ None (TakesMeta rows) (subst (TakesMeta rows) (ap one_of c.in-None.is)) it
