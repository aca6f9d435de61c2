use Rattle.std.proofs.Common.{◌≡◌, List, length, map, vec_len, arith, sym, ap, ◌∙◌, subst}
use Rattle.std.proofs.lemmas.List.{length-map}
use Rattle.plan_table.specs.declared.records.Row as declared
use Rattle.plan_table.specs.Csv.{Machine, machine_of, row_of}
use Rattle.plan_table.specs.Kinds.{has_content_at}
use Rattle.plan_table.proofs.KindLemmas.{Grows, fed_grows, content_new}
use Rattle.plan_table.proofs.records.Machine.feed_to_content.Goals as goal

pub returns-clause-content : goal.returns-clause-content
returns-clause-content c =
    let old = machine_of c.args.self.now in
    let rows = c.feed.new.self.rows.items in
    let n = c.len-before.result in
    let size : length c.args.self.now.rows.items ≡ vec_len c.args.self.now.rows = omega (arith, c.args.self.now.rows.ok.0) in
    let grows = subst (λ (m : Machine). Grows old.rows m.rows) (sym c.in_ok-feed.ensures.fed) (fed_grows c.args.delimiter old c.args.byte) in
    c.has_content_at.ensures ∙ ap (λ (xs : List declared.Row). has_content_at n (map row_of xs)) c.deref.ensures.value
    ∙ content_new old.rows (map row_of rows) n grows c.requires.blank (c.len-before.ensures ∙ sym size ∙ sym (length-map c.args.self.now.rows.items row_of))
