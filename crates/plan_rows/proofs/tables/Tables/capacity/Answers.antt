use Rattle.std.proofs.Common.{◌∙◌, sym, ap}
use Rattle.plan_rows.specs.World.{is_code}
use Rattle.plan_rows.specs.Books.{published_in}
use Rattle.plan_rows.proofs.TableLemmas.{find_at_place, find_none_at}
use Rattle.plan_rows.proofs.tables.Tables.capacity.Goals as goal

pub returns-in_default : goal.returns-in_default
returns-in_default c =
    rw (find_none_at published_in (is_code c.args.code.now) c.args.self.now.published.items (rw c.deref.ensures.value at (sym c.code_at.ensures ∙ c.in_default.is))) tt

pub returns : goal.returns
returns c =
    rw (find_at_place published_in (is_code c.args.code.now) c.args.self.now.published.items c.in-Some.at c.index-row.result.now (rw c.deref.ensures.value at (sym c.code_at.ensures ∙ c.in-Some.is)))
    (record { kind = ap (λ row. row.kind) c.index-row.ensures; capacity = ap (λ row. row.capacity) c.index-row.ensures })
