use Rattle.std.proofs.Common.{arith, ◌≡◌, ◌∙◌, sym, true, map}
use Rattle.plan_rows.specs.World.{is_code, code_in, same_kind, takes}
use Rattle.plan_rows.specs.Books.{published_in}
use Rattle.plan_rows.proofs.TableLemmas.{find_at_place, find_none_at}
use Rattle.plan_rows.proofs.TestedLemmas.{tells_of, tells_there, there_none}
use Rattle.plan_rows.proofs.ReviewLemmas.{found_below}
use Rattle.plan_rows.proofs.row_tests.tested.has_code.Goals as goal

pub offset_bounds-beside-at : goal.offset_bounds-beside-at
offset_bounds-beside-at c =
    let low = found_below (λ row. is_code c.args.code.now (published_in row)) c.args.beside.now.published.now
    c.in-Some.at (sym (c.code_at.ensures c.args.beside.now c.requires.0 c.requires.1) ∙ c.in-Some.is) in
    omega (arith, low)

pub bounds-beside-at : goal.bounds-beside-at
bounds-beside-at c = found_below (λ row. is_code c.args.code.now (published_in row))
    c.args.beside.now.published.now c.in-Some.at (sym
    (c.code_at.ensures c.args.beside.now c.requires.0 c.requires.1) ∙ c.in-Some.is)

pub returns-in-Some : goal.returns-in-Some
returns-in-Some c =
    tells_there (λ row. same_kind row.kind (takes c.args.kind) ≡ true) c.is_taken.result
    (find_at_place published_in (is_code c.args.code.now) c.args.beside.now.published.now c.in-Some.at
    c.index-beside-at.result (sym (c.code_at.ensures c.args.beside.now c.requires.0 c.requires.1)
    ∙ c.in-Some.is))
    (tells_of c.is_taken.result _ c.is_taken.ensures)

pub returns-in-None : goal.returns-in-None
returns-in-None c =
    there_none (code_in (map published_in c.args.beside.now.published.now) c.args.code.now) (λ row. same_kind row.kind (takes c.args.kind) ≡ true)
    (find_none_at published_in (is_code c.args.code.now) c.args.beside.now.published.now (sym (c.code_at.ensures c.args.beside.now c.requires.0 c.requires.1) ∙ c.in-None.is))
