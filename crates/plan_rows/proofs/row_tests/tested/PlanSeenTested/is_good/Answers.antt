use Rattle.std.proofs.Common.{arith, ◌<◌, ◌∙◌, sym, get_or}
use Rattle.std.specs.Prelude.{nat_lt, string_bytes}
use Rattle.plan_rows.specs.World.{is_desk}
use Rattle.plan_rows.specs.Tables.{desk_kept}
use Rattle.plan_rows.proofs.TableLemmas.{find_at_place, find_none_at}
use Rattle.plan_rows.proofs.TestedLemmas.{tells_less, tells_there, there_none}
use Rattle.plan_rows.proofs.ReviewLemmas.{found_below}
use Rattle.plan_rows.proofs.row_tests.tested.PlanSeenTested.is_good.Goals as goal

pub offset_bounds-beside-at : goal.offset_bounds-beside-at
offset_bounds-beside-at c =
    let low = found_below (λ row. is_desk (string_bytes c.args.self.now.desk) (desk_kept row)) c.args.beside.now.desks.now c.in-Some.at
    (rw c.as_str.ensures.value at (sym (c.desk_at.ensures c.args.beside.now c.args._plans.now c.requires.places) ∙ c.in-Some.is)) in
    omega (arith, low)

pub bounds-beside-at : goal.bounds-beside-at
bounds-beside-at c =
    found_below (λ row. is_desk (string_bytes c.args.self.now.desk) (desk_kept row)) c.args.beside.now.desks.now c.in-Some.at
    (rw c.as_str.ensures.value at (sym (c.desk_at.ensures c.args.beside.now c.args._plans.now c.requires.places) ∙ c.in-Some.is))

pub returns-in-Some : goal.returns-in-Some
returns-in-Some c = λ known are.
    tells_there (λ desk. c.args.self.now.n < desk.next) (nat_lt c.args.self.now.n (get_or c.args.beside.now.desks.now c.in-Some.at c.index-beside-at.result).next)
    (find_at_place desk_kept (is_desk (string_bytes c.args.self.now.desk)) c.args.beside.now.desks.now c.in-Some.at c.index-beside-at.result
    (rw c.as_str.ensures.value at (sym (c.desk_at.ensures c.args.beside.now c.args._plans.now c.requires.places) ∙ c.in-Some.is)))
    (tells_less c.args.self.now.n (get_or c.args.beside.now.desks.now c.in-Some.at c.index-beside-at.result).next)

pub returns-in-None : goal.returns-in-None
returns-in-None c = λ known are.
    there_none _ (λ desk. c.args.self.now.n < desk.next)
    (find_none_at desk_kept (is_desk (string_bytes c.args.self.now.desk)) c.args.beside.now.desks.now
    (rw c.as_str.ensures.value at (sym (c.desk_at.ensures c.args.beside.now c.args._plans.now c.requires.places) ∙ c.in-None.is)))
