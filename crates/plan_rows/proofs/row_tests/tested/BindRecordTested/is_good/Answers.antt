use Rattle.std.proofs.Common.{arith, ◌≡◌, ◌∙◌, true, sym, ap, subst}
use Rattle.std.specs.Prelude.{string_bytes}
use Rattle.plan_rows.specs.World.{Plan, is_plan, code_in, same_kind, takes}
use Rattle.plan_rows.specs.Plans.{is_place}
use Rattle.plan_rows.specs.Rules.{IsThereAnd}
use Rattle.plan_rows.specs.RowTests.{Tells}
use Rattle.plan_rows.specs.Tables.{world_beside, head_seen, bind_kept}
use Rattle.plan_rows.proofs.TestedLemmas.{IsBindOf, tells_there, there_none, there_untold, misplaced, tells_bind}
use Rattle.plan_rows.proofs.ReviewLemmas.{one_seen, none_seen, found_below}
use Rattle.plan_rows.proofs.row_tests.tested.BindRecordTested.is_good.Goals as goal

pub returns-in_default : goal.returns-in_default
returns-in_default c = λ known are.
    there_none _ (IsBindOf (world_beside c.args.beside.now known) (bind_kept c.args.self.now))
    (none_seen (string_bytes c.args.self.now.desk) c.args.self.now.n known c.args.plans.now are
    (rw c.as_str.ensures.value at (sym (c.plan_at.ensures c.args.beside.now c.args.plans.now c.requires.places) ∙ c.in_default.is)))

pub offset_bounds-plans-at : goal.offset_bounds-plans-at
offset_bounds-plans-at c =
    let low = found_below (λ row. is_plan (string_bytes c.args.self.now.desk) c.args.self.now.n (head_seen row)) c.args.plans.now c.in-Some.at
    (rw c.as_str.ensures.value at (sym (c.plan_at.ensures c.args.beside.now c.args.plans.now c.requires.places) ∙ c.in-Some.is)) in
    omega (arith, low)

pub bounds-plans-at : goal.bounds-plans-at
bounds-plans-at c =
    found_below (λ row. is_plan (string_bytes c.args.self.now.desk) c.args.self.now.n (head_seen row)) c.args.plans.now c.in-Some.at
    (rw c.as_str.ensures.value at (sym (c.plan_at.ensures c.args.beside.now c.args.plans.now c.requires.places) ∙ c.in-Some.is))

pub returns-then-not-is_place : goal.returns-then-not-is_place
returns-then-not-is_place c = λ known are.
    let w = world_beside c.args.beside.now known in
    let row = bind_kept c.args.self.now in
    let found = one_seen (string_bytes c.args.self.now.desk) c.args.self.now.n known c.args.plans.now c.in-Some.at c.index-plans-at.result are
    (rw c.as_str.ensures.value at (sym (c.plan_at.ensures c.args.beside.now c.args.plans.now c.requires.places) ∙ c.in-Some.is)) c.index-plans-at.is in
    let kind = ap (λ (p : Plan). p.kind) found.2.head in
    there_untold (IsBindOf w row) found.1
    (misplaced w row found.0 c.index-plans-at.result.places found.2.places
    (ap (λ k. is_place k c.index-plans-at.result.places row.place) (sym kind) ∙ sym c.is_place.ensures ∙ c.if-not-is_place.true))

pub returns : goal.returns
returns c = λ known are.
    let w = world_beside c.args.beside.now known in
    let row = bind_kept c.args.self.now in
    let found = one_seen (string_bytes c.args.self.now.desk) c.args.self.now.n known c.args.plans.now c.in-Some.at c.index-plans-at.result are
    (rw c.as_str.ensures.value at (sym (c.plan_at.ensures c.args.beside.now c.args.plans.now c.requires.places) ∙ c.in-Some.is)) c.index-plans-at.is in
    let kind = ap (λ (p : Plan). p.kind) found.2.head in
    tells_there (IsBindOf w row) c.has_code.result found.1
    (tells_bind w row found.0 c.index-plans-at.result.places c.has_code.result found.2.places
    (ap (λ k. is_place k c.index-plans-at.result.places row.place) (sym kind) ∙ sym c.is_place.ensures
    ∙ c.if-not-is_place.false) (subst (λ k. Tells c.has_code.result
    (IsThereAnd (code_in w.published row.code) (λ code. same_kind code.kind (takes k) ≡ true))) kind
    (rw c.as_str-2.ensures.value at c.has_code.ensures)))
