use Rattle.std.proofs.Common.{◌∙◌, sym, ap, get_or, map}
use Rattle.std.specs.Prelude.{◌==◌, string_bytes}
use Rattle.std.proofs.lemmas.Bool.{and_parts, eqb-true}
use Rattle.std.proofs.lemmas.List.Quantifiers.{position-Some}
use Rattle.plan_rows.specs.World.{is_plan, is_plan_of}
use Rattle.plan_rows.specs.Plans.{has_number}
use Rattle.plan_rows.specs.Books.{bind_in, lag_in}
use Rattle.plan_rows.specs.Tables.{plan_kept, world_kept}
use Rattle.plan_rows.proofs.TableLemmas.{find_at_place, find_none_at}
use Rattle.plan_rows.proofs.ReadLemmas.{find_both, copy_answers}
use Rattle.plan_rows.proofs.tables.Tables.plan.Goals as goal

pub returns-in_default : goal.returns-in_default
returns-in_default c =
    rw (find_both (is_plan_of c.args.desk.now) (has_number c.args.n) (map plan_kept c.args.self.now.plans.items)
    ∙ find_none_at plan_kept (is_plan c.args.desk.now c.args.n) c.args.self.now.plans.items (rw c.deref.ensures.value at (sym c.plan_at.ensures ∙ c.in_default.is)))
    tt

pub returns : goal.returns
returns c =
    let at = rw c.deref.ensures.value at (sym c.plan_at.ensures ∙ c.in-Some.is) in
    let row = get_or c.args.self.now.plans.items c.in-Some.at c.index-row.result.now in
    let key = (position-Some (λ row. is_plan c.args.desk.now c.args.n (plan_kept row)) c.args.self.now.plans.items c.in-Some.at c.index-row.result.now at).1 in
    rw (find_both (is_plan_of c.args.desk.now) (has_number c.args.n) (map plan_kept c.args.self.now.plans.items)
    ∙ find_at_place plan_kept (is_plan c.args.desk.now c.args.n) c.args.self.now.plans.items c.in-Some.at c.index-row.result.now at)
    (copy_answers (world_kept c.args.self.now) c.args.desk.now c.args.n (plan_kept row) c.in_ok-plan.plan (record {
      number = eqb-true row.n c.args.n (and_parts (is_plan_of c.args.desk.now (plan_kept row)) (row.n == c.args.n) key).1;
      kind = c.in_ok-plan.ensures.kind ∙ ap (λ r. r.kind) c.index-row.ensures;
      name = c.in_ok-plan.ensures.name ∙ ap (λ r. string_bytes r.name) c.index-row.ensures;
      body = c.in_ok-plan.ensures.body ∙ ap (λ r. r.body.items) c.index-row.ensures;
      start = c.in_ok-plan.ensures.start ∙ ap (λ r. string_bytes r.start) c.index-row.ensures;
      days = c.in_ok-plan.ensures.days ∙ ap (λ r. string_bytes r.days) c.index-row.ensures;
      binds_are = ap (λ v. map bind_in v.items) c.in_ok-plan.ensures.binds ∙ (rw c.deref-2.ensures.value at c.in_ok-binds.ensures);
      lags_are = ap (λ v. map lag_in v.items) c.in_ok-plan.ensures.lags ∙ (rw c.deref-3.ensures.value at c.in_ok-lags.ensures);
    }))
