use Rattle.std.proofs.Common.{refl, ap, subst, ◌∙◌, find, Ok, Some, None}
use Rattle.sqlite.specs.Effect.{Database}
use Rattle.sqlite.specs.Held.{state}
use Rattle.plan_rows.specs.Books.{Matches, IsPlanAnswer}
use Rattle.plan_rows.specs.Plans.{has_number, places_of, lags_of}
use Rattle.plan_rows.specs.Views.{view}
use Rattle.plan_rows.specs.World.{plan_in}
use Rattle.plan_store.specs.Stores.{world_of}
use Rattle.plan_store.specs.QueryRows.{IsPlanPart}
use Rattle.plan_store.proofs.QueryEffectLemmas.{asks_then, asks_again, asks_map}
use Rattle.plan_rows.proofs.ReadLemmas.{found_in_view}
use Rattle.plan_store.proofs.ReadLemmas.{whole_plan, no_plan}
use Rattle.plan_store.proofs.queries.find_plan.Goals as goal

pub returns : goal.returns
returns g c =
    let s0 = state g.S.Store c.args.conn.now in
    let s1 = state g.S.Store c.find_plan_part.new.conn in
    let s2 = state g.S.Store c.list_binds.new.conn in
    let s3 = state g.S.Store c.list_lags.new.conn in
    let first = c.in_ok-part.ensures in
    let second = c.in_ok-binds.ensures in
    let third = c.in_ok-lags.ensures in
    let part = c.in-Some.part in
    let w = world_of s0.now.trees in
    let desk = c.args.desk.now in
    let n = c.in_ok-n.n in
    let same = found_in_view w desk n ∙ ap (λ k. find (has_number k) (view desk w).plans) c.in_ok-n.ensures.same in
    asks_map s0 s3 c.requires.ready _ (Matches (IsPlanAnswer (view desk w)) (plan_in w desk n)) _ (λ x stands h. subst (λ o. Matches (IsPlanAnswer (view desk w)) o x) same h)
    (asks_then s0 s1 s3 _ _ _ _ _ _ first (asks_then s1 s2 s3 _ _ _ _ (Ok c.in_ok-lags.lags) (λ _. Unit {0}) second third (λ clean. ((third.answer clean).0, tt)))
    (λ clean.
    let last = third.answer clean in
    let back2 = third.same clean last.0 in
    let clean2 = third.honesty clean in
    let mid = second.answer clean2 in
    let back1 = second.same clean2 back2.0 in
    let clean1 = second.honesty clean2 in
    let back0 = first.same clean1 back1.0 in
    let found : Matches IsPlanPart (plan_in w desk n) (Some part) = subst (Matches IsPlanPart (plan_in w desk n)) c.in-Some.is (first.answer clean1).1 in (
      last.0,
      whole_plan w desk n _ part refl
          (mid.1 ∙ ap (λ (d : Database). places_of (view desk (world_of d.trees)) n) back0.1)
          (last.1 ∙ ap (λ (d : Database). lags_of (view desk (world_of d.trees)) n) (back1.1 ∙ back0.1)) found,
    )))

pub returns-in_default : goal.returns-in_default
returns-in_default g c =
    let s0 = state g.S.Store c.args.conn.now in
    let s1 = state g.S.Store c.find_plan_part.new.conn in
    let w = world_of s0.now.trees in
    let desk = c.args.desk.now in
    let n = c.in_ok-n.n in
    let same = found_in_view w desk n ∙ ap (λ k. find (has_number k) (view desk w).plans) c.in_ok-n.ensures.same in
    let none = c.in_ok-part.ensures in
    asks_again s0 s1 _ _ _ _ none (λ clean. (
      (none.answer clean).0,
      subst
          (λ o. Matches (IsPlanAnswer (view desk w)) o None) same
          (no_plan w desk n (subst (Matches IsPlanPart (plan_in w desk n)) c.in_default.is
          (none.answer clean).1)),
    ))
