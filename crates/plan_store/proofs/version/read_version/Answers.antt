use Rattle.std.proofs.Common.{rules, ◌≡◌, Some, None, Ok, w64, sym, subst, arith}
use Rattle.std.proofs.lemmas.Int.{ints}
use mir.Val.{SFits, to_z, of_z}
use Rattle.sqlite.specs.Effect.{Database}
use Rattle.sqlite.specs.Held.{state}
use Rattle.plan_store.specs.TableTests.{HoldsOthers, TakesOthers, IsJudged, SaysOffice}
use Rattle.plan_store.proofs.TableTestLemmas.{looks_made, looks_then}
use Rattle.plan_store.proofs.VersionLemmas.{says_none, says_some}
use Rattle.plan_store.proofs.version.read_version.Goals as goal

pub returns-in_default : goal.returns-in_default
returns-in_default g c =
    let old = state g.S.Store c.args.conn.now in
    let new = state g.S.Store c.try_others.new.conn in
    looks_made c.args.layout old new c.in_ok-others.field-0 _ (None, c.new.result) (SaysOffice c.args.layout old.now)
    (λ h. says_none c.args.layout old.now c.new.result (subst (TakesOthers c.args.layout old.now) c.in_default.is h)) c.in_ok-others.ensures

pub office_plans-requires-clause-others : goal.office_plans-requires-clause-others
office_plans-requires-clause-others g c clean =
    let old = state g.S.Store c.args.conn.now in
    let look = c.in_ok-others.ensures in
    let said = look.answer clean in
    subst (λ (d : Database). HoldsOthers c.args.layout d c.in-Some.others) (sym (look.same clean said.0).1) (subst (TakesOthers c.args.layout old.now) c.in-Some.is said.1)

pub returns-in-Some-2 : goal.returns-in-Some-2
returns-in-Some-2 g c =
    let l = c.args.layout in
    let old = state g.S.Store c.args.conn.now in
    let mid = state g.S.Store c.try_others.new.conn in
    let new = state g.S.Store c.office_plans.new.conn in
    let one = c.in_ok-others.ensures in
    let two = c.in_ok-kept.ensures in
    let version = c.in-Some.others.version in
    let fits : SFits w64 version = search rules in
    let same : version ≡ to_z w64 (of_z w64 version) = omega (arith, ints, fits) in
    looks_then l old mid new (Ok c.in_ok-others.field-0) _ (Ok c.in_ok-kept.field-0) _ (Ok (Some _, c.in-Some-2.kept)) (SaysOffice l old.now) one two (λ clean.
    let said = two.answer clean in
    let live = (two.same clean said.0).0 in
    let judged = subst (λ (d : Database). IsJudged l d c.in-Some.others (Some c.in-Some-2.kept)) (one.same (two.honesty clean) live).1
    (subst (IsJudged l mid.now c.in-Some.others) c.in-Some-2.is said.1) in (
      said.0,
      subst (λ v. SaysOffice l old.now (Some v, c.in-Some-2.kept)) same (says_some l old.now version c.in-Some-2.kept judged.0 judged.1),
    ))

pub returns : goal.returns
returns g c =
    let l = c.args.layout in
    let old = state g.S.Store c.args.conn.now in
    let mid = state g.S.Store c.try_others.new.conn in
    let new = state g.S.Store c.office_plans.new.conn in
    let one = c.in_ok-others.ensures in
    let two = c.in_ok-kept.ensures in
    looks_then l old mid new (Ok c.in_ok-others.field-0) _ (Ok c.in_ok-kept.field-0) _ (Ok (None, c.new-in-None.result)) (SaysOffice l old.now) one two (λ clean.
    let said = two.answer clean in
    let live = (two.same clean said.0).0 in
    let judged = subst (λ (d : Database). IsJudged l d c.in-Some.others None) (one.same (two.honesty clean) live).1
    (subst (IsJudged l mid.now c.in-Some.others) c.in-None.is said.1) in
    (said.0, says_none l old.now c.new-in-None.result judged))
