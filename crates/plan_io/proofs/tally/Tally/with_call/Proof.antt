-- One call more, and one fault more unless the call was good.
use Rattle.std.proofs.Common.{List, [], ◌∷◌, ◌++◌, ◌+◌, refl, if◌then◌else◌}
use Rattle.std.proofs.raw_atomic.Walks.{proved_at}
use mir.Val.{Val, vptr, vbool}
use prog.Wp.{WpFn}
use contract.Running.{tables}
use types.Kit.{raw, ◌⊛◌, ‵, prop, ◌$◌, ◌∵◌, !, qed, done, move, keep, drop, split, fsplit, fjoin, feq_l, regoal, suffices}
use types.Part.{agg}
use types.Run.{enter, returns, no_more}
use types.ByLocal.{alloc_all, pass_all, free_all, look_at, sets}
use denote.Exit.{yes}
use denote.RattleType.{owns}
use denote.Builtin.{RefOf, bool}
use denote.Signature.{plain, types_at}
use denote.Steps.{nothing}
use denote.Triple.Entry.{alive}
use denote.Triple.Walked.{Stays, stay_dropped, Goes-dropped, walk_of, says, ends_at}
use Rattle.plan_io.proofs.Walks.{bare, owns_bare}
use Rattle.plan_io.specs.contracts.tally.Tally as Tally
use Rattle.plan_io.specs.contracts.tally.Tally.with_call as f
use Rattle.plan_io.proofs.tally.Tally.with_call.Statement.{statement}
use Rattle.plan_io.proofs.tally.Tally.with_call.Code as code

abbrev stayed : Stays f.ended.signature.params f.ended.kept
stayed = (stay_dropped _ yes, (stay_dropped _ yes, tt))

pub with_call_spec : {M : Type 1} → statement M
with_call_spec 𝓤 𝓛 𝓜 𝓡 wired =
    let c = f.clauses 𝓛 𝓜.mem 𝓡.returns in let W = walk_of 𝓛 f.ended stayed c in let 𝓣 = tables 𝓤 𝓛.H 𝓜 𝓡 𝓡.env in
    let goes = Goes-dropped 𝓛 1 (RefOf (0 ∷ []) tt (plain (λ _. Tally.the_row)) (λ _. tt)) yes (λ κs x w. refl) in
    let leaves = Goes-dropped 𝓛 1 (plain (λ _. bool)) yes (λ κs x w. refl) in
    proved_at 𝓛 f.ended stayed c 𝓜 𝓡 (goes, (leaves, tt)) f.Key.name code.function (code.unfolded 𝓤 𝓛.H 𝓜 𝓡 wired) (λ y are.
    let self = y.0.3.0 in
    let good = y.0.3.1.0 in
    let address : Val = vptr self.ref_ptr.0 self.ref_ptr.1 in
    let counted : (Tally.the_row).Denot = record { calls = self.now.calls + 1; faults = if good then self.now.faults else self.now.faults + 1 } in
    qed 𝓛 ((raw (alive 𝓛 f.ended.signature y.0.0 y.0.1) ⊛ ‵ (owns (types_at f.ended.signature.params y.0.0) y.0.3 y.0.4)) ∷ raw ((c y.0.0 y.0.3).requires y.1) ∷ []) ∵
    -- only the address is needed of the resources that the reference owns
    keep ! (0 ∷ []) $ split ! $ move ! (1 ∷ []) $ fsplit ! $ fsplit ! $ feq_l ! (λ is. drop ! $
    fsplit ! $ feq_l ! (λ truth. drop ! $
    regoal ! (λ (values : List Val). prop (WpFn 𝓤 𝓛.H 𝓣.C 𝓣.Λ code.function (values ++ (y.0.4.1.0 ++ [])) (W.post y))) is refl $
    regoal ! (λ (values : List Val). prop (WpFn 𝓤 𝓛.H 𝓣.C 𝓣.Λ code.function (address ∷ (values ++ [])) (W.post y))) truth refl $
    enter ! 𝓣.C 𝓣.Λ code.function (address ∷ vbool good ∷ []) (W.post y) $ alloc_all ! (λ l. pass_all ! refl ((tt, tt), ((tt, tt), tt)) $
    sets ! (agg ! (no_more !)) refl (tt, tt) $ nothing ! $
    owns_bare ! $ fjoin ! $
    returns ! (look_at ! 0 refl) $ free_all ! refl $
    suffices ! _ (ends_at 𝓛 f.ended stayed c y bare counted (tt, (tt, tt)) (tt, (tt, tt))) $ says ! (refl, refl) $
    nothing ! $ nothing ! $ fjoin ! $ nothing ! $ fjoin ! $ move ! (2 ∷ 0 ∷ 1 ∷ []) $ done !))))
