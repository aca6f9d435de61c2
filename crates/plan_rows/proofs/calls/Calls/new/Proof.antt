-- A new counter counts no call.
use Rattle.std.proofs.Common.{[], ◌∷◌, refl}
use Rattle.std.proofs.raw_atomic.Walks.{proved_at}
use types.Kit.{raw, ◌⊛◌, ‵, ◌$◌, ◌∵◌, !, qed, done, move, keep, drop, split, fjoin, suffices}
use types.Part.{agg}
use types.Run.{enter, returns, no_more}
use types.ByLocal.{alloc_all, pass_all, free_all, look_at, sets}
use denote.RattleType.{owns}
use denote.Signature.{types_at}
use denote.Steps.{nothing}
use denote.Triple.Entry.{alive}
use denote.Triple.Walked.{Stays, says, ends_at}
use Rattle.plan_io.proofs.Walks.{bare, owns_bare}
use Rattle.plan_rows.specs.contracts.calls.Calls as Calls
use Rattle.plan_rows.specs.contracts.calls.Calls.new as f
use Rattle.plan_rows.proofs.calls.Calls.new.Statement.{statement}
use Rattle.plan_rows.proofs.calls.Calls.new.Code as code

abbrev stayed : Stays f.ended.signature.params f.ended.kept
stayed = tt

pub new_spec : {M : Type 1} → statement M
new_spec 𝓤 𝓛 𝓜 𝓡 wired =
    let c = f.clauses 𝓛 𝓜.mem 𝓡.returns in
    let none : (Calls.the_row).Denot = record { made = 0; refused = 0 } in
    proved_at 𝓛 f.ended stayed c 𝓜 𝓡 tt f.Key.name code.function (code.unfolded 𝓤 𝓛.H 𝓜 𝓡 wired) (λ y are.
    qed 𝓛 ((raw (alive 𝓛 f.ended.signature y.0.0 y.0.1) ⊛ ‵ (owns (types_at f.ended.signature.params y.0.0) y.0.3 y.0.4)) ∷ raw ((c y.0.0 y.0.3).requires y.1) ∷ []) ∵
    -- there is no argument and no `requires`, so only the tokens are left
    keep ! (0 ∷ []) $ split ! $ move ! (1 ∷ []) $ drop ! $
    enter ! _ _ _ _ _ $ alloc_all ! (λ l. pass_all ! refl tt $
    sets ! (agg ! (no_more !)) refl (tt, tt) $ nothing ! $
    owns_bare ! $ fjoin ! $
    returns ! (look_at ! 0 refl) $ free_all ! refl $
    suffices ! _ (ends_at 𝓛 f.ended stayed c y bare none tt tt) $ says ! (refl, refl) $
    nothing ! $ move ! (2 ∷ 0 ∷ 1 ∷ []) $ done !))
