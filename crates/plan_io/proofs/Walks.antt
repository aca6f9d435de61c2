-- Shared lemmas of the proofs about `src/tally.rt`. At run time a tally is a struct without fields.
use Rattle.std.proofs.Common.{List, [], ◌∷◌, refl}
use seplogic.Ra.Ura.{Ura}
use mir.Val.{Val, vstruct, vnil}
use types.Logic.{Logic}
use types.Kit.{Goal, Step, step, Item, ‵, ◌$◌, fjoin, fpack, feq_i}
use denote.RattleType.{Valss}
use denote.Steps.{nothing}
use denote.Struct.Struct.{Struct, within}

-- the stored value of a tally
abbrev pub bare : Val
bare = vstruct vnil

-- that value owns nothing, so its ownership can be added anywhere
pub owns_bare : {M : Type 1} {𝓤 : Ura M} {𝓛 : Logic 𝓤} {K : Type 0} {Γ : List (Item 𝓤)} {G : Goal 𝓤 𝓛.H} → K →
    Step K 𝓛 (‵ ((Struct (record { name = []; args = []; types = []; fields = [] })).own_val tt (bare ∷ []))
    ∷ Γ) G Γ G
owns_bare mark = step (λ rest.
    nothing mark $ feq_i mark (List Val) (bare ∷ []) (bare ∷ []) refl $
    fjoin mark $ fpack mark (Valss []) (within (record { name = []; args = []; types = []; fields = [] }) tt (bare ∷ [])) tt $ rest)
