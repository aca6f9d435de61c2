-- The ids of the activities of a cycle, and what a table is refused for.
use Rattle.std.proofs.Common.{◌≡◌, inl, inr, Ok, ℕ, zero, suc, ◌≤◌, ◌<◌, List, [], ◌∷◌, length, map, get_or, refl, sym, ap, arith}
use Rattle.std.specs.String.{string_bytes}
use Rattle.plan_table.specs.declared.table.Activity as declared
use Rattle.plan_table.specs.declared.fault.ReadError.{ReadError}
use Rattle.plan_table.specs.declared.fault.ReadError.TheVariants as errors
use Rattle.plan_table.specs.Reading.{Fails}
use Rattle.plan_net.specs.Limits.{IsSound}
use Rattle.plan_table.specs.Jobs.{network_of, table_jobs}
use Rattle.plan_table.specs.Needs.{table_fits}
use Rattle.plan_table.specs.Table.{Table, activity_of}
use Rattle.plan_table.specs.Listing.{table_read_with}
use Rattle.plan_table.specs.Overrides.{Override}
use Rattle.plan_table.specs.Refused.{id_from, IsCyclic, IsRefusedWith, IsUnsoundWith}

-- the id of the activity at a place
pub id_there : (xs : List declared.Activity) (k : ℕ) (a : declared.Activity) → k < length xs → a ≡ get_or xs k a → id_from (map activity_of xs) k ≡ string_bytes a.id
id_there [] k a below is = absurd (omega (arith, below))
id_there (x ∷ xs) zero a below is = ap (λ (y : declared.Activity). string_bytes y.id) (sym is)
id_there (x ∷ xs) (suc k) a below is = id_there xs k a (omega (arith, below)) is

pub no_id : (xs : List declared.Activity) (k : ℕ) → length xs ≤ k → id_from (map activity_of xs) k ≡ []
no_id [] k past = refl
no_id (x ∷ xs) zero past = absurd (omega (arith, past))
no_id (x ∷ xs) (suc k) past = no_id xs k (omega (arith, past))

-- a text that fails a check has no sound table
pub unsound_first : (overrides : List Override) (text : List ℕ) (e : ReadError) → Fails e (table_read_with overrides text) → IsUnsoundWith overrides text e
unsound_first overrides text errors.Memory h = tt
unsound_first overrides text (errors.Fault f) h = inl h

-- nor has one that is read, and has a cycle
pub unsound_cycle : (overrides : List Override) (text : List ℕ) (t : Table) (e : ReadError) → table_read_with overrides text ≡ Ok t → IsCyclic t e → IsUnsoundWith overrides text e
unsound_cycle overrides text t errors.Memory read h = tt
unsound_cycle overrides text t (errors.Fault f) read h = inr (t, read, h)

-- a text without a sound table is refused
pub refused_unsound : (overrides : List Override) (text : List ℕ) (e : ReadError) → IsUnsoundWith overrides text e → IsRefusedWith overrides text e
refused_unsound overrides text errors.Memory h = tt
refused_unsound overrides text (errors.Fault f) (inl first) = inl first
refused_unsound overrides text (errors.Fault f) (inr (t, read, cycle)) = inr (t, read, inl cycle)

-- one that is read is refused for a need
pub refused_need : (overrides : List Override) (text : List ℕ) (t : Table) (e : ReadError) → table_read_with overrides text ≡ Ok t → IsSound (network_of (table_jobs t)) →
    Fails e (table_fits t) → IsRefusedWith overrides text e
refused_need overrides text t errors.Memory read sound h = tt
refused_need overrides text t (errors.Fault f) read sound h = inr (t, read, inr (sound, h))
