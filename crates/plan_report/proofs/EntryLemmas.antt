-- The entries of a sheet, one after another.
use Rattle.std.proofs.Common.{◌≡◌, ℕ, ◌+◌, ◌/◌, ◌%◌, List, [], ◌∷◌, ◌++◌, Some, map, sym, ap, ◌∙◌}
use Rattle.std.specs.List.{range_with_len, slice_get}
use Rattle.std.proofs.lemmas.List.{map-append}
use Rattle.std.proofs.lemmas.List.FromFn.{map-range_with_len_more}
use Rattle.std.proofs.lemmas.Option.{get_or_from_slice_get}
use Rattle.plan_net.specs.Network.{Net, duration_of}
use Rattle.plan_orlib.specs.declared.steps.Step.{Step}
use Rattle.plan_shop.specs.Shop.{JobShop, idle}
use Rattle.plan_report.specs.declared.sheet.Entry as declared
use Rattle.plan_report.specs.Sheet.{Entry, entry_of}
use Rattle.plan_report.specs.StartsText.{absence_of, activity_entry, step_entry}
use Rattle.plan_report.specs.declared.sheet.Absence.{Absence}
use Rattle.plan_report.specs.declared.sheet.Absence.TheVariants as absences

-- one more entry, which is that of the next number
pub entries_more : (f : ℕ → Entry) (first k j : ℕ) (before after : List declared.Entry) (entry : declared.Entry) → first + k ≡ j → map entry_of before ≡ map f (range_with_len first k)
    → after ≡ before ++ entry ∷ [] → entry_of entry ≡ f j → map entry_of after ≡ map f (range_with_len first (k + 1))
entries_more f first k j before after entry at made pushed is =
    ap (λ (xs : List declared.Entry). map entry_of xs) pushed ∙ map-append entry_of before (entry ∷ [])
    ∙ ap (λ (xs : List Entry). xs ++ entry_of entry ∷ []) made ∙ ap (λ (x : Entry). map f (range_with_len first k) ++ x ∷ []) is
    ∙ sym (map-range_with_len_more f first k j at)

abbrev entry_with : List ℕ → ℕ → Absence → Entry
entry_with keys duration absence = record { keys = keys; duration = duration; absence = absence }

-- the entry of an activity
pub activity_is : (net : Net) (j d : ℕ) (keys : List ℕ) → keys ≡ j ∷ d ∷ [] → d ≡ duration_of net j → Path Entry (record { keys = keys; duration = d; absence = absences.Never }) (activity_entry net j)
activity_is net j d keys made is = ap (λ (ks : List ℕ). entry_with ks d absences.Never) made ∙ ap (λ (n : ℕ). entry_with (j ∷ n ∷ []) n absences.Never) is

-- the entry of a step
pub step_is : (s : JobShop) (x machines : ℕ) (w : Step) (keys : List ℕ) (absence : Absence) → machines ≡ s.machines → slice_get s.steps x ≡ Some w
    → keys ≡ (x / machines + 1) ∷ (x % machines + 1) ∷ w.machine ∷ w.time ∷ [] → absence ≡ absence_of (x % machines + 1) w.time
    → Path Entry (record { keys = keys; duration = w.time; absence = absence }) (step_entry s x)
step_is s x machines w keys absence is read made away =
    ap (λ (ks : List ℕ). entry_with ks w.time absence) made
    ∙ ap (entry_with ((x / machines + 1) ∷ (x % machines + 1) ∷ w.machine ∷ w.time ∷ []) w.time) away
    ∙ ap (λ (m : ℕ). entry_with ((x / m + 1) ∷ (x % m + 1) ∷ w.machine ∷ w.time ∷ []) w.time (absence_of (x % m + 1) w.time)) is
    ∙ ap (λ (v : Step). entry_with ((x / s.machines + 1) ∷ (x % s.machines + 1) ∷ v.machine ∷ v.time ∷ []) v.time (absence_of (x % s.machines + 1) v.time)) (sym (get_or_from_slice_get s.steps x w idle read))
