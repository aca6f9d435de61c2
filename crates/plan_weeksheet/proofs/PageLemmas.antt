-- The errors of a page.
use Rattle.std.proofs.Common.{◌≡◌, ◌≤◌, ◌<◌, ℕ, Bool, true, false, List, length, inl, inr, refl, ap, ◌∙◌}
use Rattle.plan_documents.proofs.ErrorLemmas.{refuses_as}
use Rattle.plan_errors.specs.declared.fault.CliFault.{CliFault}
use Rattle.plan_errors.specs.Output.{Refuses}
use Rattle.plan_gantt.specs.declared.days.DaysFault.{DaysFault}
use Rattle.plan_gantt.specs.declared.days.DaysFault.TheVariants as days
use Rattle.std.specs.Prelude.{Option}
use Rattle.plan_sgs.specs.Instances.{Planned}
use Rattle.plan_sheet.specs.Names.{SheetNames}
use Rattle.plan_table.specs.Names.{Name}
use Rattle.plan_table.specs.declared.fault.TextFault.{TextFault}
use Rattle.plan_table.specs.declared.fault.TextFault.TheVariants as texts
use Rattle.plan_weeksheet.specs.declared.page.PageDays.{PageDays}
use Rattle.plan_weeksheet.specs.Drawn.{is_within}
use Rattle.plan_weeksheet.specs.Pages.{IsPageBeyond, IsTooLong, TellsBeyond, TellsDays, TellsLong, TellsNoPage, TellsText, limit_line}
use Rattle.plan_weeksheet.specs.Rectangles.{Rectangle}

-- a day of a page is too late
pub beyond_told : (on : Option PageDays) (drawn : Planned) (starts : List ℕ) (fault : DaysFault) (e : CliFault)
    → (fault ≡ days.BeyondCalendar → IsPageBeyond on drawn starts) → Refuses (TellsDays fault) e → Refuses (TellsBeyond on drawn starts) e
beyond_told on drawn starts days.NoMemory e beyond told =
    refuses_as (TellsDays days.NoMemory) (TellsBeyond on drawn starts) e (λ line none. absurd none) told
beyond_told on drawn starts days.BeyondCalendar e beyond told =
    refuses_as (TellsDays days.BeyondCalendar) (TellsBeyond on drawn starts) e (λ line tells. (beyond refl, tells)) told

-- the project file of rectangles is too long
pub long_told : (capacities : List ℕ) (rs : List Rectangle) (fault : TextFault) (e : CliFault)
    → (fault ≡ texts.TooLong → IsTooLong capacities rs) → Refuses (TellsText fault) e → Refuses (TellsLong capacities rs) e
long_told capacities rs texts.Memory e long told =
    refuses_as (TellsText texts.Memory) (TellsLong capacities rs) e (λ line none. absurd none) told
long_told capacities rs texts.TooLong e long told =
    refuses_as (TellsText texts.TooLong) (TellsLong capacities rs) e (λ line tells. (long refl, tells)) told

-- rectangles are above a limit
pub above_told : (on : Option PageDays) (capacities : List ℕ) (rs : List Rectangle) (makespan : ℕ) (e : CliFault)
    → is_within capacities rs makespan ≡ false → Refuses (λ line. line ≡ limit_line) e → Refuses (TellsNoPage on capacities rs makespan) e
above_told on capacities rs makespan e above told =
    refuses_as (λ line. line ≡ limit_line) (TellsNoPage on capacities rs makespan) e (λ line tells. inl (inl above, tells)) told

-- their project file is too long
pub long_hidden : (on : Option PageDays) (capacities : List ℕ) (rs : List Rectangle) (makespan : ℕ) (e : CliFault)
    → Refuses (TellsLong capacities rs) e → Refuses (TellsNoPage on capacities rs makespan) e
long_hidden on capacities rs makespan e told =
    refuses_as (TellsLong capacities rs) (TellsNoPage on capacities rs makespan) e (λ line tells. inl (inr tells.0, tells.1)) told

-- names with these parts
abbrev pub names_with : List Name → List Name → List Name → List Name → List Name → SheetNames
names_with lines legend ids resources predecessors =
    record { lines = lines; legend = legend; ids = ids; resources = resources; predecessors = predecessors }

-- names with the same parts
pub names_same : (a b c d e k l m n o : List Name) → a ≡ k → b ≡ l → c ≡ m → d ≡ n → e ≡ o
    → names_with a b c d e ≡ names_with k l m n o
names_same a b c d e k l m n o first second third fourth fifth =
    ap (λ x. names_with x b c d e) first ∙ ap (λ x. names_with k x c d e) second ∙ ap (λ x. names_with k l x d e) third
    ∙ ap (λ x. names_with k l m x e) fourth ∙ ap (λ x. names_with k l m n x) fifth
