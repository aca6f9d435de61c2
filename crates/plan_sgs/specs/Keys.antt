-- Priority rules: their names, and the keys by which they choose (docs/definitions.md, "Schedules";
-- Kolisch 1996).
use Rattle.std.specs.Prelude.{◌≡◌, ◌↔◌, ℕ, ◌+◌, ◌≤◌, ◌<◌, List, length, slice_index, codes}
use Rattle.plan_net.specs.Network.{Net, count_of, duration_of}
use Rattle.plan_cpm.specs.Dates.{DateTable, AreDates, late_finish_of, total_float_of}
use Rattle.plan_cpm.specs.Successors.{AreTotals}
use Rattle.plan_sgs.specs.Serial.{serial}
use Rattle.plan_sgs.specs.Rules.{rule_list}
use Rattle.plan_sgs.specs.Instances.{Planned, problem_of}
use Rattle.plan_sgs.specs.declared.rule.Rule.{Rule}
use Rattle.plan_sgs.specs.declared.rule.Rule.TheVariants as rule
use Rattle.plan_sgs.specs.declared.fault.SgsFault.{SgsFault}
use Rattle.plan_sgs.specs.declared.fault.SgsFault.TheVariants as fault

-- the name of a rule
abbrev pub rule_text : Rule → List ℕ
rule_text rule.LatestFinish = codes "lft"
rule_text rule.Slack = codes "slk"
rule_text rule.ShortestTime = codes "spt"
rule_text rule.MostSuccessors = codes "mts"
rule_text rule.Number = codes "num"

-- the error of a text that is the name of no rule
abbrev pub RefusesWord : List ℕ → SgsFault → Type 0
RefusesWord text f = (f ≡ fault.UnknownRule) × ((r : Rule) → text ≡ rule_text r → ⊥)

-- the keys of the activities by their indices: a rule takes the activity with the least key first.
-- Dates ignore resources but include lags. More successors give a smaller key.
abbrev pub IsKeyOf : Net → Rule → (ℕ → ℕ) → Type 0
IsKeyOf net rule.LatestFinish key =
    (dates : DateTable) × AreDates net dates
    × ((i : ℕ) → i < count_of net → key i ≡ late_finish_of dates (i + 1))
IsKeyOf net rule.Slack key =
    (dates : DateTable) × AreDates net dates
    × ((i : ℕ) → i < count_of net → key i ≡ total_float_of dates (i + 1))
IsKeyOf net rule.ShortestTime key = (i : ℕ) → i < count_of net → key i ≡ duration_of net (i + 1)
IsKeyOf net rule.MostSuccessors key =
    (totals : List ℕ) × AreTotals net totals
    × ((i j : ℕ) → i < count_of net → j < count_of net
    → (key i ≤ key j) ↔ (slice_index totals j ≤ slice_index totals i))
IsKeyOf net rule.Number key = (i : ℕ) → i < count_of net → key i ≡ i

-- a list of keys, one for each activity
abbrev pub AreKeysOf : Net → Rule → List ℕ → Type 0
AreKeysOf net r keys = (length keys ≡ count_of net) × IsKeyOf net r (λ i. slice_index keys i)

-- the starts of the serial schedule of the rule's list
abbrev pub IsRuleSchedule : Planned → Rule → List ℕ → Type 0
IsRuleSchedule i r starts =
    (key : ℕ → ℕ) × IsKeyOf i.project.network r key
    × (starts ≡ serial (problem_of i) (rule_list (problem_of i) key))
