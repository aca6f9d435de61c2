-- Names and choices of the priority rules (docs/definitions.md, "Job shops").
use Rattle.std.specs.Prelude.{◌≡◌, ℕ, Bool, nat_lt, List, [], ◌∷◌, Option, Some, None, codes}
use Rattle.plan_shop.specs.Shop.{JobShop}
use Rattle.plan_shop.specs.Words.{Placed, ready, letter_of, jobs_after}
use Rattle.plan_shop.specs.Rules.{next_time, time_left, spt, mwkr, fcfs, giffler}
use Rattle.plan_shop.specs.declared.rule.ShopRule.{ShopRule}
use Rattle.plan_shop.specs.declared.rule.ShopRule.TheVariants as rule
use Rattle.plan_shop.specs.declared.fault.ShopFault.{ShopFault}
use Rattle.plan_shop.specs.declared.fault.ShopFault.TheVariants as fault

-- the name of a rule
abbrev pub rule_text : ShopRule → List ℕ
rule_text rule.ShortestTime = codes "spt"
rule_text rule.MostWorkRemaining = codes "mwkr"
rule_text rule.FirstCome = codes "fcfs"

-- the error of a text that is the name of no rule
abbrev pub RefusesWord : List ℕ → ShopFault → Type 0
RefusesWord text f = (f ≡ fault.UnknownRule) × ((r : ShopRule) → text ≡ rule_text r → ⊥)

-- the choice of a rule among the jobs that may follow
abbrev pub chooser_of : ShopRule → JobShop → List Placed → List ℕ → ℕ
chooser_of rule.ShortestTime s = spt s
chooser_of rule.MostWorkRemaining s = mwkr s
chooser_of rule.FirstCome s = fcfs s

-- the key by which a rule compares a job
abbrev pub key_of : ShopRule → JobShop → List Placed → ℕ → ℕ
key_of rule.ShortestTime s xs j = next_time s xs j
key_of rule.MostWorkRemaining s xs j = time_left s xs j
key_of rule.FirstCome s xs j = ready s xs j

-- a rule puts one key before another
abbrev pub comes_before : ShopRule → ℕ → ℕ → Bool
comes_before rule.ShortestTime m n = nat_lt m n
comes_before rule.MostWorkRemaining m n = nat_lt n m
comes_before rule.FirstCome m n = nat_lt m n

-- the word of a rule
abbrev pub word_by : ShopRule → JobShop → List ℕ
word_by rule s = giffler s (chooser_of rule s)

-- the letter of the job that a rule chooses, if any may follow
abbrev pub letter_among : ShopRule → JobShop → List Placed → List ℕ → Option ℕ
letter_among rule s xs [] = None
letter_among rule s xs (j ∷ js) = Some (letter_of (chooser_of rule s xs (j ∷ js)))

abbrev pub letter_by : ShopRule → JobShop → List Placed → Option ℕ
letter_by rule s xs = letter_among rule s xs (jobs_after s xs)
