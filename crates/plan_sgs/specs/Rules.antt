-- Activity lists, and the lists of priority rules (docs/definitions.md, "Schedules"; Kolisch 1996).
use Rattle.std.specs.Prelude.{◌≡◌, ℕ, zero, suc, ◌-◌, ◌≤◌, ◌<◌, Bool, true, cond, ◌&&◌, ◌||◌, not, List, [], ◌∷◌, ◌++◌, length, get_or, map, nat_lt, nat_eq, All, Contains, ◌⊎◌}
use Rattle.std.specs.List.{list_all, list_any, fold, AllByRecursion}
use Rattle.plan_sgs.specs.Problem.{Problem, count}
use Rattle.plan_sgs.specs.declared.fault.SgsFault.{SgsFault}
use Rattle.plan_sgs.specs.declared.fault.SgsFault.TheVariants as fault

-- an order of all activities, each after its predecessors
pub record IsActivityList (p : Problem) (js : List ℕ) : Type 0 where
  pub each_once : length js ≡ count p
  pub all_there : (j : ℕ) → j < count p → Contains js j
  pub none_else : All (λ j. j < count p) js
  pub after : (a b : ℕ) → a < length js → b < length js
      → All (λ r. r.from ≡ get_or js a 0 → r.to ≡ get_or js b 0 → a < b) p.links

-- the indices of activity numbers
abbrev pub places : List ℕ → List ℕ
places numbers = map (λ j. j - 1) numbers

-- an activity list by numbers from 1
abbrev pub IsNumberedList : Problem → List ℕ → Type 0
IsNumberedList p numbers = All (λ j. 1 ≤ j) numbers × IsActivityList p (places numbers)

-- the error of a list that is no activity list, or of memory that runs out
abbrev pub RefusesList : Problem → List ℕ → SgsFault → Type 0
RefusesList p numbers fault.NotAList = IsNumberedList p numbers → ⊥
RefusesList p numbers fault.NoMemory = Unit {0}
RefusesList p numbers _ = ⊥

-- j is in the list
abbrev pub is_member : ℕ → List ℕ → Bool
is_member j js = list_any (λ i. nat_eq i j) js

-- not taken, with all predecessors taken
abbrev pub is_eligible : Problem → List ℕ → ℕ → Bool
is_eligible p taken j =
    not (is_member j taken) && list_all (λ a. not (nat_eq a.to j) || is_member a.from taken) p.links

-- each entry in its turn is an activity that is eligible after those taken before it
abbrev pub takes_in_turn : Problem → List ℕ → List ℕ → Bool
takes_in_turn p taken [] = true
takes_in_turn p taken (j ∷ js) =
    (nat_lt j (count p) && is_eligible p taken j) && takes_in_turn p (taken ++ j ∷ []) js

-- a test for an activity list, entry by entry
abbrev pub is_activity_list : Problem → List ℕ → Bool
is_activity_list p js = nat_eq (length js) (count p) && takes_in_turn p [] js

-- j is the first of the eligible activities by its key, and then by its number
pub record IsFirstBy (p : Problem) (key : ℕ → ℕ) (taken : List ℕ) (j : ℕ) : Type 0 where
  pub inside : j < count p
  pub eligible : is_eligible p taken j ≡ true
  pub first : (i : ℕ) → i < count p → is_eligible p taken i ≡ true
      → (key j < key i) ⊎ ((key j ≡ key i) × (j ≤ i))

-- the list is sorted by its keys
abbrev pub RisesBy : (ℕ → ℕ) → List ℕ → Type 0
RisesBy key [] = Unit {0}
RisesBy key (j ∷ js) = AllByRecursion (λ i. key j ≤ key i) js × RisesBy key js

-- the first entry of least key, or other if the list is empty
abbrev pub least_key : (ℕ → ℕ) → ℕ → List ℕ → ℕ
least_key key other [] = other
least_key key other (j ∷ js) = fold (λ b i. cond (nat_lt (key i) (key b)) i b) j js

-- the eligible activities below n in rising order
abbrev pub eligible : Problem → List ℕ → ℕ → List ℕ
eligible p taken zero = []
eligible p taken (suc n) = eligible p taken n ++ cond (is_eligible p taken n) (n ∷ []) []

-- n more entries, each the eligible activity of least key and then of least number
abbrev pub rule_list_from : Problem → (ℕ → ℕ) → List ℕ → ℕ → List ℕ
rule_list_from p key taken zero = taken
rule_list_from p key taken (suc n) =
    rule_list_from p key (taken ++ least_key key (count p) (eligible p taken (count p)) ∷ []) n

-- the list of the rule with a key
unfoldable pub rule_list : Problem → (ℕ → ℕ) → List ℕ
rule_list p key = rule_list_from p key [] (count p)
