-- A document that a text describes: the errors of its network, and its project.
use Rattle.std.proofs.Common.{◌≡◌, ℕ, zero, suc, ◌-◌, ◌≤◌, ◌<◌, List, [], ◌∷◌, Some, length, map, get_or, slice_index, refl, sym, ap, ◌∙◌, subst, ◌⊎◌, inl, inr, arith}
use Rattle.std.specs.Prelude.{slice_get, All}
use Rattle.std.specs.List.{AllByRecursion}
use Rattle.std.proofs.lemmas.List.Elements.{All-from_recursion, recursion_from_All}
use Rattle.std.proofs.lemmas.List.Sums.{sum_by-take-le}
use Rattle.plan_net.specs.Network.{Net, count_of, unlagged}
use Rattle.plan_net.specs.Limits.{HasGoodSize, HasGoodDurations, IsWithinLimits, IsSound}
use Rattle.plan_net.specs.Order.{IsLeastOrder}
use Rattle.plan_net.specs.Cycle.{IsNamedCycle}
use Rattle.plan_net.specs.Refusals.{IsFirstFault}
use Rattle.plan_net.specs.declared.fault.NetFault.{NetFault}
use Rattle.plan_net.specs.declared.fault.NetFault.TheVariants as nets
use Rattle.plan_net.proofs.SuccessorLemmas.{IsWithinLimits-rows}
use Rattle.plan_net.proofs.SomeOrderLemmas.{SomeCycle, some_order}
use Rattle.plan_psplib.specs.declared.text.fault.FileFault.{FileFault}
use Rattle.plan_psplib.specs.Faults.{IsWantOfMemory}
use Rattle.plan_psplib.specs.Tokens.{greatest}
use Rattle.plan_psplib.specs.Document.{Document}
use Rattle.plan_psplib.specs.Says.{Says, IsNeeds}
use Rattle.plan_psplib.specs.Project.{AreAmounts, IsProject, SaysProject, network_of, project_of, TellsOf, NamesCycleOf}

all_along : {A : Type 0} (P Q : A → Type 0) → ((x : A) → P x → Q x) → (xs : List A) → AllByRecursion P xs → AllByRecursion Q xs
all_along P Q f [] h = tt
all_along P Q f (x ∷ xs) h = (f x h.0, all_along P Q f xs h.1)

all_get : {A : Type 0} (P : A → Type 0) (xs : List A) (k : ℕ) (x : A) → AllByRecursion P xs → slice_get xs k ≡ Some x → P x
all_get P [] k x h e = absurd (cc)
all_get P (y ∷ xs) zero x h e = let same : y ≡ x = cc in subst P same h.0
all_get P (y ∷ xs) (suc k) x h e = all_get P xs k x h.1 e

-- ---- the network of a document

pub size_good : (text : List ℕ) (d : Document) → Says text d → HasGoodSize (unlagged d.requests.durations [])
size_good text d says = says.jobs_fit

small_get : (xs : List ℕ) (k : ℕ) → AllByRecursion (λ x. x ≤ greatest) xs → slice_index xs k ≤ greatest
small_get [] k h = omega arith
small_get (x ∷ xs) zero h = h.0
small_get (x ∷ xs) (suc k) h = small_get xs k h.1

pub durations_good : (text : List ℕ) (d : Document) → Says text d → HasGoodDurations (unlagged d.requests.durations [])
durations_good text d says j active =
    let part = sum_by-take-le (λ n. n) d.requests.durations j in
    let total = says.total_fits in
    (small_get d.requests.durations (j - 1) says.durations_fit, omega (arith, part, total))

-- the error is out of memory, or names the cycle
pub told : (d : Document) (net : NetFault) (fault : FileFault) → IsFirstFault (network_of d) net → TellsOf net d.precedence_line fault → IsWantOfMemory fault ⊎ NamesCycleOf d fault
told d nets.NoMemory fault h tells = inl tells
told d nets.Size fault h tells = absurd tells
told d (nets.BadDuration j) fault h tells = absurd tells
told d (nets.BadArc i j) fault h tells = absurd tells
told d (nets.DoubleArc i j) fault h tells = absurd tells
told d (nets.Cycle members) fault h tells = let P : List ℕ → Type 0 = λ ms. IsNamedCycle (network_of d) ms in inr (tells.0, tells.1, subst P (sym tells.2) h.4)
told d (nets.NoArc i j) fault h tells = absurd tells
told d (nets.BadLag i j) fault h tells = absurd tells

-- ---- the project of a document

amounts_all : (k : ℕ) (row : List ℕ) → IsNeeds k row → AreAmounts k row
amounts_all k row h = (h.0, All-from_recursion (λ amount. amount ≤ greatest) row h.1)

pub project_good : (text : List ℕ) (d : Document) (net : Net) → Says text d → net ≡ network_of d → IsSound net → IsProject (record { network = net; needs = d.requests.needs; available = d.available })
project_good text d net says is sound = record {
  network = sound;
  rows = says.rows ∙ ap count_of (sym is);
  needs = All-from_recursion (AreAmounts (length d.available)) d.requests.needs
      (all_along (IsNeeds (length d.available)) (AreAmounts (length d.available))
      (amounts_all (length d.available)) d.requests.needs says.needs);
  available = (refl, All-from_recursion (λ amount. amount ≤ greatest) d.available says.available_fit);
  resources = says.resources_fit;
}

get_row : {X Y : Type 0} (f : X → Y) (xs : List X) (k : ℕ) (x : X) → k < length xs → x ≡ get_or xs k x → slice_get (map f xs) k ≡ Some (f x)
get_row f [] k x below is = absurd (omega (arith, below))
get_row f (y ∷ xs) zero x below is = ap (λ z. Some (f z)) (sym is)
get_row f (y ∷ xs) (suc k) x below is = get_row f xs k x (omega (arith, below)) is

rows_count : {X Y : Type 0} (f : X → Y) (xs : List X) → length (map f xs) ≡ length xs
rows_count f [] = refl
rows_count f (x ∷ xs) = ap suc (rows_count f xs)

-- a fact of all rows is a fact of the row at k
pub row_good : {X : Type 0} (P : List ℕ → Type 0) (items : X → List ℕ) (rows : List X) (k : ℕ) (row : X)
    (n : ℕ) → length (map items rows) ≡ n → k < n → row ≡ get_or rows k row → All P (map items rows) →
    P (items row)
row_good P items rows k row n count below is all =
    let same = rows_count items rows in
    all_get P (map items rows) k (items row) (recursion_from_All P (map items rows) all) (get_row items rows k row (omega (arith, same, count, below)) is)

-- ---- its order, or its cycle

-- the network of a document that a text describes is within the limits
pub network_within_limits : (text : List ℕ) (d : Document) → Says text d → IsWithinLimits (network_of d)
network_within_limits text d says =
    let rows = says.precedence.3 in
    let within = IsWithinLimits-rows d.requests.durations rows.0 (size_good text d says) (durations_good text d says) (record { whole = rows.1; each = rows.2 }) in
    subst (λ (arcs : List (ℕ × ℕ)). IsWithinLimits (unlagged d.requests.durations arcs)) (sym rows.4) within

-- a text that describes a document describes its project, or the error names a cycle of it
pub project_or_cycle : (text : List ℕ) (d : Document) → Says text d → SaysProject text (project_of d) ⊎ SomeCycle (network_of d)
project_or_cycle text d says = by_order (some_order (network_of d) (network_within_limits text d says))
  where
    by_order : (IsSound (network_of d) × ((order : List ℕ) × IsLeastOrder (network_of d) order)) ⊎ SomeCycle (network_of d)
        → SaysProject text (project_of d) ⊎ SomeCycle (network_of d)
    by_order (inl ordered) = inl (d, says, refl, project_good text d (network_of d) says refl ordered.0)
    by_order (inr cycle) = inr cycle
