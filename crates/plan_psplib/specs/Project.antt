-- The project of a file, and the errors of a file (docs/definitions.md, "Files").
use Rattle.std.specs.Prelude.{◌≡◌, ℕ, ◌≤◌, ◌⊎◌, List, [], All, Ok, Err, length}
use Rattle.plan_net.specs.Network.{Net, count_of, with_lag, unlagged}
use Rattle.plan_net.specs.Limits.{IsSound}
use Rattle.plan_net.specs.Cycle.{IsNamedCycle}
use Rattle.plan_net.specs.declared.fault.NetFault.{NetFault}
use Rattle.plan_net.specs.declared.fault.NetFault.TheVariants as nets
use Rattle.plan_psplib.specs.declared.text.fault.FileCode.TheVariants as code
use Rattle.plan_psplib.specs.declared.text.fault.FileFault.{FileFault}
use Rattle.plan_psplib.specs.Faults.{IsWantOfMemory}
use Rattle.plan_psplib.specs.Tokens.{greatest}
use Rattle.plan_psplib.specs.Document.{Document, document}
use Rattle.plan_psplib.specs.Says.{Says}

-- a project: its network, the needs of each activity, and the availability of each resource
pub record Project : Type 0 where
  pub network : Net
  pub needs : List (List ℕ)
  pub available : List ℕ

-- amounts of k resources, each within the limit
abbrev pub AreAmounts : ℕ → List ℕ → Type 0
AreAmounts k amounts = (length amounts ≡ k) × All (λ amount. amount ≤ greatest) amounts

-- one row of needs for each activity, one amount for each of 1 to 16 resources in each, all within
-- the limits
pub record IsProject (p : Project) : Type 0 where
  pub network : IsSound p.network
  pub rows : length p.needs ≡ count_of p.network
  pub needs : All (AreAmounts (length p.available)) p.needs
  pub available : AreAmounts (length p.available) p.available
  pub resources : (1 ≤ length p.available) × (length p.available ≤ 16)

-- a project with another lag on one arc
abbrev pub with_project_lag : Project → ℕ → ℕ → ℕ → Project
with_project_lag p i j lag = record { network = with_lag p.network i j lag; needs = p.needs; available = p.available }

-- the network of a document: its arcs have no lags
abbrev pub network_of : Document → Net
network_of d = unlagged d.requests.durations d.arcs

-- the project of a document
abbrev pub project_of : Document → Project
project_of d = record { network = network_of d; needs = d.requests.needs; available = d.available }

-- the project is the one that a text describes
abbrev pub SaysProject : List ℕ → Project → Type 0
SaysProject text p = (d : Document) × Says text d × (p ≡ project_of d) × IsProject p

-- the error of a document whose arcs have a cycle: it names the cycle, at the line of the
-- precedence title
abbrev pub NamesCycleOf : Document → FileFault → Type 0
NamesCycleOf d fault = (fault.code ≡ code.Cycle) × (fault.line ≡ d.precedence_line) × IsNamedCycle (network_of d) fault.cycle.items

-- the error is the first check that a text fails: one of those of its document, or else the test
-- for a cycle
abbrev pub IsFirstFailing : List ℕ → FileFault → Type 0
IsFirstFailing text fault =
    ((document text ≡ Err (record { code = fault.code; line = fault.line })) × (fault.cycle.items ≡ []))
    ⊎ ((d : Document) × (document text ≡ Ok d) × NamesCycleOf d fault)

-- some text describes the document
abbrev pub IsSaid : Document → Type 0
IsSaid d = (text : List ℕ) × Says text d

-- the error of a text for an error of its network; a cycle is reported at this line
abbrev pub TellsOf : NetFault → ℕ → FileFault → Type 0
TellsOf (nets.Cycle members) line fault = (fault.code ≡ code.Cycle) × (fault.line ≡ line) × (fault.cycle.items ≡ members.items)
TellsOf nets.NoMemory line fault = IsWantOfMemory fault
TellsOf _ line fault = ⊥
