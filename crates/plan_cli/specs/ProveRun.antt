-- The output of `plan prove` for the bytes that it reads (docs/definitions.md, "Runs").
use Rattle.std.specs.Prelude.{◌≡◌, ◌≤◌, ◌⊎◌, ℕ, List, codes}
use Rattle.plan_orlib.specs.Shop as docs
use Rattle.plan_orlib.specs.Says.{Says}
use Rattle.plan_sgs.specs.Problem.{IsActive, IsShortest, makespan}
use Rattle.plan_shop.specs.Shop.{JobShop, problem_of}
use Rattle.plan_shop.specs.Docs.{shop_of}
use Rattle.plan_prove.specs.Proofs.{IsLowerBound}
use Rattle.plan_prove.specs.Nodes.{IsNodesText}
use Rattle.plan_prove.specs.declared.proof.Proof.{Proof}
use Rattle.plan_gantt.specs.FirstFaults.{TellsFirstShopFault}
use Rattle.plan_cli.specs.ProofText.{ShowsProof}

-- A text shows an active schedule of a shop, and a lower bound of the makespans of all feasible
-- ones. A search within the number of nodes found both. If they meet, the schedule is a shortest
-- one.
pub record IsProvedOf (nodes : ℕ) (s : JobShop) (text : List ℕ) : Type 0 where
  pub proof : Proof
  pub active : IsActive (problem_of s) proof.schedule.starts.items
  pub makespan : proof.schedule.makespan ≡ makespan (problem_of s) proof.schedule.starts.items
  pub lower : IsLowerBound s proof.lower
  pub visited : proof.nodes ≤ nodes
  pub shortest : proof.lower ≡ proof.schedule.makespan →
      IsShortest (problem_of s) proof.schedule.starts.items
  pub shown : ShowsProof s proof text

-- the same, within the number of nodes that an argument spells
abbrev pub IsProofTextOf : List ℕ → JobShop → List ℕ → Type 0
IsProofTextOf argument s text = (nodes : ℕ) × IsNodesText argument nodes × IsProvedOf nodes s text

-- a text shows the proof for an instance in a file
abbrev pub IsProofTableOf : List ℕ → List ℕ → List ℕ → List ℕ → Type 0
IsProofTableOf argument instance file text =
    (doc : docs.Shop) × Says instance file doc × IsProofTextOf argument (shop_of doc) text

-- a line reports that an argument spells no number of nodes
abbrev pub TellsNoNodes : List ℕ → List ℕ → Type 0
TellsNoNodes argument line =
    ((nodes : ℕ) → IsNodesText argument nodes → ⊥) × (line ≡ codes "S7 nodes")

-- a line gives the first check that a file fails, or else reports that an argument spells no number
-- of nodes
abbrev pub TellsWhyNoProof : List ℕ → List ℕ → List ℕ → List ℕ → Type 0
TellsWhyNoProof argument instance file line = TellsFirstShopFault instance file line
    ⊎ ((doc : docs.Shop) × Says instance file doc × TellsNoNodes argument line)
