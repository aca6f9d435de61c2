-- The errors of searches within a budget or a number of nodes.
use Rattle.std.proofs.Common.{◌≡◌, ℕ, List, codes}
use Rattle.plan_sgs.specs.Instances.{Planned}
use Rattle.plan_shop.specs.Shop.{JobShop}
use Rattle.plan_exact.specs.ProjectSolutions.{RefusesProject}
use Rattle.plan_exact.specs.Solutions.{RefusesSolving}
use Rattle.plan_exact.specs.declared.fault.ExactFault.{ExactFault}
use Rattle.plan_errors.specs.declared.fault.CliFault.{CliFault}
use Rattle.plan_errors.specs.Output.{Refuses}
use Rattle.plan_cli.specs.BestProjectRun.{TellsSearchRefusal}
use Rattle.plan_cli.specs.BestRun.{TellsSolving, TellsSolvingRefusal}
use Rattle.plan_prove.specs.Nodes.{IsNodesText}
use Rattle.plan_cli.specs.ProveRun.{TellsNoNodes}
use Rattle.plan_documents.proofs.ErrorLemmas.{refuses_as}

-- the search of a project is refused
pub project_refused : (budget : ℕ) (i : Planned) (first : ExactFault) (e : CliFault) → RefusesProject i budget first
    → Refuses (TellsSolving first) e → Refuses (TellsSearchRefusal budget i) e
project_refused budget i first e refused t =
    refuses_as (TellsSolving first) (TellsSearchRefusal budget i) e (λ line tells. (first, tells.0, refused, tells.1)) t

-- the search of a job shop is refused
pub shop_refused : (budget : ℕ) (s : JobShop) (first : ExactFault) (e : CliFault) → RefusesSolving s budget first
    → Refuses (TellsSolving first) e → Refuses (TellsSolvingRefusal budget s) e
shop_refused budget s first e refused t =
    refuses_as (TellsSolving first) (TellsSolvingRefusal budget s) e (λ line tells. (first, tells.0, refused, tells.1)) t

-- an argument spells no number of nodes
pub nodes_refused : (argument : List ℕ) (e : CliFault) → ((nodes : ℕ) → IsNodesText argument nodes → ⊥)
    → Refuses (λ line. line ≡ codes "S7 nodes") e → Refuses (TellsNoNodes argument) e
nodes_refused argument e none t = refuses_as (λ line. line ≡ codes "S7 nodes") (TellsNoNodes argument) e (λ line tells. (none, tells)) t
