-- A network whose arcs lead to greater numbers has no cycle.
use Rattle.std.proofs.Common.{◌≡◌, ℕ, ◌+◌, ◌≤◌, ◌<◌, List, [], ◌∷◌, length, arith}
use Rattle.std.specs.Prelude.{All}
use Rattle.std.proofs.lemmas.List.Elements.{All-contains}
use Rattle.plan_net.specs.Network.{Net, IsArc}
use Rattle.plan_net.specs.Path.{IsAcyclic, IsWalk, last_of}

-- an arc leads to a greater number
abbrev pub Rises : ℕ × ℕ → Type 0
Rises arc = arc.0 < arc.1

-- a walk ends at a number that is greater by its length at least
walk_rises : (net : Net) (i : ℕ) (others : List ℕ) → All Rises net.arcs → IsWalk net i others → i + length others ≤ last_of i others
walk_rises net i [] rising walk = omega arith
walk_rises net i (j ∷ others) rising (arc, walk) =
    let step : i < j = All-contains Rises net.arcs (i, j) rising arc in
    let rest = walk_rises net j others rising walk in
    omega (arith, step, rest)

pub rising_acyclic : (net : Net) → All Rises net.arcs → IsAcyclic net
rising_acyclic net rising i others (path, some, ends) =
    let far = walk_rises net i others rising path.1 in
    omega (arith, far, some, ends)
