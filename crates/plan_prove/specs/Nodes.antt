-- Texts of numbers of nodes (docs/definitions.md, "Proofs of optima").
use Rattle.std.specs.Prelude.{◌≡◌, ℕ, List}
use Rattle.std.specs.Fmt.{decimal}
use Rattle.plan_prove.specs.Proofs.{IsNodeLimit}

-- a text is a number of nodes in decimal digits without leading zeros
abbrev pub IsNodesText : List ℕ → ℕ → Type 0
IsNodesText text nodes = IsNodeLimit nodes × (text ≡ decimal nodes)
