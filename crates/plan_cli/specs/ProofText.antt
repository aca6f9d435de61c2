-- The text of a schedule of a job shop and its lower bound (docs/definitions.md, "Texts").
use Rattle.std.specs.Prelude.{◌≡◌, ◌<◌, ◌⊎◌, ℕ, List, ◌++◌, codes}
use Rattle.std.specs.Fmt.{decimal}
use Rattle.plan_shop.specs.Shop.{JobShop}
use Rattle.plan_prove.specs.declared.proof.Proof.{Proof}
use Rattle.plan_gantt.specs.ShopTable.{shop_table_text}

-- a line reports that a makespan is the least because the lower bound reaches it, or else gives the
-- two bounds of the least makespan
abbrev pub IsBoundLine : ℕ → ℕ → List ℕ → Type 0
IsBoundLine lower makespan line =
    ((lower ≡ makespan) × (line ≡ codes "optimal " ++ decimal makespan ++ codes "\n"))
    ⊎ ((lower < makespan)
    × (line ≡ codes "between " ++ decimal lower ++ codes " " ++ decimal makespan ++ codes "\n"))

-- a text is that line, and then the table of the schedule
abbrev pub ShowsProof : JobShop → Proof → List ℕ → Type 0
ShowsProof s proof text = (line : List ℕ) × IsBoundLine proof.lower proof.schedule.makespan line
    × (text ≡ line ++ shop_table_text s proof.schedule.starts.items proof.schedule.makespan)
