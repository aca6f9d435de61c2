-- The law that each request has a decision in each view: the definitions cover every case
-- (docs/definitions.md, "Desks").
use Rattle.plan_rows.specs.Changes.{Change}
use Rattle.plan_rows.specs.Rules.{IsWorld}
use Rattle.plan_rows.specs.Views.{View, alone}
use Rattle.plan_desk.specs.Calls.{Request, Reply}
use Rattle.plan_desk.specs.Decisions.{IsDecision}

-- in each view of an office whose rows keep their rules, each request has a reply and a change
unfoldable pub SomeDecision : Type 0
SomeDecision = (v : View) (r : Request) → IsWorld (alone v)
    → (reply : Reply) × (change : Change) × IsDecision v r reply change
