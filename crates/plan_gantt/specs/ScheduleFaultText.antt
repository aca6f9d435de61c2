-- The error lines of a schedule that is rejected (docs/definitions.md, "Texts").
use Rattle.std.specs.Prelude.{ℕ, List, ◌++◌, codes}
use Rattle.std.specs.Fmt.{decimal}
use Rattle.plan_sgs.specs.declared.fault.SgsFault.{SgsFault}
use Rattle.plan_sgs.specs.declared.fault.SgsFault.TheVariants as fault

-- an activity that needs more of a resource than its capacity
abbrev pub need_text : ℕ → ℕ → List ℕ
need_text activity resource = codes "S1 activity " ++ decimal activity ++ codes " resource " ++ decimal resource

-- the error line of a schedule that is rejected
abbrev pub schedule_fault_text_of : SgsFault → List ℕ
schedule_fault_text_of fault.NoMemory = codes "E90 memory"
schedule_fault_text_of (fault.NeedsTooMuch activity resource) = need_text activity resource
schedule_fault_text_of fault.NotAList = codes "S2 not a list"
schedule_fault_text_of fault.UnknownRule = codes "S3 unknown rule"
