-- The errors of a check by a copy (docs/definitions.md, "Copies of an office").
use Rattle.plan_serve.specs.Reports.{IsReportFault}
use Rattle.plan_copies.specs.declared.check.CheckFault.{CheckFault}
use Rattle.plan_copies.specs.declared.check.CheckFault.TheVariants as check

-- the files can't be copied, or the copy has an error of a report
abbrev pub IsCheckFault : CheckFault → Type 0
IsCheckFault (check.Copy cause) = Unit {0}
IsCheckFault (check.Office e) = IsReportFault e
