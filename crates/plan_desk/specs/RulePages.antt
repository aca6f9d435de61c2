-- The routes of the pages of a plan's schedule by a rule (docs/definitions.md, "Desks").
use Rattle.plan_rows.specs.World.{Text}
use Rattle.plan_rows.specs.Views.{View}
use Rattle.plan_desk.specs.declared.pages.by_rule.RulePage.{RulePage}
use Rattle.plan_desk.specs.declared.pages.by_rule.RulePage.TheVariants as page
use Rattle.plan_desk.specs.Outcomes.{Outcome}
use Rattle.plan_desk.specs.PageRoutes.{Schedules, Charts, Days}

abbrev pub ByRule : RulePage → View → Text → Text → Outcome
ByRule page.Schedule = Schedules
ByRule page.Chart = Charts
ByRule page.Days = Days
