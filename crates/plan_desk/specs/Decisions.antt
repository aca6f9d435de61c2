-- All routes: the reply to each call, by the view of its desk, and the change that it makes
-- (docs/definitions.md, "Desks"). If several refusals apply, the first one in the order of the
-- route is the reply.
use Rattle.std.specs.Prelude.{List}
use Rattle.plan_rows.specs.World.{Text, World}
use Rattle.plan_rows.specs.Changes.{Change}
use Rattle.plan_rows.specs.Views.{View}
use Rattle.plan_desk.specs.Calls.{Call, publish, open_desk, set_key, capacities, plans, import_project, import_shop, remove, bind, set_calendar, set_lag, dates}
use Rattle.plan_desk.specs.Calls.{schedule, chart, days, best, Request, Reply}
use Rattle.plan_desk.specs.Stories as story
use Rattle.plan_desk.specs.Outcomes.{tells}
use Rattle.plan_desk.specs.JsonTexts.{codes_text, plans_text}
use Rattle.plan_desk.specs.OfficeRoutes.{Publishes, Opens, SetsKey}
use Rattle.plan_desk.specs.PlanRoutes.{ImportsProject, ImportsShop, Removes, Binds, Calendars, SetsLag}
use Rattle.plan_desk.specs.PageRoutes.{Dates, Schedules, Charts, Days}
use Rattle.plan_desk.specs.BestRoutes.{Best}

abbrev pub Answers : View → Call → Reply → Change → Type 0
Answers v (publish body) = Publishes v.published body
Answers v (open_desk body) = Opens v body
Answers v (set_key desk body) = SetsKey v desk body
Answers v (capacities desk) = tells (codes_text v.published)
Answers v (plans desk) = tells (plans_text v.plans)
Answers v (import_project desk body) = ImportsProject v body
Answers v (import_shop desk instance body) = ImportsShop v instance body
Answers v (remove desk n) = Removes v n
Answers v (bind desk n body) = Binds v n body
Answers v (set_calendar desk n body) = Calendars v n body
Answers v (set_lag desk n body) = SetsLag v n body
Answers v (dates desk n) = Dates v n
Answers v (schedule desk n rule) = Schedules v n rule
Answers v (chart desk n rule) = Charts v n rule
Answers v (days desk n rule) = Days v n rule
Answers v (best desk n budget) = Best v n budget

-- in the view, the request gets this reply and makes this change
unfoldable pub IsDecision : View → Request → Reply → Change → Type 0
IsDecision = story.IsDecided Answers

-- a step of the office: decide by the view of the desk, then apply the change
unfoldable pub IsStep : World → Request → Reply → World → Type 0
IsStep = story.IsStep Answers

-- a step, or a refusal for lack of memory or by the store that leaves the rows unchanged
unfoldable pub IsRealStep : World → Request → Reply → World → Type 0
IsRealStep = story.IsRealStep Answers

-- the replies to requests, and the worlds after each of them
unfoldable pub IsRun : World → List Request → List Reply → List World → Type 0
IsRun = story.IsRun Answers

-- the replies to the requests of a list that belong to a desk, by its view
unfoldable pub AreTold : Text → View → List Request → List Reply → Type 0
AreTold = story.AreTold Answers

-- the story of a desk in a list of requests, and its replies
unfoldable pub IsStoryOf : Text → View → List Request → List Reply → List Request → List Reply → Type 0
IsStoryOf = story.IsStoryOf Answers

-- a request of the story was refused for lack of memory or by the store
unfoldable pub IsWanting : Text → View → List Request → List Reply → Type 0
IsWanting = story.IsWanting Answers
