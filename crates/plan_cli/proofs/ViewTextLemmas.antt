-- The texts of what tasks show are the texts of the tasks.
use Rattle.std.proofs.Common.{◌≡◌, ℕ, ◌<◌, ◌≤◌, inl, inr, Bool, true, false, nat_lt, Option, Some, None, List, [], ◌∷◌, ◌++◌, codes, map, refl, sym, ap, ◌∙◌, subst, arith}
use denote.Ref.{Bor}
use Rattle.std.proofs.lemmas.Bool.Decides.{nat_tests}
use Rattle.std.proofs.lemmas.List.{append-nil}
use Rattle.plan_calendar.specs.WorkingDay.{Workdays}
use Rattle.plan_orlib.specs.Instances.{names_of}
use Rattle.plan_table.specs.Overrides.{override_of}
use Rattle.plan_report.specs.SlackText.{IsSlackText}
use Rattle.plan_exact.specs.declared.shop_solution.Solved.{Solved}
use Rattle.plan_sgs.specs.Instances.{Planned}
use Rattle.plan_shop.specs.Shop.{JobShop}
use Rattle.plan_gantt.specs.BestText as best
use Rattle.plan_exact.specs.declared.answer.Kind.{Kind}
use Rattle.plan_exact.specs.declared.answer.Kind.TheVariants as kind
use Rattle.plan_formats.specs.TableLines.{line_text}
use Rattle.plan_formats.specs.TableText.{text_of}
use Rattle.plan_formats.specs.Tables.{Table}
use Rattle.plan_views.specs.Bounds.{best_text_of, best_view_of, bound_line_of, kind_line_of}
use Rattle.plan_views.specs.LineLists.{verdict_view_of}
use Rattle.plan_views.specs.Plans as plans
use Rattle.plan_views.specs.ScheduleTables.{schedule_view_of}
use Rattle.plan_views.specs.declared.moments.MomentStyle.{MomentStyle}
use Rattle.plan_views.proofs.ChartLemmas.{chart_text_is}
use Rattle.plan_views.proofs.DayLemmas.{calendar_text}
use Rattle.plan_views.proofs.ReportLemmas.{comparison_text, slack_text}
use Rattle.plan_views.proofs.TextLemmas.{bound_text, date_text, lines_text_of, schedule_text}
use Rattle.plan_cli.specs.BestRun.{IsBestOf}
use Rattle.plan_cli.specs.ChartRun.{IsChartFrom}
use Rattle.plan_cli.specs.ChartRun as charts
use Rattle.plan_cli.specs.CheckRun.{TellsVerdictOn, sentence_of}
use Rattle.plan_cli.specs.CompareRun.{Compares, IsCompared}
use Rattle.plan_cli.specs.ListComparisons.{AreListsCompared, ArePlansCompared, IsListsView, IsPlansView}
use Rattle.plan_cli.specs.DaysRun.{IsDaysFrom, IsDaysTable}
use Rattle.plan_table.specs.Names.{Name}
use Rattle.plan_documents.specs.Documents.{IsOfSubject, ids_in}
use Rattle.plan_documents.specs.ImportRun.{IsImport, IsShopImport}
use Rattle.plan_cli.specs.PlanRefs.{viewed}
use Rattle.plan_cli.specs.ProofText.{IsBoundLine}
use Rattle.plan_cli.specs.ProveRun.{IsProvedOf}
use Rattle.plan_cli.specs.SlackRun.{IsSlackOf}
use Rattle.plan_cli.specs.SolveRun.{IsSolvedBy}
use Rattle.plan_cli.specs.Tables.{IsTableBy}
use Rattle.plan_cli.specs.Tables as tables
use Rattle.plan_cli.specs.Tasks.{IsTextOf}
use Rattle.plan_cli.specs.TaskViews.{IsTableViewBy, IsChartViewFrom, IsDaysViewFrom, IsVerdictView, IsSlackViewOf, IsComparedView, ComparesIn, AreDaysOf}
use Rattle.plan_cli.specs.TaskViews.{ShowsDaysOf, IsBestViewOf, IsSolvedViewBy, IsProvedViewOf, IsViewOf, schedule_of, chart_of, bounded_of}
use Rattle.plan_cli.specs.ListRun.{IsTimedList}
use Rattle.plan_cli.specs.Views.{View, chart, text, plain_text}
use Rattle.plan_documents.specs.declared.documents.Plan.{Plan}
use Rattle.plan_documents.specs.declared.documents.Plan.TheVariants as plan
use Rattle.plan_documents.specs.declared.documents.Subject.{Subject}
use Rattle.plan_documents.specs.declared.documents.Subject.TheVariants as subject
use Rattle.plan_cli.specs.declared.origins.Origin.{Origin}
use Rattle.plan_cli.specs.declared.calendars.Dates.{Dates}
use Rattle.plan_cli.specs.declared.tasks.Task.{Task}
use Rattle.plan_cli.specs.declared.tasks.Task.TheVariants as task

table_text : (p : Plan) (starts : List ℕ) (ends : ℕ) → text_of (schedule_of p starts ends) ≡ tables.table_of p starts ends
table_text p starts ends = schedule_text (viewed p) starts ends

by_rule : (name : List ℕ) (p : Plan) (v : View) → IsTableViewBy name p v → IsTableBy name p (plain_text v)
by_rule name p v is = record {
  starts = is.starts;
  schedule = is.schedule;
  shown = ap plain_text is.shown ∙ table_text p is.starts _;
}

chart_text : (p : Plan) (starts : List ℕ) (ends : ℕ) → plain_text (chart (chart_of p starts ends)) ≡ charts.chart_of p starts ends
chart_text p starts ends = chart_text_is (viewed p) starts ends

by_origin : (from : Origin) (p : Plan) (v : View) → IsChartViewFrom from p v → IsChartFrom from p (plain_text v)
by_origin from p v is = record {
  starts = is.starts;
  schedule = is.schedule;
  shown = ap plain_text is.shown ∙ chart_text p is.starts _;
}

case_bound : (b : Bool) → (lower makespan : ℕ) → nat_lt lower makespan ≡ b → lower ≤ makespan → IsBoundLine lower makespan (line_text (bound_line_of lower makespan))
case_bound true lower makespan test below =
    let less : lower < makespan = grind (arith, nat_tests, test) in
    inr (less, rw test refl)
case_bound false lower makespan test below =
    let same : lower ≡ makespan = grind (arith, nat_tests, test, below) in
    inl (same, rw test refl)

-- the line of a lower bound and a makespan
bound_line : (lower makespan : ℕ) → lower ≤ makespan → IsBoundLine lower makespan (line_text (bound_line_of lower makespan))
bound_line lower makespan below = case_bound (nat_lt lower makespan) lower makespan refl below

days_table : (style : Option (Bor MomentStyle)) → (p : Plan) (starts : List ℕ) (c : Workdays) (t : Table) → AreDaysOf style p starts c t
    → IsDaysTable style p starts c (text_of t)
days_table None p starts c t are = calendar_text c (viewed p) starts t are
days_table (Some style) p starts c t are = (t, are, refl)

days_text : (style : Option (Bor MomentStyle)) (p : Plan) (starts : List ℕ) (c : Workdays) (v : View) → ShowsDaysOf style p starts c v
    → IsDaysTable style p starts c (plain_text v)
days_text style p starts c v (days, are, shown) =
    subst (λ (bytes : List ℕ). IsDaysTable style p starts c bytes) (sym (ap plain_text shown)) (days_table style p starts c days are)

by_dates : (from : Origin) (dates : Dates) (style : Option (Bor MomentStyle)) (p : Plan) (v : View) → IsDaysViewFrom from dates style p v
    → IsDaysFrom from dates style p (plain_text v)
by_dates from dates style p v is = record {
  starts = is.starts;
  schedule = is.schedule;
  shown = (is.calendar, is.dated, days_text style p is.starts is.calendar v is.shown);
}

verdict_text : (sentence : List ℕ) → text_of (verdict_view_of sentence) ≡ sentence ++ codes "\n"
verdict_text sentence = lines_text_of (codes "verdict") (sentence ∷ []) ∙ append-nil (sentence ++ codes "\n")

by_verdict : (listed : List ℕ) (p : Plan) (v : View) → IsVerdictView listed p v → TellsVerdictOn listed p (plain_text v)
by_verdict listed p v is = (
  is.starts,
  is.said,
  record {
    verdict = is.verdict;
    first = is.first;
    told = ap plain_text is.shown ∙ verdict_text (sentence_of p is.verdict);
  },
)

by_slack : (ids : List Name) (listed : List ℕ) (i : Planned) (v : View) → IsSlackViewOf ids listed i v → IsSlackOf ids listed i (plain_text v)
by_slack ids listed i v is = (
  is.starts,
  is.said,
  subst (λ (bytes : List ℕ). IsSlackText i is.starts bytes) (sym (ap plain_text is.shown)) (slack_text i is.starts is.slacks is.are),
)

compares : (p : Plan) (a b : List ℕ) (t : Table) → ComparesIn p a b t → Compares p a b (text_of t)
compares p a b t is = comparison_text (viewed p) a b t is

by_pair : (first second : List ℕ) (p : Plan) (v : View) → IsComparedView first second p v → IsCompared first second p (plain_text v)
by_pair first second p v (a, said_a, (b, said_b, (t, is, shown))) =
    (a, said_a, (b, said_b, subst (λ (bytes : List ℕ). Compares p a b bytes) (sym (ap plain_text shown)) (compares p a b t is)))

kind_text : (k : Kind) (makespan : ℕ) → line_text (kind_line_of k makespan) ≡ best.kind_line k makespan
kind_text kind.Optimal makespan = refl
kind_text kind.Budget makespan = refl

best_text : (p : plans.Plan) (solved : Solved) → text_of (best_view_of p solved) ≡ best_text_of p solved
best_text p solved =
    let made = schedule_view_of p solved.schedule.starts.items solved.schedule.makespan in
    bound_text (kind_line_of solved.kind solved.schedule.makespan) made
    ∙ ap (λ bytes. bytes ++ text_of made) (kind_text solved.kind solved.schedule.makespan)
    ∙ ap (λ bytes. best.kind_line solved.kind solved.schedule.makespan ++ bytes) (schedule_text p solved.schedule.starts.items solved.schedule.makespan)

by_budget : (argument : List ℕ) (p : Plan) (v : View) → IsBestViewOf argument p v → IsBestOf argument p (plain_text v)
by_budget argument (plan.Project i ids) v (budget, spelled, is) = (
  budget,
  spelled,
  record {
    solved = is.solved;
    solution = is.solution;
    shortest = is.shortest;
    active = is.active;
    makespan = is.makespan;
    shown = ap plain_text is.shown ∙ best_text (plans.project i) is.solved;
  },
)
by_budget argument (plan.Shop s) v (budget, spelled, is) = (
  budget,
  spelled,
  record {
    solved = is.solved;
    solution = is.solution;
    shortest = is.shortest;
    active = is.active;
    makespan = is.makespan;
    shown = ap plain_text is.shown ∙ best_text (plans.shop s) is.solved;
  },
)

bounded_text : (p : Plan) (lower : ℕ) (starts : List ℕ) (ends : ℕ)
    → text_of (bounded_of p lower starts ends) ≡ line_text (bound_line_of lower ends) ++ tables.table_of p starts ends
bounded_text p lower starts ends =
    bound_text (bound_line_of lower ends) (schedule_of p starts ends)
    ∙ ap (λ bytes. line_text (bound_line_of lower ends) ++ bytes) (table_text p starts ends)

by_solver : (p : Plan) (v : View) → IsSolvedViewBy p v → IsSolvedBy p (plain_text v)
by_solver p v is = record {
  starts = is.starts;
  ends = is.ends;
  lower = is.lower;
  active = is.active;
  makespan = is.makespan;
  bound = is.bound;
  shortest = is.shortest;
  shown = (line_text (bound_line_of is.lower is.ends), bound_line is.lower is.ends is.below, ap plain_text is.shown ∙ bounded_text p is.lower is.starts is.ends);
}

by_proof : (nodes : ℕ) (s : JobShop) (v : View) → IsProvedViewOf nodes s v → IsProvedOf nodes s (plain_text v)
by_proof nodes s v is = record {
  proof = is.proof;
  active = is.active;
  makespan = is.makespan;
  lower = is.lower;
  visited = is.visited;
  shortest = is.shortest;
  shown = (
    line_text (bound_line_of is.proof.lower is.proof.schedule.makespan),
    bound_line is.proof.lower is.proof.schedule.makespan is.below,
    ap plain_text is.shown ∙ bounded_text (plan.Shop s) is.proof.lower is.proof.schedule.starts.items is.proof.schedule.makespan,
  );
}

-- a relation of plans and values gives one of plans and texts
of_subject : (who : Subject) (IsValue : Plan → View → Type 0) (IsText : Plan → List ℕ → Type 0) (file : List ℕ) (v : View)
    → ((p : Plan) → IsValue p v → IsText p (plain_text v)) → IsOfSubject who IsValue file v → IsOfSubject who IsText file (plain_text v)
of_subject (subject.Project given) IsValue IsText file v each (p, said, (capacities, replaced, (fit, is))) = (p, said, (capacities, replaced, (fit, each _ is)))
of_subject (subject.Shop instance) IsValue IsText file v each (doc, said, is) = (doc, said, each _ is)

by_plans : (first second : List ℕ) (after before : Plan) (v : View) → IsPlansView first second after before v
    → ArePlansCompared first second after before (plain_text v)
by_plans first second after before v (t, is, shown) = (t, is, ap plain_text shown)

by_lists : (who : Subject) (old first second : List ℕ) (after : Plan) (v : View) → IsListsView who old first second after v
    → AreListsCompared who old first second after (plain_text v)
by_lists who old first second after v (kind, s, bytes, is, made) = (
  kind,
  s,
  bytes,
  is,
  of_subject s (IsPlansView first second after) (ArePlansCompared first second after) bytes v (λ before. by_plans first second after before v) made,
)

-- the text of what a task shows is its text
pub view_text : (t : Task) (file : List ℕ) (v : View) → IsViewOf t file v → IsTextOf t file (plain_text v)
view_text task.Dates file v (p, said, (dates, are, shown)) = (p, said, (dates, are, ap plain_text shown ∙ date_text p.network dates))
view_text (task.Schedule rule who) file v is = of_subject who (IsTableViewBy rule.now) (IsTableBy rule.now) file v (λ p. by_rule rule.now p v) is
view_text (task.Chart from who) file v is = of_subject who (IsChartViewFrom from) (IsChartFrom from) file v (λ p. by_origin from p v) is
view_text (task.Days from dates style who) file v is = of_subject who (IsDaysViewFrom from dates style) (IsDaysFrom from dates style) file v (λ p. by_dates from dates style p v) is
view_text task.Names file v (plain, shown) = (plain, ap plain_text shown ∙ lines_text_of (codes "name") (names_of file))
view_text (task.Check starts who) file v is = of_subject who (IsVerdictView starts.now) (TellsVerdictOn starts.now) file v (λ p. by_verdict starts.now p v) is
view_text (task.Slack starts given) file v (p, said, (capacities, replaced, is)) = (p, said, (capacities, replaced, by_slack (ids_in file) starts.now _ v is))
view_text (task.Compare starts who) file v is =
    of_subject who (IsComparedView starts.a.now starts.b.now) (IsCompared starts.a.now starts.b.now) file v (λ p. by_pair starts.a.now starts.b.now p v) is
view_text (task.CompareLists old starts who) file v is =
    of_subject who (IsListsView who old.now starts.a.now starts.b.now) (AreListsCompared who old.now starts.a.now starts.b.now) file v
    (λ p. by_lists who old.now starts.a.now starts.b.now p v) is
view_text (task.Best budget who) file v is = of_subject who (IsBestViewOf budget.now) (IsBestOf budget.now) file v (λ p. by_budget budget.now p v) is
view_text (task.Prove nodes instance) file v (doc, said, (limit, spelled, is)) = (doc, said, (limit, spelled, by_proof limit _ v is))
view_text (task.Solve conflicts who) file v is = of_subject who IsSolvedViewBy IsSolvedBy file v (λ p. by_solver p v) is
view_text (task.Import given) file v (bytes, is, shown) = subst (IsImport (map override_of given.now) file) (sym (ap plain_text shown)) is
view_text task.ImportShop file v (bytes, is, shown) = subst (IsShopImport file) (sym (ap plain_text shown)) is
view_text (task.List from dates who options) file v (bytes, is, shown) =
    subst (IsTimedList from dates who options file) (sym (ap plain_text shown)) is
