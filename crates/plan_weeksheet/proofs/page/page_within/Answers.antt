use Rattle.std.proofs.Common.{◌∙◌, map}
use Rattle.plan_weeksheet.specs.Rectangles.{rectangle_of}
use Rattle.plan_weeksheet.proofs.WithinLemmas.{count_drawn, few_within, fit_drawn, limit_drawn, small_within}
use Rattle.plan_weeksheet.proofs.page.page_within.Goals as goal

pub project_of_all-requires-clause-few : goal.project_of_all-requires-clause-few
project_of_all-requires-clause-few c = few_within c.args.capacities.now (map rectangle_of c.args.rectangles.now) c.args.makespan c.requires

pub project_of_all-requires-clause-small : goal.project_of_all-requires-clause-small
project_of_all-requires-clause-small c = small_within c.args.capacities.now (map rectangle_of c.args.rectangles.now) c.args.makespan c.requires

pub project_page-requires-clause-fit : goal.project_page-requires-clause-fit
project_page-requires-clause-fit c =
    fit_drawn c.args.capacities.now (map rectangle_of c.args.rectangles.now) c.args.makespan c.in_ok-project.project c.deref.result.now c.deref-2.result.now
    (record {
      project = c.in_ok-project.ensures.project;
      available_are = c.deref.ensures.value ∙ c.in_ok-available.ensures;
      starts_are = c.deref-2.ensures.value ∙ c.in_ok-starts.ensures;
    })

pub project_page-requires-clause-starts : goal.project_page-requires-clause-starts
project_page-requires-clause-starts c =
    count_drawn c.args.capacities.now (map rectangle_of c.args.rectangles.now) c.args.makespan c.in_ok-project.project c.deref.result.now c.deref-2.result.now
    (record {
      project = c.in_ok-project.ensures.project;
      available_are = c.deref.ensures.value ∙ c.in_ok-available.ensures;
      starts_are = c.deref-2.ensures.value ∙ c.in_ok-starts.ensures;
    })

pub project_page-requires-clause-limit : goal.project_page-requires-clause-limit
project_page-requires-clause-limit c =
    limit_drawn c.args.capacities.now (map rectangle_of c.args.rectangles.now) c.args.makespan c.in_ok-project.project c.deref.result.now c.deref-2.result.now
    (record {
      project = c.in_ok-project.ensures.project;
      available_are = c.deref.ensures.value ∙ c.in_ok-available.ensures;
      starts_are = c.deref-2.ensures.value ∙ c.in_ok-starts.ensures;
    }) c.requires
