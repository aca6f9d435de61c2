use Rattle.std.proofs.Common.{rules, IfErr, ◌∙◌, ap}
use Rattle.plan_orlib.proofs.NameLemmas.{mapped}
use Rattle.plan_io.proofs.SentLemmas.{mapped_ok}
use Rattle.plan_shop.proofs.ShopBasics.{count_is}
use Rattle.plan_exact.specs.Solutions.{RefusesSolving}
use Rattle.plan_errors.specs.Output.{Refuses}
use Rattle.plan_cli.specs.BestRun.{TellsSolving, TellsSolvingRefusal}
use Rattle.plan_documents.proofs.ErrorLemmas.{if_was_ok}
use Rattle.plan_cli.proofs.SearchLemmas.{shop_refused}
use Rattle.plan_cli.specs.Views.{table}
use Rattle.plan_cli.proofs.solutions.solved_shop.Goals as goal

pub best_view-requires-clause-starts : goal.best_view-requires-clause-starts
best_view-requires-clause-starts c =
    let found = c.solve_shop.result in
    let solved = c.in_ok-solved.solved in
    let was = mapped_ok found c.map_err.result solved _ c.map_err.ensures.cases c.in_ok-solved.was in
    let active = if_was_ok found solved _ was c.solve_shop.ensures.active in
    active.feasible.each_started ∙ count_is c.args.shop.now

pub returns-clause-made : goal.returns-clause-made
returns-clause-made c =
    let found = c.solve_shop.result in
    let solved = c.in_ok-solved.solved in
    let was = mapped_ok found c.map_err.result solved _ c.map_err.ensures.cases c.in_ok-solved.was in
    let e = c.solve_shop.ensures in
    record {
      solved = solved;
      solution = if_was_ok found solved _ was e.solution;
      shortest = if_was_ok found solved _ was e.shortest;
      active = if_was_ok found solved _ was e.active;
      makespan = if_was_ok found solved _ was e.makespan;
      shown = ap table c.in_ok-best_view.ensures.value;
    }

pub returns-in_err-solved-clause-refused : goal.returns-in_err-solved-clause-refused
returns-in_err-solved-clause-refused c =
    let s = c.args.shop.now in
    let budget = c.args.budget in
    let told = mapped c.solve_shop.result c.map_err.result _ (λ told. IfErr told (Refuses (TellsSolvingRefusal budget s)))
    c.map_err.ensures.cases (λ solved is. tt)
    (λ first e is learnt.
    let refused : RefusesSolving s budget first = search rules in
    let tells : Refuses (TellsSolving first) e = search rules in
    shop_refused budget s first e refused tells) in
    search rules
