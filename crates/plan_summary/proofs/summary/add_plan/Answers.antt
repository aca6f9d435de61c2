use Rattle.std.proofs.Common.{sym, subst, find}
use Rattle.plan_rows.specs.Books.{Matches, IsPlanAnswer}
use Rattle.plan_rows.specs.Plans.{has_number}
use Rattle.plan_rows.specs.Views.{view}
use Rattle.plan_desk.proofs.DecidingLemmas.{quiet_reads}
use Rattle.plan_summary.specs.Digests.{Takes}
use Rattle.plan_summary.proofs.SummaryLemmas.{line_there}
use Rattle.plan_summary.proofs.summary.add_plan.Goals as goal

pub returns-in_ok-add_row-in-Some : goal.returns-in_ok-add_row-in-Some
returns-in_ok-add_row-in-Some g c =
    let desk = c.as_str.result.now in
    let n = c.args.key.now.n in
    let seen = view desk (g.B.Book.shelf.world c.args.book.now) in record {
      quiet = quiet_reads g.B.Book.shelf c.args.book.now c.plan.new.self _ (Matches (IsPlanAnswer seen) (find (has_number n) seen.plans)) c.in_ok-plan.ensures;
      found = λ h s.
          let answer = c.in_ok-plan.ensures.answer h in (
            answer.0,
            subst (Takes c.args.hasher.now c.add_row.new.hasher)
                (sym (line_there (g.B.Book.shelf.world c.args.book.now) c.args.key.now c.in-Some.plan desk c.as_str.ensures.value
                (subst (Matches (IsPlanAnswer seen) (find (has_number n) seen.plans)) c.in-Some.is answer.1))) c.in_ok-add_row-in-Some.ensures,
          );
    }
