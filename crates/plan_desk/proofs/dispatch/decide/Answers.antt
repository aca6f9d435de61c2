use Rattle.std.proofs.Common.{sym, subst, []}
use Rattle.plan_rows.specs.Views.{view}
use Rattle.plan_desk.specs.Outcomes.{tells}
use Rattle.plan_desk.specs.JsonTexts.{codes_text}
use Rattle.plan_desk.specs.Decisions.{Answers}
use Rattle.plan_desk.specs.OfficeRoutes.{Publishes}
use Rattle.plan_desk.specs.BookSteps.{Finds, IsDecided}
use Rattle.plan_desk.specs.Requests.{call_in, path_of, subject_of}
use Rattle.plan_desk.proofs.dispatch.decide.Goals as goal

pub returns-in-Publish : goal.returns-in-Publish
returns-in-Publish g c =
    subst (λ call. Finds g.B.Book.shelf c.args.book.now c.publish_code.new.book
    (λ w. IsDecided (path_of (call_in call)) (subject_of (call_in call)) (λ v. Answers v (call_in call)) (view (subject_of (call_in call)) w)) c.publish_code.result)
    (sym c.in-Publish.is)
    (subst (λ body. Finds g.B.Book.shelf c.args.book.now c.publish_code.new.book (λ w. IsDecided [] [] (λ v. Publishes v.published body) (view [] w)) c.publish_code.result)
    c.deref.ensures.value c.publish_code.ensures)

pub returns-in-Capacities : goal.returns-in-Capacities
returns-in-Capacities g c =
    subst (λ call. Finds g.B.Book.shelf c.args.book.now c.list_codes.new.book
    (λ w. IsDecided (path_of (call_in call)) (subject_of (call_in call)) (λ v. Answers v (call_in call)) (view (subject_of (call_in call)) w)) c.list_codes.result)
    (sym c.in-Capacities.is)
    (subst (λ desk. Finds g.B.Book.shelf c.args.book.now c.list_codes.new.book
    (λ w. IsDecided desk desk (λ v. tells (codes_text v.published)) (view desk w)) c.list_codes.result)
    c.as_str-in-Capacities.ensures.value c.list_codes.ensures)
