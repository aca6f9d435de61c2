use Rattle.std.proofs.Common.{sym, subst}
use Rattle.plan_http.specs.Pieces.{IsSplit}
use Rattle.plan_http.proofs.ClientLemmas.{reads_map, reads_then}
use Rattle.plan_http.proofs.JudgingLemmas.{head_missing}
use Rattle.plan_http.proofs.request.behind_front.Goals as goal

pub returns-in-Found-clause-asked : goal.returns-in-Found-clause-asked
returns-in-Found-clause-asked g c =
    reads_then (g.R.Client.known c.args.reader.now) (g.R.Client.known c.read_head.new.reader) (g.R.Client.known c.behind_head.new.reader)
    c.in-Found.ensures.outcome c.behind_head.ensures.asked (λ had between left head behind bytes split.
    let outcome = head bytes (subst (λ front. IsSplit bytes front had) (sym c.copy_front.ensures.copied) split) in
    behind bytes outcome.0.head outcome.0.begins outcome.0.at outcome.1)

pub returns-in-Missing-clause-asked : goal.returns-in-Missing-clause-asked
returns-in-Missing-clause-asked g c =
    reads_map (g.R.Client.known c.args.reader.now) (g.R.Client.known c.read_head.new.reader) c.in-Missing.ensures.outcome
    (λ had left head bytes split. rw c.fails.ensures
    (head_missing bytes (head bytes (subst (λ front. IsSplit bytes front had) (sym c.copy_front.ensures.copied) split))))

pub returns-in-Failed-clause-asked : goal.returns-in-Failed-clause-asked
returns-in-Failed-clause-asked g c =
    reads_map (g.R.Client.known c.args.reader.now) (g.R.Client.known c.read_head.new.reader) c.read_head.ensures.outcome (λ had left head bytes split. tt)
