use Rattle.std.proofs.Common.{None, false, ap, refl}
use Rattle.std.specs.Option.{option_map}
use Rattle.plan_desk.specs.Requests.{request_in}
use Rattle.plan_desk.specs.Replies.{reply_of}
use Rattle.plan_http.specs.Routes.{method_of}
use Rattle.plan_http.specs.Answers.{answered, failed, starved}
use Rattle.plan_http.proofs.ServingLemmas.{ends}
use Rattle.plan_http.proofs.CrashLemmas.{one_left}
use Rattle.plan_http.proofs.connection.serve_conn.Goals as goal

pub returns-in-Request-clause-ends : goal.returns-in-Request-clause-ends
returns-in-Request-clause-ends g c =
    ends g.B.Book.shelf c.args.office.now c.handle-reply.new.self (g.R.Client.known c.args.reader.now)
    (g.R.Client.known c.read_request.new.reader) (g.W.Sink.taken c.args.writer.now)
    (g.W.Sink.taken c.answer.new.writer) c.answer.result
    (answered (request_in c.in-Request.request) (reply_of c.handle-reply.result)) _ c.in-Request.ensures.asked c.handle-reply.ensures refl c.answer.ensures.responds

pub returns-in-Fails-clause-ends : goal.returns-in-Fails-clause-ends
returns-in-Fails-clause-ends g c =
    ends g.B.Book.shelf c.args.office.now c.args.office.now (g.R.Client.known c.args.reader.now)
    (g.R.Client.known c.read_request.new.reader) (g.W.Sink.taken c.args.writer.now)
    (g.W.Sink.taken c.answer-in-Fails.new.writer) c.answer-in-Fails.result
    (failed c.in-Fails.check (option_map method_of c.in-Fails.route) c.in-Fails.is_head) _ c.in-Fails.ensures.asked refl
    (ap (λ reply. record { reply = reply; allow = option_map method_of c.in-Fails.route; is_head = c.in-Fails.is_head }) c.check_reply.ensures) c.answer-in-Fails.ensures.responds

pub returns-in-NoMemory-clause-ends : goal.returns-in-NoMemory-clause-ends
returns-in-NoMemory-clause-ends g c =
    ends g.B.Book.shelf c.args.office.now c.args.office.now (g.R.Client.known c.args.reader.now)
    (g.R.Client.known c.read_request.new.reader) (g.W.Sink.taken c.args.writer.now)
    (g.W.Sink.taken c.answer-in-NoMemory.new.writer) c.answer-in-NoMemory.result
    starved _ c.in-NoMemory.ensures.asked refl
    (ap (λ reply. record { reply = reply; allow = None; is_head = false }) c.no_memory.ensures) c.answer-in-NoMemory.ensures.responds

pub returns-in-Request-clause-crash : goal.returns-in-Request-clause-crash
returns-in-Request-clause-crash g c honest left may =
    one_left g.B.Book.shelf (g.R.Client.known c.args.reader.now)
    (g.R.Client.known c.read_request.new.reader) c.args.office.now c.handle-reply.new.self
    (answered (request_in c.in-Request.request) (reply_of c.handle-reply.result))
    c.in-Request.ensures.asked c.handle-reply.ensures honest left may
