use Rattle.std.proofs.Common.{◌≡◌, ◌-◌, ◌<◌, ◌∙◌, ap, length, arith}
use Rattle.std.proofs.lemmas.List.{take_rest, length-drop}
use Rattle.plan_http.proofs.ClientLemmas.{reads_fill}
use Rattle.plan_http.proofs.head.fill.Goals as goal

pub returns-clause-bytes : goal.returns-clause-bytes
returns-clause-bytes g c =
    let room : length c.read.new.buf ≡ length c.args.buf.now - c.args.filled = c.read.auto.buf ∙ ap length (take_rest c.args.buf.now c.args.filled) ∙ length-drop c.args.filled c.args.buf.now in
    let some : 0 < length c.read.new.buf = omega arith in
    reads_fill (g.R.Client.known c.args.reader.now) (g.R.Client.known c.read.new.self) c.args.buf.now c.read.new.buf c.args.filled
    (length c.args.buf.now - c.args.filled) c.read.result (omega arith) some c.read.ensures.within c.read.ensures.heard
