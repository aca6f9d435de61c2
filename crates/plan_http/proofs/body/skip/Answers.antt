use Rattle.plan_http.proofs.ClientLemmas.{reads_map}
use Rattle.plan_http.proofs.BodyLemmas.{skipped}
use Rattle.plan_http.proofs.body.skip.Goals as goal

pub returns-clause-bytes : goal.returns-clause-bytes
returns-clause-bytes g c =
    reads_map (g.R.Client.known c.args.reader.now) (g.R.Client.known c.fill.new.reader) c.fill.ensures.bytes
    (λ had left fill. skipped c.args.piece.now c.fill.new.buf had left c.fill.result c.fill.ensures.within fill)
