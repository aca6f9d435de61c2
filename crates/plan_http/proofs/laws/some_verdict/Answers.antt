use Rattle.std.proofs.Common.{ap, ◌∙◌, refl}
use Rattle.plan_http.proofs.ClientLemmas.{reads_known, still_open}
use Rattle.plan_http.specs.Clients.{Known}
use Rattle.plan_http.proofs.LawLemmas.{spelled}
use Rattle.plan_http.proofs.laws.some_verdict.Goals as goal

pub returns : goal.returns
returns c =
    let known = reads_known c.args.bytes.now c.read_head.ensures.outcome (ap (λ (known : Known). known.left) c.new-client.ensures.known ∙ c.new.ensures.bytes)
    (λ ended. still_open c.new-client.result.is_ended (ap (λ (known : Known). known.ended) c.new-client.ensures.known) ended) in
    spelled c.args.bytes.now known.0 c.read_head.new.buf c.read_head.new.headers c.read_head.result (known.1 c.args.bytes.now (record { more = c.args.bytes.now; left_is = refl; whole = refl })) c.read_head.ensures.faults
