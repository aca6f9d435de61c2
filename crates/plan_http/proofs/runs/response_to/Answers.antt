use Rattle.std.proofs.Common.{◌≡◌, Some, false, ap, ◌∙◌}
use Rattle.plan_http.specs.Clients.{Known}
use Rattle.plan_http.proofs.ServingLemmas.{decided, replied}
use Rattle.plan_http.proofs.runs.response_to.Goals as goal

pub returns-in-Replied-clause-ok : goal.returns-in-Replied-clause-ok
returns-in-Replied-clause-ok g c =
    let s = c.in-Replied.ensures.ends in
    let still : c.new-client.result.is_ended ≡ false = ap (λ (known : Known). known.ended) c.new-client.ensures.known in
    replied c.args.conn.now c.into_bytes.result.items s s.responds.1
    (ap (λ (known : Known). known.left) c.new-client.ensures.known ∙ c.new.ensures.bytes) (λ ended. absurd cc)
    (c.new-sink.ensures.bytes ∙ ap Some c.new-2.ensures.items) c.into_bytes.ensures

pub returns-in-WriteFailed-clause-err : goal.returns-in-WriteFailed-clause-err
returns-in-WriteFailed-clause-err g c =
    let still : c.new-client.result.is_ended ≡ false = ap (λ (known : Known). known.ended) c.new-client.ensures.known in
    decided c.args.conn.now c.in-WriteFailed.ensures.ends
    (ap (λ (known : Known). known.left) c.new-client.ensures.known ∙ c.new.ensures.bytes) (λ ended. absurd cc)
