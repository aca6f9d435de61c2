use Rattle.std.proofs.Common.{ap, sym, ◌∙◌, bytes_eq, codes}
use Rattle.plan_http.specs.Checks.{first_failing}
use Rattle.plan_http.proofs.ClientLemmas.{reads_none, reads_map}
use Rattle.plan_http.proofs.JudgingLemmas.{checks_at, length_at, head_told}
use Rattle.plan_http.proofs.request.behind_head.Goals as goal

pub returns-in-Err-clause-asked : goal.returns-in-Err-clause-asked
returns-in-Err-clause-asked g c =
    reads_none (g.R.Client.known c.args.reader.now) (λ had bytes h begins at s.
    let checks = checks_at c.args.front.now c.args.headers.now c.args.spans.now h at in
    let head = c.is_head.ensures ∙ ap (λ method. bytes_eq method (codes "HEAD")) at.method in
    head_told bytes h begins c.is_head.result c.fails.result c.in-Err.check head (ap first_failing (sym checks) ∙ c.in-Err.ensures) c.fails.ensures)

pub returns-in-Ok-clause-asked : goal.returns-in-Ok-clause-asked
returns-in-Ok-clause-asked g c =
    reads_map (g.R.Client.known c.args.reader.now) (g.R.Client.known c.on_target.new.reader) c.on_target.ensures.asked (λ had left on bytes h begins at s.
    let checks = checks_at c.args.front.now c.args.headers.now c.args.spans.now h at in
    on bytes h begins at s (record {
      passes = ap first_failing (sym checks) ∙ c.in-Ok.ensures.0;
      count_is = c.in-Ok.ensures.1 ∙ length_at c.args.front.now c.args.headers.now c.args.spans.now h at;
    }))
