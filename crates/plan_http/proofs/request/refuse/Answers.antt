use Rattle.std.proofs.Common.{◌<◌, ◌≤◌, length, inl, inr, refl}
use Rattle.plan_http.proofs.ClientLemmas.{reads_map}
use Rattle.plan_http.proofs.BodyLemmas.{left_behind}
use Rattle.plan_http.proofs.request.refuse.Goals as goal

pub returns-in-Ok-true-clause-refused : goal.returns-in-Ok-true-clause-refused
returns-in-Ok-true-clause-refused g c =
    reads_map (g.R.Client.known c.args.reader.now) (g.R.Client.known c.skip_body.new.reader) c.in-Ok-true.ensures.whole (λ had left skipped after s.
    let whole = skipped (length after) (left_behind after c.args.got.now had s) in
    let long : c.args.count ≤ length after = rw c.in-Ok-true.field-0-test at whole in
    inl (refl, refl, refl, long))

pub returns-in-Ok-false-clause-refused : goal.returns-in-Ok-false-clause-refused
returns-in-Ok-false-clause-refused g c =
    reads_map (g.R.Client.known c.args.reader.now) (g.R.Client.known c.skip_body.new.reader) c.in-Ok-false.ensures.whole (λ had left skipped after s.
    let whole = skipped (length after) (left_behind after c.args.got.now had s) in
    let short : length after < c.args.count = rw c.in-Ok-false.field-0-test at whole in
    rw c.fails.ensures (inr (refl, refl, refl, short)))

pub returns-in-Err-clause-refused : goal.returns-in-Err-clause-refused
returns-in-Err-clause-refused g c =
    reads_map (g.R.Client.known c.args.reader.now) (g.R.Client.known c.skip_body.new.reader) c.skip_body.ensures.whole (λ had left skipped after s. tt)
