use Rattle.std.proofs.Common.{refl, take, nat_eq}
use Rattle.plan_http.proofs.ClientLemmas.{reads_map, reads_then, of_bytes}
use Rattle.plan_http.proofs.JudgingLemmas.{head_missing}
use Rattle.plan_http.proofs.ReadingLemmas.{first_split, nothing_more}
use Rattle.plan_http.proofs.request.read_request.Goals as goal

pub returns-in_default-clause-asked : goal.returns-in_default-clause-asked
returns-in_default-clause-asked g c =
    of_bytes (g.R.Client.known c.args.reader.now) (g.R.Client.known c.fill.new.reader)
    (reads_map (g.R.Client.known c.args.reader.now) (g.R.Client.known c.fill.new.reader) c.fill.ensures.bytes (λ had left fill bytes is. tt))

pub returns-in-Whole-clause-asked : goal.returns-in-Whole-clause-asked
returns-in-Whole-clause-asked g c =
    of_bytes (g.R.Client.known c.args.reader.now) (g.R.Client.known c.behind_head.new.reader)
    (reads_then (g.R.Client.known c.args.reader.now) (g.R.Client.known c.fill.new.reader) (g.R.Client.known c.behind_head.new.reader)
    c.in-Ok.ensures.bytes c.behind_head.ensures.asked (λ had between left fill behind bytes is.
    let after = first_split bytes c.fill.new.buf had between c.in-Ok.came is fill in
    let front = take c.in-Ok.came c.fill.new.buf in
    let none = nothing_more bytes front between after.0 (nat_eq c.in-Ok.came 0) c.in-Ok.came refl after.1 in
    let found = c.in-Whole.ensures.judged bytes after.0.more after.0.whole none in
    behind bytes found.head found.begins found.at after.0))

pub returns-in-Hopeless-clause-asked : goal.returns-in-Hopeless-clause-asked
returns-in-Hopeless-clause-asked g c =
    of_bytes (g.R.Client.known c.args.reader.now) (g.R.Client.known c.fill.new.reader)
    (reads_map (g.R.Client.known c.args.reader.now) (g.R.Client.known c.fill.new.reader) c.in-Ok.ensures.bytes
    (λ had left fill bytes is.
    let after = first_split bytes c.fill.new.buf had left c.in-Ok.came is fill in
    let front = take c.in-Ok.came c.fill.new.buf in
    let none = nothing_more bytes front left after.0 (nat_eq c.in-Ok.came 0) c.in-Ok.came refl after.1 in
    rw c.fails.ensures (head_missing bytes (c.in-Hopeless.ensures.judged bytes after.0.more after.0.whole none))))

pub returns-in-Unfinished-clause-asked : goal.returns-in-Unfinished-clause-asked
returns-in-Unfinished-clause-asked g c =
    of_bytes (g.R.Client.known c.args.reader.now) (g.R.Client.known c.behind_front.new.reader)
    (reads_then (g.R.Client.known c.args.reader.now) (g.R.Client.known c.fill.new.reader) (g.R.Client.known c.behind_front.new.reader)
    c.in-Ok.ensures.bytes c.behind_front.ensures.asked (λ had between left fill behind bytes is.
    behind bytes (first_split bytes c.fill.new.buf had between c.in-Ok.came is fill).0))
