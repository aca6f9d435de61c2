use Rattle.std.proofs.Common.{◌<◌, ap, sym, ◌∙◌, subst, bytes_eq, codes, length}
use Rattle.plan_http.specs.Head.{after_head}
use Rattle.plan_http.proofs.ClientLemmas.{reads_map}
use Rattle.plan_http.proofs.JudgingLemmas.{after_split, short_told, request_told, may_want}
use Rattle.plan_http.proofs.request.accept.Goals as goal

pub returns-in-Read-clause-asked : goal.returns-in-Read-clause-asked
returns-in-Read-clause-asked g c =
    reads_map (g.R.Client.known c.args.reader.now) (g.R.Client.known c.read_body.new.reader) c.in-Read.ensures.body (λ had left read bytes h begins at s on.
    let after = after_split bytes c.args.front.now had h c.args.spans.now.len s c.requires.within.section.len_fits at.len in
    let outcome = read (after_head bytes h) after in
    request_told bytes h begins c.args.count c.args.route c.args.target.now c.in-Read.body.items c.whole_request.result on outcome.0 outcome.1
    (rw (sym at.fields) c.whole_request.ensures.made))

pub returns-in-Short-clause-asked : goal.returns-in-Short-clause-asked
returns-in-Short-clause-asked g c =
    reads_map (g.R.Client.known c.args.reader.now) (g.R.Client.known c.read_body.new.reader) c.in-Short.ensures.body (λ had left read bytes h begins at s on.
    let head = c.is_head.ensures ∙ ap (λ method. bytes_eq method (codes "HEAD")) at.method in
    let after = after_split bytes c.args.front.now had h c.args.spans.now.len s c.requires.within.section.len_fits at.len in
    let outcome = read (after_head bytes h) after in
    short_told bytes h begins c.is_head.result c.fails.result head on.passed.passes
    (subst (λ n. length (after_head bytes h) < n) on.passed.count_is outcome.0) c.fails.ensures)

pub returns-in-NoMemory-clause-asked : goal.returns-in-NoMemory-clause-asked
returns-in-NoMemory-clause-asked g c =
    reads_map (g.R.Client.known c.args.reader.now) (g.R.Client.known c.read_body.new.reader) c.read_body.ensures.body
    (λ had left read bytes h begins at s on. may_want bytes h begins c.args.count c.args.route c.args.target.now on)

pub returns-in-Failed-clause-asked : goal.returns-in-Failed-clause-asked
returns-in-Failed-clause-asked g c =
    reads_map (g.R.Client.known c.args.reader.now) (g.R.Client.known c.read_body.new.reader) c.read_body.ensures.body
    (λ had left read bytes h begins at s on. tt)
