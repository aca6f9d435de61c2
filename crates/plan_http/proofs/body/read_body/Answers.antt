use Rattle.std.proofs.Common.{◌≡◌, ◌<◌, length, take, sym, ap, ◌∙◌, subst, false}
use Rattle.plan_http.specs.Pieces.{IsSplit}
use Rattle.plan_http.specs.BodyPieces.{RestOutcome}
use Rattle.plan_http.proofs.ClientLemmas.{reads_none, reads_map}
use Rattle.plan_http.proofs.BodyLemmas.{full, written_over, copied_whole}
use Rattle.plan_http.proofs.body.read_body.Goals as goal

pub returns-then-count-got-clause-body : goal.returns-then-count-got-clause-body
returns-then-count-got-clause-body g c =
    reads_none (g.R.Client.known c.args.reader.now) (λ had after s.
    copied_whole after c.args.got.now had c.args.count c.copy_of.result s c.if-count-got.true c.copy_of.ensures.body)

pub returns-in_default-clause-body : goal.returns-in_default-clause-body
returns-in_default-clause-body g c = reads_none (g.R.Client.known c.args.reader.now) (λ had after s. tt)

pub returns-in-Ok-true-clause-body : goal.returns-in-Ok-true-clause-body
returns-in-Ok-true-clause-body g c =
    reads_map (g.R.Client.known c.args.reader.now) (g.R.Client.known c.fill_up.new.reader) c.in-Ok-true.ensures.bytes (λ had left filled after s.
    let front : take (length c.args.got.now) c.deref_mut.result.now ≡ c.args.got.now =
    ap (take (length c.args.got.now)) c.deref_mut.ensures.value ∙ c.in-Ok.ensures.0 in
    let outcome = filled after (subst (λ xs. IsSplit after xs had) (sym front) s) in
    let same : length c.fill_up.new.body ≡ length c.in-Ok.body.items = c.fill_up.auto.body ∙ ap length c.deref_mut.ensures.value in
    let len : length c.fill_up.new.body ≡ c.args.count = same ∙ c.in-Ok.ensures.1 in
    let is : IsSplit after c.fill_up.new.body left = rw c.in-Ok-true.field-0-test at outcome in
    let whole = full after c.fill_up.new.body left c.args.count is len in
    let over = written_over c.fill_up.new.body c.in-Ok.body.items c.in-Ok.body.len same (sym c.deref_mut.ensures.len ∙ ap length c.deref_mut.ensures.value) in
    (whole.0, over ∙ whole.1, λ few. whole.2))

pub returns-in-Ok-false-clause-body : goal.returns-in-Ok-false-clause-body
returns-in-Ok-false-clause-body g c =
    reads_map (g.R.Client.known c.args.reader.now) (g.R.Client.known c.fill_up.new.reader) c.in-Ok-false.ensures.bytes (λ had left filled after s.
    let front : take (length c.args.got.now) c.deref_mut.result.now ≡ c.args.got.now =
    ap (take (length c.args.got.now)) c.deref_mut.ensures.value ∙ c.in-Ok.ensures.0 in
    let outcome = filled after (subst (λ xs. IsSplit after xs had) (sym front) s) in
    let same : length c.fill_up.new.body ≡ length c.in-Ok.body.items = c.fill_up.auto.body ∙ ap length c.deref_mut.ensures.value in
    let len : length c.fill_up.new.body ≡ c.args.count = same ∙ c.in-Ok.ensures.1 in
    let is : RestOutcome after c.fill_up.new.body left false = rw c.in-Ok-false.field-0-test at outcome in
    (subst (λ n. length after < n) len is.0, is.1))
