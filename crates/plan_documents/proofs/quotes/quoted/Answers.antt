use Rattle.std.proofs.Common.{◌≡◌, ◌∙◌, ◌++◌, List, ap, take, codes, arith}
use Rattle.plan_documents.proofs.QuoteLemmas.{long, short}
use Rattle.plan_documents.proofs.quotes.quoted.Goals as goal

pub returns-then-text-le-MOST_QUOTED : goal.returns-then-text-le-MOST_QUOTED
returns-then-text-le-MOST_QUOTED c = rw (short c.args.text.now c.if-text-le-MOST_QUOTED.true) c.to_string.ensures.ok

pub returns : goal.returns
returns c =
    let end = c.floor_char_boundary-end in
    let front : c.range.result.now ≡ take end.result c.args.text.now =
    c.range.ensures.value ∙ ap (λ n. take n c.args.text.now) (omega arith) in
    rw (long c.args.text.now end.result c.if-text-le-MOST_QUOTED.false (end.ensures.bound, end.ensures.boundary, end.ensures.nearest), ← front, ← c.in_ok-made.ensures.ok)
    c.in_ok-push_str.ensures.bytes
