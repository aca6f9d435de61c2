use Rattle.std.proofs.Common.{map, not, sym, ap, ◌∙◌, min}
use Rattle.httparse.specs.Spans.{header_bytes}
use Rattle.plan_http.specs.Fields.{values_of}
use Rattle.plan_http.proofs.LengthLemmas.{wrong_at, first_length}
use Rattle.plan_http.proofs.lengths.length_in.Goals as goal

pub returns-then-not-all_agree : goal.returns-then-not-all_agree
returns-then-not-all_agree c =
    let values = values_of c.args.name.now (map (header_bytes c.args.front.now) c.args.headers.now) in
    wrong_at values c.in-Some.ensures.0 c.in-Some.first.now c.in-Some.ensures.1
    ∙ ap not (sym c.all_agree.ensures ∙ c.if-not-all_agree.true)

pub returns : goal.returns
returns c =
    let values = values_of c.args.name.now (map (header_bytes c.args.front.now) c.args.headers.now) in (
      wrong_at values c.in-Some.ensures.0 c.in-Some.first.now c.in-Some.ensures.1
          ∙ ap not (sym c.all_agree.ensures ∙ c.if-not-all_agree.false),
      c.capped_value.ensures ∙ ap (λ n. min n 1048577) (sym (first_length values c.in-Some.ensures.0 c.in-Some.first.now c.in-Some.ensures.1)),
    )
