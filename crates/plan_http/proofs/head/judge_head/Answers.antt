use Rattle.std.proofs.Common.{◌≡◌, ◌≤◌, length, inl, inr, arith}
use Rattle.plan_http.proofs.ReadingLemmas.{missing_by_end, missing_by_error, has_head}
use Rattle.plan_http.proofs.head.judge_head.Goals as goal

pub returns-then-is_end-clause-judged : goal.returns-then-is_end-clause-judged
returns-then-is_end-clause-judged c bytes more whole end =
    missing_by_end bytes c.args.front.now more whole c.requires.room (inl (end c.if-is_end.true)) (rw c.in-Partial.is at c.in-Ok.ensures.partial)

pub returns-then-front-eq-HEAD_LIMIT-clause-judged : goal.returns-then-front-eq-HEAD_LIMIT-clause-judged
returns-then-front-eq-HEAD_LIMIT-clause-judged c bytes more whole end =
    missing_by_end bytes c.args.front.now more whole c.requires.room (inr c.if-front-eq-HEAD_LIMIT.true) (rw c.in-Partial.is at c.in-Ok.ensures.partial)

pub returns-in-Complete-clause-judged : goal.returns-in-Complete-clause-judged
returns-in-Complete-clause-judged c bytes more whole end =
    let same : length c.parse_request.new.headers ≡ length c.args.headers.now = c.parse_request.auto.headers in
    let room : length c.parse_request.new.headers ≤ 64 = omega arith in
    has_head bytes c.args.front.now more c.parse_request.new.headers c.in-Complete.spans whole c.requires.room room (rw c.in-Complete.is at c.in-Ok.ensures.complete)

pub returns-in-Err-clause-judged : goal.returns-in-Err-clause-judged
returns-in-Err-clause-judged c bytes more whole end =
    missing_by_error bytes c.args.front.now more whole c.requires.room (rw c.requires.fields at c.in-Err.ensures.no_room)
