use Rattle.std.proofs.Common.{◌≡◌, ◌+◌, ◌++◌, ◌∙◌, length, ap, sym, refl}
use Rattle.httparse.specs.Grammar.{print_request}
use Rattle.plan_http.specs.Checks.{first_failing, head_checks}
use Rattle.plan_http.specs.Judges.{fields_of, length_of}
use Rattle.plan_http.proofs.JudgingLemmas.{checks_at, length_at}
use Rattle.plan_http.proofs.LawLemmas.{one_head}
use Rattle.plan_http.proofs.size.request_size.Goals as goal

pub returns-in-Whole-clause-size : goal.returns-in-Whole-clause-size
returns-in-Whole-clause-size c more h count begins passed =
    let bytes = c.args.front.now ++ more in
    let found = c.in-Whole.ensures.judged bytes more refl (λ no. absurd cc) in
    let same : found.head ≡ h = one_head bytes found.head h found.begins begins in
    let checks = checks_at c.args.front.now c.judge_head.new.headers c.in-Whole.spans found.head found.at in
    let passes = ap first_failing checks ∙ ap (λ g. first_failing (head_checks g.minor (fields_of g))) same ∙ passed.passes in
    let counted = length_at c.args.front.now c.judge_head.new.headers c.in-Whole.spans found.head found.at in
    let body = c.body_size-body.ensures.passed passes ∙ counted ∙ ap length_of same ∙ sym passed.count_is in
    let head = found.at.len ∙ ap (λ g. length (print_request g)) same in
    rw (head, body) refl

pub returns-in-Hopeless-clause-size : goal.returns-in-Hopeless-clause-size
returns-in-Hopeless-clause-size c more h count begins passed =
    absurd (c.in-Hopeless.ensures.judged (c.args.front.now ++ more) more refl (λ no. absurd cc) h begins)
