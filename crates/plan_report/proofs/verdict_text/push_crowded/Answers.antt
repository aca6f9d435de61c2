use Rattle.std.proofs.Common.{◌-◌, ap}
use Rattle.std.specs.Prelude.{codes, string_bytes}
use Rattle.std.specs.Fmt.{decimal}
use Rattle.std.proofs.lemmas.Result.{on_ok_weaker}
use Rattle.plan_report.proofs.SentenceLemmas.{four_parts}
use Rattle.plan_report.proofs.verdict_text.push_crowded.Goals as goal

pub returns : goal.returns
returns c =
    on_ok_weaker c.write-2.result (λ second.
    four_parts (string_bytes c.args.text.now) (string_bytes c.write.new.self) (string_bytes c.write-2.new.self)
    (codes "at time ") (decimal c.args.t) (codes " more than one step is on machine ") (decimal c.saturating_sub-machine.result) (decimal (c.args.k - 1))
    c.in_ok-write.ensures.bytes second (ap decimal c.saturating_sub-machine.ensures)) c.write-2.ensures.bytes
