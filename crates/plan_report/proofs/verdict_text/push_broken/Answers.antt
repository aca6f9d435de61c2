use Rattle.std.specs.Prelude.{◌++◌, codes, string_bytes}
use Rattle.std.specs.Fmt.{decimal}
use Rattle.std.proofs.lemmas.Result.{on_ok_weaker}
use Rattle.plan_report.proofs.SentenceLemmas.{five_parts, written}
use Rattle.plan_report.proofs.verdict_text.push_broken.Goals as goal

pub returns : goal.returns
returns c =
    on_ok_weaker c.push_str.result (λ third.
    five_parts (string_bytes c.args.text.now) (string_bytes c.write.new.self) (string_bytes c.write-2.new.self) (string_bytes c.push_str.new.self)
    (codes "activity ") (decimal c.args.activity) (codes " starts before ") (decimal c.args.predecessor) (codes " ends")
    c.in_ok-write.ensures.bytes c.in_ok-write-2.ensures.bytes third)
    (written c.push_str.result (string_bytes c.push_str.new.self) (string_bytes c.write-2.new.self ++ codes " ends") (string_bytes c.write-2.new.self) c.push_str.ensures.bytes)
