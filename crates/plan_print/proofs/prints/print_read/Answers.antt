use Rattle.std.proofs.Common.{sym, subst}
use Rattle.plan_cli.proofs.RunLemmas.{sent_writes}
use Rattle.plan_print.specs.Prints.{IsSheetPrepared, RefusesSheetPrepared}
use Rattle.plan_print.proofs.prints.print_read.Goals as goal

pub returns-clause-does : goal.returns-clause-does
returns-clause-does g c =
    let made = subst (IsSheetPrepared c.args.options c.args.sheet c.args.subject c.args.origin c.args.file.now) (sym c.as_bytes.ensures.value) c.in_ok-text.ensures.made in
    sent_writes (IsSheetPrepared c.args.options c.args.sheet c.args.subject c.args.origin c.args.file.now) (RefusesSheetPrepared c.args.options c.args.sheet c.args.subject c.args.origin c.args.file.now)
    c.as_bytes.result.now (g.W.Sink.taken c.args.writer.now) (g.W.Sink.taken c.write_text.new.writer) c.write_text.result made c.write_text.ensures.sent
