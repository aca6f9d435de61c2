use Rattle.std.proofs.Common.{List, ℕ, sym, subst}
use Rattle.plan_errors.specs.ExplainRun.{TellsNoCode}
use Rattle.plan_cli.specs.ExplainedText.{ExplainsIn}
use Rattle.plan_cli.proofs.RunLemmas.{sent_writes}
use Rattle.plan_cli.proofs.explanations.explain_run_in.Goals as goal

pub returns-clause-text : goal.returns-clause-text
returns-clause-text g c =
    let format = c.args.format in
    let line = c.args.line.now in
    let made = subst (λ (bytes : List ℕ). ExplainsIn format line bytes) (sym c.deref.ensures.value) c.in_ok-text.ensures.text in
    sent_writes (ExplainsIn format line) (TellsNoCode line) c.deref.result.now (g.W.Sink.taken c.args.writer.now)
    (g.W.Sink.taken c.write_text.new.writer) c.write_text.result made c.write_text.ensures.sent
