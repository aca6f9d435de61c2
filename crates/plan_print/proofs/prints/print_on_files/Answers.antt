use Rattle.std.proofs.Common.{None}
use Rattle.plan_cli.specs.Tasks.{bytes_named}
use Rattle.plan_print.proofs.PrintLemmas.{prints_same, none_named}
use Rattle.plan_print.proofs.prints.print_on_files.Goals as goal

pub returns-clause-does : goal.returns-clause-does
returns-clause-does g c =
    prints_same (bytes_named None (λ _. None)) (λ _. None) none_named c.args.print (g.W.Sink.taken c.args.writer.now)
    (g.W.Sink.taken c.print_on_named.new.writer) c.print_on_named.result c.print_on_named.ensures.does
