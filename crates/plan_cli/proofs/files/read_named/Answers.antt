use Rattle.std.proofs.Common.{List, ℕ, Option, sym, subst}
use Rattle.std.specs.Prelude.{IfOk}
use Rattle.plan_cli.specs.Tasks.{AreRead}
use Rattle.plan_cli.proofs.InputLemmas.{read_known, named_standard, named_file}
use Rattle.plan_cli.proofs.files.read_named.Goals as goal

pub returns-then-eq-clause-bytes : goal.returns-then-eq-clause-bytes
returns-then-eq-clause-bytes g c =
    let standard = g.I.Inputs.standard_bytes c.args.inputs.now in
    let file_of = g.I.Inputs.file_bytes c.args.inputs.now in
    subst (λ (k : Option (List ℕ)). IfOk c.read_file.result (λ read. AreRead read.items k)) (sym (named_standard standard file_of c.args.name.now (sym c.if-eq.ensures)))
    (read_known standard _ c.read_file.result c.standard.ensures c.read_file.ensures.bytes)

pub returns-clause-bytes : goal.returns-clause-bytes
returns-clause-bytes g c =
    let standard = g.I.Inputs.standard_bytes c.args.inputs.now in
    let file_of = g.I.Inputs.file_bytes c.args.inputs.now in
    subst (λ (k : Option (List ℕ)). IfOk c.read_file-2.result (λ read. AreRead read.items k)) (sym (named_file standard file_of c.args.name.now (sym c.if-eq.ensures)))
    (read_known (file_of c.args.name.now) _ c.read_file-2.result c.in_ok-open.ensures.opened c.read_file-2.ensures.bytes)
