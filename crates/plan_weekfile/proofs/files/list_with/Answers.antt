use Rattle.plan_weekfile.proofs.FileLemmas.{no_file}
use Rattle.plan_weekfile.proofs.files.list_with.Goals as goal

pub returns-in-Err-clause-refused : goal.returns-in-Err-clause-refused
returns-in-Err-clause-refused c =
    no_file c.args.options.now c.args.file.now c.in-Err.fault c.options_refusal.result
    c.in-Err.ensures.refused c.options_refusal.ensures
