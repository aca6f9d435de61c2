use Rattle.std.proofs.Common.{rules, ◌≡◌}
use Rattle.plan_psplib.specs.declared.text.fault.FileCode.TheVariants as file
use Rattle.plan_documents.proofs.RefusalLemmas.{file_refused}
use Rattle.plan_documents.proofs.refusals.plain_refusal.Goals as goal

pub returns-clause-told : goal.returns-clause-told
returns-clause-told c =
    let named : c.args.fault.now.code ≡ file.Memory → ⊥ = search rules in
    file_refused c.args.fault.now c.file_code.result _ c.place_parts.result c.refuse.result named c.file_code.ensures c.place_parts.ensures c.refuse.ensures.made c.refuse.ensures.memory
