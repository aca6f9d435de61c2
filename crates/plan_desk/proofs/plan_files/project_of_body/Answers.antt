use Rattle.std.proofs.Common.{rules, ◌≡◌, ◌⊎◌, IfErr}
use Rattle.plan_psplib.specs.Faults.{IsWantOfMemory}
use Rattle.plan_psplib.specs.Project as files
use Rattle.plan_orlib.proofs.NameLemmas.{mapped}
use Rattle.plan_rows.specs.declared.fault.BookFault.TheVariants.{Store}
use Rattle.plan_desk.proofs.FileLemmas.{refused_for_memory}
use Rattle.plan_desk.proofs.plan_files.project_of_body.Goals as goal

pub returns-clause-blamed : goal.returns-clause-blamed
returns-clause-blamed c =
    let body = c.args.body.now in
    let refused = c.read_sm.ensures.refused in
    mapped c.read_sm.result c.map_err.result _
    (λ told. IfErr told (λ fault. fault ≡ Store → (p : files.Project) → files.SaysProject body p → ⊥))
    c.map_err.ensures.cases (λ project is. tt)
    (λ first fault is learnt. λ blamed p says.
    let failing : IsWantOfMemory first ⊎ files.IsFirstFailing body first = search rules in
    let sound : fault ≡ Store → IsWantOfMemory first → ⊥ = search rules in
    sound blamed (refused_for_memory body p first says failing))
