use Rattle.std.proofs.Common.{ℕ, ◌≤◌, List, length, sym, ◌∙◌, subst}
use Rattle.plan_psplib.specs.Project.{SaysProject}
use Rattle.plan_table.specs.Jobs.{project_of}
use Rattle.plan_table.specs.Names.{SaysIds, SaysNames}
use Rattle.plan_table.proofs.NameLemmas.{ids_said, names_said}
use Rattle.plan_table.proofs.TableTextLemmas.{table_said}
use Rattle.plan_table.proofs.sm.project_text.Goals as goal

pub returns-clause-says : goal.returns-clause-says
returns-clause-says c =
    let text = c.in_ok-text.ensures.text in
    let short = subst (λ (bytes : List ℕ). length bytes ≤ 1048576) (c.as_bytes.ensures.value ∙ text) c.if-as_bytes-gt-LONGEST_TEXT.false in
    subst (λ (bytes : List ℕ). SaysProject bytes (project_of c.args.table.now)) (sym text)
    (table_said c.args.table.now c.written.ensures.table short)

pub returns-clause-names : goal.returns-clause-names
returns-clause-names c =
    subst (λ (bytes : List ℕ). SaysNames bytes c.args.table.now) (sym c.in_ok-text.ensures.text) (names_said c.args.table.now c.written.ensures.table)

pub returns-clause-ids : goal.returns-clause-ids
returns-clause-ids c =
    subst (λ (bytes : List ℕ). SaysIds bytes c.args.table.now) (sym c.in_ok-text.ensures.text) (ids_said c.args.table.now c.written.ensures.table)
