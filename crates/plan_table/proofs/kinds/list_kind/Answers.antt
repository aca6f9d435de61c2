use Rattle.std.proofs.Common.{Bool, inr, subst}
use Rattle.plan_table.specs.Kinds.{Decides, IsPlanFile}
use Rattle.plan_table.proofs.kinds.list_kind.Goals as goal

pub returns-then-branch : goal.returns-then-branch
returns-then-branch c = record {
  kind = inr (subst (λ (b : Bool). Decides b (IsPlanFile c.args.text.now)) c.if-branch.true c.in_ok-is_plan_file.ensures);
}
