use Rattle.std.proofs.Common.{rules}
use Rattle.std.proofs.lemmas.Fn.{filter_same}
use Rattle.plan_kernel.specs.Clauses.{is_other}
use Rattle.plan_kernel.proofs.conflict.take_out.Goals as goal

pub returns : goal.returns
returns c = filter_same _ (is_other c.args.half) _ (λ x b q k. search rules) _ _ c.retain.ensures.filtered
