use Rattle.std.proofs.Common.{refl}
use Rattle.plan_print.proofs.sheets.default_origin.Goals as goal

pub returns : goal.returns
returns c = (c.default_rule.result, c.default_rule.ensures, refl)
