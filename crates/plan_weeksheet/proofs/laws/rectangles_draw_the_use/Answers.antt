use Rattle.plan_weeksheet.proofs.UseLemmas.{draws_use}
use Rattle.plan_weeksheet.proofs.laws.rectangles_draw_the_use.Goals as goal

pub returns : goal.returns
returns c = draws_use
