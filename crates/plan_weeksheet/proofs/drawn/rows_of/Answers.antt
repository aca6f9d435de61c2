use Rattle.plan_weeksheet.proofs.StepLemmas.{drawable_at}
use Rattle.plan_weeksheet.proofs.drawn.rows_of.Goals as goal

pub row_of-requires-clause-rectangle : goal.row_of-requires-clause-rectangle
row_of-requires-clause-rectangle c =
    drawable_at c.args.rectangles.now c.loop-rectangle.rectangle-index c.rectangle-item.result c.loop-rectangle-test.true
    c.rectangle-item.is c.requires.rectangles
