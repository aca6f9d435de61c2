use Rattle.std.proofs.Common.{◌≡◌, map, take}
use Rattle.plan_weeksheet.specs.Rectangles.{Rectangle, rectangle_of}
use Rattle.plan_weeksheet.proofs.names.id_texts.Given as goal

-- the texts so far
abbrev pub invariant-loop-rectangle : goal.invariant-loop-rectangle
invariant-loop-rectangle l =
    map (λ text. text.now) l.texts.items
    ≡ map (λ (r : Rectangle). r.id) (map rectangle_of (take l.rectangle-index l.rectangles))
