use Rattle.std.proofs.Common.{◌≡◌, ◌∷◌, map, take}
use Rattle.plan_weeksheet.specs.Rectangles.{Rectangle, rectangle_of}
use Rattle.plan_weeksheet.proofs.drawn.drawn_starts.Given as goal

-- the starts so far, behind that of the first dummy
abbrev pub invariant-loop-rectangle : goal.invariant-loop-rectangle
invariant-loop-rectangle l =
    l.starts.items ≡ 0 ∷ map (λ (r : Rectangle). r.from) (map rectangle_of (take l.rectangle-index l.rectangles))
