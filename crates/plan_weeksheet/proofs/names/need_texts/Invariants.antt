use Rattle.std.proofs.Common.{◌≡◌, map, take}
use Rattle.plan_table.specs.Names.{name_of}
use Rattle.plan_views.specs.LinkColumns.{needs_text}
use Rattle.plan_weeksheet.specs.Rectangles.{Rectangle, rectangle_of}
use Rattle.plan_weeksheet.proofs.names.need_texts.Given as goal

-- the texts so far
abbrev pub invariant-loop-rectangle : goal.invariant-loop-rectangle
invariant-loop-rectangle l =
    map (λ text. text.items) l.texts.items
    ≡ map (λ (r : Rectangle). needs_text (map name_of l.names) r.needs) (map rectangle_of (take l.rectangle-index l.rectangles))
