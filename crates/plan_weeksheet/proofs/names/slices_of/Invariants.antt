use Rattle.std.proofs.Common.{◌≡◌, map, take}
use Rattle.plan_weeksheet.proofs.names.slices_of.Given as goal

-- the texts so far
abbrev pub invariant-loop-text : goal.invariant-loop-text
invariant-loop-text l =
    map (λ text. text.now) l.slices.items ≡ map (λ text. text.items) (take l.text-index l.texts)
