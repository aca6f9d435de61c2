-- Sums of the durations of rectangles.
use Rattle.std.proofs.Common.{◌≡◌, ℕ, ◌+◌, ◌<◌, false, List, [], ◌∷◌, length, map, get_or, take, refl, ap, arith}
use Rattle.std.specs.Prelude.{nat_le}
use Rattle.std.specs.List.{sum_by}
use Rattle.std.proofs.lemmas.Bool.{lt-leb}
use Rattle.std.proofs.lemmas.List.Sums.{sum_by-cons, sum_by-take-le, sum_by_more}
use Rattle.plan_weeksheet.specs.declared.rectangle.Rectangle as declared
use Rattle.plan_weeksheet.specs.Rectangles.{Rectangle, rectangle_of}

-- the durations as the program keeps them
lasts_seen : (rs : List declared.Rectangle) → sum_by (λ (r : Rectangle). r.lasts) (map rectangle_of rs) ≡ sum_by (λ (r : declared.Rectangle). r.lasts) rs
lasts_seen [] = refl
lasts_seen (r ∷ rs) =
    let rest = lasts_seen rs in
    let left = sum_by-cons (λ (x : Rectangle). x.lasts) (rectangle_of r) (map rectangle_of rs) in
    let right = sum_by-cons (λ (x : declared.Rectangle). x.lasts) r rs in
    omega (arith, rest, left, right)

-- the rest of a limit behind the durations so far is less than the next duration
pub above_all : (rs : List declared.Rectangle) (k rest limit : ℕ) (r : declared.Rectangle) → k < length rs → r ≡ get_or rs k r
    → rest + sum_by (λ (x : Rectangle). x.lasts) (map rectangle_of (take k rs)) ≡ limit → rest < r.lasts
    → nat_le (sum_by (λ (x : Rectangle). x.lasts) (map rectangle_of rs)) limit ≡ false
above_all rs k rest limit r inside is so_far small =
    let before = lasts_seen (take k rs) in
    let all = lasts_seen rs in
    let more = sum_by_more (λ (x : declared.Rectangle). x.lasts) rs k r inside in
    let part = sum_by-take-le (λ (x : declared.Rectangle). x.lasts) rs (k + 1) in
    let this : r.lasts ≡ (get_or rs k r).lasts = ap (λ (x : declared.Rectangle). x.lasts) is in
    lt-leb _ limit (omega (arith, before, all, more, part, this, so_far, small))
