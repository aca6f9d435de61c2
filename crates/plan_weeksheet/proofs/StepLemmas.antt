-- The steps of loops over rectangles and numbers.
use Rattle.std.proofs.Common.{◌≡◌, ℕ, ◌+◌, ◌<◌, ◌++◌, true, List, [], ◌∷◌, length, map, flat_map, get_or, sym, ap, ◌∙◌, subst, arith, zero, suc}
use Rattle.std.specs.List.{list_all, range_with_len}
use Rattle.std.proofs.lemmas.Bool.{and_parts}
use Rattle.std.proofs.lemmas.List.{flat_map_more, map-id}
use Rattle.std.proofs.lemmas.List.FromFn.{map-range_with_len_more}
use Rattle.plan_weeksheet.specs.declared.rectangle.Rectangle as declared
use Rattle.plan_weeksheet.specs.Drawn.{is_drawable}
use Rattle.plan_weeksheet.specs.Rectangles.{Rectangle, rectangle_of}

-- one more of some rectangles that are all within the limits
pub drawable_at : (rs : List declared.Rectangle) (k : ℕ) (r : declared.Rectangle) → k < length rs → r ≡ get_or rs k r
    → list_all is_drawable (map rectangle_of rs) ≡ true → is_drawable (rectangle_of r) ≡ true
drawable_at [] k r inside is all = absurd (omega (arith, inside))
drawable_at (first ∷ rs) zero r inside is all =
    subst (λ (x : declared.Rectangle). is_drawable (rectangle_of x) ≡ true) (sym is)
    (and_parts (is_drawable (rectangle_of first)) (list_all is_drawable (map rectangle_of rs)) all).0
drawable_at (first ∷ rs) (suc k) r inside is all =
    drawable_at rs k r (omega (arith, inside)) is
    (and_parts (is_drawable (rectangle_of first)) (list_all is_drawable (map rectangle_of rs)) all).1

-- one more of the numbers that a function gives
pub next_number : (f : ℕ → ℕ) (k v : ℕ) (old new : List ℕ) → old ≡ map f (range_with_len 0 k) → v ≡ f k → new ≡ old ++ v ∷ []
    → new ≡ map f (range_with_len 0 (k + 1))
next_number f k v old new so_far is step =
    step ∙ ap (λ xs. xs ++ v ∷ []) so_far ∙ ap (λ x. map f (range_with_len 0 k) ++ x ∷ []) is
    ∙ sym (map-range_with_len_more f 0 k k (omega arith))

-- one more number of a range
pub range_more : (k : ℕ) → range_with_len 0 (k + 1) ≡ range_with_len 0 k ++ k ∷ []
range_more k =
    sym (map-id (range_with_len 0 (k + 1))) ∙ map-range_with_len_more (λ n. n) 0 k k (omega arith) ∙ ap (λ ns. ns ++ k ∷ []) (map-id (range_with_len 0 k))

-- the rectangles of one more number
pub next_rectangles : (f : ℕ → List Rectangle) (k : ℕ) (old new : List Rectangle) → old ≡ flat_map f (range_with_len 0 k)
    → new ≡ old ++ f k → new ≡ flat_map f (range_with_len 0 (k + 1))
next_rectangles f k old new so_far step =
    step ∙ ap (λ xs. xs ++ f k) so_far ∙ flat_map_more f [] (range_with_len 0 k) k
    ∙ ap (λ ns. flat_map f ns) (sym (range_more k))
