-- One more element of a list that is written element by element.
use Rattle.std.proofs.Common.{◌≡◌, ℕ, ◌+◌, List, [], ◌∷◌, ◌++◌, length, min, take, drop, map, flat_map, sym, ap, ◌∙◌, arith, map-id}
use Rattle.std.specs.List.{range_with_len}
use Rattle.std.proofs.lemmas.List.{flat_map_more, take_min, drop_min}
use Rattle.std.proofs.lemmas.List.FromFn.{map-range_with_len_more}

-- one more number of a range
pub range_more : (k : ℕ) → range_with_len 0 (k + 1) ≡ range_with_len 0 k ++ k ∷ []
range_more k =
    sym (map-id (range_with_len 0 (k + 1))) ∙ map-range_with_len_more (λ n. n) 0 k k (omega arith) ∙ ap (λ ns. ns ++ k ∷ []) (map-id (range_with_len 0 k))

-- one more number
pub next_number : (f : ℕ → List ℕ) (k : ℕ) (before old new : List ℕ) → old ≡ before ++ flat_map f (range_with_len 0 k) → new ≡ old ++ f k →
    new ≡ before ++ flat_map f (range_with_len 0 (k + 1))
next_number f k before old new so_far step =
    step ∙ ap (λ bytes. bytes ++ f k) so_far ∙ flat_map_more f before (range_with_len 0 k) k
    ∙ ap (λ ns. before ++ flat_map f ns) (sym (range_more k))

-- one more element of a list
pub next_item : {X : Type 0} (f : ℕ → X) (first k j : ℕ) (old new : List X) (x : X) → first + k ≡ j → old ≡ map f (range_with_len first k) →
    new ≡ old ++ x ∷ [] → x ≡ f j → new ≡ map f (range_with_len first (k + 1))
next_item f first k j old new x place so_far step is =
    step ∙ ap (λ xs. xs ++ x ∷ []) so_far ∙ ap (λ y. map f (range_with_len first k) ++ y ∷ []) is ∙ sym (map-range_with_len_more f first k j place)
