-- Connections that are served one after another.
use Rattle.std.proofs.Common.{◌≡◌, ℕ, zero, suc, ◌+◌, ◌<◌, List, [], ◌∷◌, ◌++◌, length, take, map, get_or, refl, sym, ap, ◌∙◌, subst, append_assoc, inr, arith}
use Rattle.std.proofs.lemmas.List.{take_more, map-append}
use Rattle.plan_rows.specs.World.{Text}
use Rattle.plan_rows.specs.Books.{Shelf}
use Rattle.plan_http.specs.Answers.{Decision, IsOn}
use Rattle.plan_http.specs.Connections.{Moves, Serving, Stops, response_of}

-- an item of a list, as a text
pub item_at : {A : Type 0} (f : A → Text) (xs : List A) (i : ℕ) (x : A) → i < length xs → x ≡ get_or xs i x → get_or (map f xs) i [] ≡ f x
item_at f [] i x below is = absurd (omega (arith, below))
item_at f (y ∷ ys) zero x below is = ap f (sym is)
item_at f (y ∷ ys) (suc i) x below is = let more : i < length ys = omega (arith, below) in item_at f ys i x more is

module _ {B : Type 0} (shelf : Shelf B) where
  -- one connection more
  pub served_more : (old middle new : B) (conns : List Text) (decisions : List Decision) (bytes : Text) (d : Decision) → Serving shelf old conns decisions middle
      → IsOn bytes d → Moves shelf middle new d → Serving shelf old (conns ++ bytes ∷ []) (decisions ++ d ∷ []) new
  served_more old middle new [] [] bytes d served on moves = (new, on, subst (λ o. Moves shelf o new d) served moves, refl)
  served_more old middle new [] (e ∷ ds) bytes d served on moves = absurd served
  served_more old middle new (c ∷ cs) [] bytes d served on moves = absurd served
  served_more old middle new (c ∷ cs) (e ∷ ds) bytes d served on moves =
      (served.0, served.1, served.2, served_more served.0 middle new cs ds bytes d served.3 on moves)

  module _ (old middle new : B) (conns : List Text) (i : ℕ) (bytes : Text) (before after out : List Text) (below : i < length conns) (is : get_or conns i [] ≡ bytes)
      (front : (ds : List Decision) × Serving shelf old (take i conns) ds middle × (before ≡ out ++ map response_of ds)) where
    -- the connections up to this one, with its response
    pub more : ((d : Decision) × IsOn bytes d × Moves shelf middle new d × (after ≡ before ++ response_of d ∷ []))
        → (ds : List Decision) × Serving shelf old (take (i + 1) conns) ds new × (after ≡ out ++ map response_of ds)
    more next =
        let conns_is : take (i + 1) conns ≡ take i conns ++ bytes ∷ [] = take_more conns i [] below ∙ ap (λ b. take i conns ++ b ∷ []) is in (
          front.0 ++ next.0 ∷ [],
          subst (λ cs. Serving shelf old cs (front.0 ++ next.0 ∷ []) new) (sym conns_is) (served_more old middle new (take i conns) front.0 bytes next.0 front.1 next.1 next.2),
          next.3 ∙ ap (λ xs. xs ++ response_of next.0 ∷ []) front.2 ∙ append_assoc out (map response_of front.0) (response_of next.0 ∷ [])
              ∙ ap (λ xs. out ++ xs) (sym (map-append response_of front.0 (next.0 ∷ []))),
        )

    -- the connections before this one, which moved the office and got no response
    pub stopped : ((d : Decision) × IsOn bytes d × Moves shelf middle new d × (after ≡ before))
        → (ds : List Decision) × Stops shelf old new conns ds × (after ≡ out ++ map response_of ds)
    stopped next = (
      front.0,
      record {
        count = i;
        within = omega arith;
        middle = middle;
        served = front.1;
        last = inr (below, (next.0, subst (λ b. IsOn b next.0) (sym is) next.1, next.2));
      },
      next.3 ∙ front.2,
    )
