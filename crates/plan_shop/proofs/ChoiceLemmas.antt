-- The letter that a rule chooses.
use Rattle.std.proofs.Common.{◌≡◌, ℕ, suc, ◌-◌, ◌≤◌, ◌<◌, inl, inr, Bool, true, false, cond, List, [], ◌∷◌, ◌++◌, Option, Some, None, length, map, get_or, take, refl, sym, ap, ◌∙◌, subst, arith}
use Rattle.std.specs.Prelude.{Contains}
use Rattle.std.specs.List.{fold}
use Rattle.std.specs.Option.{MatchOption}
use Rattle.std.proofs.Math.Seq.{take-suc}
use Rattle.std.proofs.lemmas.Bool.{cases_Bool, cond-true, cond-false, true≢false}
use Rattle.std.proofs.Math.ListN.{get_or-map}
use Rattle.std.proofs.lemmas.List.{length-map, get_or_default, take_all}
use Rattle.plan_shop.specs.declared.rule.ShopRule.{ShopRule}
use Rattle.plan_shop.specs.declared.rule.ShopRule.TheVariants as rules
use Rattle.plan_shop.specs.Shop.{JobShop}
use Rattle.plan_shop.specs.Words.{Placed, letter_of, jobs_after, letters_after}
use Rattle.plan_shop.specs.Names.{chooser_of, key_of, comes_before, letter_among, letter_by}

-- the one of two letters, each with its key, that a rule chooses: the first one if the keys are
-- equal
better : ShopRule → Option (ℕ × ℕ) → ℕ → ℕ → Option (ℕ × ℕ)
better rule None letter key = Some (letter, key)
better rule (Some best) letter key = cond (comes_before rule key best.1) (Some (letter, key)) (Some best)

-- a letter that comes first, and one that doesn't
better-new : (rule : ShopRule) (best : Option (ℕ × ℕ)) (letter key : ℕ) (first : Bool) →
    MatchOption best (first ≡ true) (λ b. first ≡ comes_before rule key b.1) → first ≡ true →
    better rule best letter key ≡ Some (letter, key)
unfolding better
better-new rule None letter key first is taken = refl
better-new rule (Some best) letter key first is taken = cond-true (comes_before rule key best.1) (Some (letter, key)) (Some best) (sym is ∙ taken)

better-old : (rule : ShopRule) (best : Option (ℕ × ℕ)) (letter key : ℕ) (first : Bool) →
    MatchOption best (first ≡ true) (λ b. first ≡ comes_before rule key b.1) → first ≡ false →
    better rule best letter key ≡ best
unfolding better
better-old rule None letter key first is stays = absurd (true≢false (sym is ∙ stays))
better-old rule (Some best) letter key first is stays = cond-false (comes_before rule key best.1) (Some (letter, key)) (Some best) (sym is ∙ stays)

best_of : ShopRule → (ℕ → ℕ) → ℕ → List ℕ → ℕ
best_of rule key h r = fold (λ b i. cond (comes_before rule (key i) (key b)) i b) h r

best_of-more : (rule : ShopRule) (key : ℕ → ℕ) (h : ℕ) (r : List ℕ) (z : ℕ) → best_of rule key h (r ++ z ∷ []) ≡ cond (comes_before rule (key z) (key (best_of rule key h r))) z (best_of rule key h r)
unfolding best_of
best_of-more rule key h [] z = refl
best_of-more rule key h (y ∷ r) z = best_of-more rule key (cond (comes_before rule (key y) (key h)) y h) r z

chooser-is : (rule : ShopRule) (s : JobShop) (xs : List Placed) (h : ℕ) (r : List ℕ) → chooser_of rule s xs (h ∷ r) ≡ best_of rule (key_of rule s xs) h r
unfolding best_of
chooser-is rules.ShortestTime s xs h r = refl
chooser-is rules.MostWorkRemaining s xs h r = refl
chooser-is rules.FirstCome s xs h r = refl

record IsBest (rule : ShopRule) (s : JobShop) (xs : List Placed) (js : List ℕ) (best : ℕ × ℕ) : Type 0 where
  head : ℕ
  rest : List ℕ
  list : js ≡ head ∷ rest
  letter : best.0 ≡ suc (best_of rule (key_of rule s xs) head rest)
  key : best.1 ≡ key_of rule s xs (best_of rule (key_of rule s xs) head rest)

-- the best of some jobs, if there are any
pub IsBestSoFar : ShopRule → JobShop → List Placed → List ℕ → Option (ℕ × ℕ) → Type 0
IsBestSoFar rule s xs js None = js ≡ []
IsBestSoFar rule s xs js (Some best) = IsBest rule s xs js best

pub best-none : (rule : ShopRule) (s : JobShop) (xs : List Placed) → IsBestSoFar rule s xs [] None
unfolding IsBestSoFar
best-none rule s xs = refl

best-more : (rule : ShopRule) (s : JobShop) (xs : List Placed) (js : List ℕ) (best : Option (ℕ × ℕ)) →
    IsBestSoFar rule s xs js best → (j key : ℕ) → key ≡ key_of rule s xs j →
    IsBestSoFar rule s xs (js ++ j ∷ []) (better rule best (suc j) key)
unfolding IsBestSoFar best_of better
best-more rule s xs js None is j key key_is = record { head = j; rest = []; list = ap (λ ls. ls ++ j ∷ []) is; letter = refl; key = key_is }
best-more rule s xs js (Some best) is j key key_is =
    let b : ℕ = best_of rule (key_of rule s xs) is.head is.rest in
    let list : js ++ j ∷ [] ≡ is.head ∷ (is.rest ++ j ∷ []) = ap (λ ls. ls ++ j ∷ []) is.list in
    let same : comes_before rule key best.1 ≡ comes_before rule (key_of rule s xs j) (key_of rule s xs b) =
    ap (λ m. comes_before rule m best.1) key_is
    ∙ ap (λ m. comes_before rule (key_of rule s xs j) m) is.key in
    let Q : Option (ℕ × ℕ) → Type 0 = λ r. IsBestSoFar rule s xs (js ++ j ∷ []) r in
    elim (cases_Bool (comes_before rule key best.1)) [
      | inl first ↦
          let new : best_of rule (key_of rule s xs) is.head (is.rest ++ j ∷ []) ≡ j =
          best_of-more rule (key_of rule s xs) is.head is.rest j
          ∙ cond-true (comes_before rule (key_of rule s xs j) (key_of rule s xs b)) j b
          (sym same ∙ first) in
          subst Q (sym (cond-true (comes_before rule key best.1) (Some (suc j, key)) (Some best) first))
          (record {
            head = is.head;
            rest = is.rest ++ j ∷ [];
            list = list;
            letter =
                ap suc (sym new);
            key = key_is ∙ ap (key_of rule s xs) (sym new);
          })
      | inr later ↦
          let new : best_of rule (key_of rule s xs) is.head (is.rest ++ j ∷ []) ≡ b =
          best_of-more rule (key_of rule s xs) is.head is.rest j
          ∙ cond-false (comes_before rule (key_of rule s xs j) (key_of rule s xs b)) j b
          (sym same ∙ later) in
          subst Q (sym (cond-false (comes_before rule key best.1) (Some (suc j, key)) (Some best) later))
          (record {
            head = is.head;
            rest = is.rest ++ j ∷ [];
            list = list;
            letter = is.letter
                ∙ ap suc (sym new);
            key = is.key ∙ ap (key_of rule s xs) (sym new);
          })
    ]

-- one more letter that may follow
best-next : (rule : ShopRule) (s : JobShop) (xs : List Placed) (letters : List ℕ) →
    letters ≡ letters_after s xs → (k l key : ℕ) → k < length letters → l ≡ get_or letters k 0 →
    key ≡ key_of rule s xs (l - 1) → (best : Option (ℕ × ℕ))
    → IsBestSoFar rule s xs (take k (jobs_after s xs)) best → IsBestSoFar rule s xs (take (suc k) (jobs_after s xs)) (better rule best l key)
best-next rule s xs letters all k l key inside is key_is best so_far =
    let js : List ℕ = jobs_after s xs in
    let below : k < length js = omega (arith, inside, ap (λ (ls : List ℕ). length ls) all, length-map js letter_of) in
    let j : ℕ = get_or js k 0 in
    let at : l ≡ suc j = is ∙ ap (λ (ls : List ℕ). get_or ls k 0) all
    ∙ get_or_default (map letter_of js) k 0 (letter_of 0) (omega (arith, below, length-map js letter_of))
    ∙ get_or-map letter_of js k 0 in
    let P : ℕ → Type 0 = λ m. IsBestSoFar rule s xs (take (suc k) js) (better rule best m key) in
    let Q : List ℕ → Type 0 = λ ls. IsBestSoFar rule s xs ls (better rule best (suc j) key) in
    let place : l - 1 ≡ j = omega (arith, at) in
    subst P (sym at) (subst Q (sym (take-suc js k 0 below)) (best-more rule s xs (take k js) best so_far j key (key_is ∙ ap (key_of rule s xs) place)))

pub best-new : (rule : ShopRule) (s : JobShop) (xs : List Placed) (letters : List ℕ) →
    letters ≡ letters_after s xs → (k l key : ℕ) → k < length letters → l ≡ get_or letters k 0 →
    key ≡ key_of rule s xs (l - 1) → (best : Option (ℕ × ℕ))
    → IsBestSoFar rule s xs (take k (jobs_after s xs)) best → (first : Bool) →
    MatchOption best (first ≡ true) (λ b. first ≡ comes_before rule key b.1) → first ≡ true →
    IsBestSoFar rule s xs (take (suc k) (jobs_after s xs)) (Some (l, key))
best-new rule s xs letters all k l key inside is key_is best so_far first tells taken =
    let Q : Option (ℕ × ℕ) → Type 0 = λ r. IsBestSoFar rule s xs (take (suc k) (jobs_after s xs)) r in
    subst Q (better-new rule best l key first tells taken) (best-next rule s xs letters all k l key inside is key_is best so_far)

pub best-old : (rule : ShopRule) (s : JobShop) (xs : List Placed) (letters : List ℕ) →
    letters ≡ letters_after s xs → (k l key : ℕ) → k < length letters → l ≡ get_or letters k 0 →
    key ≡ key_of rule s xs (l - 1) → (best : Option (ℕ × ℕ))
    → IsBestSoFar rule s xs (take k (jobs_after s xs)) best → (first : Bool) →
    MatchOption best (first ≡ true) (λ b. first ≡ comes_before rule key b.1) → first ≡ false →
    IsBestSoFar rule s xs (take (suc k) (jobs_after s xs)) best
best-old rule s xs letters all k l key inside is key_is best so_far first tells stays =
    let Q : Option (ℕ × ℕ) → Type 0 = λ r. IsBestSoFar rule s xs (take (suc k) (jobs_after s xs)) r in
    subst Q (better-old rule best l key first tells stays) (best-next rule s xs letters all k l key inside is key_is best so_far)

-- the letter of the best of all
letter-of : (rule : ShopRule) (s : JobShop) (xs : List Placed) (js : List ℕ) (best : ℕ × ℕ) → IsBest rule s xs js best → Some best.0 ≡ letter_among rule s xs js
letter-of rule s xs js best is =
    let letter : best.0 ≡ suc (chooser_of rule s xs (is.head ∷ is.rest)) = is.letter ∙ ap suc (sym (chooser-is rule s xs is.head is.rest)) in
    ap (λ (n : ℕ). Some n) letter ∙ ap (λ (ls : List ℕ). letter_among rule s xs ls) (sym is.list)

pub best-some : (rule : ShopRule) (s : JobShop) (xs : List Placed) (letters : List ℕ) →
    letters ≡ letters_after s xs → (k : ℕ) → length letters ≤ k → (found : Option (ℕ × ℕ)) →
    IsBestSoFar rule s xs (take k (jobs_after s xs)) found → (best : ℕ × ℕ) → found ≡ Some best →
    Some best.0 ≡ letter_by rule s xs
unfolding IsBestSoFar
best-some rule s xs letters all k done found so_far best is =
    let Q : Option (ℕ × ℕ) → Type 0 = λ r. IsBestSoFar rule s xs (take k (jobs_after s xs)) r in
    letter-of rule s xs (take k (jobs_after s xs)) best (subst Q is so_far)
    ∙ ap (λ (ls : List ℕ). letter_among rule s xs ls)
    (take_all k (jobs_after s xs) (omega (
      arith,
      done,
      ap (λ (ls : List ℕ). length ls) all,
      length-map
          (jobs_after s xs) letter_of,
    )))

pub best-empty : (rule : ShopRule) (s : JobShop) (xs : List Placed) (letters : List ℕ) →
    letters ≡ letters_after s xs → (k : ℕ) → length letters ≤ k → (found : Option (ℕ × ℕ)) →
    IsBestSoFar rule s xs (take k (jobs_after s xs)) found → found ≡ None → None ≡ letter_by rule s xs
unfolding IsBestSoFar
best-empty rule s xs letters all k done found so_far is_none =
    let Q : Option (ℕ × ℕ) → Type 0 = λ r. IsBestSoFar rule s xs (take k (jobs_after s xs)) r in
    let is : take k (jobs_after s xs) ≡ [] = subst Q is_none so_far in
    let none : jobs_after s xs ≡ [] = sym (take_all k (jobs_after s xs) (omega (arith, done, ap (λ (ls : List ℕ). length ls) all, length-map (jobs_after s xs) letter_of))) ∙ is in
    sym (ap (λ (ls : List ℕ). letter_among rule s xs ls) none)

-- a letter of the list may follow
pub letter-read : (s : JobShop) (xs : List Placed) (letters : List ℕ) → letters ≡ letters_after s xs → (k l : ℕ) → k < length letters → l ≡ get_or letters k 0 → Contains (letters_after s xs) l
letter-read s xs letters all k l inside is =
    let Q : List ℕ → Type 0 = λ ls. Contains ls l in
    subst Q all (k, inside, get_or_default letters k l 0 inside ∙ sym is)
