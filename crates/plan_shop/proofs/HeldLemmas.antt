-- The data of a tree at a word, in terms of the word.
use Rattle.std.proofs.Common.{◌≡◌, ℕ, ◌<◌, List, length, get_or, ◌∙◌, subst, arith}
use Rattle.std.proofs.lemmas.List.{get_or_default}
use Rattle.plan_shop.specs.declared.tree.Turn.{Turn}
use Rattle.plan_shop.specs.Shop.{JobShop, count_steps, job_of, place_of}
use Rattle.plan_shop.specs.Words.{steps_done, job_end, machine_free, start_in}
use Rattle.plan_shop.specs.Bound.{tail_of}
use Rattle.plan_shop.specs.Docs.{IsSmallShop}
use Rattle.plan_shop.specs.Trees.{Standing, standing, placed, word_of, AreTails, Keeps, IsKept}
use Rattle.plan_shop.proofs.PlacingLemmas.{IsPlacedWithin, placed-within}

pub record IsHeld (t : Standing) (tails done ends free starts : List ℕ) : Type 0 where
  pub small : IsSmallShop t.shop
  pub tails_are : AreTails t.shop tails
  pub kept : Keeps t.shop (placed t) done ends free starts
  pub within : IsPlacedWithin t.shop (placed t)

pub held : (s : JobShop) (tails done ends free starts : List ℕ) (turns : List Turn) (t : Standing) →
    standing s (word_of turns) ≡ t → IsKept s tails done ends free starts turns →
    IsHeld t tails done ends free starts
held s tails done ends free starts turns t is kept =
    let Q : Standing → Type 0 = λ v. IsHeld v tails done ends free starts in
    subst Q is (record { small = kept.small; tails_are = kept.tails_are; kept = kept.kept; within = placed-within s turns kept.small kept.turns_are })

-- a read of a list of numbers
pub read : (xs : List ℕ) (i r : ℕ) → i < length xs → r ≡ get_or xs i r → r ≡ get_or xs i 0
read xs i r inside is = is ∙ get_or_default xs i r 0 inside

pub done-read : (t : Standing) (tails done ends free starts : List ℕ) → IsHeld t tails done ends free starts → (j r : ℕ) → j < t.shop.jobs → r ≡ get_or done j r → r ≡ steps_done (placed t) j
done-read t tails done ends free starts h j r below is = read done j r (omega (arith, h.kept.done_size, below)) is ∙ h.kept.done_is j below

pub end-read : (t : Standing) (tails done ends free starts : List ℕ) → IsHeld t tails done ends free starts → (j r : ℕ) → j < t.shop.jobs → r ≡ get_or ends j r → r ≡ job_end t.shop (placed t) j
end-read t tails done ends free starts h j r below is = read ends j r (omega (arith, h.kept.ends_size, below)) is ∙ h.kept.end_is j below

pub free-read : (t : Standing) (tails done ends free starts : List ℕ) → IsHeld t tails done ends free starts →
    (m r : ℕ) → m < t.shop.machines → r ≡ get_or free m r → r ≡ machine_free t.shop (placed t) m
free-read t tails done ends free starts h m r below is = read free m r (omega (arith, h.kept.free_size, below)) is ∙ h.kept.free_is m below

pub tail-read : (t : Standing) (tails done ends free starts : List ℕ) → IsHeld t tails done ends free starts → (x r : ℕ) → x < count_steps t.shop → r ≡ get_or tails x r → r ≡ tail_of t.shop x
tail-read t tails done ends free starts h x r below is = read tails x r (omega (arith, h.tails_are.size, below)) is ∙ h.tails_are.each x below

pub start-read : (t : Standing) (tails done ends free starts : List ℕ) →
    IsHeld t tails done ends free starts → (x r : ℕ) → x < count_steps t.shop →
    place_of t.shop x < steps_done (placed t) (job_of t.shop x) → r ≡ get_or starts x r →
    r ≡ start_in (placed t) x
start-read t tails done ends free starts h x r below there is = read starts x r (omega (arith, h.kept.starts_size, below)) is ∙ h.kept.start_is x below there
