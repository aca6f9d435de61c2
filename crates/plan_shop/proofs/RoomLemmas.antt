-- The memory for turns suffices for one more if a letter may follow.
use Rattle.std.proofs.Common.{◌≡◌, ℕ, ◌<◌, List, [], ◌∷◌, ◌++◌, length, refl, sym, subst, arith}
use Rattle.std.specs.Prelude.{Contains}
use Rattle.std.proofs.lemmas.List.{length-append, length-map}
use Rattle.plan_shop.specs.declared.tree.Turn.{Turn}
use Rattle.plan_shop.specs.Shop.{JobShop, machine_of}
use Rattle.plan_shop.specs.Words.{Placed, job_end, machine_free, next_step, job_of_letter, letters_after, IsWord}
use Rattle.plan_shop.specs.Trees.{Standing, standing, placed, word_of, IsTurn, IsTree}
use Rattle.plan_shop.specs.Laws.{placed_in, ShopWordsAreFinite}
use Rattle.plan_shop.proofs.KeepLemmas.{turns-more, turns-follow}
use Rattle.plan_shop.proofs.WordCount.{words_are_finite}

-- no word is longer than the memory
pub turns-room : (s : JobShop) (tails done ends free starts : List ℕ) (turns : List Turn) (capacity : ℕ)
    (t : Standing) → standing s (word_of turns) ≡ t → IsTree s tails done ends free starts turns capacity
    → (a : ℕ) → Contains (letters_after t.shop (placed t)) a → length turns < capacity
unfolding ShopWordsAreFinite
turns-room s tails done ends free starts turns capacity t is tree a follows =
    let Q : Standing → Type 0 = λ v. Contains (letters_after v.shop (placed v)) a in
    let xs : List Placed = placed_in s (word_of turns) in
    let turn : Turn = record { letter = a; end = job_end s xs (job_of_letter a); free = machine_free s xs (machine_of s (next_step s xs (job_of_letter a))) } in
    let is_turn : IsTurn s xs turn = record { follows = subst Q (sym is) follows; end = refl; free = refl } in
    let word : IsWord s (word_of (turns ++ turn ∷ [])) = turns-follow s [] (turns ++ turn ∷ []) (turns-more s [] turns turn tree.kept.turns_are is_turn) in
    omega (
      arith,
      words_are_finite s (word_of (turns ++ turn ∷ [])) word,
      length-map (turns ++ turn ∷ [])
          (λ (v : Turn). v.letter),
      length-append turns (turn ∷ []),
      tree.kept.small.shop.all_steps,
      tree.room,
    )
