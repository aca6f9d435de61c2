-- The word of a rule, letter by letter.
use Rattle.std.proofs.Common.{◌≡◌, ℕ, suc, ◌-◌, ◌*◌, ◌<◌, true, false, List, [], ◌∷◌, ◌++◌, Option, Some, None, length, refl, sym, ap, ◌∙◌, subst, append_assoc, arith}
use Rattle.std.specs.Prelude.{Contains}
use Rattle.std.proofs.lemmas.List.{length-append}
use Rattle.plan_sgs.specs.Problem.{IsActive}
use Rattle.plan_shop.specs.declared.rule.ShopRule.{ShopRule}
use Rattle.plan_shop.specs.declared.rule.ShopRule.TheVariants as rules
use Rattle.plan_shop.specs.Shop.{JobShop, IsShop, problem_of}
use Rattle.plan_shop.specs.Words.{Placed, place, placed_by, job_of_letter, letter_of, jobs_after, letters_after, Follows, IsWord, is_full, starts_of}
use Rattle.plan_shop.specs.Rules.{Chooses, rule_word, giffler}
use Rattle.plan_shop.specs.Laws.{placed_in, FullIsActive, RuleIsFull}
use Rattle.plan_shop.specs.Names.{chooser_of, word_by, letter_among, letter_by}
use Rattle.plan_shop.specs.Trees.{Standing, standing, placed}
use Rattle.plan_shop.proofs.Reached.{reached_by, letter_there}
use Rattle.plan_shop.proofs.WordCount.{spt_chooses, mwkr_chooses, fcfs_chooses, rule_follows, rule_is_full, short_not_full, length_placed}
use Rattle.plan_shop.proofs.FullWords.{full_is_active}
use Rattle.plan_shop.proofs.KeepLemmas.{placed_by-more}

pub chooses : (rule : ShopRule) (s : JobShop) → Chooses (chooser_of rule s)
chooses rules.ShortestTime s = spt_chooses s
chooses rules.MostWorkRemaining s = mwkr_chooses s
chooses rules.FirstCome s = fcfs_chooses s

pub word_by-full : (rule : ShopRule) (s : JobShop) → is_full s (placed_in s (word_by rule s)) ≡ true
unfolding RuleIsFull
word_by-full rule s = (rule_is_full s (chooser_of rule s) (chooses rule s)).1

pub word_by-active : (rule : ShopRule) (s : JobShop) → IsShop s → IsActive (problem_of s) (starts_of s (placed_in s (word_by rule s)))
unfolding RuleIsFull FullIsActive
word_by-active rule s shop = full_is_active s shop (word_by rule s) (rule_is_full s (chooser_of rule s) (chooses rule s)).0 (word_by-full rule s)

-- one letter more
follows-more : (s : JobShop) (xs : List Placed) (w : List ℕ) (a : ℕ) → Follows s xs w → Contains (letters_after s (placed_by s xs w)) a → Follows s xs (w ++ a ∷ [])
follows-more s xs [] a follows next = (next, tt)
follows-more s xs (b ∷ w) a follows next = (follows.0, follows-more s (place s xs (job_of_letter b)) w a follows.1 next)

-- a word that continues to that of a rule
pub record GoesOn (rule : ShopRule) (s : JobShop) (t : Standing) (n : ℕ) : Type 0 where
  pub shop : t.shop ≡ s
  pub follows : IsWord s t.word
  pub size : length t.word ≡ n
  pub rest : t.word ++ rule_word s (chooser_of rule s) (s.jobs * s.machines - n) (placed_in s t.word) ≡ word_by rule s

pub goes-first : (rule : ShopRule) (s : JobShop) → GoesOn rule s (standing s []) 0
unfolding giffler
goes-first rule s = record {
  shop = refl;
  follows = tt;
  size = refl;
  rest =
      ap (λ n. rule_word s (chooser_of rule s) n [])
      (let is : s.jobs * s.machines - 0 ≡ s.jobs * s.machines = omega arith in is);
}

-- the letter of the rule
pub record IsNextLetter (rule : ShopRule) (s : JobShop) (xs : List Placed) (a : ℕ) : Type 0 where
  pub is : a ≡ letter_of (chooser_of rule s xs (jobs_after s xs))
  pub follows : Contains (letters_after s xs) a

letter_among-some : (rule : ShopRule) (s : JobShop) (xs : List Placed) (js : List ℕ) (a : ℕ) → Some a ≡ letter_among rule s xs js → a ≡ letter_of (chooser_of rule s xs js)
letter_among-some rule s xs [] a is = absurd (cc)
letter_among-some rule s xs (j ∷ js) a is = cc

open_here : (rule : ShopRule) (s : JobShop) (t : Standing) (n : ℕ) → GoesOn rule s t n → n < s.jobs * s.machines → is_full s (placed_in s t.word) ≡ false
open_here rule s t n goes less =
    short_not_full s (placed_in s t.word) (reached_by s [] t.word tt goes.follows) (omega (arith, less, goes.size, length_placed s [] t.word))

pub next-letter : (rule : ShopRule) (s : JobShop) (t : Standing) (n : ℕ) → GoesOn rule s t n →
    n < s.jobs * s.machines → (found : Option ℕ) → found ≡ letter_by rule t.shop (placed t) → (a : ℕ) →
    found ≡ Some a → IsNextLetter rule s (placed_in s t.word) a
next-letter rule s t n goes less found found_is a is =
    let xs : List Placed = placed_in s t.word in
    let there : Contains (jobs_after s xs) (chooser_of rule s xs (jobs_after s xs)) = rule_follows s (chooser_of rule s) (chooses rule s) xs (open_here rule s t n goes less) in
    let letter : a ≡ letter_of (chooser_of rule s xs (jobs_after s xs)) =
    letter_among-some rule s xs (jobs_after s xs) a (sym is ∙ found_is ∙ ap (λ (v : JobShop). letter_by rule v (placed_in v t.word)) goes.shop) in
    let Q : ℕ → Type 0 = λ b. Contains (letters_after s xs) b in
    record { is = letter; follows = subst Q (sym letter) (letter_there (jobs_after s xs) (chooser_of rule s xs (jobs_after s xs)) there) }

-- there is one as long as steps are left
pub next-none : (rule : ShopRule) (s : JobShop) (t : Standing) (n : ℕ) → GoesOn rule s t n → n < s.jobs * s.machines → (found : Option ℕ) → found ≡ letter_by rule t.shop (placed t) → found ≡ None → ⊥
next-none rule s t n goes less found found_is none =
    let xs : List Placed = placed_in s t.word in
    let there : Contains (jobs_after s xs) (chooser_of rule s xs (jobs_after s xs)) = rule_follows s (chooser_of rule s) (chooses rule s) xs (open_here rule s t n goes less) in
    empty (jobs_after s xs) (omega (arith, there.1)) (sym none ∙ found_is ∙ ap (λ (v : JobShop). letter_by rule v (placed_in v t.word)) goes.shop) where
      empty : (js : List ℕ) → 0 < length js → None ≡ letter_among rule s (placed_in s t.word) js → ⊥
      empty [] some is = absurd (omega (arith, some))
      empty (j ∷ js) some is = cc

pub goes-more : (rule : ShopRule) (s : JobShop) (t u : Standing) (n a : ℕ) → GoesOn rule s t n →
    n < s.jobs * s.machines → IsNextLetter rule s (placed_in s t.word) a →
    u ≡ standing t.shop (t.word ++ a ∷ []) → GoesOn rule s u (suc n)
goes-more rule s t u n a goes less next is =
    let xs : List Placed = placed_in s t.word in
    let k : ℕ = s.jobs * s.machines - suc n in
    let left : s.jobs * s.machines - n ≡ suc k = omega (arith, less) in
    let job : job_of_letter a ≡ chooser_of rule s xs (jobs_after s xs) = ap job_of_letter next.is in
    let after : placed_in s (t.word ++ a ∷ []) ≡ place s xs (chooser_of rule s xs (jobs_after s xs)) = placed_by-more s [] t.word a ∙ ap (λ j. place s xs j) job in
    let Q : Standing → Type 0 = λ v. GoesOn rule s v (suc n) in
    subst Q (sym is) (record {
      shop = goes.shop;
      follows = follows-more s [] t.word a goes.follows next.follows;
      size = omega (arith, goes.size, length-append t.word (a ∷ []));
      rest = append_assoc t.word (a ∷ []) (rule_word s (chooser_of rule s) k (placed_in s (t.word ++ a ∷ [])))
          ∙ ap (λ ys. t.word ++ (a ∷ rule_word s (chooser_of rule s) k ys)) after
          ∙ ap (λ b. t.word ++ (b ∷ rule_word s (chooser_of rule s) k (place s xs (chooser_of rule s xs (jobs_after s xs))))) next.is
          ∙ ap (λ m. t.word ++ rule_word s (chooser_of rule s) m xs) (sym left)
          ∙ goes.rest;
    })
