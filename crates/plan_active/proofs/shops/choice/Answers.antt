use Rattle.std.proofs.Common.{◌≡◌, ℕ, List, get_or, inl, inr, ap, sym, subst, ◌∙◌, arith}
use Rattle.std.specs.Prelude.{Contains}
use Rattle.std.proofs.lemmas.Bool.{cases_eq}
use Rattle.std.proofs.lemmas.List.Elements.{Contains-get_or}
use Rattle.plan_shop.specs.Trees.{Standing, placed}
use Rattle.plan_active.specs.Ranks.{rank_by, letters_of, IsAtWord, AreNextSteps}
use Rattle.plan_active.proofs.GuideLemmas.{least_letter}
use Rattle.plan_active.proofs.shops.choice.Goals as goal
use Rattle.plan_active.proofs.shops.choice.Goals.{then-rank-least, else-rank-least}

pub loop-letter-init : goal.loop-letter-init
loop-letter-init c = record {
  same = c.in_ok-least.ensures.same;
  best = Contains-get_or c.args.letters.now 0 0 c.requires.some;
  rank = c.in_ok-least.ensures.rank;
  least = λ k l. absurd (omega (arith, l));
}

pub rank-requires-in-loop-letter-clause-shop : goal.rank-requires-in-loop-letter-clause-shop
rank-requires-in-loop-letter-clause-shop c = c.requires.shop ∙ sym (ap (λ (t : Standing). t.shop) c.loop-letter.invariant.same)

pub rank-requires-in-loop-letter-clause-word : goal.rank-requires-in-loop-letter-clause-word
rank-requires-in-loop-letter-clause-word c = subst (λ (t : Standing). IsAtWord t) (sym c.loop-letter.invariant.same) c.requires.word

pub rank-requires-in-loop-letter-clause-letter : goal.rank-requires-in-loop-letter-clause-letter
rank-requires-in-loop-letter-clause-letter c =
    let letter = get_or c.args.letters.now c.loop-letter.letter-index 0 in
    let there : Contains c.args.letters.now letter = Contains-get_or c.args.letters.now c.loop-letter.letter-index 0 c.loop-letter-test.true in
    subst (λ (t : Standing). Contains (letters_of t) letter) (sym c.loop-letter.invariant.same) (subst (λ (xs : List ℕ). Contains xs letter) c.requires.letters there)

pub rank-requires-in-loop-letter-clause-next : goal.rank-requires-in-loop-letter-clause-next
rank-requires-in-loop-letter-clause-next c = subst (λ (t : Standing). AreNextSteps t.shop (placed t) c.args.next.now) (sym c.loop-letter.invariant.same) c.requires.next

pub returns-in_err-rank-clause-same : goal.returns-in_err-rank-clause-same
returns-in_err-rank-clause-same c = c.in_err-rank.ensures.same ∙ c.loop-letter.invariant.same

pub loop-letter-preserved : goal.loop-letter-preserved
loop-letter-preserved c =
    let inv = c.loop-letter.invariant in
    let i = c.loop-letter.letter-index in
    let letter = get_or c.args.letters.now i 0 in
    let t = c.args.tree.now in
    let starts = c.args.starts.now in
    let new : c.in_ok-rank.rank ≡ rank_by t starts letter = c.in_ok-rank.ensures.rank ∙ ap (λ (u : Standing). rank_by u starts letter) inv.same in
    elim c.if-rank-least.branch [
      | then-rank-least w ↦ record {
        same = c.in_ok-rank.ensures.same ∙ inv.same;
        best = subst (λ (x : ℕ). Contains c.args.letters.now x) (sym w.best-is) (Contains-get_or c.args.letters.now i 0 c.loop-letter-test.true);
        rank = w.least-is ∙ new ∙ ap (rank_by t starts) (sym w.best-is);
        least = λ k l. elim (cases_eq k i) [
          | inl same ↦ omega (arith, w.least-is, new, ap (λ x. rank_by t starts (get_or c.args.letters.now x 0)) same)
          | inr other ↦ omega (arith, w.least-is, w.if-rank-least, inv.least k (omega (arith, l, other)))
        ];
      }
      | else-rank-least w ↦ record {
        same = c.in_ok-rank.ensures.same ∙ inv.same;
        best = subst (λ (x : ℕ). Contains c.args.letters.now x) (sym w.best-is) inv.best;
        rank = w.least-is ∙ inv.rank ∙ ap (rank_by t starts) (sym w.best-is);
        least = λ k l. elim (cases_eq k i) [
          | inl same ↦ omega (arith, w.least-is, w.if-rank-least, new, ap (λ x. rank_by t starts (get_or c.args.letters.now x 0)) same)
          | inr other ↦ omega (arith, w.least-is, inv.least k (omega (arith, l, other)))
        ];
      }
    ]

pub returns-clause-same : goal.returns-clause-same
returns-clause-same c = c.loop-letter.invariant.same

pub returns-clause-least : goal.returns-clause-least
returns-clause-least c =
    let inv = c.loop-letter.invariant in
    least_letter c.args.tree.now c.args.starts.now c.args.letters.now c.loop-letter.best c.loop-letter.least c.requires.letters inv.best inv.rank
    (λ k l. inv.least k (omega (arith, l, c.loop-letter-test.false)))
