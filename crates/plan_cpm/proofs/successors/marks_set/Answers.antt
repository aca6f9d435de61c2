use Rattle.std.proofs.Common.{ℕ, false, ◌≡◌, ◌+◌, ◌-◌, ◌≤◌, ◌∷◌, [], ◌++◌, length, get_or, sym, ◌∙◌, ap, subst, arith}
use Rattle.std.proofs.lemmas.List.{length_push}
use Rattle.std.proofs.lemmas.Bool.{false≢true}
use Rattle.plan_net.specs.Network.{ListsRising}
use Rattle.plan_net.specs.Placed.{IsPlaced}
use Rattle.plan_net.proofs.RisingLemmas.{ListsRising-push, ListsRising-skip}
use Rattle.plan_cpm.proofs.successors.marks_set.Goals as goal
use Rattle.plan_cpm.proofs.successors.marks_set.Goals.{then-mark, else-mark}

pub loop-mark-preserved : goal.loop-mark-preserved
loop-mark-preserved c =
    let row = c.args.row.now in
    let k = c.loop-mark.mark-index in
    let inv = c.loop-mark.invariant in
    let same : k + 1 - 1 ≡ k = omega arith in
    let here : get_or row (k + 1 - 1) false ≡ get_or row k false = ap (λ (x : ℕ). get_or row x false) same in
    elim c.if-mark.branch [
      | then-mark w ↦ record {
        counted = (
          inv.counted.0 ++ (k + 1) ∷ [],
          ListsRising-push (IsPlaced row) k inv.counted.0
              (here ∙ w.if-mark.true) inv.counted.1,
          omega
              (arith, length_push inv.counted.0 (k + 1), inv.counted.2, w.count-is),
        );
        small = omega (arith, inv.small, w.count-is);
      }
      | else-mark w ↦ record {
        counted = (inv.counted.0, ListsRising-skip (IsPlaced row) k inv.counted.0 (λ is. false≢true (sym w.if-mark.false ∙ (sym here ∙ is))) inv.counted.1, omega (arith, inv.counted.2, w.count-is));
        small = omega (arith, inv.small, w.count-is);
      }
    ]

pub returns : goal.returns
returns c =
    let all : c.loop-mark.mark-index ≡ length c.args.row.now = omega arith in
    record {
      members = c.loop-mark.invariant.counted.0;
      lists = subst (λ (n : ℕ). ListsRising (λ k. (1 ≤ k) × (k ≤ n) × IsPlaced c.args.row.now k) c.loop-mark.invariant.counted.0) all c.loop-mark.invariant.counted.1;
      long = omega (arith, c.loop-mark.invariant.counted.2, c.from.ensures);
    }
