use Rattle.std.proofs.Common.{◌∙◌, sym, arith}
use Rattle.std.proofs.lemmas.List.Sorted.{IsPermutation-refl, IsPermutation-swap}
use Rattle.std.specs.List.Sorted.{IsPermutation}
use Rattle.plan_kernel.proofs.KeptLemmas.{reordered_none, swapped_at, hole_at}
use Rattle.plan_kernel.proofs.known.swap.Goals as goal
use Rattle.plan_kernel.proofs.known.swap.Goals.{then-one-len+then-other-len, else-one-len}

pub returns-then-place-len : goal.returns-then-place-len
returns-then-place-len c = reordered_none c.args.clauses.now.items

pub returns-after-one-len : goal.returns-after-one-len
returns-after-one-len c =
    let literals = c.in-Some.literals in
    let same : IsPermutation literals.items c.if-one-len.literals.items =
    elim c.if-one-len.branch [
      | then-one-len+then-other-len w ↦ rw w.literals-is
          (IsPermutation-swap literals.items w.swap.new.self.items c.args.one c.args.other
          (omega (arith, w.if-one-len.true, c.len-in-Some.ensures))
          (omega (arith, w.if-other-len.true, w.len-then-one-len.ensures)) w.swap.ensures.items)
      | else-one-len w ↦ rw w.literals-is (IsPermutation-refl literals.items)
    ] in
    swapped_at c.args.clauses.now.items c.args.clause c.index_mut.result.now c.replace.new.dest literals c.if-one-len.literals (omega (arith, c.if-place-len.false, c.len.ensures))
    c.index_mut.ensures.value (sym c.replace.ensures.value ∙ c.in-Some.is) same

pub returns-in_default : goal.returns-in_default
returns-in_default c =
    hole_at c.args.clauses.now.items c.args.clause c.index_mut.result.now c.replace.new.dest (omega (arith, c.if-place-len.false, c.len.ensures))
    c.index_mut.ensures.value (c.replace.ensures.after ∙ (sym c.in_default.is ∙ c.replace.ensures.value))
