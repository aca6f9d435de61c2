-- A store stays open through calls, as long as no fault is counted.
use Rattle.std.proofs.Common.{inl, inr, arith}
use Rattle.sqlite_trees.specs.Tree.{Trees}
use Rattle.sqlite.specs.State.{State, HasCleanDisk, Survives}
use Rattle.plan_store.specs.Endurance.{Endures}

pub endures_itself : (s : State) → Endures s s
endures_itself s = record { counts = omega arith; closes = λ clean live. inl live }

pub endures_then : (a b c : State) → (HasCleanDisk c → HasCleanDisk b) → Endures a b → Endures b c → Endures a c
endures_then a b c honesty one two = record {
  counts = omega (arith, one.counts, two.counts);
  closes = λ clean live. elim (one.closes (honesty clean) live) [
    | inl still ↦ elim (two.closes clean still) [ inl last ↦ inl last | inr fault ↦ inr (omega (arith, one.counts, fault)) ]
    | inr fault ↦ inr (omega (arith, two.counts, fault))
  ];
}

-- a state that survives a call endures it
pub endures_by : (a b : State) (Commits : Trees → Type 0) → Survives a b Commits → Endures a b
endures_by a b Commits survives = record { counts = survives.counts; closes = survives.closes }
