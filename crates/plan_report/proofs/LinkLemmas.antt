-- Tight arcs of an instance, by the numbers of their activities.
use Rattle.std.proofs.Common.{ℕ, ◌≡◌, ◌+◌, ◌-◌, ◌<◌, List, length, get_or, refl, subst, arith}
use Rattle.std.proofs.lemmas.List.Elements.{All-contains}
use Rattle.plan_net.specs.Network.{IsActivity, IsArc, lag_of}
use Rattle.plan_net.specs.Limits.{IsSound}
use Rattle.plan_sgs.specs.Problem.{Link, duration}
use Rattle.plan_sgs.specs.Instances.{Planned, problem_of, link_of}
use Rattle.plan_sgs.proofs.BrokenLemmas.{links_have, link_there, ends_of}
use Rattle.plan_report.specs.Chain.{IsTightArc}

-- an arc that is tight
pub tight_from : (i : Planned) (s : List ℕ) (a b : ℕ) → IsArc i.project.network a b → get_or s (a - 1) 0 + duration (problem_of i) (a - 1) + lag_of i.project.network a b ≡ get_or s (b - 1) 0
    → IsTightArc (problem_of i) s (a - 1) (b - 1)
tight_from i s a b arc tight = (link_of i.project.network (a, b), link_there i a b arc, refl, refl, tight)

-- the activities of an arc are those of its link
abbrev IsTightHere : Planned → List ℕ → ℕ → ℕ → Link → Type 0
IsTightHere i s a b link =
    link.from ≡ a - 1 → link.to ≡ b - 1 → get_or s (a - 1) 0 + duration (problem_of i) (a - 1) + link.lag ≡ get_or s (b - 1) 0
    → IsArc i.project.network a b × (get_or s (a - 1) 0 + duration (problem_of i) (a - 1) + lag_of i.project.network a b ≡ get_or s (b - 1) 0)

-- the arc of a tight one
pub tight_arc : (i : Planned) (s : List ℕ) (a b : ℕ) → IsSound i.project.network → IsActivity i.project.network a → IsActivity i.project.network b → IsTightArc (problem_of i) s (a - 1) (b - 1)
    → IsArc i.project.network a b × (get_or s (a - 1) 0 + duration (problem_of i) (a - 1) + lag_of i.project.network a b ≡ get_or s (b - 1) 0)
tight_arc i s a b sound first second (link, there, from, to, tight) =
    All-contains (IsTightHere i s a b) (problem_of i).links link each there from to tight where
      each : (n : ℕ) (d : Link) → n < length (problem_of i).links → IsTightHere i s a b (get_or (problem_of i).links n d)
      each = links_have i (IsTightHere i s a b) (λ g h arc start end tight.
          let ends = ends_of i g h sound arc in
          let one : g ≡ a = omega (arith, start, ends.0.0, first.0) in
          let two : h ≡ b = omega (arith, end, ends.1.0, second.0) in
          subst (λ (x : ℕ). IsArc i.project.network x b × (get_or s (a - 1) 0 + duration (problem_of i) (a - 1) + lag_of i.project.network x b ≡ get_or s (b - 1) 0)) one
          (subst (λ (y : ℕ). IsArc i.project.network g y × (get_or s (a - 1) 0 + duration (problem_of i) (a - 1) + lag_of i.project.network g y ≡ get_or s (b - 1) 0)) two (arc, tight)))
