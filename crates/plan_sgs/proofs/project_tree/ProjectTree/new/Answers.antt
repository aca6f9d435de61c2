-- Nothing is placed yet.
use Rattle.std.proofs.Common.{List, [], ◌∷◌, ◌++◌, ◌≡◌, replicate, None, sym, ap, subst, ◌∙◌, rules}
use Rattle.plan_net.specs.Network.{Net, count_of}
use Rattle.plan_profile.specs.InUse.{in_use}
use Rattle.plan_sgs.specs.Problem.{count}
use Rattle.plan_sgs.specs.Serial.{unplaced}
use Rattle.plan_sgs.specs.Instances.{problem_of}
use Rattle.plan_sgs.specs.Eligibility.{AreInDegrees}
use Rattle.plan_sgs.specs.ProjectWords.{placed_by, IsWord}
use Rattle.plan_profile.specs.declared.profile.Profile.{Profile}
use Rattle.plan_sgs.specs.Placement.{Holds}
use Rattle.plan_sgs.specs.ProjectTrees.{word_of, AreTurns, AreProfiles, AreWaits}
use Rattle.plan_sgs.proofs.ProjectWaitLemmas.{waits_first}
use Rattle.plan_sgs.proofs.ProjectTurnLemmas.{first_profile}
use Rattle.plan_sgs.specs.declared.project_tree.Turn.{Turn}
use Rattle.plan_sgs.proofs.InstanceLemmas.{count-problem, capacities-problem}
use Rattle.plan_sgs.proofs.PlaceLemmas.{none_used}
use Rattle.plan_sgs.proofs.project_tree.ProjectTree.new.Goals as goal

pub invariant_of-result : goal.invariant_of-result
invariant_of-result c =
    let i = c.args.instance.now in
    let none : c.in_ok-placed.placed.items ≡ replicate c.len.result None = search rules in
    let size : c.len.result ≡ count (problem_of c.args.instance.now) = c.len.ensures.count ∙ ap count_of c.network-2.ensures.network ∙ sym (count-problem c.args.instance.now) in
    let degrees = subst (λ (n : Net). AreInDegrees (count_of n) n.arcs c.in_ok-waits.waits.items) c.network-3.ensures.network c.in_ok-waits.ensures in
    let empty : c.in_ok-turns.turns.items ≡ [] = c.in_ok-turns.ensures.items in
    let held : Holds c.in_ok-new.field-0 (problem_of c.args.instance.now) (placed_by c.args.instance.now []) = record {
      caps = c.in_ok-new.ensures.caps ∙ c.in_ok-caps.ensures.items ∙ c.caps.ensures ∙ sym (capacities-problem i);
      used = none_used (in_use c.in_ok-new.field-0) (problem_of i) c.in_ok-new.ensures.none;
    } in
    record {
      instance = c.network.ensures.instance;
      tails_are = search (rules, c.network.ensures.network);
      least_is = c.least_of_all-least.ensures;
      word = subst (λ (xs : List Turn). IsWord c.args.instance.now (word_of xs)) (sym empty) tt;
      placed_are = none ∙ ap unplaced size ∙ ap (λ (xs : List Turn). placed_by c.args.instance.now (word_of xs)) (sym empty);
      waits_are = subst (λ (xs : List Turn). AreWaits c.args.instance.now (word_of xs) c.in_ok-waits.waits.items) (sym empty) (waits_first i c.in_ok-waits.waits.items degrees);
      profiles_are = subst (λ (xs : List Turn). AreProfiles c.args.instance.now
          (word_of xs) c.push.new.self.items) (sym empty)
          (first_profile i c.in_ok-new.field-0 c.push.new.self.items held
          (c.in_ok-push.ensures.items ∙ ap (λ (xs : List Profile). xs ++ c.in_ok-new.field-0 ∷ [])
          c.new-profiles.ensures.items));
      turns_are = subst (AreTurns i []) (sym empty) tt;
    }
