-- The successors of an activity, as arcs and as links.
use Rattle.std.proofs.Common.{ℕ, ◌≡◌, ◌≢◌, ◌+◌, ◌-◌, ◌≤◌, List, get_or, Some, refl, sym, ◌∙◌, ap, subst, arith}
use Rattle.std.specs.List.{slice_get}
use Rattle.plan_net.specs.Network.{Net, IsActivity, IsArc, lag_of, duration_of}
use Rattle.plan_net.specs.Limits.{IsSound}
use Rattle.plan_profile.specs.InUse.{in_use, capacities}
use Rattle.plan_profile.specs.declared.profile.Profile.{Profile}
use Rattle.plan_sgs.specs.Problem.{duration, KeepsArcs}
use Rattle.plan_sgs.specs.Instances.{Planned, problem_of}
use Rattle.plan_sgs.specs.Checks.{HoldsBefore}
use Rattle.plan_sgs.proofs.BoundedLemmas.{link_at}
use Rattle.plan_sgs.proofs.BrokenLemmas.{links_have, ends_of, no_loop}
use Rattle.plan_sgs.proofs.InstanceLemmas.{duration-problem, need-problem}
use Rattle.plan_report.specs.Slack.{LetEnd}
use Rattle.plan_report.proofs.MoveLemmas.{IsAskedFor}

-- an arc of a feasible list is kept
pub arc_kept : (i : Planned) (s : List ℕ) (j h : ℕ) → KeepsArcs (problem_of i) s → IsArc i.project.network j h
    → get_or s (j - 1) 0 + duration (problem_of i) (j - 1) + lag_of i.project.network j h ≤ get_or s (h - 1) 0
arc_kept i s j h kept arc = link_at i (λ a. get_or s a.from 0 + duration (problem_of i) a.from + a.lag ≤ get_or s a.to 0) kept j h arc

-- a successor lets an activity end by its start less the lag
pub arc_lets : (i : Planned) (s : List ℕ) (j h end : ℕ) → IsSound i.project.network → IsArc i.project.network j h
    → LetEnd (problem_of i) s (j - 1) end → end + lag_of i.project.network j h ≤ get_or s (h - 1) 0
arc_lets i s j h end sound arc lets =
    let ends = ends_of i j h sound arc in
    link_at i (λ a. a.from ≡ j - 1 → a.to ≢ j - 1 → end + a.lag ≤ get_or s a.to 0) lets j h arc refl (λ same.
    let one : h ≡ j = omega (arith, same, ends.0.0, ends.1.0) in
    no_loop i.project.network j sound ends.0 (subst (λ (x : ℕ). IsArc i.project.network j x) one arc))

-- all successors let it end if each does
pub lets_from_arcs : (i : Planned) (s : List ℕ) (j end : ℕ) → IsSound i.project.network → IsActivity i.project.network j
    → ((h : ℕ) → IsArc i.project.network j h → end + lag_of i.project.network j h ≤ get_or s (h - 1) 0) → LetEnd (problem_of i) s (j - 1) end
lets_from_arcs i s j end sound activity each = links_have i (λ a. a.from ≡ j - 1 → a.to ≢ j - 1 → end + a.lag ≤ get_or s a.to 0) (λ g h arc from apart.
    let ends = ends_of i g h sound arc in
    let one : g ≡ j = omega (arith, from, ends.0.0, activity.0) in
    subst (λ (x : ℕ). IsArc i.project.network x h → end + lag_of i.project.network x h ≤ get_or s (h - 1) 0) (sym one) (each h) arc)

-- the duration of an activity is that of its index
pub same_duration : (i : Planned) (net : Net) (j d : ℕ) → net ≡ i.project.network → IsActivity i.project.network j → d ≡ duration_of net j → d ≡ duration (problem_of i) (j - 1)
same_duration i net j d is activity lasts =
    let place : j ≡ j - 1 + 1 = omega (arith, activity.0) in
    lasts ∙ ap (λ (n : Net). duration_of n j) is ∙ sym (duration-problem i (j - 1) j place)

-- a profile that holds all needs before an instant answers for an activity
pub asked_here : (i : Planned) (net : Net) (s : List ℕ) (j end d : ℕ) (profile : Profile) (row : List ℕ) →
    net ≡ i.project.network → IsActivity i.project.network j → HoldsBefore end (problem_of i) s profile
    → d ≡ duration_of net j → slice_get i.project.needs (j - 1) ≡ Some row → IsAskedFor (problem_of i) s (j - 1) end (capacities profile) (in_use profile) d row
asked_here i net s j end d profile row is activity holds lasts here = record {
  capacities = holds.caps;
  held = holds.used;
  lasts = same_duration i net j d is activity lasts;
  each = need-problem i (j - 1) j row place here;
} where
  place : j ≡ j - 1 + 1
  place = omega (arith, activity.0)
