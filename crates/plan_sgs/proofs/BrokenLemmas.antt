-- The links of an instance are the arcs of its network.
use Rattle.std.proofs.Common.{ℕ, ◌≡◌, ◌≢◌, ◌+◌, ◌-◌, ◌≤◌, ◌<◌, inl, inr, List, [], ◌∷◌, length, get_or, Option, Some, None, refl, sym, ◌∙◌, ap, subst, arith}
use Rattle.std.specs.List.{All, Contains, slice_get}
use Rattle.std.proofs.lemmas.Bool.{cases_lt, cases_order}
use Rattle.std.proofs.lemmas.List.{length-map, get_or-map, get_or_past}
use Rattle.std.proofs.lemmas.Option.{none-some, same_Some}
use Rattle.std.proofs.lemmas.List.Elements.{All-map, All-weaker, All-contains, All-contains_itself}
use Rattle.plan_net.specs.Network.{Net, IsActivity, IsArc, IsLeast, count_of, duration_of, lag_of}
use Rattle.plan_net.specs.Limits.{IsSound}
use Rattle.plan_profile.specs.Usage.{IsInTime}
use Rattle.plan_profile.specs.InUse.{in_use, capacities}
use Rattle.plan_profile.specs.declared.profile.Profile.{Profile}
use Rattle.plan_sgs.specs.Problem.{Problem, Link, count, duration, need, capacity, all_placed, KeepsArcs, NeedsFit}
use Rattle.plan_sgs.specs.Serial.{release, end_of}
use Rattle.plan_sgs.specs.Instances.{Planned, IsInstance, link_of, problem_of}
use Rattle.plan_sgs.specs.Placement.{IsPartialSchedule}
use Rattle.plan_sgs.specs.Verdicts.{Breaks, IsNoLater, IsFirstBroken}
use Rattle.plan_sgs.specs.Checks.{IsTooSoon, HoldsBefore}
use Rattle.plan_sgs.proofs.BoundedLemmas.{bounded}
use Rattle.plan_sgs.proofs.PlacingLemmas.{end_of-placed, release_above, release_least}
use Rattle.plan_sgs.proofs.Shifts.{IsRelease, IsAskedFor}
use Rattle.plan_sgs.proofs.InstanceLemmas.{count-problem, duration-problem, need-problem}

-- a fact of each arc's link is a fact of each link
pub links_have : (i : Planned) (P : Link → Type 0) → ((h j : ℕ) → IsArc i.project.network h j → P (link_of i.project.network (h, j))) → All P (problem_of i).links
unfolding problem_of
links_have i P each =
    let net = i.project.network in
    All-map P (link_of net) net.arcs (All-weaker (Contains net.arcs) (λ arc. P (link_of net arc)) (λ arc here. each arc.0 arc.1 here) net.arcs (All-contains_itself net.arcs))

-- each arc has its link
pub link_there : (i : Planned) (h j : ℕ) → IsArc i.project.network h j → Contains (problem_of i).links (link_of i.project.network (h, j))
unfolding problem_of
link_there i h j (place, within, is) =
    let net = i.project.network in
    let link = link_of net (h, j) in
    (place, omega (arith, within, length-map net.arcs (link_of net)), get_or-map (link_of net) net.arcs place (h, j) link within ∙ ap (link_of net) is)

-- the ends of an arc are activities
pub ends_of : (i : Planned) (h j : ℕ) → IsSound i.project.network → IsArc i.project.network h j → IsActivity i.project.network h × IsActivity i.project.network j
ends_of i h j sound arc = All-contains (λ (a : ℕ × ℕ). IsActivity i.project.network a.0 × IsActivity i.project.network a.1) i.project.network.arcs (h, j) sound.limits.arcs arc

-- no arc leads from an activity to itself
pub no_loop : (net : Net) (j : ℕ) → IsSound net → IsActivity net j → IsArc net j j → ⊥
no_loop net j sound activity arc = sound.acyclic j (j ∷ []) ((activity, (arc, tt)), omega arith, refl)

-- a list of starts that breaks no arc keeps all
pub kept_arcs : (i : Planned) (s : List ℕ) → IsSound i.project.network →
    ((h : ℕ) → h < count_of i.project.network → (j : ℕ) → IsArc i.project.network (h + 1) j →
    IsTooSoon i.project.network s (h + 1) j → ⊥) → KeepsArcs (problem_of i) s
unfolding problem_of
kept_arcs i s sound none = links_have i (λ a. get_or s a.from 0 + duration (problem_of i) a.from + a.lag ≤ get_or s a.to 0) kept where
  kept : (h j : ℕ) → IsArc i.project.network h j → get_or s (h - 1) 0 + get_or i.project.network.durations (h - 1) 0 + lag_of i.project.network h j ≤ get_or s (j - 1) 0
  kept h j arc = elim (cases_lt (get_or s (j - 1) 0) (get_or s (h - 1) 0 + duration_of i.project.network h + lag_of i.project.network h j)) [
    | inr order ↦ order
    | inl early ↦
        let ends = ends_of i h j sound arc in
        let same : h ≡ h - 1 + 1 = omega (arith, ends.0.0) in
        let arc' : IsArc i.project.network (h - 1 + 1) j = subst (λ (x : ℕ). IsArc i.project.network x j) same arc in
        let early' : IsTooSoon i.project.network s (h - 1 + 1) j = subst (λ (x : ℕ). IsTooSoon i.project.network s x j) same early in
        absurd (none (h - 1) (omega (arith, ends.0.0, ends.0.1)) j arc' early')
  ]

-- the least broken arc from the first activity with one is the first broken link
pub broken_first : (i : Planned) (s : List ℕ) (n j : ℕ) → IsSound i.project.network → ((h : ℕ) → h < n → (k : ℕ) → IsArc i.project.network (h + 1) k → IsTooSoon i.project.network s (h + 1) k → ⊥)
    → IsLeast (λ k. IsArc i.project.network (n + 1) k × IsTooSoon i.project.network s (n + 1) k) j → (0 < j) × IsFirstBroken (problem_of i) s n (j - 1)
unfolding problem_of
broken_first i s n j sound none least = (
  omega (arith, ends.1.0),
  record {
    broken = (link_of i.project.network (n + 1, j), link_there i (n + 1) j least.0.0, least.0.1, omega arith, refl);
    first = links_have i (λ a. Breaks (problem_of i) s a → IsNoLater n (j - 1) a.from a.to) later;
  },
) where
  ends : IsActivity i.project.network (n + 1) × IsActivity i.project.network j
  ends = ends_of i (n + 1) j sound least.0.0

  later : (h k : ℕ) → IsArc i.project.network h k → IsTooSoon i.project.network s h k → IsNoLater n (j - 1) (h - 1) (k - 1)
  later h k arc early =
      let others = ends_of i h k sound arc in
      let same : h ≡ h - 1 + 1 = omega (arith, others.0.0) in
      let arc' : IsArc i.project.network (h - 1 + 1) k = subst (λ (x : ℕ). IsArc i.project.network x k) same arc in
      let early' : IsTooSoon i.project.network s (h - 1 + 1) k = subst (λ (x : ℕ). IsTooSoon i.project.network s x k) same early in
      elim (cases_order n (h - 1)) [
        | inr (inl before) ↦ inl before
        | inr (inr after) ↦ absurd (none (h - 1) after k arc' early')
        | inl equal ↦
            let here : h ≡ n + 1 = omega (arith, same, equal) in
            let order : j ≤ k = least.1 k (subst (λ (x : ℕ). IsArc i.project.network x k) here arc, subst (λ (x : ℕ). IsTooSoon i.project.network s x k) here early) in
            inr (equal, omega (arith, order))
      ]

-- no link leads from an activity to itself
links_apart : (i : Planned) → IsSound i.project.network → All (λ a. a.from ≢ a.to) (problem_of i).links
links_apart i sound = links_have i (λ a. a.from ≢ a.to) (λ h j arc same.
    let ends = ends_of i h j sound arc in
    let one : h ≡ j = omega (arith, same, ends.0.0, ends.1.0) in
    no_loop i.project.network j sound ends.1 (subst (λ (x : ℕ). IsArc i.project.network x j) one arc))

-- the start of an activity in a list of starts
placed_start : (s : List ℕ) (h : ℕ) → h < length s → get_or (all_placed s) h None ≡ Some (get_or s h 0)
placed_start s h within = get_or-map Some s h 0 None within

-- a list of starts is a partial schedule that places all activities
pub whole_schedule : (i : Planned) (s : List ℕ) → IsInstance i → length s ≡ count (problem_of i) → All IsInTime s → IsPartialSchedule i (all_placed s) 10010000
whole_schedule i s instance size limit = record {
  size = length-map s Some ∙ size;
  ends = λ h start is. elim (cases_lt h (length s)) [
    | inl within ↦
        let same : get_or s h 0 ≡ start = same_Some (get_or s h 0) start (sym (placed_start s h within) ∙ is) in
        omega (arith, same, limit h 0 within, (bounded i instance).lasting h)
    | inr past ↦ absurd (none-some start (sym (get_or_past (all_placed s) h None (omega (arith, past, length-map s Some))) ∙ is))
  ];
}

-- with all activities placed, the release is that of a list of starts
pub release_whole : (i : Planned) (s : List ℕ) (j : ℕ) → IsInstance i → length s ≡ count (problem_of i) → IsRelease (problem_of i) s j (release (problem_of i) (all_placed s) j)
release_whole i s j instance size = record {
  released = λ k d within to apart. omega (arith, end_at k d within, release_above p placed j k d within to);
  least = λ t by. release_least p placed j t (λ k d within to.
      omega (arith, end_at k d within, by k d within to (λ same. links_apart i instance.project.network k d within (same ∙ sym to))));
} where
  p : Problem
  p = problem_of i

  placed : List (Option ℕ)
  placed = all_placed s

  end_at : (k : ℕ) (d : Link) → k < length p.links → end_of p placed (get_or p.links k d).from ≡ get_or s (get_or p.links k d).from 0 + duration p (get_or p.links k d).from
  end_at k d within =
      let h = (get_or p.links k d).from in
      let inside : h < length s = omega (arith, ((bounded i instance).inside k d within).0, size) in
      end_of-placed p placed h (get_or s h 0) (placed_start s h inside)

-- a profile that holds all needs before an instant answers the query for an activity that starts by
-- then
pub asked_at : (i : Planned) (net : Net) (s : List ℕ) (j end d : ℕ) (profile : Profile) (row : List ℕ) →
    net ≡ i.project.network → IsActivity i.project.network j → HoldsBefore end (problem_of i) s profile →
    get_or s (j - 1) 0 ≤ end
    → d ≡ duration_of net j → slice_get i.project.needs (j - 1) ≡ Some row → IsAskedFor (problem_of i) s (j - 1) (capacities profile) (in_use profile) d row
asked_at i net s j end d profile row is activity holds ends lasts here = record {
  capacities = holds.caps;
  held = λ t k early within. holds.used t k (omega (arith, early, ends)) within;
  lasts = lasts ∙ ap (λ (n : Net). duration_of n j) is ∙ sym (duration-problem i (j - 1) j place);
  each = need-problem i (j - 1) j row place here;
} where
  place : j ≡ j - 1 + 1
  place = omega (arith, activity.0)

-- an activity of positive duration needs at most the capacities
pub needs_room : (i : Planned) (net : Net) (j d : ℕ) (caps row : List ℕ) → net ≡ i.project.network →
    IsActivity i.project.network j → NeedsFit (problem_of i) → caps ≡ (problem_of i).capacities →
    d ≡ duration_of net j → slice_get i.project.needs (j - 1) ≡ Some row
    → 0 < d → (k : ℕ) → k < length caps → get_or row k 0 ≤ get_or caps k 0
needs_room i net j d caps row is activity fit same lasts here some k within =
    let place : j ≡ j - 1 + 1 = omega (arith, activity.0) in
    let long : duration_of net j ≡ duration (problem_of i) (j - 1) = ap (λ (n : Net). duration_of n j) is ∙ sym (duration-problem i (j - 1) j place) in
    let room : need (problem_of i) (j - 1) k ≤ capacity (problem_of i) k =
    fit (j - 1) k (omega (arith, activity.0, activity.1, count-problem i))
    (omega (arith, some, lasts, long)) (omega (arith, within, ap length same)) in
    omega (arith, room, need-problem i (j - 1) j row place here k, ap (λ (xs : List ℕ). get_or xs k 0) same)
