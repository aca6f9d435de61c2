-- The number of predecessors that activities wait for at the word of a project's tree, and with one
-- letter more or less.
use Rattle.std.proofs.Common.{ℕ, Bool, not, nat_eq, ◌&&◌, ◌≡◌, ◌+◌, ◌-◌, ◌≤◌, ◌<◌, List, [], ◌∷◌, ◌++◌, length, get_or, sym, ◌∙◌, ap, arith}
use Rattle.std.specs.List.{Contains}
use Rattle.std.proofs.lemmas.List.{length-map, map_push}
use Rattle.std.proofs.lemmas.List.Sums.{count_by-le-length}
use Rattle.plan_net.specs.Network.{count_of, IsArc}
use Rattle.plan_net.specs.Limits.{IsSound}
use Rattle.plan_net.proofs.RowLemmas.{arc_ends}
use Rattle.plan_sgs.specs.Rules.{places, is_member, is_eligible}
use Rattle.plan_sgs.specs.Instances.{Planned, problem_of, link_of}
use Rattle.plan_sgs.specs.Eligibility.{AreInDegrees, Lowers, is_open, open_links, arcs_between}
use Rattle.plan_sgs.specs.ProjectWords.{letters_after}
use Rattle.plan_sgs.specs.ProjectTrees.{AreWaits}
use Rattle.plan_sgs.proofs.SerialLemmas.{eligible_not}
use Rattle.plan_sgs.proofs.CountLemmas.{between_some}
use Rattle.plan_sgs.proofs.OpenLemmas.{eligible_open, open_first, open_more, links_as_arcs}
use Rattle.plan_sgs.proofs.WordLemmas.{letter_is}

-- at the empty word
pub waits_first : (i : Planned) (waits : List ℕ) → AreInDegrees (count_of i.project.network) i.project.network.arcs waits → AreWaits i [] waits
waits_first i waits degrees = record {
  size = degrees.size;
  each = λ h inside. degrees.each h inside ∙ sym (open_first i h);
}

-- the counts after one more letter
open_letter : (i : Planned) (w : List ℕ) (a h : ℕ) → Contains (letters_after i w) a
    → open_links (problem_of i) (places (w ++ a ∷ [])) h + arcs_between i.project.network.arcs (a - 1) h ≡ open_links (problem_of i) (places w) h
open_letter i w a h may =
    let more = open_more (problem_of i) (places w) (a - 1) h (eligible_not (problem_of i) (places w) (a - 1) (letter_is i w a may).eligible) in
    let word = ap (λ (taken : List ℕ). open_links (problem_of i) taken h) (map_push (λ (j : ℕ). j - 1) w a) in
    omega (arith, more, word, links_as_arcs i (a - 1) h)

pub waits_push : (i : Planned) (w : List ℕ) (a : ℕ) (waits lowered : List ℕ) → AreWaits i w waits → Contains (letters_after i w) a → Lowers i.project.network a waits lowered
    → AreWaits i (w ++ a ∷ []) lowered
waits_push i w a waits lowered are may lowers = record {
  size = lowers.size ∙ are.size;
  each = λ h inside. omega (arith, lowers.each h (omega (arith, inside, are.size)), are.each h inside, open_letter i w a h may);
}

pub waits_pop : (i : Planned) (w : List ℕ) (a : ℕ) (waits raised : List ℕ) → AreWaits i (w ++ a ∷ []) waits → Contains (letters_after i w) a → Lowers i.project.network a raised waits
    → AreWaits i w raised
waits_pop i w a waits raised are may lowers = record {
  size = sym lowers.size ∙ are.size;
  each = λ h inside. omega (arith, lowers.each h (omega (arith, inside, are.size, lowers.size)), are.each h inside, open_letter i w a h may);
}

-- each successor of a letter waits for at least one
pub letter_waits : (i : Planned) (w : List ℕ) (a : ℕ) (waits : List ℕ) → IsSound i.project.network → AreWaits i w waits → Contains (letters_after i w) a
    → (h : ℕ) → IsArc i.project.network a h → 1 ≤ get_or waits (h - 1) 0
letter_waits i w a waits sound are may h arc =
    let ends = arc_ends i.project.network a h sound.limits arc in
    omega (arith, are.each (h - 1) (omega (arith, ends.1)), open_letter i w a (h - 1) may, between_some i.project.network a h arc)

-- none waits for more than the number of arcs
pub waits_limit : (i : Planned) (w waits : List ℕ) → AreWaits i w waits → (h : ℕ) → h < length waits → get_or waits h 0 ≤ length i.project.network.arcs
unfolding problem_of
waits_limit i w waits are h inside =
    omega (arith, are.each h (omega (arith, inside, are.size)), count_by-le-length (is_open (places w) h) (problem_of i).links, length-map i.project.network.arcs (link_of i.project.network))

-- exactly the activities that aren't placed and wait for none are eligible
pub eligible_by : (i : Planned) (w waits : List ℕ) (h : ℕ) (taken : Bool) → AreWaits i w waits → h < count_of i.project.network → taken ≡ is_member h (places w)
    → (not taken && nat_eq (get_or waits h 0) 0) ≡ is_eligible (problem_of i) (places w) h
eligible_by i w waits h taken are inside is =
    ap (λ (b : Bool). not b && nat_eq (get_or waits h 0) 0) is ∙ ap (λ (n : ℕ). not (is_member h (places w)) && nat_eq n 0) (are.each h inside) ∙ sym (eligible_open (problem_of i) (places w) h)
