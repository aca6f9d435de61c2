-- The number of links to an activity from those that aren't taken: 0 if it may come next.
use Rattle.std.proofs.Common.{ℕ, Bool, true, false, not, nat_eq, nat_lt, ◌&&◌, ◌||◌, ◌≡◌, ◌+◌, ◌-◌, ◌≤◌, inl, inr, List, [], ◌∷◌, ◌++◌, refl, sym, ◌∙◌, ap, arith}
use Rattle.std.specs.List.{count_by}
use Rattle.std.proofs.lemmas.Bool.{cases_eq, cases_Bool, and_parts, eqb-true, eq-eqb, ne_eqb, lt-ltb}
use Rattle.plan_sgs.specs.Problem.{Problem, Link}
use Rattle.plan_sgs.specs.Rules.{is_member, is_eligible}
use Rattle.plan_sgs.specs.Instances.{Planned, problem_of, link_of}
use Rattle.plan_sgs.specs.Eligibility.{is_open, open_links, arcs_between}
use Rattle.plan_sgs.proofs.SerialLemmas.{eligible_not, member_last, member_other}
use Rattle.plan_sgs.proofs.CountLemmas.{tally, all_fail, count_parted, count_images}

-- the number of links from one activity to another
abbrev pub links_between : Problem → ℕ → ℕ → ℕ
links_between p g h = count_by (λ a. nat_eq a.from g && nat_eq a.to h) p.links

-- an activity is eligible if it isn't taken and there is no such link to it
pub eligible_open : (p : Problem) (taken : List ℕ) (h : ℕ) → is_eligible p taken h ≡ (not (is_member h taken) && nat_eq (open_links p taken h) 0)
eligible_open p taken h = ap (λ (b : Bool). not (is_member h taken) && b)
    (all_fail (is_open taken h) (λ a. not (nat_eq a.to h) || is_member a.from taken)
    (λ a. turned (nat_eq a.to h) (is_member a.from taken)) p.links) where
      turned : (to has : Bool) → (not to || has) ≡ not (to && not has)
      turned true true = refl
      turned true false = refl
      turned false has = refl

-- after one more is taken, its links are no longer counted
pub open_more : (p : Problem) (taken : List ℕ) (g h : ℕ) → is_member g taken ≡ false → open_links p (taken ++ g ∷ []) h + links_between p g h ≡ open_links p taken h
open_more p taken g h new = count_parted (is_open (taken ++ g ∷ []) h) (λ a. nat_eq a.from g && nat_eq a.to h) (is_open taken h) each p.links where
  from_it : (to : Bool) → tally (to && not true) + tally (true && to) ≡ tally (to && not false)
  from_it true = refl
  from_it false = refl

  each : (a : Link) → tally (is_open (taken ++ g ∷ []) h a) + tally (nat_eq a.from g && nat_eq a.to h) ≡ tally (is_open taken h a)
  each a = elim (cases_eq a.from g) [
    | inl same ↦ rw (same, member_last g taken, new, eq-eqb g g refl) (from_it (nat_eq a.to h))
    | inr other ↦ rw (member_other a.from g taken other, ne_eqb a.from g other) (omega arith)
  ]

-- while none is taken, all are counted that lead to it
pub open_first : (i : Planned) (h : ℕ) → open_links (problem_of i) [] h ≡ count_by (λ arc. nat_eq (arc.1 - 1) h) i.project.network.arcs
unfolding problem_of
open_first i h = count_images (is_open [] h) (link_of i.project.network) (λ arc. nat_eq (arc.1 - 1) h) (λ arc. and_true (nat_eq (arc.1 - 1) h)) i.project.network.arcs where
  and_true : (b : Bool) → (b && true) ≡ b
  and_true true = refl
  and_true false = refl

-- links between places are arcs between them
pub links_as_arcs : (i : Planned) (g h : ℕ) → links_between (problem_of i) g h ≡ arcs_between i.project.network.arcs g h
unfolding problem_of
links_as_arcs i g h = count_images (λ a. nat_eq a.from g && nat_eq a.to h) (link_of i.project.network) (λ arc. nat_eq (arc.0 - 1) g && nat_eq (arc.1 - 1) h) (λ arc. refl) i.project.network.arcs

-- an eligible activity isn't taken, and no such link leads to it
open_none : (p : Problem) (taken : List ℕ) (h : ℕ) → is_eligible p taken h ≡ true → open_links p taken h ≡ 0
open_none p taken h is = eqb-true (open_links p taken h) 0 (and_parts (not (is_member h taken)) (nat_eq (open_links p taken h) 0) (sym (eligible_open p taken h) ∙ is)).1

-- those that are taken still wait for none, once an eligible one is taken
pub settled_more : (p : Problem) (taken : List ℕ) (g : ℕ) →
    ((h : ℕ) → is_member h taken ≡ true → open_links p taken h ≡ 0) → is_eligible p taken g ≡ true → (h : ℕ) →
    is_member h (taken ++ g ∷ []) ≡ true → open_links p (taken ++ g ∷ []) h ≡ 0
settled_more p taken g settled eligible h has = omega (arith, none, open_more p taken g h (eligible_not p taken g eligible)) where
  none : open_links p taken h ≡ 0
  none = elim (cases_eq h g) [
    | inl same ↦ ap (open_links p taken) same ∙ open_none p taken g eligible
    | inr other ↦ settled h (sym (member_other h g taken other) ∙ has)
  ]

-- an activity that waits for none now did so before, or was released
freed : (before now : ℕ) → now ≤ before → tally (nat_eq before 0) + tally (nat_lt 0 before && nat_eq now 0) ≡ tally (nat_eq now 0)
freed before now fell = elim (cases_eq before 0) [
  | inl none ↦ let none' : now ≡ 0 = omega (arith, fell, none) in rw (none, none') refl
  | inr some ↦ rw (ne_eqb before 0 some, lt-ltb 0 before (omega (arith, some))) (omega arith)
]

-- the eligible ones, once one of them is taken: those that were, without it, and those that are
-- freed
pub queued_more : (p : Problem) (taken : List ℕ) (g h times came : ℕ) → is_eligible p taken g ≡ true →
    (is_member h taken ≡ true → open_links p taken h ≡ 0) →
    times + tally (nat_eq g h) ≡ tally (is_eligible p taken h)
    → came ≡ tally (nat_lt 0 (open_links p taken h) && nat_eq (open_links p (taken ++ g ∷ []) h) 0) → times + came ≡ tally (is_eligible p (taken ++ g ∷ []) h)
queued_more p taken g h times came eligible settled counted freed_now = elim (cases_eq h g) [
  | inl same ↦
      let is : tally (is_eligible p taken h) ≡ 1 = ap (λ (b : Bool). tally b) (ap (is_eligible p taken) same ∙ eligible) in
      let it : tally (nat_eq g h) ≡ 1 = ap (λ (b : Bool). tally b) (eq-eqb g h (sym same)) in
      let out : tally (is_eligible p (taken ++ g ∷ []) h) ≡ 0 =
      ap (λ (b : Bool). tally b) (eligible_open p (taken ++ g ∷ []) h
      ∙ ap (λ (b : Bool). not b && nat_eq now 0)
      (ap (λ (k : ℕ). is_member k (taken ++ g ∷ [])) same ∙ member_last g taken)) in
      omega (arith, is, it, out, counted, none (ap (open_links p taken) same ∙ open_none p taken g eligible))
  | inr other ↦ elim (cases_Bool (is_member h taken)) [
    | inl has ↦ omega (
      arith,
      apart other,
      counted,
      before,
      after other,
      none (settled has),
      ap
          (λ (b : Bool). tally (not b && nat_eq (open_links p taken h) 0)) has,
      ap
          (λ (b : Bool). tally (not b && nat_eq now 0)) has,
    )
    | inr new ↦
        omega (
          arith,
          apart other,
          counted,
          before,
          after other,
          freed_now,
          ap
              (λ (b : Bool). tally (not b && nat_eq (open_links p taken h) 0)) new,
          ap
              (λ (b : Bool). tally (not b && nat_eq now 0)) new,
          freed (open_links p taken h) now
              (omega (arith, open_more p taken g h (eligible_not p taken g eligible))),
        )
  ]
] where
  now : ℕ
  now = open_links p (taken ++ g ∷ []) h

  none : open_links p taken h ≡ 0 → came ≡ 0
  none is = freed_now ∙ ap (λ (n : ℕ). tally (nat_lt 0 n && nat_eq now 0)) is

  apart : (h ≡ g → ⊥) → tally (nat_eq g h) ≡ 0
  apart other = ap (λ (b : Bool). tally b) (ne_eqb g h (λ same. other (sym same)))

  before : tally (is_eligible p taken h) ≡ tally (not (is_member h taken) && nat_eq (open_links p taken h) 0)
  before = ap (λ (b : Bool). tally b) (eligible_open p taken h)

  after : (h ≡ g → ⊥) → tally (is_eligible p (taken ++ g ∷ []) h) ≡ tally (not (is_member h taken) && nat_eq now 0)
  after other = ap (λ (b : Bool). tally b) (eligible_open p (taken ++ g ∷ []) h ∙ ap (λ (b : Bool). not b && nat_eq now 0) (member_other h g taken other))
