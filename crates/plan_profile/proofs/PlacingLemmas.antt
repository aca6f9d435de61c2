-- Steps while an interval is placed: cut at its start and end, raised between them, and merged
-- there.
use Rattle.std.proofs.Common.{◌≡◌, ◌≢◌, ℕ, zero, suc, ◌+◌, ◌-◌, ◌≤◌, ◌<◌, ◌&&◌, cond, nat_le, nat_lt, List, [], get_or, refl, sym, ◌∙◌, ap, subst, inl, inr, arith}
use Rattle.std.specs.Prelude.{Contains}
use Rattle.std.proofs.lemmas.List.{ext_get_or}
use Rattle.std.proofs.lemmas.Bool.{cases_lt, cases_eq}
use Rattle.plan_profile.specs.Usage.{used_before}
use Rattle.plan_profile.specs.Steps.{changes_until, amount, IsSteps, AreChanges}
use Rattle.plan_profile.specs.Changes.{IsSameUsage, IsCut, IsMerged, IsRaised, HasSums, HasSumsBetween, IsPlaced}
use Rattle.plan_profile.proofs.SegmentLemmas.{until_mono, until_from, until_there, until_within, until_change}
use Rattle.plan_profile.proofs.StepLemmas.{amount_is, amount_row}
use Rattle.plan_profile.proofs.RowLemmas.{inside_yes, inside_before, inside_after}

-- the amount that is added at an instant of an interval
abbrev pub added : ℕ → ℕ → ℕ → ℕ → ℕ
added start end t n = cond (nat_le start t && nat_lt t end) n 0

-- the sums of rows fit into 64 bits if those of their instants do
pub sums_of_rows : (changes : List ℕ) (rows : List (List ℕ)) (start end : ℕ) (needs : List ℕ) → IsSteps changes rows → Contains changes start → Contains changes end
    → HasSumsBetween changes rows start end needs → HasSums rows (changes_until changes start) (changes_until changes end) needs
sums_of_rows changes rows start end needs steps start_there end_there sums i k from below inside =
    let some = until_there changes start steps.rising start_there in
    let most = until_within changes end in
    let t = get_or changes (i - 1) 0 in
    let came : changes_until changes t ≡ i = (let e = until_change changes (i - 1) steps.rising (omega arith) in omega arith) in
    let since : start ≤ t = until_from changes start t steps.rising start_there (omega arith) in
    let before : t < end = elim (cases_lt t end) [
      | inl less ↦ less
      | inr more ↦ absurd (let e = until_mono changes end t steps.rising more in omega arith)
    ] in
    let sum = sums t k since before inside in
    let is = amount_is changes rows t k i came in
    omega arith

pub sums_same : (changes : List ℕ) (rows : List (List ℕ)) (changes2 : List ℕ) (rows2 : List (List ℕ)) (start end : ℕ) (needs : List ℕ) → IsSameUsage changes rows changes2 rows2
    → HasSumsBetween changes rows start end needs → HasSumsBetween changes2 rows2 start end needs
sums_same changes rows changes2 rows2 start end needs usage sums t k since before inside =
    let sum = sums t k since before inside in
    let same = usage.same t k in
    omega arith

-- the row before all changes is kept
pub raised_first : (rows : List (List ℕ)) (from to : ℕ) (needs : List ℕ) (rows2 : List (List ℕ)) → 0 < from → IsRaised rows from to needs rows2 → get_or rows2 0 [] ≡ get_or rows 0 []
raised_first rows from to needs rows2 some raised =
    ext_get_or 0 (get_or rows2 0 []) (get_or rows 0 []) (raised.even 0)
    (λ k below. let e = inside_before from to 0 (get_or needs k 0) some in let sum = raised.each 0 k in omega arith)

pub raised_steps : (changes : List ℕ) (rows : List (List ℕ)) (from to : ℕ) (needs : List ℕ)
    (rows2 : List (List ℕ)) → IsSteps changes rows → 0 < from → IsRaised rows from to needs rows2 →
    IsSteps changes rows2
raised_steps changes rows from to needs rows2 steps some raised = record {
  one_more = raised.size ∙ steps.one_more;
  even = λ i inside. raised.even i ∙ steps.even i (let e = raised.size in omega arith) ∙ sym (raised.even 0);
  rising = steps.rising;
  none_first = λ k. ap (λ r. get_or r k 0) (raised_first rows from to needs rows2 some raised) ∙ steps.none_first k;
}

-- the instants of an interval are those of the rows from that of its start to before that of its
-- end
added_rows : (changes : List ℕ) (rows : List (List ℕ)) (start end t n : ℕ) → IsSteps changes rows → Contains changes start → Contains changes end
    → added (changes_until changes start) (changes_until changes end) (changes_until changes t) n ≡ added start end t n
added_rows changes rows start end t n steps start_there end_there =
    elim (cases_lt t start) [
      | inl before ↦
          (let fewer : changes_until changes t < changes_until changes start = elim (cases_lt (changes_until changes t) (changes_until changes start)) [
            | inl less ↦ less
            | inr more ↦ absurd (let e = until_from changes start t steps.rising start_there more in omega arith)
          ] in
          inside_before (changes_until changes start) (changes_until changes end) (changes_until changes t) n fewer ∙ sym (inside_before start end t n before))
      | inr since ↦
          (let no_fewer = until_mono changes start t steps.rising since in
          elim (cases_lt t end) [
            | inl early ↦
                (let fewer : changes_until changes t < changes_until changes end = elim (cases_lt (changes_until changes t) (changes_until changes end)) [
                  | inl less ↦ less
                  | inr more ↦ absurd (let e = until_from changes end t steps.rising end_there more in omega arith)
                ] in
                inside_yes (changes_until changes start) (changes_until changes end) (changes_until changes t) n no_fewer fewer ∙ sym (inside_yes start end t n since early))
            | inr late ↦
                (inside_after (changes_until changes start) (changes_until changes end)
                (changes_until changes t) n (until_mono changes end t steps.rising late)
                ∙ sym (inside_after start end t n late))
          ])
    ]

pub raised_amounts : (changes : List ℕ) (rows : List (List ℕ)) (start end : ℕ) (needs : List ℕ) (rows2 : List (List ℕ)) → IsSteps changes rows → Contains changes start → Contains changes end
    → IsRaised rows (changes_until changes start) (changes_until changes end) needs rows2
    → (t k : ℕ) → amount changes rows2 t k ≡ amount changes rows t k + added start end t (get_or needs k 0)
raised_amounts changes rows start end needs rows2 steps start_there end_there raised t k =
    let new = amount_row changes rows2 t k in
    let old = amount_row changes rows t k in
    let sum = raised.each (changes_until changes t) k in
    let same = added_rows changes rows start end t (get_or needs k 0) steps start_there end_there in
    omega arith

pub before_same : (f g : ℕ → ℕ → ℕ) → ((t k : ℕ) → f t k ≡ g t k) → (t k : ℕ) → used_before f t k ≡ used_before g t k
before_same f g same zero k = refl
before_same f g same (suc t) k = same t k

-- at an instant that is neither the start nor the end, the added amount is that of the instant
-- before
unadded : (f g : ℕ → ℕ → ℕ) (start end : ℕ) (needs : List ℕ) → ((t k : ℕ) → g t k ≡ f t k + added start end t (get_or needs k 0))
    → (t k : ℕ) → t ≢ start → t ≢ end → g t k ≡ used_before g t k → f t k ≡ used_before f t k
unadded f g start end needs sum zero k no_start no_end same =
    let now = sum 0 k in
    let none = inside_before start end 0 (get_or needs k 0) (omega arith) in
    omega arith
unadded f g start end needs sum (suc t) k no_start no_end same =
    let now = sum (suc t) k in
    let before = sum t k in
    let n = get_or needs k 0 in
    elim (cases_lt t start) [
      | inl early ↦
          (let e = inside_before start end t n early in
          let f = inside_before start end (suc t) n (omega arith) in
          omega arith)
      | inr since ↦ elim (cases_lt t end) [
        | inl during ↦
            (let e = inside_yes start end t n since during in
            let f = inside_yes start end (suc t) n (omega arith) (omega arith) in
            omega arith)
        | inr late ↦
            (let e = inside_after start end t n late in
            let f = inside_after start end (suc t) n (omega arith) in
            omega arith)
      ]
    ]

-- the five stages of placing: two cuts, the rows between them raised, two merges
pub record IsStaged (changes : List ℕ) (rows : List (List ℕ)) (start end : ℕ) (needs changes1 : List ℕ)
    (rows1 : List (List ℕ)) (changes2 : List ℕ) (rows2 rows3 : List (List ℕ)) (changes4 : List ℕ)
    (rows4 : List (List ℕ)) (changes5 : List ℕ) (rows5 : List (List ℕ)) : Type 0 where
  pub opened : IsCut changes rows start changes1 rows1
  pub closed : IsCut changes1 rows1 end changes2 rows2
  pub raised : IsRaised rows2 (changes_until changes2 start) (changes_until changes2 end) needs rows3
  pub end_merged : IsMerged changes2 rows3 end changes4 rows4
  pub start_merged : IsMerged changes4 rows4 start changes5 rows5

pub placed : (changes : List ℕ) (rows : List (List ℕ)) (start end : ℕ) (needs changes1 : List ℕ)
    (rows1 : List (List ℕ)) (changes2 : List ℕ) (rows2 rows3 : List (List ℕ)) (changes4 : List ℕ)
    (rows4 : List (List ℕ)) (changes5 : List ℕ) (rows5 : List (List ℕ))
    → AreChanges changes (amount changes rows) → IsStaged changes rows start end needs changes1 rows1 changes2
    rows2 rows3 changes4 rows4 changes5 rows5 → IsPlaced changes rows start end needs changes5 rows5
placed changes rows start end needs changes1 rows1 changes2 rows2 rows3 changes4 rows4 changes5 rows5 true_changes s =
    let steps2 = s.closed.usage.steps in
    let start_there = s.closed.kept start s.opened.there in
    let end_there = s.closed.there in
    let raise = raised_amounts changes2 rows2 start end needs rows3 steps2 start_there end_there s.raised in
    let merged : (t k : ℕ) → amount changes5 rows5 t k ≡ amount changes2 rows3 t k = λ t k. s.start_merged.usage.same t k ∙ s.end_merged.usage.same t k in
    let cut : (t k : ℕ) → amount changes2 rows2 t k ≡ amount changes rows t k = λ t k. s.closed.usage.same t k ∙ s.opened.usage.same t k in
    let each : (t k : ℕ) → amount changes5 rows5 t k ≡ amount changes rows t k + added start end t (get_or needs k 0) =
    λ t k. (let a = merged t k in let b = raise t k in let c = cut t k in omega arith) in
    let some = until_there changes2 start steps2.rising start_there in
    record {
      steps = s.start_merged.usage.steps;
      first = s.start_merged.usage.first ∙ s.end_merged.usage.first
          ∙ raised_first rows2 (changes_until changes2 start) (changes_until changes2 end) needs rows3 some s.raised
          ∙ s.closed.usage.first ∙ s.opened.usage.first;
      each = each;
      true_changes = λ c there same.
          (let there4 = s.start_merged.only c there in
          let there2 = s.end_merged.only c there4 in
          elim (cases_eq c end) [
            | inl is_end ↦
                s.end_merged.true_change (subst (Contains changes4) is_end there4)
                (λ k. rw (← is_end) (sym (merged c k) ∙ same k ∙ before_same (amount changes5 rows5) (amount changes2 rows3) merged c k))
            | inr no_end ↦ elim (cases_eq c start) [
              | inl is_start ↦
                  s.start_merged.true_change (subst (Contains changes5) is_start there)
                  (λ k. rw (← is_start) (sym (s.start_merged.usage.same c k) ∙ same k ∙ before_same (amount changes5 rows5) (amount changes4 rows4) s.start_merged.usage.same c k))
              | inr no_start ↦ elim (s.closed.only c there2) [
                | inr is_end ↦ absurd (no_end is_end)
                | inl there1 ↦ elim (s.opened.only c there1) [
                  | inr is_start ↦ absurd (no_start is_start)
                  | inl was ↦ true_changes c was (λ k. unadded (amount changes rows) (amount changes5 rows5) start end needs each c k no_start no_end (same k))
                ]
              ]
            ]
          ]);
    }
