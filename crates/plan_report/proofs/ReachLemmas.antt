-- The search for a chain: one more activity that is reached, and the state at its end.
use Rattle.std.proofs.Common.{ℕ, Bool, true, false, ◌≡◌, ◌+◌, ◌-◌, ◌≤◌, ◌<◌, ◌⊎◌, inl, inr, List}
use Rattle.std.proofs.Common.{[], ◌∷◌, ◌++◌, length, get_or, set, replicate, Option, Some, None, refl, sym, ◌∙◌, ap, subst, below_more, arith}
use Rattle.std.specs.Option.{IfSome}
use Rattle.std.proofs.lemmas.Bool.{cases_eq, true≢false}
use Rattle.std.proofs.lemmas.List.{length-set, length_push, length-replicate, get_or-set_same, get_or-set_other, get_or_append_left, get_or_push, get_or-replicate}
use Rattle.plan_net.specs.Placed.{open_count}
use Rattle.plan_net.proofs.TurnLemmas.{open_count-replicate, open_count-set}
use Rattle.plan_sgs.specs.Problem.{Problem, count}
use Rattle.plan_report.specs.Chain.{Leads, IsReached, AreReached, IsListed, IsSearch, Keeps, AllMarked, IsNext, target_at, index_or, IsClosed, AreAllReached}

-- the next one of an activity that was reached was reached too
pub next_within : (p : Problem) (s slacks : List ℕ) (m act next after : ℕ) → IsReached p s slacks m act next after → next ≤ m
next_within p s slacks m act next after reached = elim reached.leads [
  | inl own ↦ omega (arith, own.0)
  | inr later ↦ omega (arith, later.0)
]

-- equal numbers were reached alike
reached_same : (p : Problem) (s slacks : List ℕ) (m act next after act2 next2 after2 : ℕ) → act2 ≡ act → next2 ≡ next → after2 ≡ after
    → IsReached p s slacks m act next after → IsReached p s slacks m act2 next2 after2
reached_same p s slacks m act next after act2 next2 after2 a b e reached =
    subst (λ (x : ℕ). IsReached p s slacks m act2 next2 x) (sym e)
    (subst (λ (x : ℕ). IsReached p s slacks m act2 x after) (sym b)
    (subst (λ (x : ℕ). IsReached p s slacks m x next after) (sym a) reached))

-- activity k leads to its next one, which is at an index, or is itself
abbrev pub LeadsOn : Problem → List ℕ → List ℕ → ℕ → ℕ → Type 0
LeadsOn p s reached next k =
    ((next ≡ length reached) × Leads p s None k) ⊎ ((next < length reached) × Leads p s (Some (get_or reached next 0)) k)

-- the activity that is reached last
reached_last : (p : Problem) (s slacks reached nexts : List ℕ) (k next : ℕ) → length nexts ≡ length reached → k < count p → get_or slacks k 0 ≡ 0 → LeadsOn p s reached next k
    → IsReached p s slacks (length reached) (get_or (reached ++ (k + 1) ∷ []) (length reached) 0) (get_or (nexts ++ next ∷ []) (length reached) 0)
    (get_or (reached ++ (k + 1) ∷ []) (get_or (nexts ++ next ∷ []) (length reached) 0) 0)
reached_last p s slacks reached nexts k next paired inside free leads =
    let a : get_or (reached ++ (k + 1) ∷ []) (length reached) 0 ≡ k + 1 = get_or_push reached (k + 1) 0 (length reached) refl in
    let b : get_or (nexts ++ next ∷ []) (length reached) 0 ≡ next = get_or_push nexts next 0 (length reached) paired in
    let place : k ≡ k + 1 - 1 = omega arith in
    reached_same p s slacks (length reached) (k + 1) next (get_or (reached ++ (k + 1) ∷ []) next 0) (get_or (reached ++ (k + 1) ∷ [])
    (length reached) 0) (get_or (nexts ++ next ∷ []) (length reached) 0)
    (get_or (reached ++ (k + 1) ∷ []) (get_or (nexts ++ next ∷ []) (length reached) 0) 0) a b (ap (λ (x : ℕ). get_or (reached ++ (k + 1) ∷ []) x 0) b) (record {
      inside = (omega arith, omega (arith, inside));
      tight = subst (λ (x : ℕ). get_or slacks x 0 ≡ 0) place free;
      leads = elim leads [
        | inl own ↦ inl (own.0, subst (λ (x : ℕ). Leads p s None x) place own.1)
        | inr later ↦
            let same : get_or reached next 0 ≡ get_or (reached ++ (k + 1) ∷ []) next 0 = sym (get_or_append_left reached ((k + 1) ∷ []) 0 next later.0) in
            inr (later.0, subst (λ (x : ℕ). Leads p s (Some (get_or (reached ++ (k + 1) ∷ []) next 0)) x) place (subst (λ (y : ℕ). Leads p s (Some y) k) same later.1))
      ];
    })

-- those that were reached before it
reached_before : (p : Problem) (s slacks reached nexts : List ℕ) (x y m : ℕ) → length nexts ≡ length reached → AreReached p s slacks reached nexts → m < length reached
    → IsReached p s slacks m (get_or (reached ++ x ∷ []) m 0) (get_or (nexts ++ y ∷ []) m 0) (get_or (reached ++ x ∷ []) (get_or (nexts ++ y ∷ []) m 0) 0)
reached_before p s slacks reached nexts x y m paired sound below =
    let was = sound m below in
    let a = get_or_append_left reached (x ∷ []) 0 m below in
    let b = get_or_append_left nexts (y ∷ []) 0 m (omega (arith, below, paired)) in
    let within : get_or nexts m 0 < length reached = omega (arith, below, next_within p s slacks m (get_or reached m 0) (get_or nexts m 0) (get_or reached (get_or nexts m 0) 0) was) in
    let e = ap (λ (z : ℕ). get_or (reached ++ x ∷ []) z 0) b ∙ get_or_append_left reached (x ∷ []) 0 (get_or nexts m 0) within in
    reached_same p s slacks m (get_or reached m 0) (get_or nexts m 0) (get_or reached (get_or nexts m 0) 0)
    (get_or (reached ++ x ∷ []) m 0) (get_or (nexts ++ y ∷ []) m 0) (get_or (reached ++ x ∷ []) (get_or (nexts ++ y ∷ []) m 0) 0) a b e was

listed_longer : (reached : List ℕ) (x act : ℕ) → IsListed reached act → IsListed (reached ++ x ∷ []) act
listed_longer reached x act (m, below, is) = (m, omega (arith, below, length_push reached x), get_or_append_left reached (x ∷ []) 0 m below ∙ is)

-- one more activity is reached
pub search_push : (p : Problem) (s slacks : List ℕ) (marks : List Bool) (reached nexts : List ℕ) (k next : ℕ) → IsSearch p s slacks marks reached nexts → k < count p
    → get_or marks k false ≡ false → get_or slacks k 0 ≡ 0 → LeadsOn p s reached next k → IsSearch p s slacks (set marks k true) (reached ++ (k + 1) ∷ []) (nexts ++ next ∷ [])
search_push p s slacks marks reached nexts k next search inside unset free leads =
    let whole : length marks ≡ count p = search.whole in
    let longer = length_push reached (k + 1) in
    record {
      whole = length-set marks k true ∙ whole;
      paired = omega (arith, longer, length_push nexts next, search.paired);
      counted = omega (arith, longer, open_count-set marks k (omega (arith, inside, whole)) unset, search.counted);
      sound = λ m below. elim (cases_eq m (length reached)) [
        | inl last ↦
            subst (λ (x : ℕ). IsReached p s slacks x (get_or (reached ++ (k + 1) ∷ []) x 0) (get_or (nexts ++ next ∷ []) x 0) (get_or (reached ++
            (k + 1) ∷ []) (get_or (nexts ++ next ∷ []) x 0) 0)) (sym last)
            (reached_last p s slacks reached nexts k next search.paired inside free leads)
        | inr other ↦ reached_before p s slacks reached nexts (k + 1) next m search.paired search.sound (omega (arith, below, other, longer))
      ];
      listed = λ j within marked. elim (cases_eq j k) [
        | inl same ↦
            let at : k + 1 ≡ j + 1 = omega (arith, same) in
            (length reached, omega (arith, longer), get_or_push reached (k + 1) 0 (length reached) refl ∙ at)
        | inr apart ↦ listed_longer reached (k + 1) (j + 1) (search.listed j within (sym (get_or-set_other marks k j true false apart) ∙ marked))
      ];
    }

pub keeps_push : (marks0 marks : List Bool) (reached0 reached : List ℕ) (k : ℕ) → k < length marks → Keeps marks0 marks reached0 reached
    → Keeps marks0 (set marks k true) reached0 (reached ++ (k + 1) ∷ [])
keeps_push marks0 marks reached0 reached k inside keeps = record {
  longer = omega (arith, keeps.longer, length_push reached (k + 1));
  same = λ m below. get_or_append_left reached ((k + 1) ∷ []) 0 m (omega (arith, below, keeps.longer)) ∙ keeps.same m below;
  marked = λ j is. elim (cases_eq j k) [
    | inl same ↦ subst (λ (x : ℕ). get_or (set marks k true) x false ≡ true) (sym same) (get_or-set_same marks k true false inside)
    | inr apart ↦ get_or-set_other marks k j true false apart ∙ keeps.marked j is
  ];
}

-- the marks and activities of a search that goes from target to target
pub record IsStep (p : Problem) (s slacks : List ℕ) (at : Option ℕ) (marks0 : List Bool) (reached0 : List ℕ) (marks : List Bool) (reached nexts : List ℕ) (n : ℕ) : Type 0 where
  pub search : IsSearch p s slacks marks reached nexts
  pub kept : Keeps marks0 marks reached0 reached
  pub done : AllMarked p s slacks marks (target_at reached0 at) n

-- the next one of an activity that leads to the target
leads_on : (p : Problem) (s : List ℕ) (at : Option ℕ) (reached0 reached : List ℕ) (k : ℕ) → IfSome at (λ m. m < length reached0) → length reached0 ≤ length reached
    → ((m : ℕ) → m < length reached0 → get_or reached m 0 ≡ get_or reached0 m 0) → Leads p s (target_at reached0 at) k → LeadsOn p s reached (index_or at (length reached)) k
leads_on p s None reached0 reached k valid longer same leads = inl (refl, leads)
leads_on p s (Some m) reached0 reached k valid longer same leads = inr (omega (arith, valid, longer), subst (λ (x : ℕ). Leads p s (Some x) k) (sym (same m valid)) leads)

-- an activity that leads to the target is reached
pub step_found : (p : Problem) (s slacks : List ℕ) (at : Option ℕ) (marks0 : List Bool) (reached0 : List ℕ) (marks : List Bool) (reached nexts : List ℕ) (k : ℕ) → IfSome at (λ m. m < length reached0)
    → k < count p → IsStep p s slacks at marks0 reached0 marks reached nexts k → IsNext p s slacks marks (target_at reached0 at) k
    → IsStep p s slacks at marks0 reached0 (set marks k true) (reached ++ (k + 1) ∷ []) (nexts ++ index_or at (length reached) ∷ []) (k + 1)
step_found p s slacks at marks0 reached0 marks reached nexts k valid inside step found =
    let within : k < length marks = omega (arith, inside, step.search.whole) in
    let here : get_or (set marks k true) k false ≡ true = get_or-set_same marks k true false within in
    record {
      search = search_push p s slacks marks reached nexts k (index_or at (length reached)) step.search inside found.0 found.1
          (leads_on p s at reached0 reached k valid step.kept.longer step.kept.same found.2);
      kept = keeps_push marks0 marks reached0 reached k within step.kept;
      done = λ j below free leads. elim (cases_eq j k) [
        | inl same ↦ subst (λ (x : ℕ). get_or (set marks k true) x false ≡ true) (sym same) here
        | inr apart ↦ get_or-set_other marks k j true false apart ∙ step.done j (omega (arith, below, apart)) free leads
      ];
    }

-- an activity that doesn't is left
pub step_other : (p : Problem) (s slacks : List ℕ) (at : Option ℕ) (marks0 : List Bool) (reached0 : List ℕ) (marks : List Bool) (reached nexts : List ℕ) (k : ℕ)
    → IsStep p s slacks at marks0 reached0 marks reached nexts k → (IsNext p s slacks marks (target_at reached0 at) k → ⊥)
    → IsStep p s slacks at marks0 reached0 marks reached nexts (k + 1)
step_other p s slacks at marks0 reached0 marks reached nexts k step none = record {
  search = step.search;
  kept = step.kept;
  done = λ j below. below_more (λ (j : ℕ). get_or slacks j 0 ≡ 0 → Leads p s (target_at reached0 at) j → get_or marks j false ≡ true) k step.done
      (λ free leads. elim (marked_or_not (get_or marks k false)) [ inl is ↦ is | inr not ↦ absurd (none (not, free, leads)) ]) j below;
} where
  marked_or_not : (b : Bool) → (b ≡ true) ⊎ (b ≡ false)
  marked_or_not true = inl refl
  marked_or_not false = inr refl

-- nothing is reached at first
pub search_none : (p : Problem) (s slacks : List ℕ) (marks : List Bool) → marks ≡ replicate (count p) false → IsSearch p s slacks marks [] []
search_none p s slacks marks is = record {
  whole = ap length is ∙ length-replicate (count p) false;
  paired = refl;
  counted = omega (arith, ap open_count is, open_count-replicate (count p));
  sound = λ m below. absurd (omega (arith, below));
  listed = λ j inside marked. absurd (true≢false (sym marked ∙ ap (λ (xs : List Bool). get_or xs j false) is ∙ get_or-replicate (count p) j false false inside));
}

-- one more target
pub closed_more : (p : Problem) (s slacks : List ℕ) (marks0 : List Bool) (reached0 nexts0 : List ℕ) (marks : List Bool) (reached nexts : List ℕ) (n : ℕ) → n < length reached0
    → IsClosed p s slacks marks0 reached0 nexts0 n → IsSearch p s slacks marks reached nexts → Keeps marks0 marks reached0 reached
    → AllMarked p s slacks marks (target_at reached0 (Some n)) (count p) → IsClosed p s slacks marks reached nexts (n + 1)
closed_more p s slacks marks0 reached0 nexts0 marks reached nexts n inside before search kept all = record {
  search = search;
  ends = λ j below free leads. kept.marked j (before.ends j below free leads);
  closed = λ m below within. below_more (λ (m : ℕ). AllMarked p s slacks marks (Some (get_or reached m 0)) (count p)) n
      (λ m low j lower free leads.
      let old : m < length reached0 = omega (arith, low, inside) in
      kept.marked j (before.closed m low old j lower free (subst (λ (x : ℕ). Leads p s (Some x) j) (kept.same m old) leads)))
      (λ j lower free leads. all j lower free (subst (λ (x : ℕ). Leads p s (Some x) j) (kept.same n inside) leads)) m below;
}

-- if no target is left, all are reached
pub all_reached : (p : Problem) (s slacks : List ℕ) (marks : List Bool) (reached nexts : List ℕ) (n : ℕ) → length reached ≤ n
    → IsClosed p s slacks marks reached nexts n → AreAllReached p s slacks reached nexts
all_reached p s slacks marks reached nexts n few is =
    record {
      paired = is.search.paired;
      sound = is.search.sound;
      ends = λ j inside free leads. is.search.listed j inside (is.ends j inside free leads);
      closed = λ m j below inside free leads. is.search.listed j inside (is.closed m (omega (arith, below, few)) below j inside free leads);
    }

-- the target of a search is an activity
pub target_inside : (p : Problem) (s slacks : List ℕ) (marks : List Bool) (reached nexts : List ℕ) (at target : Option ℕ) (n : ℕ) → count p ≡ n
    → IsSearch p s slacks marks reached nexts → IfSome at (λ m. m < length reached) → target ≡ target_at reached at
    → IfSome target (λ j. (1 ≤ j) × (j ≤ n))
target_inside p s slacks marks reached nexts at target n counted search valid is = subst (λ (x : Option ℕ). IfSome x (λ j. (1 ≤ j) × (j ≤ n))) (sym is) (inside at valid) where
  inside : (at : Option ℕ) → IfSome at (λ m. m < length reached) → IfSome (target_at reached at) (λ j. (1 ≤ j) × (j ≤ n))
  inside None valid = tt
  inside (Some m) valid = let activity = (search.sound m valid).inside in (activity.0, omega (arith, activity.1, counted))

-- the step of a search, from what the loop has found
pub step_by_push : (p : Problem) (s slacks : List ℕ) (at : Option ℕ) (marks0 : List Bool) (reached0 : List ℕ) (marks : List Bool)
    (reached nexts : List ℕ) (k : ℕ) (marks2 : List Bool) (reached2 nexts2 : List ℕ)
    → IfSome at (λ m. m < length reached0) → k < count p → IsStep p s slacks at marks0 reached0 marks reached nexts k → IsNext p s slacks marks (target_at reached0 at) k
    → marks2 ≡ set marks k true → reached2 ≡ reached ++ (k + 1) ∷ [] → nexts2 ≡ nexts ++ index_or at (length reached) ∷ []
    → IsStep p s slacks at marks0 reached0 marks2 reached2 nexts2 (k + 1)
step_by_push p s slacks at marks0 reached0 marks reached nexts k marks2 reached2 nexts2 valid inside step found a b e =
    subst (λ (x : List Bool). IsStep p s slacks at marks0 reached0 x reached2 nexts2 (k + 1)) (sym a)
    (subst (λ (x : List ℕ). IsStep p s slacks at marks0 reached0 (set marks k true) x nexts2 (k + 1)) (sym b)
    (subst (λ (x : List ℕ). IsStep p s slacks at marks0 reached0 (set marks k true) (reached ++ (k + 1) ∷ []) x (k + 1)) (sym e)
    (step_found p s slacks at marks0 reached0 marks reached nexts k valid inside step found)))

pub step_by_rest : (p : Problem) (s slacks : List ℕ) (at : Option ℕ) (marks0 : List Bool) (reached0 : List ℕ) (marks : List Bool)
    (reached nexts : List ℕ) (k : ℕ) (marks2 : List Bool) (reached2 nexts2 : List ℕ)
    → IsStep p s slacks at marks0 reached0 marks reached nexts k → (IsNext p s slacks marks (target_at reached0 at) k → ⊥)
    → marks2 ≡ marks → reached2 ≡ reached → nexts2 ≡ nexts → IsStep p s slacks at marks0 reached0 marks2 reached2 nexts2 (k + 1)
step_by_rest p s slacks at marks0 reached0 marks reached nexts k marks2 reached2 nexts2 step none a b e =
    subst (λ (x : List Bool). IsStep p s slacks at marks0 reached0 x reached2 nexts2 (k + 1)) (sym a)
    (subst (λ (x : List ℕ). IsStep p s slacks at marks0 reached0 marks x nexts2 (k + 1)) (sym b)
    (subst (λ (x : List ℕ). IsStep p s slacks at marks0 reached0 marks reached x (k + 1)) (sym e)
    (step_other p s slacks at marks0 reached0 marks reached nexts k step none)))

-- the same test, by equal marks, targets and places
pub next_same : (p : Problem) (s slacks : List ℕ) (marks marks2 : List Bool) (target target2 : Option ℕ) (k k2 : ℕ) → marks ≡ marks2
    → target ≡ target2 → k ≡ k2 → IsNext p s slacks marks target k → IsNext p s slacks marks2 target2 k2
next_same p s slacks marks marks2 target target2 k k2 a b e next =
    subst (λ (x : ℕ). IsNext p s slacks marks2 target2 x) e
    (subst (λ (x : Option ℕ). IsNext p s slacks marks2 x k) b
    (subst (λ (x : List Bool). IsNext p s slacks x target k) a next))
