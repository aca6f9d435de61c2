-- The results of the calls of a project's tree: the activities that may follow, the test for full
-- words, starts and the makespan.
use Rattle.std.proofs.Common.{ℕ, suc, Bool, true, false, cond, nat_eq, ◌≡◌, ◌+◌, ◌-◌, ◌≤◌, ◌<◌, List, [], ◌∷◌, ◌++◌, length, get_or, map, Option, Some, None, sym, ◌∙◌, ap, arith}
use Rattle.std.specs.List.{Contains}
use Rattle.std.proofs.lemmas.List.{append-nil, append_assoc, map-append, get_or_default}
use Rattle.std.proofs.lemmas.List.Elements.{All-contains}
use Rattle.plan_sgs.specs.Problem.{Problem, duration}
use Rattle.plan_sgs.specs.Serial.{end_from, end_of, serial, start_or_zero}
use Rattle.plan_sgs.specs.Rules.{places, is_member, is_eligible, eligible}
use Rattle.plan_sgs.specs.Instances.{problem_of}
use Rattle.plan_sgs.specs.Placement.{AllEndBy}
use Rattle.plan_sgs.specs.ProjectWords.{depth_of, placed_by, is_full, starts_by, makespan_by}
use Rattle.plan_sgs.specs.ProjectTrees.{Standing, end_by}
use Rattle.plan_sgs.proofs.TotalLemmas.{greatest_same, all_below_at}
use Rattle.plan_sgs.proofs.BoundedLemmas.{bounded}
use Rattle.plan_sgs.proofs.SerialLemmas.{taken_placed, placed_inside, start_at}
use Rattle.plan_sgs.proofs.ListLemmas.{place_member}
use Rattle.plan_sgs.proofs.PlaceLemmas.{all_end}
use Rattle.plan_sgs.proofs.RunLemmas.{entry_place, length-places}
use Rattle.plan_sgs.proofs.WordLemmas.{word_turns}
use Rattle.plan_sgs.proofs.FullWordLemmas.{full_exactly}
use Rattle.plan_sgs.proofs.ProjectTurnLemmas.{TreeFacts}

-- one more that may follow, and one that may not
pub letters_yes : (p : Problem) (taken : List ℕ) (n : ℕ) (first list after : List ℕ) → list ≡ first ++ map suc (eligible p taken n) → is_eligible p taken n ≡ true
    → after ≡ list ++ suc n ∷ [] → after ≡ first ++ map suc (eligible p taken (suc n))
letters_yes p taken n first list after is may pushed =
    let more : eligible p taken (suc n) ≡ eligible p taken n ++ n ∷ [] = ap (λ (b : Bool). eligible p taken n ++ cond b (n ∷ []) []) may in
    pushed ∙ ap (λ (xs : List ℕ). xs ++ suc n ∷ []) is ∙ append_assoc first (map suc (eligible p taken n)) (suc n ∷ [])
    ∙ ap (λ (xs : List ℕ). first ++ xs) (sym (map-append suc (eligible p taken n) (n ∷ []))) ∙ ap (λ (xs : List ℕ). first ++ map suc xs) (sym more)

pub letters_no : (p : Problem) (taken : List ℕ) (n : ℕ) (first list : List ℕ) → list ≡ first ++ map suc (eligible p taken n) → is_eligible p taken n ≡ false
    → list ≡ first ++ map suc (eligible p taken (suc n))
letters_no p taken n first list is bars =
    let same : eligible p taken (suc n) ≡ eligible p taken n = ap (λ (b : Bool). eligible p taken n ++ cond b (n ∷ []) []) bars ∙ append-nil (eligible p taken n) in
    is ∙ ap (λ (xs : List ℕ). first ++ map suc xs) (sym same)

-- the start of an activity of the word
pub start_there : (v : Standing) (placed : List (Option ℕ)) (j : ℕ) → TreeFacts v placed → Contains v.word j
    → (1 ≤ j) × (j - 1 < length placed) × ((s : ℕ) × (get_or placed (j - 1) None ≡ Some s) × (s ≤ 6020000))
start_there v placed j facts (k, within, is) =
    let from_one = All-contains (λ a. 1 ≤ a) v.word j (word_turns v.instance [] v.word facts.word).from_one (k, within, is) in
    let here : get_or v.word k 0 ≡ j = get_or_default v.word k 0 j within ∙ is in
    let at : get_or (places v.word) k 0 ≡ j - 1 = entry_place v.word k within ∙ ap (λ (x : ℕ). x - 1) here in
    let member = place_member (places v.word) k (j - 1) (omega (arith, within, length-places v.word)) at in
    let start = taken_placed placed (places v.word) (j - 1) facts.taken member in
    let inside : j - 1 < length placed = placed_inside placed (j - 1) start.0 start.1 in
    (from_one, inside, (start.0, start.1, omega (arith, facts.ends (j - 1) start.0 start.1)))

-- the greatest end of a full word is its makespan
pub makespan_is : (v : Standing) (placed : List (Option ℕ)) → TreeFacts v placed → is_full v.instance v.word ≡ true → end_by v.instance v.word ≡ makespan_by v.instance v.word
unfolding makespan_by is_full serial
makespan_is v placed facts full =
    greatest_same (depth_of v.instance) (end_of (problem_of v.instance) (placed_by v.instance v.word))
    (λ h. get_or (map start_or_zero (placed_by v.instance v.word)) h 0 + duration
    (problem_of v.instance) h) (λ h below.
    let member : is_member h (places v.word) ≡ true = all_below_at (depth_of v.instance) (λ j. is_member j (places v.word)) h full below in
    let start = taken_placed placed (places v.word) h facts.taken member in
    let there : get_or (placed_by v.instance v.word) h None ≡ Some start.0 = sym (ap (λ (xs : List (Option ℕ)). get_or xs h None) facts.placed_are) ∙ start.1 in
    let end : end_of (problem_of v.instance) (placed_by v.instance v.word) h ≡ start.0 + duration (problem_of v.instance) h = ap (end_from (duration (problem_of v.instance) h)) there in
    omega (arith, end, start_at (placed_by v.instance v.word) h start.0 there))

-- the starts of a full word
pub starts_are : (v : Standing) (placed : List (Option ℕ)) → TreeFacts v placed → map start_or_zero placed ≡ starts_by v.instance v.word
unfolding serial
starts_are v placed facts = ap (map start_or_zero) facts.placed_are

pub starts_end : (v : Standing) (placed : List (Option ℕ)) → TreeFacts v placed → AllEndBy (problem_of v.instance) (map start_or_zero placed) 6020000
starts_end v placed facts = all_end (problem_of v.instance) placed 6020000 facts.size facts.ends (λ h. omega (arith, (bounded v.instance facts.instance).lasting h))

-- a word is full if it has as many turns as there are activities
pub full_by : (v : Standing) (placed : List (Option ℕ)) (n m : ℕ) → TreeFacts v placed → n ≡ length v.word → m ≡ length placed → nat_eq n m ≡ is_full v.instance v.word
full_by v placed n m facts word size =
    ap (λ (x : ℕ). nat_eq x m) word ∙ ap (λ (x : ℕ). nat_eq (length v.word) x) (size ∙ facts.size) ∙ full_exactly v.instance v.word facts.word
