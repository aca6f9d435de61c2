-- The entries of a memo: lookup, moving an entry to the front, and insertion.
use Rattle.std.proofs.Common.{◌≡◌, ◌≢◌, ℕ, ◌+◌, ◌-◌, ◌≤◌, Bool, true, false, ◌&&◌, nat_eq, List, [], ◌∷◌, ◌++◌, take, get_or, Contains, inl, inr, Option, Some, None, refl, sym, ap, ◌∙◌, subst, add-one, true≢false, arith}
use Rattle.std.specs.Prelude.{All, IfSome, map, Vec}
use Rattle.std.specs.Global.{Global}
use Rattle.std.specs.Bool.{Decides}
use Rattle.std.specs.Cmp.Lexicographic.{pointwise}
use Rattle.std.specs.List.{slice_get, AllByRecursion, AllPairs, IsDistinct}
use Rattle.std.specs.Map.{keys_of, lookup, lookup_entry, remove_entry}
use Rattle.std.proofs.lemmas.Bool.Decides.{Decides-eqb, Decides-and, Decides-like}
use Rattle.std.proofs.Math.Seq.{take-suc}
use Rattle.std.proofs.lemmas.Option.{get_or_from_slice_get, slice_get_within}
use Rattle.std.proofs.lemmas.Slice.Eq.{slice_eq-Decides}
use Rattle.std.proofs.lemmas.List.{map-append, take-map}
use Rattle.std.proofs.lemmas.List.Elements.{All-nil, All-same, All-cons, All-take, All-contains, Contains-get_or}
use Rattle.std.proofs.lemmas.List.Kept.{AllPairs-cons}
use Rattle.lru.specs.LruCache.{LruCache, lru_cache, promoted, put_entries}
use Rattle.lru.proofs.CallerLemmas.{Contains-lookup_entry, Contains-promoted}
use Rattle.lru.proofs.Splits.{Contains-cons, Contains-head, Contains-tail}
use Rattle.plan_orlib.specs.declared.steps.Step.{Step}
use Rattle.plan_sgs.specs.Instances.{Planned, problem_of}
use Rattle.plan_sgs.specs.Placement.{AllEndBy, latest_end}
use Rattle.plan_shop.specs.Shop.{JobShop}
use Rattle.plan_exact.specs.Answers.{is_optimal}
use Rattle.plan_exact.specs.Memos.{Content, Asked, OfShop, OfProject, Answers, asked_of_project, asked_by, questions, IsAnswered, IsMemo, Remembers}
use Rattle.plan_exact.specs.Solutions.{IsSolution}
use Rattle.plan_exact.specs.ProjectSolutions.{IsProjectSolution}
use Rattle.plan_exact.specs.declared.shop_solution.Solved.{Solved}
use Rattle.plan_exact.proofs.ContentLemmas.{same_content_solves}
use Rattle.plan_exact.specs.contracts.questions.QuestionPartialEq.TheImpl.{eq-value}
use Rattle.plan_exact.specs.declared.questions.Question.{Question}
use Rattle.plan_exact.specs.declared.questions.Question.TheVariants as question
use Rattle.plan_exact.specs.declared.questions.ShopQuestion.{ShopQuestion}
use Rattle.plan_exact.specs.declared.questions.ProjectQuestion.{ProjectQuestion}

-- the tests of `==` on steps and on questions
abbrev pub same_step : Step → Step → Bool
same_step a b = nat_eq a.machine b.machine && nat_eq a.time b.time

abbrev pub same_shop : ShopQuestion → ShopQuestion → Bool
same_shop q k =
    nat_eq q.machines k.machines && (nat_eq q.jobs k.jobs && (pointwise same_step q.steps.items k.steps.items && nat_eq q.budget k.budget))

abbrev pub same_arc : ℕ × ℕ → ℕ × ℕ → Bool
same_arc a b = nat_eq a.0 b.0 && nat_eq a.1 b.1

abbrev pub same_row : Vec ℕ Global → Vec ℕ Global → Bool
same_row a b = pointwise nat_eq a.items b.items

abbrev pub same_project : ProjectQuestion → ProjectQuestion → Bool
same_project q k =
    pointwise nat_eq q.durations.items k.durations.items && (pointwise same_arc q.arcs.items k.arcs.items && (pointwise nat_eq q.lags.items k.lags.items
    && (pointwise same_row q.needs.items k.needs.items && (pointwise nat_eq q.capacities.items k.capacities.items && nat_eq q.budget k.budget))))

abbrev pub same_question : Question → Question → Bool
same_question = eq-value.it

same_step_decides : (a b : Step) → Decides (same_step a b) (a ≡ b)
same_step_decides a b =
    Decides-like (same_step a b) (λ e. λ i. record { machine = e.0 i; time = e.1 i }) (λ e. (ap (λ w. w.machine) e, ap (λ w. w.time) e))
    (Decides-and (nat_eq a.machine b.machine) (nat_eq a.time b.time) (Decides-eqb a.machine b.machine) (Decides-eqb a.time b.time))

-- equal questions ask the same, within equal budgets
of_shop-parts : (s t : JobShop) (a b : ℕ) → OfShop s a ≡ OfShop t b → (s ≡ t) × (a ≡ b)
of_shop-parts s t a b e = (cc, cc)

of_project-parts : (c d : Content) (a b : ℕ) → OfProject c a ≡ OfProject d b → (c ≡ d) × (a ≡ b)
of_project-parts c d a b e = (cc, cc)

-- two questions on shops are equal exactly if they ask the same
same_shop_decides : (q k : ShopQuestion) → Decides (same_shop q k) (asked_by (question.Shop q) ≡ asked_by (question.Shop k))
same_shop_decides q k =
    let steps = slice_eq-Decides same_step_decides q.steps.items k.steps.items (pointwise same_step q.steps.items k.steps.items) refl in
    Decides-like (same_shop q k)
    (λ e. λ i. OfShop (record { machines = e.0 i; jobs = e.1.0 i; steps = e.1.1.0 i }) (e.1.1.1 i))
    (λ e.
    let parts = of_shop-parts _ _ _ _ e in
    (ap (λ (s : JobShop). s.machines) parts.0, (ap (λ (s : JobShop). s.jobs) parts.0, (ap (λ (s : JobShop). s.steps) parts.0, parts.1))))
    (Decides-and _ _ (Decides-eqb q.machines k.machines)
    (Decides-and _ _ (Decides-eqb q.jobs k.jobs)
    (Decides-and _ _ steps (Decides-eqb q.budget k.budget))))

same_arc_decides : (a b : ℕ × ℕ) → Decides (same_arc a b) (a ≡ b)
same_arc_decides a b =
    Decides-like (same_arc a b) (λ e. λ i. (e.0 i, e.1 i)) (λ e. (ap (λ (w : ℕ × ℕ). w.0) e, ap (λ (w : ℕ × ℕ). w.1) e))
    (Decides-and (nat_eq a.0 b.0) (nat_eq a.1 b.1) (Decides-eqb a.0 b.0) (Decides-eqb a.1 b.1))

same_numbers_decides : (xs ys : List ℕ) → Decides (pointwise nat_eq xs ys) (xs ≡ ys)
same_numbers_decides xs ys = slice_eq-Decides Decides-eqb xs ys (pointwise nat_eq xs ys) refl

abbrev rows_of : List (Vec ℕ Global) → List (List ℕ)
rows_of rows = map (λ row. row.items) rows

-- rows are compared by their contents
same_rows_decides : (xs ys : List (Vec ℕ Global)) → Decides (pointwise same_row xs ys) (rows_of xs ≡ rows_of ys)
same_rows_decides [] [] = (λ _. refl, λ _. refl)
same_rows_decides [] (y ∷ ys) = (λ e. cc, λ e. cc)
same_rows_decides (x ∷ xs) [] = (λ e. cc, λ e. cc)
same_rows_decides (x ∷ xs) (y ∷ ys) =
    Decides-like (same_row x y && pointwise same_row xs ys) (λ e. λ i. e.0 i ∷ e.1 i) (λ e. (cc, cc))
    (Decides-and _ _ (same_numbers_decides x.items y.items) (same_rows_decides xs ys))

-- two questions on projects are equal exactly if they ask the same
same_project_decides : (q k : ProjectQuestion) → Decides (same_project q k) (asked_by (question.Project q) ≡ asked_by (question.Project k))
same_project_decides q k =
    let arcs = slice_eq-Decides same_arc_decides q.arcs.items k.arcs.items (pointwise same_arc q.arcs.items k.arcs.items) refl in
    Decides-like (same_project q k)
    (λ e. λ i. OfProject (record {
      network = record { durations = e.0 i; arcs = e.1.0 i; lags = e.1.1.0 i };
      needs = e.1.1.1.0 i;
      capacities = e.1.1.1.1.0 i;
    }) (e.1.1.1.1.1 i))
    (λ e.
    let parts = of_project-parts _ _ _ _ e in (
      ap (λ (c : Content). c.network.durations) parts.0,
      (
        ap (λ (c : Content). c.network.arcs) parts.0,
        (
          ap (λ (c : Content). c.network.lags) parts.0,
          (ap (λ (c : Content). c.needs) parts.0, (ap (λ (c : Content). c.capacities) parts.0, parts.1)),
        ),
      ),
    ))
    (Decides-and _ _ (same_numbers_decides q.durations.items k.durations.items)
    (Decides-and _ _ arcs
    (Decides-and _ _ (same_numbers_decides q.lags.items k.lags.items)
    (Decides-and _ _ (same_rows_decides q.needs.items k.needs.items)
    (Decides-and _ _ (same_numbers_decides q.capacities.items k.capacities.items) (Decides-eqb q.budget k.budget))))))

-- two questions are equal exactly if they ask the same
pub same_question_decides : (q k : Question) → Decides (same_question q k) (asked_by q ≡ asked_by k)
same_question_decides (question.Shop q) (question.Shop k) = same_shop_decides q k
same_question_decides (question.Shop q) (question.Project k) = (λ e. cc, λ e. cc)
same_question_decides (question.Project q) (question.Shop k) = (λ e. cc, λ e. cc)
same_question_decides (question.Project q) (question.Project k) = same_project_decides q k

abbrev Entry : Type 0
Entry = Question × Solved

-- if a value is found, the list has an entry with it, and splits around the entry
record IsFound (test : Question → Bool) (es : List Entry) (solved : Solved) : Type 0 where
  key : Question
  before : List Entry
  after : List Entry
  split : es ≡ before ++ (key, solved) ∷ after
  passes : test key ≡ true
  entry : lookup_entry test es ≡ Some (key, solved)
  rest : remove_entry test es ≡ before ++ after

found_later : (test : Question → Bool) (e : Entry) (es : List Entry) (solved : Solved) → test e.0 ≡ false → IsFound test es solved → IsFound test (e ∷ es) solved
found_later test e es solved fails f = record {
  key = f.key;
  before = e ∷ f.before;
  after = f.after;
  split = ap (λ l. e ∷ l) f.split;
  passes = f.passes;
  entry = rw fails f.entry;
  rest = rw fails (ap (λ l. e ∷ l) f.rest);
}

found_first : (test : Question → Bool) (e : Entry) (es : List Entry) (solved : Solved) → test e.0 ≡ true → e.1 ≡ solved → IsFound test (e ∷ es) solved
found_first test e es solved passes same = record {
  key = e.0;
  before = [];
  after = es;
  split = ap (λ w. (e.0, w) ∷ es) same;
  passes = passes;
  entry = rw passes (ap (λ w. Some (e.0, w)) same);
  rest = rw passes refl;
}

found : (test : Question → Bool) (es : List Entry) (solved : Solved) → lookup test es ≡ Some solved → IsFound test es solved
found test [] solved h = cc
found test (e ∷ es) solved h = (elim (test e.0) as (λ y. test e.0 ≡ y → IsFound test (e ∷ es) solved) [
  | true ↦ λ t. let h' = rw t at h in found_first test e es solved t cc
  | false ↦ λ t. found_later test e es solved t (found test es solved (rw t at h))
]) refl

-- if no value is found, no key asks the same as q
pub not_found : (q : Question) (es : List Entry) → lookup (same_question q) es ≡ None → Contains (questions es) (asked_by q) → ⊥
not_found q [] h c = let within = c.1 in omega arith
not_found q (e ∷ es) h c = (elim (same_question q e.0) as (λ y. same_question q e.0 ≡ y → ⊥) [
  | true ↦ λ t. let h' = rw t at h in cc
  | false ↦ λ t. elim (Contains-cons (asked_by e.0) (questions es) (asked_by q) c) [
    | inl same ↦ let t' = (same_question_decides q e.0).1 (sym same) in cc
    | inr d ↦ not_found q es (rw t at h) d
  ]
]) refl

-- a fact of each entry remains one if an entry moves to the front
promoted_all : (P : Entry → Type 0) (test : Question → Bool) (es : List Entry) → All P es → All P (promoted test es)
promoted_all P test es all = λ k d within.
    let e = get_or (promoted test es) k d in
    All-contains P es e all (Contains-promoted test es e (Contains-get_or (promoted test es) k d within))

pub promoted_answered : (test : Question → Bool) (es : List Entry) → All IsAnswered es → All IsAnswered (promoted test es)
promoted_answered = promoted_all IsAnswered

-- the question that was found is the first one then
pub promoted_remembers : (q : Question) (es : List Entry) (solved : Solved) → lookup (same_question q) es ≡ Some solved
    → Remembers (questions es) (asked_by q) (questions (promoted (same_question q) es))
promoted_remembers q es solved h =
    let f = found (same_question q) es solved h in
    let same : asked_by f.key ≡ asked_by q = sym ((same_question_decides q f.key).0 f.passes) in
    let was : questions es ≡ questions f.before ++ asked_by q ∷ questions f.after =
    ap questions f.split ∙ map-append (λ e. asked_by e.0) f.before ((f.key, solved) ∷ f.after) ∙ ap (λ a. questions f.before ++ a ∷ questions f.after) same in
    let moved : promoted (same_question q) es ≡ (f.key, solved) ∷ (f.before ++ f.after) = rw f.entry (ap (λ l. (f.key, solved) ∷ l) f.rest) in
    let is : questions (promoted (same_question q) es) ≡ asked_by q ∷ (questions f.before ++ questions f.after) =
    ap questions moved ∙ (λ i. same i ∷ map-append (λ e. asked_by e.0) f.before f.after i) in
    inl (questions f.before, questions f.after, was, is)

-- the value that is found answers the question
pub found_answers : (q : Question) (es : List Entry) (solved : Solved) → All IsAnswered es → lookup (same_question q) es ≡ Some solved
    → Answers (asked_by q) solved
found_answers q es solved all h =
    let f = found (same_question q) es solved h in
    let same : asked_by f.key ≡ asked_by q = sym ((same_question_decides q f.key).0 f.passes) in
    let answered : IsAnswered (f.key, solved) = All-contains IsAnswered es (f.key, solved) all (Contains-lookup_entry (same_question q) es (f.key, solved) f.entry).0 in
    subst (λ (a : Asked). Answers a solved) same answered

-- a copy of an answer solves the same shop
copy_solves_shop : (s : JobShop) (budget : ℕ) (solved copy : Solved) → copy.kind ≡ solved.kind → copy.schedule.starts.items ≡ solved.schedule.starts.items
    → copy.schedule.makespan ≡ solved.schedule.makespan → IsSolution s budget solved → IsSolution s budget copy
copy_solves_shop s budget solved copy kind starts makespan is = record {
  few_steps = is.few_steps;
  allowed = is.allowed;
  optimal = ap is_optimal kind ∙ is.optimal;
  starts = starts ∙ is.starts;
  makespan = makespan ∙ is.makespan;
  within = All-same (λ t. t ≤ 10000000) copy.schedule.starts.items solved.schedule.starts.items starts is.within;
}

-- and the same project
copy_solves_project : (i : Planned) (budget : ℕ) (solved copy : Solved) → copy.kind ≡ solved.kind → copy.schedule.starts.items ≡ solved.schedule.starts.items
    → copy.schedule.makespan ≡ solved.schedule.makespan → IsProjectSolution i budget solved → IsProjectSolution i budget copy
copy_solves_project i budget solved copy kind starts makespan is = record {
  few_activities = is.few_activities;
  allowed = is.allowed;
  initial = is.initial;
  by_rule = is.by_rule;
  found = record { optimal = ap is_optimal kind ∙ is.found.optimal; starts = starts ∙ is.found.starts; makespan = makespan ∙ is.found.makespan };
  ends = subst (λ (xs : List ℕ). AllEndBy (problem_of i) xs latest_end) (sym starts) is.ends;
}

-- a copy of an answer answers the same question
pub copy_answers : (a : Asked) (solved copy : Solved) → copy.kind ≡ solved.kind → copy.schedule.starts.items ≡ solved.schedule.starts.items
    → copy.schedule.makespan ≡ solved.schedule.makespan → Answers a solved → Answers a copy
copy_answers (OfShop s budget) solved copy kind starts makespan is = copy_solves_shop s budget solved copy kind starts makespan is
copy_answers (OfProject content budget) solved copy kind starts makespan is =
    λ i same. copy_solves_project i budget solved copy kind starts makespan (is i same)

-- an entry's question is among the questions
asks_among : (es : List Entry) (e : Entry) → Contains es e → Contains (questions es) (asked_by e.0)
asks_among [] e c = let within = c.1 in absurd (omega arith)
asks_among (f ∷ es) e c = elim (Contains-cons f es e c) [
  | inl same ↦ subst (λ g. Contains (questions (f ∷ es)) (asked_by g.0)) same (Contains-head (asked_by f.0) (questions es))
  | inr d ↦ Contains-tail (asked_by f.0) (questions es) (asked_by e.0) (asks_among es e d)
]

no_entry : (q : Question) (es : List Entry) (o : Option Entry) → lookup_entry (same_question q) es ≡ o → (Contains (questions es) (asked_by q) → ⊥)
    → lookup_entry (same_question q) es ≡ None
no_entry q es None h new = h
no_entry q es (Some e) h new =
    let there = Contains-lookup_entry (same_question q) es e h in
    absurd (new (subst (Contains (questions es)) (sym ((same_question_decides q e.0).0 there.1)) (asks_among es e there.0)))

-- an answer to a new question is put first
put_first : (kept : LruCache Question Solved) (q : Question) (solved : Solved) → (Contains (questions kept.entries) (asked_by q) → ⊥)
    → put_entries same_question kept q solved ≡ (q, solved) ∷ take (kept.cap - 1) kept.entries
put_first kept q solved new = rw (no_entry q kept.entries (lookup_entry (same_question q) kept.entries) refl new) refl

module _ (kept : LruCache Question Solved) (q : Question) (solved : Solved) (memo : IsMemo kept) (unasked : Contains (questions kept.entries) (asked_by q) → ⊥) where
  -- after a new answer is inserted, all entries are answers to their questions
  pub put_is_memo : IsAnswered (q, solved) → IsMemo (lru_cache (put_entries same_question kept q solved) kept.cap)
  put_is_memo answered = record {
    room = memo.room;
    answered = All-same IsAnswered (put_entries same_question kept q solved) ((q, solved) ∷ take (kept.cap - 1) kept.entries) (put_first kept q solved unasked)
        (All-cons IsAnswered (q, solved) (take (kept.cap - 1) kept.entries) answered (All-take IsAnswered (kept.cap - 1) kept.entries memo.answered));
  }

  -- and its question is the first
  pub put_remembers : Remembers (questions kept.entries) (asked_by q) (questions (put_entries same_question kept q solved))
  put_remembers =
      let others : questions (take (kept.cap - 1) kept.entries) ≡ take (kept.cap - 1) (questions kept.entries) = sym (take-map (λ e. asked_by e.0) (kept.cap - 1) kept.entries) in
      let is : questions (put_entries same_question kept q solved) ≡ asked_by q ∷ take (kept.cap - 1) (questions kept.entries) =
      ap questions (put_first kept q solved unasked) ∙ ap (λ l. asked_by q ∷ l) others in
      inr (unasked, is ∙ ap (λ n. asked_by q ∷ take (n - 1) (questions kept.entries)) memo.room)

-- a question whose key differs from all keys isn't one of the questions
others_differ : (q : Question) (es : List Entry) → AllByRecursion (λ k. same_question q k ≡ false) (keys_of es) → All (λ a. asked_by q ≢ a) (questions es)
others_differ q [] differ = All-nil (λ a. asked_by q ≢ a)
others_differ q (e ∷ es) differ =
    All-cons (λ a. asked_by q ≢ a) (asked_by e.0) (questions es) (λ same. true≢false (sym ((same_question_decides q e.0).1 same) ∙ differ.0)) (others_differ q es differ.1)

-- if all keys differ, no question occurs twice
pub questions_differ : (es : List Entry) → IsDistinct same_question (keys_of es) → AllPairs (λ a b. a ≢ b) (questions es)
unfolding IsDistinct
questions_differ [] distinct = λ i j d before within. absurd (omega arith)
questions_differ (e ∷ es) distinct =
    AllPairs-cons (λ a b. a ≢ b) (asked_by e.0) (questions es) (others_differ e.0 es distinct.0) (questions_differ es distinct.1)

-- the steps read so far, and one more
pub one_step_more : (steps : List Step) (i : ℕ) (step : Step) → slice_get steps i ≡ Some step → take i steps ++ step ∷ [] ≡ take (i + 1) steps
one_step_more steps i step here =
    let d : Step = step in
    rw add-one (sym (take-suc steps i d (slice_get_within steps i step here) ∙ ap (λ w. take i steps ++ w ∷ []) (get_or_from_slice_get steps i step d here)))

-- the rows of needs read so far, and one more
pub one_row_more : (rows : List (List ℕ)) (read : List (Vec ℕ Global)) (row : Vec ℕ Global) (k : ℕ) → rows_of read ≡ take k rows → slice_get rows k ≡ Some row.items
    → rows_of (read ++ row ∷ []) ≡ take (k + 1) rows
one_row_more rows read row k so_far here =
    map-append (λ (r : Vec ℕ Global). r.items) read (row ∷ []) ∙ ap (λ (rs : List (List ℕ)). rs ++ row.items ∷ []) so_far
    ∙ (rw add-one (sym (take-suc rows k row.items (slice_get_within rows k row.items here) ∙ ap (λ w. take k rows ++ w ∷ []) (get_or_from_slice_get rows k row.items row.items here))))

-- the answer that is found for a question on a project is its solution
pub found_solves_project : (a : Asked) (i : Planned) (budget : ℕ) (found : Option Solved) (solved : Solved) → a ≡ asked_of_project i budget → found ≡ Some solved
    → IfSome found (Answers a) → IsProjectSolution i budget solved
found_solves_project a i budget found solved asks is answers =
    let told : Answers a solved = subst (λ (f : Option Solved). IfSome f (Answers a)) is answers in
    (subst (λ (b : Asked). Answers b solved) asks told) i refl

-- and its solution answers the question
pub solution_answers_project : (a : Asked) (i : Planned) (budget : ℕ) (solved : Solved) → a ≡ asked_of_project i budget → IsProjectSolution i budget solved → Answers a solved
solution_answers_project a i budget solved asks is =
    subst (λ (b : Asked). Answers b solved) (sym asks) (λ j same. same_content_solves i j budget solved same is)
