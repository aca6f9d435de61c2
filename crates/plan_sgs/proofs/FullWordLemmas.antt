-- The full words of a project are the activity lists; words are finite, and go on while they aren't
-- full.
use Rattle.std.proofs.Common.{ℕ, suc, Bool, true, false, ◌≡◌, ◌+◌, ◌*◌, ◌≤◌, ◌<◌, List, [], ◌∷◌, length, get_or, map, nat_eq, refl, sym, ◌∙◌, ap, subst, arith}
use Rattle.std.specs.List.{All}
use Rattle.std.proofs.lemmas.Bool.{and_from, eq-eqb, eqb-true}
use Rattle.std.proofs.lemmas.List.{length-map, get_or-map}
use Rattle.std.proofs.lemmas.List.Elements.{All-nil, All-cons, Contains-get_or}
use Rattle.plan_sgs.specs.Problem.{count, makespan}
use Rattle.plan_sgs.specs.Serial.{serial}
use Rattle.plan_sgs.specs.Rules.{places, is_member, is_activity_list, takes_in_turn, eligible, rule_list}
use Rattle.plan_sgs.specs.Instances.{Planned, problem_of}
use Rattle.plan_sgs.specs.Laws.{by_starts}
use Rattle.plan_sgs.specs.ProjectWords.{depth_of, letters_after, IsWord, is_full, makespan_by}
use Rattle.plan_sgs.specs.ProjectLaws.{ProjectLettersRise, LettersAreActivities, ProjectWordsAreFinite, WordsGoOn, IsFullWord, FullWordsAreLists, ProjectFullIsActive, ProjectWordsReach, LeastProjectWordIsShortest, RuleWordIsFull}
use Rattle.plan_sgs.proofs.TotalLemmas.{all_below_at, all_below_from, all_below_not, total_limit}
use Rattle.plan_sgs.proofs.SerialLemmas.{taken_count, taken_all, taken_none, full_has, list_parts, serial_active, one_if}
use Rattle.plan_sgs.proofs.ListLemmas.{total_ones, told_by_places, told_by_entries}
use Rattle.plan_sgs.proofs.RuleLemmas.{rule_list_is, some_eligible}
use Rattle.plan_sgs.proofs.LawLemmas.{by_starts_least, least_shortest}
use Rattle.plan_sgs.proofs.KeyLemmas.{numbered_from, turns_of}
use Rattle.plan_sgs.proofs.BoundedLemmas.{bounded}
use Rattle.plan_sgs.proofs.RunLemmas.{length-places}
use Rattle.plan_sgs.proofs.WordLemmas.{eligible_rise, letter_is, letter_from, word_turns, turns_word}
use Rattle.plan_sgs.proofs.PathTailLemmas.{rank_by, ranked}

-- the letters after each list rise
pub letters_rise : ProjectLettersRise
unfolding ProjectLettersRise letters_after
letters_rise i w a b d less within =
    let js = eligible (problem_of i) (places w) (depth_of i) in
    let long : length (map suc js) ≡ length js = length-map js suc in
    let low : get_or js a d < get_or js b d = eligible_rise (problem_of i) (places w) (depth_of i) a b d less (omega (arith, within, long)) in
    omega (arith, low, get_or-map suc js a d d (omega (arith, less, within, long)), get_or-map suc js b d d (omega (arith, within, long)))

pub letters_are_activities : LettersAreActivities
unfolding LettersAreActivities
letters_are_activities i w k d within =
    let letter = letter_is i w (get_or (letters_after i w) k d) (Contains-get_or (letters_after i w) k d within) in
    (letter.from_one, omega (arith, letter.inside, letter.from_one))

-- how many activities a word has
pub word_count : (i : Planned) (w : List ℕ) → IsWord i w → taken_count (problem_of i) (places w) ≡ length w
word_count i w word =
    let all : taken_count (problem_of i) [] + length (places w) ≡ taken_count (problem_of i) (places w) = taken_all (problem_of i) (places w) [] (word_turns i [] w word).turns in
    omega (arith, all, taken_none (problem_of i), length-places w)

count_most : (b : Bool) → one_if b ≤ 1
count_most true = omega arith
count_most false = omega arith

pub words_most : (i : Planned) (w : List ℕ) → IsWord i w → length w ≤ depth_of i
words_most i w word =
    let most : taken_count (problem_of i) (places w) ≤ 1 * depth_of i = total_limit (depth_of i) (λ j. one_if (is_member j (places w))) 1 (λ j below. count_most (is_member j (places w))) in
    omega (arith, most, word_count i w word)

pub words_are_finite : ProjectWordsAreFinite
unfolding ProjectWordsAreFinite
words_are_finite i w word = words_most i w word

-- a word is full exactly if it has as many letters as there are activities
pub full_long : (i : Planned) (w : List ℕ) → IsWord i w → is_full i w ≡ true → length w ≡ depth_of i
unfolding is_full
full_long i w word full =
    let ones : taken_count (problem_of i) (places w) ≡ depth_of i =
    total_ones (depth_of i) (λ j. one_if (is_member j (places w))) (λ j below. ap one_if (all_below_at (depth_of i) (λ j. is_member j (places w)) j full below)) in
    omega (arith, ones, word_count i w word)

pub long_full : (i : Planned) (w : List ℕ) → IsWord i w → depth_of i ≤ length w → is_full i w ≡ true
unfolding is_full
long_full i w word long = all_below_from (depth_of i) (λ j. is_member j (places w)) (λ j below. full_has (problem_of i) (places w) j (omega (arith, long, word_count i w word)) below)

pub full_exactly : (i : Planned) (w : List ℕ) → IsWord i w → nat_eq (length w) (depth_of i) ≡ is_full i w
full_exactly i w word = by_test (nat_eq (length w) (depth_of i)) refl (is_full i w) refl where
  by_test : (a : Bool) → nat_eq (length w) (depth_of i) ≡ a → (b : Bool) → is_full i w ≡ b → a ≡ b
  by_test true same true full = refl
  by_test true same false full = sym (long_full i w word (omega (arith, eqb-true (length w) (depth_of i) same))) ∙ full
  by_test false same true full = sym same ∙ eq-eqb (length w) (depth_of i) (full_long i w word full)
  by_test false same false full = refl

-- a full word is a list that takes all activities in turn
pub full_list : (i : Planned) (w : List ℕ) → IsFullWord i w → is_activity_list (problem_of i) (places w) ≡ true
full_list i w (word, full) =
    let long : length (places w) ≡ count (problem_of i) = omega (arith, full_long i w word full, length-places w) in
    and_from (nat_eq (length (places w)) (count (problem_of i))) (takes_in_turn (problem_of i) [] (places w)) (eq-eqb (length (places w)) (count (problem_of i)) long) (word_turns i [] w word).turns

-- and the reverse
pub list_full : (i : Planned) (w : List ℕ) → All (λ a. 1 ≤ a) w → is_activity_list (problem_of i) (places w) ≡ true → IsFullWord i w
list_full i w from_one list =
    let parts = list_parts (problem_of i) (places w) list in
    let word = turns_word i [] w from_one parts.1 in
    (word, long_full i w word (omega (arith, parts.0, length-places w)))

pub full_words_are_lists : FullWordsAreLists
unfolding FullWordsAreLists
full_words_are_lists i w instance = (
  λ full. numbered_from (problem_of i) w ((word_turns i [] w full.0).from_one, full_list i w full),
  λ numbered. let list = turns_of (problem_of i) w (bounded i instance).inside numbered in list_full i w list.0 list.1,
)

pub full_is_active : ProjectFullIsActive
unfolding ProjectFullIsActive
full_is_active i w instance full = serial_active (problem_of i) (places w) (bounded i instance).inside instance.fit (full_list i w full)

-- the places of numbers from 1 on
pub places_suc : (js : List ℕ) → places (map suc js) ≡ js
places_suc [] = refl
places_suc (j ∷ js) = ap (λ (x : ℕ). x ∷ places (map suc js)) (omega arith) ∙ ap (λ (xs : List ℕ). j ∷ xs) (places_suc js)

suc_from_one : (js : List ℕ) → All (λ a. 1 ≤ a) (map suc js)
suc_from_one [] = All-nil (λ a. 1 ≤ a)
suc_from_one (j ∷ js) = All-cons (λ a. 1 ≤ a) (suc j) (map suc js) (omega arith) (suc_from_one js)

-- a list by places is a full word by numbers
pub list_word : (i : Planned) (js : List ℕ) → is_activity_list (problem_of i) js ≡ true → IsFullWord i (map suc js)
list_word i js list = list_full i (map suc js) (suc_from_one js) (subst (λ (xs : List ℕ). is_activity_list (problem_of i) xs ≡ true) (sym (places_suc js)) list)

pub rule_word_is_full : RuleWordIsFull
unfolding RuleWordIsFull
rule_word_is_full i key instance = (
  list_word i (rule_list (problem_of i) key) (rule_list_is (problem_of i) (rank_by i.project.network) key (bounded i instance).inside (ranked i instance.project.network)),
  ap (serial (problem_of i)) (places_suc (rule_list (problem_of i) key)),
)

-- a word that isn't full goes on
pub words_go_on : WordsGoOn
unfolding WordsGoOn is_full
words_go_on i w instance word open_word =
    let missing = all_below_not (depth_of i) (λ j. is_member j (places w)) open_word in
    let next = some_eligible (problem_of i) (rank_by i.project.network) (λ _. 0) (places w)
    (bounded i instance).inside (ranked i instance.project.network) (λ k d within. omega arith)
    (suc (rank_by i.project.network missing.0)) missing.0 (omega arith) missing.1 missing.2 in
    (suc next.0, letter_from i w next.0 next.1 next.2)

-- for each feasible list there is a full word that is no longer
pub words_reach : ProjectWordsReach
unfolding ProjectWordsReach makespan_by
words_reach i starts instance feasible = record {
  word = map suc (by_starts (problem_of i) starts);
  full = list_word i (by_starts (problem_of i) starts)
      (rule_list_is (problem_of i) (rank_by i.project.network) (λ h. get_or starts h 0)
      (bounded i instance).inside (ranked i instance.project.network));
  makespan =
      let low : makespan (problem_of i) (serial (problem_of i) (by_starts (problem_of i) starts)) ≤ makespan (problem_of i) starts =
      by_starts_least (problem_of i) (rank_by i.project.network) starts (bounded i instance).inside instance.fit (ranked i instance.project.network) feasible in
      let same : makespan (problem_of i) (serial (problem_of i)
      (places (map suc (by_starts (problem_of i) starts)))) ≡ makespan (problem_of i)
      (serial (problem_of i) (by_starts (problem_of i) starts)) =
      ap (λ (js : List ℕ). makespan (problem_of i) (serial (problem_of i) js))
      (places_suc (by_starts (problem_of i) starts)) in
      omega (arith, low, same);
}

-- a full word of least makespan is shortest
pub least_is_shortest : LeastProjectWordIsShortest
unfolding LeastProjectWordIsShortest makespan_by
least_is_shortest i w instance full least =
    least_shortest (problem_of i) (rank_by i.project.network) (places w)
    (bounded i instance).inside instance.fit (ranked i instance.project.network)
    (told_by_places (problem_of i) (places w) (full_list i w full)) (λ other list.
    let numbered = list_word i other (told_by_entries (problem_of i) other (bounded i instance).inside list) in
    let low : makespan (problem_of i) (serial (problem_of i) (places w)) ≤ makespan (problem_of i) (serial (problem_of i) (places (map suc other))) = least (map suc other) numbered in
    omega (arith, low, ap (λ (js : List ℕ). makespan (problem_of i) (serial (problem_of i) js)) (places_suc other)))
