-- The sections of a table's text as lines.
use Rattle.std.proofs.Common.{◌≡◌, ℕ, ◌+◌, List, [], ◌∷◌, ◌++◌, length, codes, refl, sym, ap, ◌∙◌, subst, append_assoc}
use Rattle.std.specs.Fmt.{decimal}
use Rattle.std.specs.List.{AllByRecursion}
use Rattle.plan_psplib.specs.Lines.{raw_lines}
use Rattle.plan_table.specs.Numbered.{numbered}
use Rattle.plan_table.specs.Columns.{number_column, spaced, columns}
use Rattle.plan_table.specs.Jobs.{Job}
use Rattle.plan_table.specs.ProjectText.{rule_line, counted, placed, opening, counts, head_text, information_text, precedence_line, precedence_text, resource_heads, request_line, request_heads, requests_text, availabilities_text}
use Rattle.plan_table.proofs.LineLemmas.{IsPlain, raw_line}

-- lines, each with its end, before a text
abbrev pub lines_before : List (List ℕ) → List ℕ → List ℕ
lines_before [] rest = rest
lines_before (l ∷ ls) rest = l ++ 10 ∷ lines_before ls rest

-- a text is these lines, each with its end
pub record IsLines (text : List ℕ) (ls : List (List ℕ)) : Type 0 where
  pub before : (rest : List ℕ) → text ++ rest ≡ lines_before ls rest

nested : (ls lb : List (List ℕ)) (rest : List ℕ) → lines_before ls (lines_before lb rest) ≡ lines_before (ls ++ lb) rest
nested [] lb rest = refl
nested (l ∷ ls) lb rest = ap (λ t. l ++ 10 ∷ t) (nested ls lb rest)

-- lines before lines
pub lines_both : (a b : List ℕ) (la lb : List (List ℕ)) → IsLines a la → IsLines b lb → IsLines (a ++ b) (la ++ lb)
lines_both a b la lb first second = record {
  before = λ rest. append_assoc a b rest ∙ ap (λ t. a ++ t) (second.before rest) ∙ first.before (lines_before lb rest) ∙ nested la lb rest;
}

-- one line
pub one_line : (l : List ℕ) → IsLines (l ++ 10 ∷ []) (l ∷ [])
one_line l = record { before = λ rest. append_assoc l (10 ∷ []) rest }

-- a line for each element
pub numbered_lines : {A : Type 0} (line body : ℕ → A → List ℕ) → ((j : ℕ) (x : A) → line j x ≡ body j x ++ 10 ∷ []) →
    (n : ℕ) (xs : List A) → IsLines (numbered line n xs) (numbered (λ j x. body j x ∷ []) n xs)
numbered_lines line body is n [] = record { before = λ rest. refl }
numbered_lines line body is n (x ∷ xs) =
    let P : List ℕ → Type 0 = λ t. IsLines (t ++ numbered line (n + 1) xs) (numbered (λ j x. body j x ∷ []) n (x ∷ xs)) in
    subst P (sym (is n x)) (lines_both _ _ _ _ (one_line (body n x)) (numbered_lines line body is (n + 1) xs))

-- a text of plain lines is cut into them
pub raw_lines-before : (ls : List (List ℕ)) (rest : List ℕ) → AllByRecursion IsPlain ls → raw_lines (lines_before ls rest) ≡ ls ++ raw_lines rest
raw_lines-before [] rest plain = refl
raw_lines-before (l ∷ ls) rest plain = raw_line l (lines_before ls rest) plain.0 ∙ ap (λ ps. l ∷ ps) (raw_lines-before ls rest plain.1)

-- ---- the sections

abbrev pub rule : List ℕ
rule = codes "************************************************************************"

abbrev pub head_lines : ℕ → ℕ → ℕ → List (List ℕ)
head_lines jobs horizon resources =
    rule ∷ codes "file with basedata            : plan import" ∷ codes "initial value random generator: 1" ∷ rule
    ∷ codes "projects                      :  1" ∷ (codes "jobs (incl. supersource/sink ):  " ++ decimal jobs)
    ∷ (codes "horizon                       :  " ++ decimal horizon) ∷ codes "RESOURCES"
    ∷ (codes "  - renewable                 :  " ++ decimal resources ++ codes "   R")
    ∷ codes "  - nonrenewable              :  0   N" ∷ codes "  - doubly constrained        :  0   D" ∷ rule ∷ []

behind_number : (before behind : List ℕ) (n : ℕ) → IsLines (counted before n (behind ++ 10 ∷ [])) ((before ++ decimal n ++ behind) ∷ [])
behind_number before behind n =
    subst (λ t. IsLines t ((before ++ decimal n ++ behind) ∷ [])) (append_assoc (before ++ decimal n) behind (10 ∷ []))
    (one_line (before ++ decimal n ++ behind))

counts_are : (jobs horizon resources : ℕ) → IsLines (counts jobs horizon resources)
    (codes "projects                      :  1" ∷ (codes "jobs (incl. supersource/sink ):  " ++ decimal jobs)
    ∷ (codes "horizon                       :  " ++ decimal horizon) ∷ codes "RESOURCES"
    ∷ (codes "  - renewable                 :  " ++ decimal resources ++ codes "   R") ∷ [])
counts_are jobs horizon resources =
    let first = codes "jobs (incl. supersource/sink ):  " in
    let second = codes "horizon                       :  " in
    let third = codes "  - renewable                 :  " in
    let a : IsLines (counted first jobs (codes "\n")) ((first ++ decimal jobs) ∷ []) = one_line (first ++ decimal jobs) in
    let b : IsLines (counted second horizon (codes "\nRESOURCES\n")) ((second ++ decimal horizon) ∷ codes "RESOURCES" ∷ []) =
    record { before = λ rest. append_assoc (second ++ decimal horizon) (codes "\nRESOURCES\n") rest } in
    let c : IsLines (counted third resources (codes "   R\n")) ((third ++ decimal resources ++ codes "   R") ∷ []) = behind_number third (codes "   R") resources in
    let d : IsLines (codes "projects                      :  1\n") (codes "projects                      :  1" ∷ []) = record { before = λ rest. refl } in
    lines_both _ _ _ _ (lines_both _ _ _ _ (lines_both _ _ _ _ d a) b) c

pub head_is_lines : (jobs horizon resources : ℕ) → IsLines (head_text jobs horizon resources) (head_lines jobs horizon resources)
unfolding head_text
head_is_lines jobs horizon resources =
    let a : IsLines opening (rule ∷ codes "file with basedata            : plan import" ∷ codes "initial value random generator: 1" ∷ rule ∷ []) = record { before = λ rest. refl } in
    let c : IsLines (codes "  - nonrenewable              :  0   N\n") (codes "  - nonrenewable              :  0   N" ∷ []) = record { before = λ rest. refl } in
    let d : IsLines (codes "  - doubly constrained        :  0   D\n") (codes "  - doubly constrained        :  0   D" ∷ []) = record { before = λ rest. refl } in
    lines_both _ _ _ _ (lines_both _ _ _ _ (lines_both _ _ _ _ (lines_both _ _ _ _ a (counts_are jobs horizon resources)) c) d) (one_line rule)

-- the row of the project's own numbers
abbrev pub numbers_row : ℕ → ℕ → List ℕ
numbers_row activities horizon =
    placed (codes "    1") 6 activities ++ placed (codes "      0") 8 horizon ++ placed (codes "        0") 8 horizon

abbrev pub information_lines : ℕ → ℕ → List (List ℕ)
information_lines activities horizon =
    codes "PROJECT INFORMATION:" ∷ codes "pronr.  #jobs rel.date duedate tardcost  MPM-Time" ∷ numbers_row activities horizon ∷ rule ∷ []

pub information_is_lines : (activities horizon : ℕ) → IsLines (information_text activities horizon) (information_lines activities horizon)
unfolding information_text
information_is_lines activities horizon =
    let title = codes "PROJECT INFORMATION:\n" ++ codes "pronr.  #jobs rel.date duedate tardcost  MPM-Time\n" in
    let a : IsLines title (codes "PROJECT INFORMATION:" ∷ codes "pronr.  #jobs rel.date duedate tardcost  MPM-Time" ∷ []) = record { before = λ rest. refl } in
    lines_both _ _ _ _ (lines_both _ _ _ _ a (one_line (numbers_row activities horizon))) (one_line rule)

-- ---- rows of jobs

abbrev pub precedence_row : ℕ → Job → List ℕ
precedence_row j job = number_column 4 j ++ (spaced 8 1 ++ (spaced 10 (length job.successors) ++ columns 11 3 job.successors))

regroup : (a b c d e : List ℕ) → a ++ b ++ c ++ d ++ e ≡ (a ++ (b ++ (c ++ d))) ++ e
regroup a b c d e = simp append_assoc

precedence_line_is : (j : ℕ) (job : Job) → precedence_line j job ≡ precedence_row j job ++ 10 ∷ []
unfolding precedence_line
precedence_line_is j job = regroup (number_column 4 j) (spaced 8 1) (spaced 10 (length job.successors)) (columns 11 3 job.successors) (10 ∷ [])

abbrev pub precedence_lines : List Job → List (List ℕ)
precedence_lines jobs =
    codes "PRECEDENCE RELATIONS:" ∷ codes "jobnr.    #modes  #successors   successors" ∷ (numbered (λ j job. precedence_row j job ∷ []) 1 jobs ++ rule ∷ [])

pub precedence_is_lines : (jobs : List Job) → IsLines (precedence_text jobs) (precedence_lines jobs)
unfolding precedence_text
precedence_is_lines jobs =
    let title = codes "PRECEDENCE RELATIONS:\n" ++ codes "jobnr.    #modes  #successors   successors\n" in
    let a : IsLines title (codes "PRECEDENCE RELATIONS:" ∷ codes "jobnr.    #modes  #successors   successors" ∷ []) = record { before = λ rest. refl } in
    lines_both _ _ _ _ (lines_both _ _ _ _ a (numbered_lines precedence_line precedence_row precedence_line_is 1 jobs)) (one_line rule)

abbrev pub request_row : ℕ → Job → List ℕ
request_row j job = number_column 3 j ++ (spaced 6 1 ++ (spaced 5 job.duration ++ columns 7 4 job.needs))

request_line_is : (j : ℕ) (job : Job) → request_line j job ≡ request_row j job ++ 10 ∷ []
unfolding request_line
request_line_is j job = regroup (number_column 3 j) (spaced 6 1) (spaced 5 job.duration) (columns 7 4 job.needs) (10 ∷ [])

abbrev pub dashes : List ℕ
dashes = codes "------------------------------------------------------------------------"

abbrev pub request_lines : List Job → List ℕ → List (List ℕ)
request_lines jobs capacities =
    codes "REQUESTS/DURATIONS:" ∷ (codes "jobnr. mode duration" ++ resource_heads capacities) ∷ dashes
    ∷ (numbered (λ j job. request_row j job ∷ []) 1 jobs ++ rule ∷ [])

request_heads_are : (capacities : List ℕ) → IsLines (request_heads capacities) (codes "REQUESTS/DURATIONS:" ∷ (codes "jobnr. mode duration" ++ resource_heads capacities) ∷ dashes ∷ [])
request_heads_are capacities = record { before = λ rest. by_heads (resource_heads capacities) rest }
  where
    by_heads : (heads rest : List ℕ) → (codes "REQUESTS/DURATIONS:\n" ++ codes "jobnr. mode duration" ++ heads ++ codes "\n" ++ codes "------------------------------------------------------------------------\n") ++ rest
        ≡ lines_before (codes "REQUESTS/DURATIONS:" ∷ (codes "jobnr. mode duration" ++ heads) ∷ dashes ∷ []) rest
    by_heads heads rest = simp append_assoc

pub requests_are_lines : (jobs : List Job) (capacities : List ℕ) → IsLines (requests_text jobs capacities) (request_lines jobs capacities)
unfolding requests_text
requests_are_lines jobs capacities =
    lines_both _ _ _ _ (lines_both _ _ _ _ (request_heads_are capacities) (numbered_lines request_line request_row request_line_is 1 jobs)) (one_line rule)

abbrev pub availability_lines : List ℕ → List (List ℕ)
availability_lines capacities = codes "RESOURCEAVAILABILITIES:" ∷ resource_heads capacities ∷ columns 4 4 capacities ∷ rule ∷ []

pub availabilities_are_lines : (capacities : List ℕ) → IsLines (availabilities_text capacities) (availability_lines capacities)
unfolding availabilities_text
availabilities_are_lines capacities = record { before = λ rest. by_parts (resource_heads capacities) (columns 4 4 capacities) rest }
  where
    by_parts : (heads row rest : List ℕ) → (codes "RESOURCEAVAILABILITIES:\n" ++ heads ++ codes "\n" ++ row ++ codes "\n" ++ rule_line) ++ rest
        ≡ lines_before (codes "RESOURCEAVAILABILITIES:" ∷ heads ∷ row ∷ rule ∷ []) rest
    by_parts heads row rest = simp append_assoc
