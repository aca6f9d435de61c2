-- The `.sm` text of a table, as PSPLIB writes it, with the ids and names behind its sections.
use Rattle.std.specs.Prelude.{ℕ, ◌+◌, Bool, if◌then◌else◌, List, [], ◌∷◌, ◌++◌, length, codes}
use Rattle.std.specs.List.{sum_by}
use Rattle.std.specs.Fmt.{decimal}
use Rattle.plan_table.specs.Numbered.{numbered}
use Rattle.plan_table.specs.Columns.{number_column, spaced, columns}
use Rattle.plan_table.specs.Table.{Activity, Resource, Table}
use Rattle.plan_table.specs.Jobs.{Job, table_jobs, capacities_of}

-- the line between two sections
abbrev pub rule_line : List ℕ
rule_line = codes "************************************************************************\n"

-- a number behind a text and before another
abbrev pub counted : List ℕ → ℕ → List ℕ → List ℕ
counted before n behind = before ++ decimal n ++ behind

-- a number in its places behind a text
abbrev pub placed : List ℕ → ℕ → ℕ → List ℕ
placed before places n = before ++ spaced places n

-- the first lines of the head
abbrev pub opening : List ℕ
opening = rule_line ++ codes "file with basedata            : plan import\n" ++ codes "initial value random generator: 1\n" ++ rule_line

-- the lines of the head that count
abbrev pub counts : ℕ → ℕ → ℕ → List ℕ
counts jobs horizon resources =
    codes "projects                      :  1\n"
    ++ counted (codes "jobs (incl. supersource/sink ):  ") jobs (codes "\n")
    ++ counted (codes "horizon                       :  ") horizon (codes "\nRESOURCES\n")
    ++ counted (codes "  - renewable                 :  ") resources (codes "   R\n")

-- the head, for so many jobs with these durations in all, and so many resources
unfoldable pub head_text : ℕ → ℕ → ℕ → List ℕ
head_text jobs horizon resources = opening ++ counts jobs horizon resources
    ++ codes "  - nonrenewable              :  0   N\n" ++ codes "  - doubly constrained        :  0   D\n"
    ++ rule_line

-- the line of the project's own numbers; the due date and the MPM time are the horizon
abbrev pub numbers_line : ℕ → ℕ → List ℕ
numbers_line activities horizon = placed (codes "    1") 6 activities ++ placed (codes "      0") 8 horizon
    ++ placed (codes "        0") 8 horizon ++ codes "\n"

-- the section of the project's own numbers, for so many activities
unfoldable pub information_text : ℕ → ℕ → List ℕ
information_text activities horizon = codes "PROJECT INFORMATION:\n"
    ++ codes "pronr.  #jobs rel.date duedate tardcost  MPM-Time\n" ++ numbers_line activities horizon ++ rule_line

-- the line of a job in the precedence section
unfoldable pub precedence_line : ℕ → Job → List ℕ
precedence_line j job =
    number_column 4 j ++ spaced 8 1 ++ spaced 10 (length job.successors) ++ columns 11 3 job.successors ++ codes "\n"

unfoldable pub precedence_text : List Job → List ℕ
precedence_text jobs =
    codes "PRECEDENCE RELATIONS:\n" ++ codes "jobnr.    #modes  #successors   successors\n"
    ++ numbered precedence_line 1 jobs ++ rule_line

-- the head of the column of resource i
abbrev pub resource_head : ℕ → List ℕ
resource_head i = codes "  R " ++ decimal i

-- the heads of the columns of resources
abbrev pub resource_heads : List ℕ → List ℕ
resource_heads capacities = numbered (λ i _. resource_head i) 1 capacities

-- the line of a job in the requests section
unfoldable pub request_line : ℕ → Job → List ℕ
request_line j job = number_column 3 j ++ spaced 6 1 ++ spaced 5 job.duration ++ columns 7 4 job.needs ++ codes "\n"

-- the lines above those of the jobs in the requests section
abbrev pub request_heads : List ℕ → List ℕ
request_heads capacities = codes "REQUESTS/DURATIONS:\n" ++ codes "jobnr. mode duration" ++ resource_heads capacities
    ++ codes "\n" ++ codes "------------------------------------------------------------------------\n"

unfoldable pub requests_text : List Job → List ℕ → List ℕ
requests_text jobs capacities = request_heads capacities ++ numbered request_line 1 jobs ++ rule_line

unfoldable pub availabilities_text : List ℕ → List ℕ
availabilities_text capacities =
    codes "RESOURCEAVAILABILITIES:\n" ++ resource_heads capacities ++ codes "\n" ++ columns 4 4 capacities ++ codes "\n" ++ rule_line

-- the line of an activity's name; an activity without a name has none
abbrev pub name_line_of : ℕ → List ℕ → List ℕ
name_line_of j [] = []
name_line_of j (byte ∷ name) = codes "name " ++ decimal j ++ codes " " ++ (byte ∷ name) ++ codes "\n"

unfoldable pub name_line : ℕ → Activity → List ℕ
name_line j a = name_line_of j a.name

-- the line of a resource's name
unfoldable pub resource_line : ℕ → Resource → List ℕ
resource_line i r = codes "resource " ++ decimal i ++ codes " " ++ r.name ++ codes "\n"

-- the line of an activity's id
unfoldable pub id_line : ℕ → Activity → List ℕ
id_line j a = codes "id " ++ decimal j ++ codes " " ++ a.id ++ codes "\n"

-- the lines of the ids, if a list has ids of its own
abbrev pub id_lines : Bool → List Activity → List ℕ
id_lines own_ids activities = if own_ids then numbered id_line 2 activities else []

-- the section of the ids and names, behind all sections that are read
unfoldable pub names_text : Table → List ℕ
names_text t = codes "PROJECT INFORMATION:\n" ++ id_lines t.own_ids t.activities ++ numbered name_line 2 t.activities
    ++ numbered resource_line 1 t.resources ++ rule_line

-- the durations of the activities in all
abbrev pub horizon_of : List Activity → ℕ
horizon_of activities = sum_by (λ a. a.duration) activities

-- the sections that are read, for a project with these capacities
abbrev pub sections_text : List Job → List ℕ → List ℕ
sections_text jobs capacities = precedence_text jobs ++ requests_text jobs capacities ++ availabilities_text capacities

-- the head and the project's own numbers, for so many resources
abbrev pub front_text : List Activity → ℕ → List ℕ
front_text activities resources =
    head_text (length activities + 2) (horizon_of activities) resources
    ++ information_text (length activities) (horizon_of activities)

-- the text of a table with these jobs and capacities
abbrev pub text_of_jobs : Table → List Job → List ℕ → List ℕ
text_of_jobs t jobs capacities =
    front_text t.activities (length capacities) ++ sections_text jobs capacities ++ names_text t

-- the text of a table
abbrev pub project_text : Table → List ℕ
project_text t = text_of_jobs t (table_jobs t) (capacities_of t.resources)
