-- The jobs of a table: the first and the last are dummies, the others are its activities.
use Rattle.std.specs.Prelude.{ℕ, ◌+◌, ◌==◌, Bool, if◌then◌else◌, List, [], ◌∷◌, ◌++◌, length, map, replicate}
use Rattle.std.specs.List.{list_any}
use Rattle.plan_net.specs.Network.{Net, unlagged}
use Rattle.plan_net.specs.Successors.{arcs_of_rows}
use Rattle.plan_psplib.specs.Project.{Project}
use Rattle.plan_table.specs.declared.jobs.Job as declared
use Rattle.plan_table.specs.Numbered.{numbered}
use Rattle.plan_table.specs.Table.{Activity, Resource, Table}

-- a job of a project file
pub record Job : Type 0 where
  pub duration : ℕ
  pub successors : List ℕ
  pub needs : List ℕ

-- the same, as the program keeps it
abbrev pub job_in : declared.Job → Job
job_in j = record { duration = j.duration; successors = j.successors.items; needs = j.needs.items }

-- the numbers of the activities that pass a test
abbrev pub numbers_where : (Activity → Bool) → List Activity → List ℕ
numbers_where test activities = numbered (λ j a. if test a then j ∷ [] else []) 2 activities

-- an activity without predecessors
abbrev pub is_first : Activity → Bool
is_first a = length a.predecessors == 0

-- an activity of which j is a predecessor
abbrev pub follows : ℕ → Activity → Bool
follows j a = list_any (λ i. i == j) a.predecessors

-- the number of the last job
abbrev pub last_job_of : List Activity → ℕ
last_job_of activities = length activities + 2

-- the last job, if no activity follows
abbrev pub or_last : ℕ → List ℕ → List ℕ
or_last last [] = last ∷ []
or_last last (j ∷ js) = j ∷ js

-- the successors of activity j
abbrev pub successors_of : List Activity → ℕ → List ℕ
successors_of activities j = or_last (last_job_of activities) (numbers_where (follows j) activities)

-- amounts of one resource at least: a table without resources gives one of which there is nothing
abbrev pub or_zero : List ℕ → List ℕ
or_zero [] = 0 ∷ []
or_zero (n ∷ ns) = n ∷ ns

-- how much there is of each resource
abbrev pub capacities_of : List Resource → List ℕ
capacities_of resources = or_zero (map (λ r. r.capacity) resources)

-- a job that takes no time and needs nothing of so many resources
abbrev pub dummy : List ℕ → ℕ → Job
dummy successors resources = record { duration = 0; successors = successors; needs = replicate resources 0 }

-- the job of activity j
abbrev pub job_of : List Activity → ℕ → Activity → Job
job_of activities j a = record { duration = a.duration; successors = successors_of activities j; needs = or_zero a.needs }

-- the jobs for so many resources: a dummy before the activities without predecessors, the
-- activities, and a dummy behind those without successors
abbrev pub jobs_of : List Activity → ℕ → List Job
jobs_of activities resources =
    dummy (numbers_where is_first activities) resources
    ∷ numbered (λ j a. job_of activities j a ∷ []) 2 activities ++ dummy [] resources ∷ []

-- the jobs of a table
abbrev pub table_jobs : Table → List Job
table_jobs t = jobs_of t.activities (length (capacities_of t.resources))

abbrev pub durations_of : List Job → List ℕ
durations_of jobs = map (λ job. job.duration) jobs

-- the successors of each job
abbrev pub rows_of : List Job → List (List ℕ)
rows_of jobs = map (λ job. job.successors) jobs

-- the network of jobs, without lags
abbrev pub network_of : List Job → Net
network_of jobs = unlagged (durations_of jobs) (arcs_of_rows 1 (rows_of jobs))

-- the project of a table
abbrev pub project_of : Table → Project
project_of t = record {
  network = network_of (table_jobs t);
  needs = map (λ job. job.needs) (table_jobs t);
  available = capacities_of t.resources;
}
