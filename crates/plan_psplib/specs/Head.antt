-- The sizes in the head of an `.sm` text (docs/definitions.md, "Files").
use Rattle.std.specs.Prelude.{ℕ, ◌==◌, List, Option, Some, None, Result, Ok, codes}
use Rattle.plan_net.specs.Limits.{fewest_activities, most_activities}
use Rattle.plan_psplib.specs.declared.text.fault.FileCode.TheVariants as code
use Rattle.plan_psplib.specs.declared.text.fault.Fault.{Fault}
use Rattle.plan_psplib.specs.declared.text.lines.Line as declared
use Rattle.plan_psplib.specs.declared.sm.head.Sizes as declared_sizes
use Rattle.plan_psplib.specs.declared.sm.head.Keys as declared_keys
use Rattle.plan_psplib.specs.Lines.{NumberedLine}
use Rattle.plan_psplib.specs.Numbers.{number}
use Rattle.plan_psplib.specs.Sections.{key_line, value_word}
use Rattle.plan_psplib.specs.Tokens.{◌>>=◌, LineNumber, fault, check, limited}

-- a value for each of the five keys
pub record Keys (A : Type 0) : Type 0 where
  pub projects : A
  pub jobs : A
  pub renewable : A
  pub nonrenewable : A
  pub doubly_constrained : A

-- the numbers of jobs and of renewable resources
pub record Sizes : Type 0 where
  pub jobs : ℕ
  pub resources : ℕ

-- the same, as the program keeps them
abbrev pub numbered_line : declared.Line → NumberedLine
numbered_line line = record { number = line.number; text = line.text.now }

abbrev pub keys_by : {A B : Type 0} → (A → B) → declared_keys.Keys A → Keys B
keys_by view keys = record {
  projects = view keys.projects;
  jobs = view keys.jobs;
  renewable = view keys.renewable;
  nonrenewable = view keys.nonrenewable;
  doubly_constrained = view keys.doubly_constrained;
}

abbrev pub sizes_of : declared_sizes.Sizes → Sizes
sizes_of s = record { jobs = s.jobs; resources = s.resources }

-- the first line of the head with each key
abbrev pub key_lines : List NumberedLine → Keys (Option NumberedLine)
key_lines head = record {
  projects = key_line (codes "projects") head;
  jobs = key_line (codes "jobs") head;
  renewable = key_line (codes "- renewable") head;
  nonrenewable = key_line (codes "- nonrenewable") head;
  doubly_constrained = key_line (codes "- doubly constrained") head;
}

abbrev pub found_line : ℕ → Option NumberedLine → Result NumberedLine Fault
found_line last None = fault code.MissingHead last
found_line last (Some line) = Ok line

-- each key is there; last is the last line of the text
unfoldable pub found_lines : ℕ → Keys (Option NumberedLine) → Result (Keys NumberedLine) Fault
found_lines last lines = do
  projects ← found_line last lines.projects
  jobs ← found_line last lines.jobs
  renewable ← found_line last lines.renewable
  nonrenewable ← found_line last lines.nonrenewable
  doubly_constrained ← found_line last lines.doubly_constrained
  Ok (record { projects = projects; jobs = jobs; renewable = renewable; nonrenewable = nonrenewable; doubly_constrained = doubly_constrained })

abbrev pub value_of_word : ℕ → Option ℕ → Result LineNumber Fault
value_of_word line None = fault code.BadNumber line
value_of_word line (Some n) = Ok (record { value = n; line = line })

abbrev pub value_of : ℕ → Option (List ℕ) → Result LineNumber Fault
value_of line None = fault code.BadNumber line
value_of line (Some word) = value_of_word line (number word)

-- the value of a key, which must be a number
abbrev pub key_value : NumberedLine → Result LineNumber Fault
key_value line = value_of line.number (value_word line.text)

-- each key has a value
unfoldable pub values : Keys NumberedLine → Result (Keys LineNumber) Fault
values lines = do
  projects ← key_value lines.projects
  jobs ← key_value lines.jobs
  renewable ← key_value lines.renewable
  nonrenewable ← key_value lines.nonrenewable
  doubly_constrained ← key_value lines.doubly_constrained
  Ok (record { projects = projects; jobs = jobs; renewable = renewable; nonrenewable = nonrenewable; doubly_constrained = doubly_constrained })

-- a key has the only supported value
abbrev pub supported : ℕ → LineNumber → Result (Unit {0}) Fault
supported only v = check (v.value == only) code.Unsupported v.line

-- the most renewable resources of a project
abbrev pub most_resources : ℕ
most_resources = 16

-- one project, no nonrenewable and no doubly constrained resources, as many jobs as a network may
-- have, and some renewable resources
unfoldable pub sizes_in : Keys LineNumber → Result Sizes Fault
sizes_in v = do
  one_project ← supported 1 v.projects
  no_nonrenewable ← supported 0 v.nonrenewable
  no_doubly_constrained ← supported 0 v.doubly_constrained
  jobs ← limited fewest_activities most_activities v.jobs
  resources ← limited 1 most_resources v.renewable
  Ok (record { jobs = jobs; resources = resources })

-- the sizes in the head; last is the last line of the text
unfoldable pub sizes : ℕ → List NumberedLine → Result Sizes Fault
sizes last head = do
  lines ← found_lines last (key_lines head)
  numbers ← values lines
  sizes_in numbers
