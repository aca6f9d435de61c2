-- The limits of a table.
use Rattle.std.specs.Prelude.{ℕ, ◌≡◌, ◌+◌, ◌≤◌, ◌<◌, ◌&&◌, Bool, true, List, length, nat_le, nat_lt, not}
use Rattle.std.specs.Char.{is_control}
use Rattle.std.specs.List.{AllByRecursion, list_all, list_any, sum_by}
use Rattle.std.specs.Str.{chars, is_utf8}
use Rattle.plan_net.specs.Limits.{IsSound, longest_duration, longest_sum}
use Rattle.plan_psplib.specs.Head.{most_resources}
use Rattle.plan_psplib.specs.Lines.{trim}
use Rattle.plan_psplib.specs.Tokens.{greatest}
use Rattle.plan_table.specs.Table.{Activity, Resource, Table}
use Rattle.plan_table.specs.Jobs.{table_jobs, network_of}

-- the most activities of a table: two jobs are dummies
abbrev pub most_rows : ℕ
most_rows = 500

-- the most bytes of a name
abbrev pub longest_name : ℕ
longest_name = 200

-- a text is UTF-8 and has no control character: U+0000 to U+001F, U+007F to U+009F
abbrev pub is_printable : List ℕ → Bool
is_printable text = is_utf8 text && not (list_any is_control (chars text))

-- a name is short, without control characters and without blanks at its ends
pub record IsName (name : List ℕ) : Type 0 where
  pub short : length name ≤ longest_name
  pub trimmed : trim name ≡ name
  pub plain : list_all (λ byte. nat_le 32 byte) name ≡ true
  pub printable : is_printable name ≡ true

-- an activity of a table with n activities and k resources
pub record IsEntry (n k : ℕ) (a : Activity) : Type 0 where
  pub name : IsName a.name
  pub duration : a.duration ≤ longest_duration
  pub predecessors : AllByRecursion (λ j. (2 ≤ j) × (j ≤ n + 1)) a.predecessors
  pub whole : length a.needs ≡ k
  pub needs : AllByRecursion (λ amount. amount ≤ greatest) a.needs

-- a resource of a table
pub record IsSupply (r : Resource) : Type 0 where
  pub name : IsName r.name
  pub named : 0 < length r.name
  pub capacity : r.capacity ≤ greatest

-- an id is a word: it isn't empty and has no blank and no control character
pub record IsId (id : List ℕ) : Type 0 where
  pub some : 0 < length id
  pub bytes : list_all (λ byte. nat_lt 32 byte) id ≡ true

-- a table within the limits
pub record IsWithinLimits (t : Table) : Type 0 where
  pub rows : length t.activities ≤ most_rows
  pub columns : length t.resources ≤ most_resources
  pub activities : AllByRecursion (IsEntry (length t.activities) (length t.resources)) t.activities
  pub ids : t.own_ids ≡ true → AllByRecursion (λ a. IsId a.id) t.activities
  pub resources : AllByRecursion IsSupply t.resources
  pub total : sum_by (λ a. a.duration) t.activities ≤ longest_sum

-- a table within the limits whose activities have no cycle
pub record IsTable (t : Table) : Type 0 where
  pub limits : IsWithinLimits t
  pub sound : IsSound (network_of (table_jobs t))
