-- The values in the cells of an activity.
use Rattle.std.specs.Prelude.{ℕ, ◌==◌, ◌&&◌, ◌||◌, Bool, if◌then◌else◌, List, [], Option, Some, None, Result, Ok, length, nat_le}
use Rattle.std.specs.List.{list_all}
use Rattle.std.specs.Str.{str_eq_ignore_ascii_case}
use Rattle.plan_table.specs.declared.fault.TableCode.{TableCode}
use Rattle.plan_table.specs.declared.fault.TableCode.TheVariants as code
use Rattle.plan_psplib.specs.Numbers.{number}
use Rattle.plan_psplib.specs.Sections.{begins_with}
use Rattle.plan_psplib.specs.Tokens.{greatest}
use Rattle.plan_table.specs.Limits.{is_printable, longest_name}
use Rattle.plan_table.specs.Reading.{Fault, fault, check, ◌>>=◌}

-- two texts are the same
abbrev pub same : List ℕ → List ℕ → Bool
same a b = (length a == length b) && begins_with a b

-- the same without regard to ASCII case
unfoldable pub same_name : List ℕ → List ℕ → Bool
same_name a b = str_eq_ignore_ascii_case a b

abbrev pub amount_in : Option ℕ → TableCode → ℕ → List ℕ → Result ℕ Fault
amount_in None c line word = fault c line word
amount_in (Some n) c line word = if nat_le n greatest then Ok n else fault code.Limit line []

-- the amount in a cell; if it is no number, the fault has this code and names this word
unfoldable pub amount : TableCode → ℕ → List ℕ → List ℕ → Result ℕ Fault
amount c line word cell = amount_in (number cell) c line word

-- the name in a cell
unfoldable pub name : ℕ → List ℕ → Result (List ℕ) Fault
name line cell = do
  short ← check (nat_le (length cell) longest_name) code.Limit line
  plain ← check (list_all (λ byte. nat_le 32 byte) cell) code.NotText line
  text ← check (is_printable cell) code.NotText line
  Ok cell

-- what stands between the ids of predecessors
abbrev pub is_separator : ℕ → Bool
is_separator byte = byte == 44 || byte == 59 || byte == 10

abbrev pub as_blank : ℕ → ℕ
as_blank byte = if is_separator byte then 32 else byte
