-- A table's text as records of cells, by the state machine of the `csv` crate, with the line of
-- each record.
use Rattle.std.specs.Prelude.{ℕ, ◌+◌, ◌==◌, Bool, true, false, if◌then◌else◌, List, [], ◌∷◌, ◌++◌, Option, Some, None, Result, Ok, Err, Vec, length, map, fold, drop, nat_eq}
use Rattle.std.specs.List.{list_any, starts_with}
use Rattle.std.specs.declared.alloc.Global.{Global}
use Rattle.plan_psplib.specs.Lines.{raw_lines, trim}
use Rattle.csv.specs.Machine.{step, ends_at_end}
use Rattle.csv.specs.Reading.{default_config}
use Rattle.csv.specs.declared.parser.Config.{Config}
use Rattle.csv.specs.declared.parser.State as machine
use Rattle.csv.specs.declared.parser.State.TheVariants as st
use Rattle.csv.specs.declared.parser.Action as actions
use Rattle.csv.specs.declared.parser.Action.TheVariants as act
use Rattle.plan_table.specs.declared.csv_step.State.{State}
use Rattle.plan_table.specs.declared.csv_step.State.TheVariants as states
use Rattle.plan_table.specs.declared.csv_step.Action.{Action}
use Rattle.plan_table.specs.declared.csv_step.Action.TheVariants as own
use Rattle.plan_table.specs.declared.records.Row as declared
use Rattle.plan_table.specs.declared.records.Machine as declared_machine

-- the `csv` crate's configuration with this delimiter
abbrev pub config : ℕ → Config
config delimiter = record default_config { delimiter = delimiter }

-- the states and the actions of the `csv` crate that its configuration can reach
abbrev pub state_of : State → machine.State
state_of states.StartRecord = st.StartRecord
state_of states.StartField = st.StartField
state_of states.InField = st.InField
state_of states.InQuoted = st.InQuoted
state_of states.AfterQuote = st.AfterQuote
state_of states.AfterCr = st.AfterCr

abbrev pub action_of : Action → actions.Action
action_of own.Skip = act.Skip
action_of own.Copy = act.Copy
action_of own.EndField = act.EndField
action_of own.EndRecord = act.EndRecord

-- a record: its cells, and the line in which it begins
pub record Row : Type 0 where
  pub line : ℕ
  pub cells : List (List ℕ)

-- the same, as the program keeps it
abbrev pub row_of : declared.Row → Row
row_of r = record { line = r.line; cells = map (λ cell. cell.items) r.cells.items }

-- what has been read of a text: the state, the cells and the bytes of the record and the cell at
-- hand, the line, the line in which the record at hand begins, and the records before it
pub record Machine : Type 0 where
  pub state : machine.State
  pub cells : List (List ℕ)
  pub cell : List ℕ
  pub line : ℕ
  pub first : ℕ
  pub rows : List Row

abbrev pub machine_of : declared_machine.Machine → Machine
machine_of m = record {
  state = state_of m.state;
  cells = map (λ cell. cell.items) m.cells.items;
  cell = m.cell.items;
  line = m.line;
  first = m.first;
  rows = map row_of m.rows.items;
}

-- before any byte
abbrev pub fresh : Machine
fresh = record { state = st.StartRecord; cells = []; cell = []; line = 1; first = 1; rows = [] }

-- no byte of a record has come yet
abbrev pub is_between : machine.State → Bool
is_between st.StartRecord = true
is_between st.AfterCr = true
is_between st.StartField = false
is_between st.InField = false
is_between st.InQuoted = false
is_between st.AfterQuote = false
is_between st.InEscape = false
is_between st.InComment = false

-- the line in which the record begins that the next byte belongs to
abbrev pub first_line : Machine → ℕ
first_line m = if is_between m.state then m.line else m.first

-- the line behind a byte
abbrev pub line_behind : ℕ → ℕ → ℕ
line_behind line byte = if byte == 10 then line + 1 else line

-- the machine at the end of a cell
abbrev pub cell_ended : Machine → Machine
cell_ended m = record m { cells = m.cells ++ m.cell ∷ []; cell = [] }

-- the machine at the end of a record
abbrev pub record_ended : Machine → Machine
record_ended m = record m { cells = []; cell = []; rows = m.rows ++ record { line = m.first; cells = m.cells ++ m.cell ∷ [] } ∷ [] }

-- the machine after what an action does with a byte
abbrev pub acted : Machine → ℕ → actions.Action → Machine
acted m byte act.Skip = m
acted m byte act.Copy = record m { cell = m.cell ++ byte ∷ [] }
acted m byte act.EndField = cell_ended m
acted m byte act.EndRecord = record_ended m

-- the machine in another state, behind a byte
abbrev pub moved : Machine → ℕ → machine.State → Machine
moved m byte state = record m { state = state; line = line_behind m.line byte; first = first_line m }

-- the machine after a byte, which takes it to a state by an action
abbrev pub stepped : Machine → ℕ → machine.State × actions.Action → Machine
stepped m byte step = acted (moved m byte step.0) byte step.1

-- the machine after a byte of a text with this delimiter
abbrev pub fed : ℕ → Machine → ℕ → Machine
fed delimiter m byte = stepped m byte (step (config delimiter) m.state byte)

-- the machine after a text
abbrev pub scanned : ℕ → List ℕ → Machine
scanned delimiter text = fold (fed delimiter) fresh text

-- the records, with the one that the end of the text ends
abbrev pub rows_at_end : Machine → List Row
rows_at_end m = if ends_at_end m.state then m.rows ++ record { line = m.first; cells = m.cells ++ m.cell ∷ [] } ∷ [] else m.rows

-- the delimiter of a header line: the first of tab, semicolon and comma that it has
abbrev pub delimiter_of : List ℕ → ℕ
delimiter_of line = if list_any (λ byte. byte == 9) line then 9 else if list_any (λ byte. byte == 59) line then 59 else 44

-- the line of a record that ends between quotes
abbrev pub unclosed_in : machine.State → ℕ → Option ℕ
unclosed_in st.InQuoted line = Some line
unclosed_in st.StartRecord line = None
unclosed_in st.StartField line = None
unclosed_in st.InField line = None
unclosed_in st.AfterQuote line = None
unclosed_in st.InEscape line = None
unclosed_in st.InComment line = None
unclosed_in st.AfterCr line = None

abbrev pub unclosed : Machine → Option ℕ
unclosed m = unclosed_in m.state m.first

-- the first of some lines in which something stands
abbrev pub first_filled : List (List ℕ) → List ℕ
first_filled [] = []
first_filled (line ∷ lines) = if length (trim line) == 0 then first_filled lines else line

-- the first line of a text in which something stands
abbrev pub header_line : List ℕ → List ℕ
header_line text = first_filled (raw_lines text)

-- a text without a byte-order mark at its start
abbrev pub without_mark : List ℕ → List ℕ
without_mark text = if starts_with nat_eq text (0xEF ∷ 0xBB ∷ 0xBF ∷ []) then drop 3 text else text

-- the machine after a table's text, in the delimiter of its header line
abbrev pub read_of : List ℕ → Machine
read_of text = scanned (delimiter_of (header_line text)) text

-- the records, or the line of the one that isn't closed
abbrev pub rows_or_line : Option ℕ → List Row → Result (List Row) ℕ
rows_or_line None rows = Ok rows
rows_or_line (Some line) rows = Err line

-- what a table's text reads as: its records, or the line of a record in which a quote isn't closed
unfoldable pub records_of : List ℕ → Result (List Row) ℕ
records_of text = rows_or_line (unclosed (read_of (without_mark text))) (rows_at_end (read_of (without_mark text)))

-- the same, as the program answers it
abbrev pub rows_of : Result (Vec declared.Row Global) ℕ → Result (List Row) ℕ
rows_of (Ok rows) = Ok (map row_of rows.items)
rows_of (Err line) = Err line
