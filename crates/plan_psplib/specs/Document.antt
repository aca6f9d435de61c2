-- Reading an `.sm` text: its document, or the first check that fails (docs/definitions.md,
-- "Files").
use Rattle.std.specs.Prelude.{ℕ, List, Option, Some, None, Result, Ok}
use Rattle.plan_psplib.specs.declared.text.fault.FileCode.TheVariants as code
use Rattle.plan_psplib.specs.declared.text.fault.Fault.{Fault}
use Rattle.plan_psplib.specs.declared.sm.document.Document as declared
use Rattle.plan_net.specs.Successors.{arcs_of_rows, rows_in}
use Rattle.plan_psplib.specs.Lines.{last_line}
use Rattle.plan_psplib.specs.Plain.{plain}
use Rattle.plan_psplib.specs.Streams.{Stream}
use Rattle.plan_psplib.specs.Sections.{kept_lines, head_of, section, precedence_title, requests_title, availabilities_title}
use Rattle.plan_psplib.specs.Tokens.{◌>>=◌, fault}
use Rattle.plan_psplib.specs.Head.{Sizes, sizes}
use Rattle.plan_psplib.specs.Precedence.{precedence}
use Rattle.plan_psplib.specs.Requests.{Requests, requests, requests_of, availabilities}

abbrev pub found_section : ℕ → Option Stream → Result Stream Fault
found_section last None = fault code.MissingSection last
found_section last (Some s) = Ok s

-- the sizes of a text and its precedence section, or the first check that fails before that section
-- is read
unfoldable pub opened : List ℕ → Result (Sizes × Stream) Fault
opened text = do
  text_good ← plain text
  size ← sizes (last_line text) (head_of text)
  first ← found_section (last_line text) (section precedence_title (kept_lines text))
  Ok (size, first)

-- the contents of a project file; its arcs may have a cycle
pub record Document : Type 0 where
  pub requests : Requests
  pub arcs : List (ℕ × ℕ)
  pub available : List ℕ
  -- the line of the precedence title, where a cycle is reported
  pub precedence_line : ℕ

-- the same, as the program keeps it
abbrev pub document_of : declared.Document → Document
document_of d = record { requests = requests_of d.requests; arcs = arcs_of_rows 1 (rows_in d.rows.items); available = d.available.items; precedence_line = d.precedence_line }

-- the document of a text, or the first check that fails
unfoldable pub document : List ℕ → Result Document Fault
document text = do
  text_good ← plain text
  size ← sizes (last_line text) (head_of text)
  first ← found_section (last_line text) (section precedence_title (kept_lines text))
  arcs ← precedence size.jobs first
  second ← found_section (last_line text) (section requests_title (kept_lines text))
  jobs ← requests size.jobs size.resources second
  third ← found_section (last_line text) (section availabilities_title (kept_lines text))
  available ← availabilities size.resources third
  Ok (record { requests = jobs; arcs = arcs; available = available; precedence_line = first.last })
