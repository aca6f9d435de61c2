-- The output of `plan explain` as JSON or CSV (docs/definitions.md, "Runs").
use Rattle.std.specs.Prelude.{◌≡◌, ℕ, List, [], ◌∷◌, Option, Some, None, codes}
use Rattle.plan_formats.specs.Cells.{Cell, text}
use Rattle.plan_formats.specs.Columns.{Column}
use Rattle.plan_formats.specs.TableFormats.{format_text}
use Rattle.plan_formats.specs.Tables.{Table}
use Rattle.plan_formats.specs.declared.format.Format.{Format}
use Rattle.plan_views.specs.DayTables.{plain_view_of}
use Rattle.plan_views.specs.Headings.{line_column}
use Rattle.plan_errors.specs.Codes.{form_of, meaning_of, remedy_of}
use Rattle.plan_errors.specs.ExplainRun.{NamesCodes, tokens_of}
use Rattle.plan_errors.specs.declared.codes.Code.{Code}

-- the columns: the form of an error line, what it means and what to do
abbrev pub explained_columns : List Column
explained_columns = line_column (codes "code") ∷ line_column (codes "meaning")
    ∷ line_column (codes "remedy") ∷ []

-- the row of a code
abbrev pub explained_row : Code → List Cell
explained_row code = text (form_of code) ∷ text (meaning_of code) ∷ text (remedy_of code) ∷ []

-- the rows of a code and of the error that its line carries, if it carries any
abbrev pub explained_rows : Code → Option Code → List (List Cell)
explained_rows code None = explained_row code ∷ []
explained_rows code (Some carried) = explained_row code ∷ explained_row carried ∷ []

-- the table that explains a code and the error that its line carries
abbrev pub explanation_view_of : Code → Option Code → Table
explanation_view_of code carried = plain_view_of explained_columns (explained_rows code carried)

-- a text is the explanation of an error line in a format
abbrev pub ExplainsIn : Format → List ℕ → List ℕ → Type 0
ExplainsIn format line shown = (code : Code) × (carried : Option Code)
    × NamesCodes (tokens_of line) code carried
    × (shown ≡ format_text format (explanation_view_of code carried))
