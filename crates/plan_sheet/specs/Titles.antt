-- The titles of bars (docs/definitions.md, "Sheets").
use Rattle.std.specs.Prelude.{ℕ, if◌then◌else◌, nat_lt, List, [], ◌++◌, codes}
use Rattle.std.specs.Fmt.{decimal}
use Rattle.plan_table.specs.Names.{Name}
use Rattle.plan_sheet.specs.Names.{id_label}
use Rattle.plan_sheet.specs.declared.bars.Bar.{Bar}

-- the part of a title that names a step; nothing for an activity
abbrev pub step_part : ℕ → List ℕ
step_part step = if nat_lt step 1 then [] else codes ", step " ++ decimal step

-- the title of a bar: the id or the number, the name, and the step
unfoldable pub title_of : List Name → List Name → Bar → List ℕ
title_of ids names bar = id_label ids names bar.number ++ step_part bar.step
