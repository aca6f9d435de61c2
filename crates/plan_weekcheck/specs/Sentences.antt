-- Verdicts on starts of a week, as sentences with the ids and the names of its list.
use Rattle.std.specs.Prelude.{ℕ, ◌+◌, ◌==◌, if◌then◌else◌, List, [], ◌∷◌, ◌++◌, Option, Some, None}
use Rattle.std.specs.Prelude.{codes, length, option_map, slice_get}
use Rattle.std.specs.Fmt.{decimal}
use Rattle.plan_documents.specs.Labels.{activity_called}
use Rattle.plan_documents.specs.NamedVerdicts.{labelled_broken_text}
use Rattle.plan_table.specs.Table.{Activity, Resource}
use Rattle.plan_week.specs.declared.overload.Overload.{Overload}
use Rattle.plan_weekfile.specs.Lines as lines
use Rattle.plan_weeklist.specs.declared.listed.ListedWeek.{ListedWeek}
use Rattle.plan_weekverdict.specs.declared.verdict.Miss.{Miss}
use Rattle.plan_weekverdict.specs.declared.verdict.Miss.TheVariants as misses
use Rattle.plan_weekverdict.specs.declared.verdict.WeekVerdict.{WeekVerdict}
use Rattle.plan_weekverdict.specs.declared.verdict.WeekVerdict.TheVariants as verdicts

-- an activity by its id, and by its name if it has one
abbrev pub called : Activity → List ℕ
called a = if length a.name == 0 then a.id else a.id ++ codes " " ++ a.name

-- the activity at a place, if there is one
abbrev pub label_at : List Activity → ℕ → Option (List ℕ)
label_at activities place = option_map called (slice_get activities place)

-- the way in which an activity misses its dates
abbrev pub miss_text : Miss → List ℕ
miss_text (misses.Past day) = codes " starts before --now " ++ decimal day
miss_text (misses.Early date) = codes " starts before its earliest start " ++ decimal date
miss_text (misses.Moved instant date) =
    codes " starts at " ++ decimal instant ++ codes ", not at its appointment " ++ decimal date

abbrev pub misplaced_text : List Activity → ℕ → Miss → List ℕ
misplaced_text activities i miss =
    activity_called (i + 2) (label_at activities i) ++ miss_text miss

-- an activity starts before a predecessor ends, or before the lag after its end is over
abbrev pub broken_text : List Activity → ℕ → ℕ → List ℕ
broken_text activities i j =
    labelled_broken_text (i + 2) (label_at activities i) (j + 2) (label_at activities j)

-- the name of the resource at a place, or an empty name if there is none
abbrev pub name_at : List Resource → ℕ → List ℕ
name_at resources k = lines.name_at resources k

-- needs and absences of a resource at an instant together are above its capacity
abbrev pub over_text : List Resource → Overload → List ℕ
over_text resources o =
    codes "at time " ++ decimal o.instant ++ codes " more of " ++ name_at resources o.resource
    ++ codes " is needed than there is"

-- a verdict on starts of the week of a list
abbrev pub sentence_of : ListedWeek → WeekVerdict → List ℕ
sentence_of listed (verdicts.Misplaced i miss) = misplaced_text listed.table.activities i miss
sentence_of listed (verdicts.Broken i j) = broken_text listed.table.activities i j
sentence_of listed (verdicts.Over o) = over_text listed.table.resources o
sentence_of listed verdicts.Feasible = codes "feasible"
