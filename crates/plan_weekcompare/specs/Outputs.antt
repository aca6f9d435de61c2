-- The output of `plan compare --old` for two lists with dates.
use Rattle.std.specs.Prelude.{◌≡◌, ◌⊎◌, ℕ, List, Option, Some, None}
use Rattle.plan_formats.specs.TableFormats.{format_text}
use Rattle.plan_formats.specs.TableText.{text_of}
use Rattle.plan_formats.specs.declared.format.Format.{Format}
use Rattle.plan_views.specs.IdComparisons.{IdStart, id_comparison_of}
use Rattle.plan_weekcompare.specs.Schedules.{IsSchedule, TellsNoSchedule}
use Rattle.plan_weekcompare.specs.declared.faults.Side.TheVariants as side
use Rattle.plan_weekcompare.specs.declared.reading.ScheduledList.{ScheduledList}
use Rattle.plan_weekfile.specs.declared.order.WeekOrder.{WeekOrder}

-- the text of the comparison of two schedules by the ids of their activities
abbrev pub comparison_text : Option Format → List IdStart → List IdStart → List ℕ
comparison_text None old new = text_of (id_comparison_of old new)
comparison_text (Some format) old new = format_text format (id_comparison_of old new)

-- an output compares the schedules of an old list and of a new one
pub record ShowsComparison (order : WeekOrder) (old new : ScheduledList) (output : List ℕ)
    : Type 0 where
  pub before : List IdStart
  pub old_schedule : IsSchedule order old before
  pub after : List IdStart
  pub new_schedule : IsSchedule order new after
  pub shown : output ≡ comparison_text order.format before after

-- the old list has a schedule, and a line gives the error of the new one or of its starts
abbrev pub TellsNoNew : WeekOrder → ScheduledList → ScheduledList → List ℕ → Type 0
TellsNoNew order old new line =
    (before : List IdStart) × IsSchedule order old before
    × TellsNoSchedule side.New order new line

-- a line gives the first error: of the old list, of its starts, of the new list, of its starts
abbrev pub RefusesComparison : WeekOrder → ScheduledList → ScheduledList → List ℕ → Type 0
RefusesComparison order old new line =
    TellsNoSchedule side.Old order old line ⊎ TellsNoNew order old new line
