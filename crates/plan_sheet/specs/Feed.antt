-- The calendar file of a plan (docs/definitions.md, "Sheets"; RFC 5545): an event of whole days for
-- each bar that takes time.
use Rattle.std.specs.Prelude.{◌≡◌, ℕ, ◌-◌, ◌⊎◌, ◌&&◌, Bool, false, if◌then◌else◌, nat_lt, List, [], ◌++◌, map, codes, Option, Some, None, is_some}
use Rattle.std.specs.Option.{option_map}
use Rattle.std.specs.List.{AllZip, flat_map}
use Rattle.std.specs.Fmt.{decimal}
use Rattle.jiff_core.specs.declared.civil.date.Date.{Date}
use Rattle.plan_calendar.specs.WorkingDay.{Workdays}
use Rattle.plan_calendar.specs.Hours.{WorkHours}
use Rattle.plan_table.specs.Names.{Name}
use Rattle.plan_sheet.specs.Bars.{greatest_end}
use Rattle.plan_sheet.specs.Days.{AreDays, HasDayBeyond, HasLastDay, IsDayAfter, compact_day}
use Rattle.plan_sheet.specs.Moments.{begin_stamp, day_count, end_stamp}
use Rattle.plan_sheet.specs.Names.{is_shown}
use Rattle.plan_sheet.specs.Parts.{EventNames, event_name, event_names_of, is_wanted, name_or_number, parts_of}
use Rattle.plan_sheet.specs.Ics.{Event, event_text, calendar_head, calendar_end, text_value}
use Rattle.plan_sheet.specs.declared.bars.Bar.{Bar}
use Rattle.plan_sheet.specs.declared.parts.Part.{Part}
use Rattle.plan_sheet.specs.declared.calendar_file.Events as declared_events
use Rattle.plan_sheet.specs.declared.calendar_file.Work as declared_work

-- the events that are wanted: the word of their identifiers, the number of their revision, the name
-- of the one resource, machine or order, whether their names have the
-- resources, and the hours of a working day if a time unit is an hour
pub record Events : Type 0 where
  pub uid : Option (List ℕ)
  pub sequence : ℕ
  pub only : Option (List ℕ)
  pub resources : Bool
  pub hours : Option WorkHours

-- the same, as the program keeps it
abbrev pub events_of : declared_events.Events → Events
events_of e =
    record {
      uid = option_map (λ word. word.now) e.uid;
      sequence = e.sequence;
      only = option_map (λ name. name.now) e.only;
      resources = e.resources;
      hours = e.hours;
    }

-- all events, by their numbers, without resources, on whole days
abbrev pub plain_events : Events
plain_events = record { uid = None; sequence = 0; only = None; resources = false; hours = None }

-- what the events of a plan are about: the digest of its file, its names, and the amounts of the
-- resources that its activities need
pub record Work : Type 0 where
  pub digest : List ℕ
  pub names : EventNames
  pub needs : List (List ℕ)

-- the same, as the program keeps it
abbrev pub work_of : declared_work.Work → Work
work_of w =
    record { digest = w.digest.now; names = event_names_of w.names; needs = map (λ row. row.now) w.needs.now }

-- what the events of a plan share: what they are about, which are wanted, the days of the plan's
-- instants, and the day after each of them
pub record Feed : Type 0 where
  pub work : Work
  pub events : Events
  pub days : List Date
  pub nexts : List Date

-- the same of its parts
abbrev pub feed_with : Work → Events → List Date → List Date → Feed
feed_with work events days nexts =
    record { work = work; events = events; days = days; nexts = nexts }

-- the mark of a step in an identifier; nothing for an activity
abbrev pub step_mark : ℕ → List ℕ
step_mark step = if nat_lt step 1 then [] else codes "-" ++ decimal step

-- the identifier of an event: the digest, the number, and the step
unfoldable pub uid_of : List ℕ → Bar → List ℕ
uid_of digest bar = digest ++ codes "-" ++ decimal bar.number ++ step_mark bar.step ++ codes "@plan"

-- the identifier of an event by a word: the word, the id of the activity or order, or else its
-- number, and the step. It doesn't depend on other activities, or on the order of the rows
unfoldable pub named_uid : List ℕ → List Name → Bar → List ℕ
named_uid word ids bar =
    text_value (word ++ codes "-" ++ name_or_number ids [] bar.number ++ step_mark bar.step ++ codes "@plan")

-- the identifier of an event: by a word, or else by the digest
abbrev pub event_uid : Option (List ℕ) → Work → Bar → List ℕ
event_uid None work bar = uid_of work.digest bar
event_uid (Some word) work bar = named_uid word work.names.ids bar

-- the instant of the file: the first day of the plan at midnight in UTC, so that the same plan gives
-- the same file
unfoldable pub stamp_of : List Date → List ℕ
stamp_of days = compact_day days 0 ++ codes "T000000Z"

-- the event of a bar that takes time
abbrev pub bar_event : Feed → Bar → Event
bar_event feed bar =
    record {
      timed = is_some feed.events.hours;
      uid = event_uid feed.events.uid feed.work bar;
      sequence = feed.events.sequence;
      name = event_name feed.events.resources feed.work.names bar (parts_of feed.work.needs bar);
      begin = begin_stamp feed.events.hours feed.days bar.from;
      end = end_stamp feed.events.hours feed.days feed.nexts (bar.to - 1);
    }

-- the event of a bar with these parts is wanted; if there are ids, the number of the bar has one
abbrev pub is_event : Option (List ℕ) → EventNames → Bar → List Part → Bool
is_event only names bar parts =
    is_shown names.ids bar.number && is_wanted only names bar parts

-- the event of a bar that takes time is wanted
abbrev pub wants : Feed → Bar → Bool
wants feed bar = is_event feed.events.only feed.work.names bar (parts_of feed.work.needs bar)

-- the text of the event of a bar that takes time; nothing if it isn't wanted
abbrev pub wanted_text : Feed → Bar → List ℕ
wanted_text feed bar = if wants feed bar then event_text (stamp_of feed.days) (bar_event feed bar) else []

-- the text of the event of a bar; nothing for a bar that takes no time
abbrev pub bar_text : Feed → Bar → List ℕ
bar_text feed bar = if nat_lt bar.from bar.to then wanted_text feed bar else []

-- a calendar file
abbrev pub ics_text : Feed → List Bar → List ℕ
ics_text feed bars = calendar_head ++ flat_map (bar_text feed) bars ++ calendar_end

-- a text is the calendar file of these bars; the days are those that their time units need
pub record AreEvents (work : Work) (events : Events) (bars : List Bar) (calendar : Workdays) (text : List ℕ) : Type 0 where
  pub days : List Date
  pub are : AreDays calendar (day_count events.hours (greatest_end bars)) days
  pub nexts : List Date
  pub follow : AllZip IsDayAfter days nexts
  pub shown : text ≡ ics_text (record { work = work; events = events; days = days; nexts = nexts }) bars

-- a day of the plan, or the day after one, would be after the last date
abbrev pub HasEventBeyond : Workdays → ℕ → Type 0
HasEventBeyond calendar count = HasDayBeyond calendar count ⊎ ((days : List Date) × AreDays calendar count days × HasLastDay days)
