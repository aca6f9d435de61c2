-- The check of an office, and its output: the number of rows and their digest (docs/definitions.md,
-- "Runs").
use Rattle.std.specs.Prelude.{◌≡◌, ℕ, ◌<◌, Option, length, take, Result, Ok, Err}
use Rattle.std.specs.Io.KnownBytes.{Appends}
use Rattle.sqlite_disk.specs.declared.start.Start as start
use Rattle.sqlite_trees.specs.declared.store.Store.{Ghosts}
use Rattle.plan_rows.specs.World.{Text}
use Rattle.plan_rows.specs.Books.{Shelf}
use Rattle.plan_desk.specs.BookSteps.{Quiet}
use Rattle.plan_store.specs.SqlBooks.{Counted, sql_shelf}
use Rattle.plan_store.specs.OnDisk.{IsTakenFrom}
use Rattle.plan_summary.specs.declared.summary.Summary.{Summary}
use Rattle.plan_door.specs.declared.fault.ServeFault.{ServeFault}
use Rattle.plan_door.specs.declared.fault.ServeFault.TheVariants as fault
use Rattle.plan_summary.specs.RowTexts.{IsSummary, text_of}

module _ {B : Type 0} (shelf : Shelf B) (old new : B) where
  -- this is the summary of the rows of the book
  abbrev pub IsSummed : Summary → Type 0
  IsSummed summary =
      shelf.honest new → shelf.stands old → shelf.stands new × IsSummary (shelf.world old) summary

  -- The summary of the rows was written completely, or in part if the output failed. If memory ran
  -- out or the store refused, nothing was written.
  abbrev pub Writes : Option Text → Option Text → Result (Unit {0}) ServeFault → Type 0
  Writes taken after (Ok _) =
      (summary : Summary) × IsSummed summary × Appends taken after (text_of summary)
  Writes taken after (Err fault.Output) =
      (summary : Summary) × (n : ℕ) × IsSummed summary × (n < length (text_of summary))
      × Appends taken after (take n (text_of summary))
  Writes taken after (Err fault.Memory) = after ≡ taken
  Writes taken after (Err fault.Store) = after ≡ taken
  Writes taken after (Err e) = ⊥

-- the rows of a book were summarized, and the summary was written completely
abbrev pub ChecksFrom : {B : Type 0} → Shelf B → B → Option Text → Option Text → Type 0
ChecksFrom {B} shelf book taken after =
    (next : B) × Quiet shelf book next × Writes shelf book next taken after (Ok tt)

-- the tables in files were opened, their rows summarized, and the summary was written completely
abbrev pub ChecksOnFiles : {F S : Type 0} → start.Ghosts F → Ghosts S → Option Text → Option Text
    → Type 0
ChecksOnFiles {F} {S} first g taken after =
    (book : Counted S) × IsTakenFrom first book.conn g × ChecksFrom (sql_shelf g) book taken after

-- a summary was written completely, or in part
abbrev pub IsPrinted : Option Text → Option Text → Type 0
IsPrinted taken after = (summary : Summary) × Appends taken after (text_of summary)

abbrev pub IsPrintedInPart : Option Text → Option Text → Type 0
IsPrintedInPart taken after =
    (summary : Summary) × (n : ℕ) × (n < length (text_of summary))
    × Appends taken after (take n (text_of summary))
