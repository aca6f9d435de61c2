-- The reports of an office (docs/definitions.md, "Runs").
use Rattle.std.specs.Prelude.{Option, Result, length, map, vec_items, IsErrOf}
use Rattle.sqlite_disk.specs.declared.start.Start as start
use Rattle.sqlite_trees.specs.declared.store.Store.{Ghosts}
use Rattle.plan_rows.specs.World.{Text}
use Rattle.plan_rows.specs.Books.{Shelf}
use Rattle.plan_door.specs.declared.fault.ServeFault.{ServeFault}
use Rattle.plan_door.specs.declared.fault.ServeFault.TheVariants as fault
use Rattle.plan_desk.specs.BookSteps.{Quiet}
use Rattle.plan_door.specs.ReplayRun.{Replays, ReplaysFrom, AreAnswered, AreAnsweredInPart}
use Rattle.plan_serve.specs.declared.commands.Report.{Report}
use Rattle.plan_serve.specs.declared.commands.Report.TheVariants as report
use Rattle.plan_serve.specs.Causes.{IsFileFault}
use Rattle.plan_serve.specs.CheckRun.{Writes, ChecksFrom, ChecksOnFiles, IsPrinted, IsPrintedInPart}
use Rattle.plan_serve.specs.ReplayFiles.{ReplaysOnFiles}

-- the report of an office over this book was written completely
abbrev pub ReportsFrom : {B : Type 0} → Shelf B → B → Report → Option Text → Option Text → Type 0
ReportsFrom shelf book report.Rows taken after = ChecksFrom shelf book taken after
ReportsFrom shelf book (report.Responses conns) taken after =
    ReplaysFrom shelf book (map vec_items conns.now) taken after

-- the report of an office over the old book was written or not, and the office has the new book
-- after it
abbrev pub ReportsTo : {B : Type 0} → Shelf B → B → B → Report → Option Text → Option Text
    → Result (Unit {0}) ServeFault → Type 0
ReportsTo shelf old new report.Rows taken after result =
    Quiet shelf old new × Writes shelf old new taken after result
ReportsTo shelf old new (report.Responses conns) taken after result =
    Replays shelf old new (map vec_items conns.now) taken after result

-- the report of an office over tables in files was written completely
abbrev pub ReportsOnFiles : {F S : Type 0} → start.Ghosts F → Ghosts S → Report
    → Option Text → Option Text → Type 0
ReportsOnFiles first g report.Rows taken after = ChecksOnFiles first g taken after
ReportsOnFiles first g (report.Responses conns) taken after =
    ReplaysOnFiles first g (length conns.now) taken after

-- the report of some office was written completely
abbrev pub IsReported : Report → Option Text → Option Text → Type 0
IsReported report.Rows taken after = IsPrinted taken after
IsReported (report.Responses conns) taken after = AreAnswered (length conns.now) taken after

-- a part of the report was written
abbrev pub IsReportedInPart : Report → Option Text → Option Text → Type 0
IsReportedInPart report.Rows taken after = IsPrintedInPart taken after
IsReportedInPart (report.Responses conns) taken after =
    AreAnsweredInPart (length conns.now) taken after

-- the faults of a report of an open office
abbrev pub IsWriteFault : ServeFault → Type 0
IsWriteFault fault.Memory = Unit {0}
IsWriteFault fault.Store = Unit {0}
IsWriteFault fault.Output = Unit {0}
IsWriteFault e = ⊥

-- the faults of a report of an office in files
abbrev pub IsReportFault : ServeFault → Type 0
IsReportFault fault.NotOurs = Unit {0}
IsReportFault fault.Version = Unit {0}
IsReportFault fault.Output = Unit {0}
IsReportFault e = IsFileFault e

-- the faults of a replay of connections in files
abbrev pub IsReplayFault : ServeFault → Type 0
IsReplayFault fault.Input = Unit {0}
IsReplayFault e = IsReportFault e

-- the results without a returned book: memory ran out before the first response
abbrev pub KeepsNone : Report → Result (Unit {0}) ServeFault → Type 0
KeepsNone report.Rows done = ⊥
KeepsNone (report.Responses conns) done = IsErrOf done fault.Memory
