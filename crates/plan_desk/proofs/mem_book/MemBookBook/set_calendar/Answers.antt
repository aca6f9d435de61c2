use Rattle.plan_desk.specs.Whole.{whole_of}
use Rattle.plan_rows.specs.Tables.{world_kept}
use Rattle.plan_desk.proofs.mem_book.MemBookBook.set_calendar.Goals as goal

pub set_calendar-answer-requires : goal.set_calendar-answer-requires
set_calendar-answer-requires c = whole_of (world_kept c.args.self.now.tables) c.args.self.now.whole
