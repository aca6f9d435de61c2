use Rattle.plan_desk.specs.Whole.{whole_of}
use Rattle.plan_rows.specs.Tables.{world_kept}
use Rattle.plan_desk.proofs.mem_book.MemBookBook.bind.Goals as goal

pub bind-answer-requires : goal.bind-answer-requires
bind-answer-requires c = whole_of (world_kept c.args.self.now.tables) c.args.self.now.whole
