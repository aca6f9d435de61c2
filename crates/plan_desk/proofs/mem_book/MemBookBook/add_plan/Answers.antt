use Rattle.plan_desk.specs.Whole.{whole_of}
use Rattle.plan_rows.specs.Tables.{world_kept}
use Rattle.plan_desk.proofs.mem_book.MemBookBook.add_plan.Goals as goal

pub add_plan-answer-requires : goal.add_plan-answer-requires
add_plan-answer-requires c = whole_of (world_kept c.args.self.now.tables) c.args.self.now.whole
