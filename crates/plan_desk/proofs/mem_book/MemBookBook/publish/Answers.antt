use Rattle.plan_desk.specs.Whole.{whole_of}
use Rattle.plan_rows.specs.Tables.{world_kept}
use Rattle.plan_desk.proofs.mem_book.MemBookBook.publish.Goals as goal

pub publish-answer-requires : goal.publish-answer-requires
publish-answer-requires c = whole_of (world_kept c.args.self.now.tables) c.args.self.now.whole
