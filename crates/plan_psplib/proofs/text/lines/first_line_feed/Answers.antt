use Rattle.plan_psplib.specs.Lines.{is_line_feed}
use Rattle.plan_psplib.proofs.FirstByteLemmas.{first_byte}
use Rattle.plan_psplib.proofs.text.lines.first_line_feed.Goals as goal

pub returns : goal.returns
returns c = first_byte is_line_feed c.args.text.now c.memchr.result c.memchr.ensures
