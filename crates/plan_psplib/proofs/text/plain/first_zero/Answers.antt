use Rattle.plan_psplib.specs.Plain.{is_zero}
use Rattle.plan_psplib.proofs.FirstByteLemmas.{first_byte}
use Rattle.plan_psplib.proofs.text.plain.first_zero.Goals as goal

pub returns : goal.returns
returns c = first_byte is_zero c.args.text.now c.memchr.result c.memchr.ensures
