use Rattle.plan_orlib.proofs.CauseLemmas.{errors_show, read_texts_are_right}
use Rattle.plan_orlib.proofs.laws.errors_show.Goals as goal

pub returns : goal.returns
returns c = record { shows = errors_show; read = read_texts_are_right }
