use Rattle.std.proofs.Common.{sym, ◌∙◌}
use Rattle.plan_desk.proofs.KeptLemmas.{first_reading, none_first}
use Rattle.plan_desk.proofs.files.Files.latest.Goals as goal

pub returns-in-Some-clause-some : goal.returns-in-Some-clause-some
returns-in-Some-clause-some c =
    rw (← c.self.view_is) (first_reading c.self.inside.kept.entries (c.in-Some.field-0-0.now, c.in-Some.document.now) c.self.invariant.read c.in-Some.ensures)

pub returns-in-None-clause-none : goal.returns-in-None-clause-none
returns-in-None-clause-none c = sym c.self.view_is ∙ none_first c.self.inside.kept.entries c.in-None.ensures
