use Rattle.std.proofs.Common.{map, ap, ◌∙◌}
use Rattle.plan_table.specs.Header.{head_of}
use Rattle.plan_spreadsheet.specs.Scaling.{kind_of}
use Rattle.plan_spreadsheet.proofs.RowLemmas.{heads_dropped, rest_of}
use Rattle.plan_spreadsheet.proofs.scaling.kind_at.Goals as goal

pub returns : goal.returns
returns c = c.kind_of.ensures
    ∙ ap kind_of (ap (map head_of) (rest_of c.args.k c.args.heads.now) ∙ heads_dropped c.args.k c.args.heads.now)
