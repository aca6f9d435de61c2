use Rattle.std.proofs.Common.{◌≡◌, map, drop}
use Rattle.plan_rows.specs.Plans.{lagged_by}
use Rattle.plan_rows.specs.Books.{lag_in}
use Rattle.plan_desk.proofs.plan_files.set_lags.Given as goal

-- setting the lags that are left gives the same project as setting all lags on the first one, and
-- the arcs don't change
abbrev pub invariant-loop-row : goal.invariant-loop-row
invariant-loop-row l = record {
  rest : lagged_by (map lag_in (drop l.row-index l.lags)) l.project ≡ lagged_by (map lag_in l.lags) l.fn.project;
  arcs : l.project.network.arcs ≡ l.fn.project.network.arcs;
}
