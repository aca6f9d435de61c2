use Rattle.std.proofs.Common.{◌≡◌, ◌++◌, List, map, take, vec_items}
use Rattle.plan_http.specs.Answers.{Decision}
use Rattle.plan_http.specs.Connections.{Serving, response_of}
use Rattle.plan_http.proofs.runs.serve_each.Given as goal

-- the connections so far were served, and their responses added
abbrev pub invariant-loop-conn : goal.invariant-loop-conn
invariant-loop-conn g l = (decisions : List Decision) × Serving g.B.Book.shelf l.fn.office (take l.conn-index (map vec_items l.conns)) decisions l.office
    × (map vec_items l.out.items ≡ map vec_items l.fn.out.items ++ map response_of decisions)
