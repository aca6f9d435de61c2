use Rattle.std.proofs.Common.{◌≡◌, length}
use Rattle.plan_serve.proofs.files.read_all.Given as goal

-- each file so far gave a connection
abbrev pub invariant-loop-path : goal.invariant-loop-path
invariant-loop-path l = length l.conns.items ≡ l.path-index
