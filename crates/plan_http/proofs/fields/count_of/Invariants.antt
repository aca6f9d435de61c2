use Rattle.std.proofs.Common.{◌≡◌, ◌≤◌, ◌+◌, length, map, drop}
use Rattle.httparse.specs.Spans.{header_bytes}
use Rattle.plan_http.specs.Fields.{values_of}
use Rattle.plan_http.proofs.fields.count_of.Given as goal

-- the counted fields and those that are left are all fields of the name
abbrev pub invariant-loop-header : goal.invariant-loop-header
invariant-loop-header l = record {
  within : l.count ≤ l.header-index;
  all : l.count + length (values_of l.name (map (header_bytes l.front) (drop l.header-index l.headers))) ≡ length (values_of l.name (map (header_bytes l.front) l.headers));
}
