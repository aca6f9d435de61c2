use Rattle.std.proofs.Common.{◌≡◌, map, drop}
use Rattle.httparse.specs.Spans.{header_bytes}
use Rattle.plan_http.specs.Fields.{values_of}
use Rattle.plan_http.proofs.fields.first_value.Given as goal

-- the fields so far have another name
abbrev pub invariant-loop-header : goal.invariant-loop-header
invariant-loop-header l = values_of l.name (map (header_bytes l.front) l.headers) ≡ values_of l.name (map (header_bytes l.front) (drop l.header-index l.headers))
