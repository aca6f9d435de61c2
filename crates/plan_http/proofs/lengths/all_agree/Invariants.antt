use Rattle.std.proofs.Common.{◌≡◌, map, drop}
use Rattle.std.specs.List.{list_all}
use Rattle.std.specs.Str.Parse.{digits_value}
use Rattle.httparse.specs.Spans.{header_bytes}
use Rattle.plan_http.specs.Fields.{values_of}
use Rattle.plan_http.specs.Lengths.{spells}
use Rattle.plan_http.proofs.lengths.all_agree.Given as goal

-- the values so far agree
abbrev pub invariant-loop-header : goal.invariant-loop-header
invariant-loop-header l =
    list_all (spells (digits_value 10 l.number)) (values_of l.name (map (header_bytes l.front) l.headers)) ≡
    list_all (spells (digits_value 10 l.number))
    (values_of l.name (map (header_bytes l.front) (drop l.header-index l.headers)))
