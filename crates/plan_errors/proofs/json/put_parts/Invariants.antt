use Rattle.std.proofs.Common.{◌≡◌, drop, fold}
use Rattle.serde_json.specs.View.{members_view}
use Rattle.plan_errors.specs.ErrorData.{with_part}
use Rattle.plan_errors.proofs.json.put_parts.Given as goal

-- the members so far and those of the parts that are left are all members
abbrev pub invariant-loop-part : goal.invariant-loop-part
invariant-loop-part l =
    fold with_part (members_view l.object.entries) (drop l.part-index l.parts)
    ≡ fold with_part (members_view l.initial.object.entries) l.parts
