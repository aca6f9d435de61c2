use Rattle.std.proofs.Common.{◌≡◌, ◌++◌, map, take}
use Rattle.std.specs.List.{flat_map}
use Rattle.std.specs.Prelude.{string_bytes}
use Rattle.plan_documents.specs.Notes.{next_header}
use Rattle.plan_documents.proofs.notes.push_headers.Given as goal

-- the text, and behind it the headers so far
abbrev pub invariant-loop-header : goal.invariant-loop-header
invariant-loop-header l =
    string_bytes l.text ≡ string_bytes l.fn.text ++ flat_map next_header (map string_bytes (take l.header-index l.headers))
