use Rattle.std.proofs.Common.{◌≡◌, ◌++◌, flat_map, take}
use Rattle.std.specs.String.{string_bytes}
use Rattle.plan_documents.specs.Details.{next_words}
use Rattle.plan_documents.proofs.sentences.push_rest.Given as goal

-- the parts so far follow the text
abbrev pub invariant-loop-part : goal.invariant-loop-part
invariant-loop-part l =
    string_bytes l.text
    ≡ string_bytes l.initial.text ++ flat_map (next_words l.subject l.file) (take l.part-index l.parts)
