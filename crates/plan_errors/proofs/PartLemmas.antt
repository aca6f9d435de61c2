-- The parts of lines.
use Rattle.std.proofs.Common.{◌≡◌, List, [], ◌∷◌, ◌++◌, refl, sym, ap, ◌∙◌, append_assoc}
use Rattle.std.specs.List.{flat_map}
use Rattle.std.proofs.lemmas.List.{append-nil}
use Rattle.plan_errors.specs.Parts.{part_text, parts_text}
use Rattle.plan_errors.specs.declared.parts.Part.{Part}

-- the text of parts is the texts of the parts, one behind the other
pub parts_flat : (parts : List Part) → flat_map part_text parts ≡ parts_text parts
parts_flat [] = refl
parts_flat (last ∷ []) = append-nil (part_text last)
parts_flat (part ∷ next ∷ rest) = ap (λ text. part_text part ++ text) (parts_flat (next ∷ rest))

-- one more part follows the text
pub parts_push : (parts : List Part) (last : Part) → parts_text (parts ++ last ∷ []) ≡ parts_text parts ++ part_text last
parts_push [] last = refl
parts_push (part ∷ []) last = refl
parts_push (part ∷ next ∷ rest) last =
    ap (λ text. part_text part ++ text) (parts_push (next ∷ rest) last)
    ∙ sym (append_assoc (part_text part) (parts_text (next ∷ rest)) (part_text last))
