-- Texts that are written in parts.
use Rattle.std.proofs.Common.{◌≡◌, ◌+◌, ◌≤◌, ℕ, List, Option, ◌++◌, length, take, drop, sym, subst, ap, ◌∙◌}
use Rattle.std.proofs.Math.Seq.{take-add}
use Rattle.std.proofs.lemmas.List.{take-append-drop, take-append-le}
use Rattle.std.proofs.KnownBytes.{Appends-trans}
use Rattle.std.specs.Io.KnownBytes.{Appends}

-- a front of a front
front_of : (n : ℕ) (rest all : List ℕ) → rest ≡ take (length rest) all → n ≤ length rest → take n rest ≡ take n all
front_of n rest all is fits =
    let whole : rest ++ drop (length rest) all ≡ all = ap (λ xs. xs ++ drop (length rest) all) is ∙ take-append-drop (length rest) all in
    sym (take-append-le n rest (drop (length rest) all) fits) ∙ ap (take n) whole

-- after the first bytes of a text, a front of the rest is taken
pub sent_next : (before between after : Option (List ℕ)) (text rest : List ℕ) (sent n : ℕ) → rest ≡ take (length rest) (drop sent text) → n ≤ length rest
    → Appends before between (take sent text) → Appends between after (take n rest) → Appends before after (take (sent + n) text)
sent_next before between after text rest sent n is fits front next =
    subst (λ taken. Appends before after taken) (sym (take-add sent n text))
    (Appends-trans before between after (take sent text) (take n (drop sent text)) front (subst (λ taken. Appends between after taken) (front_of n rest (drop sent text) is fits) next))
