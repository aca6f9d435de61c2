-- Bytes that are written in parts.
use Rattle.std.proofs.Common.{rules, ◌≡◌, ◌+◌, ◌-◌, ℕ, List, Option, Result, Ok, Err, length, take, drop, sym, subst}
use Rattle.std.specs.Prelude.{MatchResult, IsErrAnd}
use Rattle.std.proofs.Math.Seq.{take-add}
use Rattle.std.proofs.lemmas.List.{take_rest}
use Rattle.std.proofs.KnownBytes.{Appends-trans}
use Rattle.std.specs.Io.KnownBytes.{Appends}

-- a sink that takes the first `sent` bytes and then the next n takes the first `sent + n` in order
pub appends_next : (before between after : Option (List ℕ)) (bytes : List ℕ) (sent n : ℕ) →
    Appends before between (take sent bytes) → Appends between after
    (take n (take (length bytes - sent) (drop sent bytes))) → Appends before after (take (sent + n) bytes)
appends_next before between after bytes sent n front next =
    let First : List ℕ → Type 0 = λ taken. Appends before after taken in
    let Next : List ℕ → Type 0 = λ rest. Appends between after (take n rest) in
    subst First (sym (take-add sent n bytes)) (Appends-trans before between after (take sent bytes) (take n (drop sent bytes)) front (subst Next (take_rest bytes sent) next))

-- a result that is fine after its error is mapped was fine before
pub mapped_ok : {X E D : Type 0} (r : Result X E) (q : Result X D) (x : X) (Post : E → D → Type 0) →
    MatchResult r (λ y. q ≡ Ok y) (λ e. IsErrAnd q (Post e)) → q ≡ Ok x → r ≡ Ok x
mapped_ok (Ok y) q x Post same is = search rules
mapped_ok (Err e) (Err d) x Post post is = search rules
mapped_ok (Err e) (Ok d) x Post post is = absurd post
