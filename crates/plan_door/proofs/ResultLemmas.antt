-- Results whose error is mapped.
use Rattle.std.proofs.Common.{◌≡◌, Result, Ok, Err, refl, sym, subst}
use Rattle.std.specs.Prelude.{MatchResult, IsErrAnd}

-- the two outcomes of a result whose error is mapped
pub mapped : {X E D : Type 0} (r : Result X E) (q : Result X D) (Post : E → D → Type 0) (P : Result X D → Type 0)
    → MatchResult r (λ x. q ≡ Ok x) (λ e. IsErrAnd q (Post e))
    → ((x : X) → r ≡ Ok x → P (Ok x)) → ((e : E) (d : D) → r ≡ Err e → Post e d → P (Err d)) → P q
mapped (Ok x) q Post P same ok err = subst P (sym same) (ok x refl)
mapped (Err e) (Err d) Post P post ok err = err e d refl post
mapped (Err e) (Ok x) Post P post ok err = absurd post
