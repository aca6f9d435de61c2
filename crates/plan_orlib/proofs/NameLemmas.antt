-- The errors of a text, and the names of a text without errors.
use Rattle.std.specs.Prelude.{MatchResult, IsErrAnd}
use Rattle.std.proofs.Common.{◌≡◌, ℕ, List, Result, Ok, Err, refl, sym, subst, ◌∙◌, ◌⊎◌, inl, inr}
use Rattle.plan_psplib.specs.declared.text.fault.Fault.{Fault}
use Rattle.plan_psplib.specs.declared.text.fault.FileFault.{FileFault}
use Rattle.plan_psplib.specs.declared.text.fault.ReadError.{ReadError}
use Rattle.plan_psplib.specs.declared.text.fault.ReadError.TheVariants as errors
use Rattle.plan_psplib.specs.Faults.{IsWantOfMemory, TellsError}
use Rattle.plan_psplib.specs.Tokens.{◌>>=◌, Fails}
use Rattle.plan_psplib.specs.Plain.{plain}
use Rattle.plan_psplib.proofs.GoesLemmas.{then_ok, same_ok}
use Rattle.plan_orlib.specs.Instances.{names_of}
use Rattle.plan_orlib.specs.ShopText.{FailsWith, names}

-- the error of a file is that of its reading
pub told : {A : Type 0} (read : Result A Fault) (e : ReadError) (fault : FileFault) → Fails e read → TellsError e fault → IsWantOfMemory fault ⊎ FailsWith read fault
told read errors.Memory fault fails tells = inl tells
told read (errors.Fault f) fault fails tells = inr (fails ∙ rw (tells.0, tells.1) refl, tells.2)

-- the two outcomes of a result whose error is mapped
pub mapped : {X E D : Type 0} (read : Result X E) (told : Result X D) (Post : E → D → Type 0) (P : Result X D → Type 0) →
    MatchResult read (λ x. told ≡ Ok x) (λ e. IsErrAnd told (Post e)) →
    ((x : X) → read ≡ Ok x → P (Ok x)) → ((e : E) (d : D) → read ≡ Err e → Post e d → P (Err d)) → P told
mapped (Ok x) told Post P same ok err = subst P (sym same) (ok x refl)
mapped (Err e) (Err d) Post P post ok err = err e d refl post
mapped (Err e) (Ok x) Post P post ok err = absurd post

-- the names that are read are all names of a text that can be read
pub names_read : (text : List ℕ) (given : List (List ℕ)) → names text ≡ Ok given → (plain text ≡ Ok tt) × (given ≡ names_of text)
unfolding names
names_read text given e = then_ok (plain text) _ given e (λ u good e. (good, sym (same_ok (names_of text) given e)))

-- the error of reading names is that of the text
pub names_fail : (text : List ℕ) (e : ReadError) → Fails e (names text) → Fails e (plain text)
unfolding names
names_fail text errors.Memory fails = tt
names_fail text (errors.Fault f) fails = by_text (plain text) fails
  where
    by_text : (read : Result (Unit {0}) Fault) → (read >>= λ _. Ok (names_of text)) ≡ Err f → read ≡ Err f
    by_text (Ok u) e = absurd (cc)
    by_text (Err g) e = cc

-- if a text can be read, only out of memory prevents its names from being returned
pub names_only : (text : List ℕ) (e : ReadError) (fault : FileFault) → plain text ≡ Ok tt → Fails e (names text) → TellsError e fault → IsWantOfMemory fault
names_only text errors.Memory fault good fails tells = tells
names_only text (errors.Fault f) fault good fails tells = let no : Err f ≡ Ok tt = sym (names_fail text (errors.Fault f) fails) ∙ good in absurd (cc)

pub told_plain : (text : List ℕ) (e : ReadError) (fault : FileFault) → Fails e (names text) → TellsError e fault → IsWantOfMemory fault ⊎ FailsWith (plain text) fault
told_plain text e fault fails = told (plain text) e fault (names_fail text e fails)
