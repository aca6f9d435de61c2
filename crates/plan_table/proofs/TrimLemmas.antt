-- Texts without blanks at their ends.
use Rattle.std.proofs.Common.{◌≡◌, ℕ, Bool, true, false, List, [], ◌∷◌, refl, sym, ap, ◌∙◌, cond}
use Rattle.plan_psplib.specs.Lines.{is_blank, trim, trim_start, trim_end, before_trimmed}

-- ---- a trimmed text is trimmed

before_twice : (b : ℕ) (o : List ℕ) → trim_end o ≡ o → trim_end (before_trimmed b o) ≡ before_trimmed b o
before_twice b [] same = by_test (is_blank b) refl
  where
    by_test : (t : Bool) → is_blank b ≡ t → trim_end (cond t [] (b ∷ [])) ≡ cond t [] (b ∷ [])
    by_test true e = refl
    by_test false e = ap (λ t. cond t [] (b ∷ [])) e
before_twice b (c ∷ cs) same = ap (before_trimmed b) same

end_twice : (text : List ℕ) → trim_end (trim_end text) ≡ trim_end text
end_twice [] = refl
end_twice (b ∷ bs) = before_twice b (trim_end bs) (end_twice bs)

-- a text whose first byte is no blank
start_before : (b : ℕ) (o : List ℕ) → is_blank b ≡ false → trim_start (before_trimmed b o) ≡ before_trimmed b o
start_before b [] inside = ap (λ t. trim_start (cond t [] (b ∷ []))) inside ∙ ap (λ t. cond t [] (b ∷ [])) inside ∙ sym (ap (λ t. cond t [] (b ∷ [])) inside)
start_before b (c ∷ cs) inside = ap (λ t. cond t (trim_start (c ∷ cs)) (b ∷ c ∷ cs)) inside

start_of_trimmed : (text : List ℕ) → trim_start (trim text) ≡ trim text
start_of_trimmed [] = refl
start_of_trimmed (b ∷ bs) = by_test (is_blank b) refl (start_of_trimmed bs)
  where
    by_test : (t : Bool) → is_blank b ≡ t → trim_start (trim bs) ≡ trim bs → trim_start (trim_end (cond t (trim_start bs) (b ∷ bs))) ≡ trim_end (cond t (trim_start bs) (b ∷ bs))
    by_test true e rest = rest
    by_test false e rest = start_before b (trim_end bs) e

pub trim_trim : (text : List ℕ) → trim (trim text) ≡ trim text
trim_trim text = ap trim_end (start_of_trimmed text) ∙ end_twice (trim_start text)
