-- Loops that read one part after another.
use Rattle.std.proofs.Common.{◌≡◌, ℕ, suc, ◌-◌, ◌+◌, ◌≤◌, ◌<◌, Result, Ok, sym, ap, ◌∙◌, arith}
use Rattle.plan_psplib.specs.declared.text.fault.Fault.{Fault}
use Rattle.plan_psplib.specs.declared.text.fault.ReadError.{ReadError}
use Rattle.plan_psplib.specs.declared.text.fault.ReadError.TheVariants as errors
use Rattle.plan_psplib.specs.Tokens.{◌>>=◌, Fails}

-- an error of the first part is the error of the total
pub fails_first : {A B : Type 0} (e : ReadError) (first : Result A Fault) (next : A → Result B Fault) (total : Result B Fault) → Fails e first → (first >>= next) ≡ total → Fails e total
fails_first errors.Memory first next total fails is = tt
fails_first (errors.Fault f) first next total fails is = sym is ∙ ap (λ r. r >>= next) fails

-- read k s reads k parts from the state s: one by step, which returns the state next, and then the
-- others
module _ {S V R : Type 0} (read : ℕ → S → Result R Fault) (step : S → Result V Fault) (next : S → V → S) (more : (k : ℕ) (s : S) → read (suc k) s ≡ (step s >>= λ v. read k (next s v))) where
  one_more : (count i : ℕ) (s : S) → i < count → read (count - i) s ≡ (step s >>= λ v. read (count - (i + 1)) (next s v))
  one_more count i s below = let left : count - i ≡ suc (count - (i + 1)) = omega (arith, below) in ap (λ k. read k s) left ∙ more (count - (i + 1)) s

  -- after a part that is read, the total is the result of the rest
  pub goes_on : (count i : ℕ) (s : S) (v : V) (total : Result R Fault) → i < count → step s ≡ Ok v → read (count - i) s ≡ total → read (count - (i + 1)) (next s v) ≡ total
  goes_on count i s v total below is whole =
      let rest : V → Result R Fault = λ v. read (count - (i + 1)) (next s v) in
      sym (one_more count i s below ∙ ap (λ r. r >>= rest) is) ∙ whole

  -- an error of a part is an error of the total
  pub fails : (e : ReadError) (count i : ℕ) (s : S) (total : Result R Fault) → i < count → Fails e (step s) → read (count - i) s ≡ total → Fails e total
  fails e count i s total below is whole = fails_first e (step s) (λ v. read (count - (i + 1)) (next s v)) total is (sym (one_more count i s below) ∙ whole)

  -- no part is left
  pub is_done : (count i : ℕ) (s : S) (total : Result R Fault) → count ≤ i → read (count - i) s ≡ total → read 0 s ≡ total
  is_done count i s total past whole = let left : count - i ≡ 0 = omega (arith, past) in sym (ap (λ k. read k s) left) ∙ whole
