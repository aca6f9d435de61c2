-- The groups of the words of errors of infeasible starts.
use Rattle.std.proofs.Common.{◌≡◌, ℕ, List, ◌++◌, sym, ap, ◌∙◌, append_assoc}

-- words behind others, by group
pub grouped : (s a b c : List ℕ) → s ++ (a ++ (b ++ c)) ≡ ((s ++ a) ++ b) ++ c
grouped s a b c = sym (append_assoc (s ++ a) b c ∙ append_assoc s a (b ++ c))

-- the same, with one group more
pub regrouped : (s a b c d : List ℕ) → s ++ (a ++ (b ++ (c ++ d))) ≡ (((s ++ a) ++ b) ++ c) ++ d
regrouped s a b c d = grouped s a b (c ++ d) ∙ sym (append_assoc ((s ++ a) ++ b) c d)

-- the same, with three groups more
pub all_regrouped : (s a b c d e f : List ℕ)
    → s ++ (a ++ (b ++ (c ++ (d ++ (e ++ f))))) ≡ (((((s ++ a) ++ b) ++ c) ++ d) ++ e) ++ f
all_regrouped s a b c d e f =
    regrouped s a b c (d ++ (e ++ f)) ∙ grouped (((s ++ a) ++ b) ++ c) d e f
