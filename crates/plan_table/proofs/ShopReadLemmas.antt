-- Reading of pairs of cells.
use Rattle.std.proofs.Common.{◌≡◌, ℕ, ◌-◌, ◌≤◌, List, [], ◌∷◌, Vec, Result, Ok, length, map, take, drop, get_or, sym, ap, ◌∙◌, arith}
use Rattle.std.specs.declared.alloc.Global.{Global}
use Rattle.std.proofs.Math.Seq.{take-length}
use Rattle.plan_psplib.specs.Lines.{trim}
use Rattle.plan_table.specs.Reading.{Fault, ◌>>=◌}
use Rattle.plan_table.specs.ShopReading.{ShopEntries, step_read, steps_read}

-- one pair of those that are left
pub pair_taken : (line k : ℕ) (e f : ShopEntries) (total : Result ShopEntries Fault) (rest : List (Vec ℕ Global)) (machine time : Vec ℕ Global) (a b : List ℕ) →
    2 ≤ length rest → machine ≡ get_or rest 0 machine → time ≡ get_or rest 1 time → a ≡ trim machine.items → b ≡ trim time.items →
    steps_read line k e (map (λ cell. cell.items) rest) ≡ total → step_read line k e a b ≡ Ok f →
    steps_read line k f (map (λ cell. cell.items) (take (length rest - 2) (drop 2 rest))) ≡ total
unfolding steps_read
pair_taken line k e f total [] machine time a b two first second p q left step = absurd (omega (arith, two))
pair_taken line k e f total (x ∷ []) machine time a b two first second p q left step = absurd (omega (arith, two))
pair_taken line k e f total (x ∷ y ∷ cells) machine time a b two first second p q left step =
    let size : length (x ∷ y ∷ cells) - 2 ≡ length cells = omega arith in
    let one : step_read line k e (trim x.items) (trim y.items) ≡ Ok f =
    ap (λ (m : Vec ℕ Global). step_read line k e (trim m.items) (trim y.items)) (sym first)
    ∙ ap (λ (t : Vec ℕ Global). step_read line k e (trim machine.items) (trim t.items)) (sym second)
    ∙ ap (λ m. step_read line k e m (trim time.items)) (sym p) ∙ ap (λ t. step_read line k e a t) (sym q) ∙ step in
    ap (λ n. steps_read line k f (map (λ (cell : Vec ℕ Global). cell.items) (take n cells))) size
    ∙ ap (λ (cs : List (Vec ℕ Global)). steps_read line k f (map (λ cell. cell.items) cs)) (take-length cells)
    ∙ sym (ap (λ r. r >>= λ g. steps_read line k g (map (λ (cell : Vec ℕ Global). cell.items) cells)) one) ∙ left
