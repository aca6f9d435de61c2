-- The steps of a job with those that take no time.
use Rattle.std.proofs.Common.{◌≡◌, ℕ, ◌-◌, List, ◌++◌, length, map, take, sym, ap, ◌∙◌, arith}
use Rattle.std.proofs.lemmas.List.{length-map, map-append, take-map}
use Rattle.plan_orlib.specs.declared.steps.Step.{Step}
use Rattle.plan_table.specs.declared.shop_table.ShopStep.{ShopStep}
use Rattle.plan_table.specs.ShopTable.{idle, padded, step_of}

pub job_padded : (names : List (List ℕ)) (job rest more whole : List ShopStep) (steps : List Step) (m n missing : ℕ) →
    map step_of job ≡ steps → map step_of rest ≡ idle names (map step_of job) → more ≡ take missing rest → whole ≡ job ++ more →
    m ≡ length names → n ≡ length job → missing ≡ m - n → map step_of whole ≡ padded names steps
job_padded names job rest more whole steps m n missing is idle_is more_is whole_is count size left =
    let same = length-map job step_of in
    let long = ap length is in
    let places : missing ≡ length names - length steps = omega (arith, count, size, left, same, long) in
    let behind : map step_of more ≡ take (length names - length steps) (idle names steps) =
    ap (map step_of) more_is ∙ sym (take-map step_of missing rest) ∙ ap (take missing) (idle_is ∙ ap (idle names) is) ∙ ap (λ k. take k (idle names steps)) places in
    ap (map step_of) whole_is ∙ map-append step_of job more ∙ ap (λ js. js ++ map step_of more) is ∙ ap (λ ts. steps ++ ts) behind
