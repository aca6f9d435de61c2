-- The steps of all jobs in flat order.
use Rattle.std.proofs.Common.{◌≡◌, ℕ, suc, ◌*◌, ◌≤◌, ◌<◌, List, [], ◌∷◌, ◌++◌, length, take, Some, refl, sym, ap, ◌∙◌, arith}
use Rattle.std.specs.Prelude.{All}
use Rattle.std.specs.List.{AllByRecursion, slice_get}
use Rattle.std.proofs.Math.Seq.{take-suc}
use Rattle.std.proofs.lemmas.List.{flat_map_more, length-append}
use Rattle.std.proofs.lemmas.List.Sums.{sum_by-append, sum_by-cons}
use Rattle.std.proofs.lemmas.List.Elements.{All-from_recursion, recursion_from_All}
use Rattle.std.proofs.lemmas.Option.{get_or_from_slice_get, slice_get_within}
use Rattle.plan_psplib.specs.Tokens.{greatest}
use Rattle.plan_orlib.specs.declared.steps.Step.{Step}
use Rattle.plan_orlib.specs.Shop as docs
use Rattle.plan_shop.specs.Docs.{flat_steps, shop_of, IsSmallShop}

-- one job more
pub flat_steps-take : (jobs : List (List Step)) (k : ℕ) (row : List Step) → slice_get jobs k ≡ Some row → flat_steps (take (suc k) jobs) ≡ flat_steps (take k jobs) ++ row
flat_steps-take jobs k row here =
    let one : take (suc k) jobs ≡ take k jobs ++ row ∷ [] =
    take-suc jobs k [] (slice_get_within jobs k row here) ∙ ap (λ (x : List Step). take k jobs ++ x ∷ []) (get_or_from_slice_get jobs k row [] here) in
    ap flat_steps one ∙ sym (flat_map_more (λ (steps : List Step). steps) [] (take k jobs) row)

both : (P : Step → Type 0) (xs ys : List Step) → AllByRecursion P xs → AllByRecursion P ys → AllByRecursion P (xs ++ ys)
both P [] ys p q = q
both P (x ∷ xs) ys p q = (p.0, both P xs ys p.1 q)

-- a fact of the steps of each job is a fact of all steps
pub flat_steps-all : (P : Step → Type 0) (jobs : List (List Step)) → AllByRecursion (λ steps. All P steps) jobs → AllByRecursion P (flat_steps jobs)
flat_steps-all P [] p = tt
flat_steps-all P (row ∷ jobs) p = both P row (flat_steps jobs) (recursion_from_All P row p.0) (flat_steps-all P jobs p.1)

pub flat_steps-length : (m : ℕ) (jobs : List (List Step)) → AllByRecursion (docs.IsJob m) jobs → length (flat_steps jobs) ≡ length jobs * m
flat_steps-length m [] p = omega arith
flat_steps-length m (row ∷ jobs) p = omega (arith, length-append row (flat_steps jobs), flat_steps-length m jobs p.1, p.0.0)

pub flat_steps-time : (jobs : List (List Step)) → docs.time_of (flat_steps jobs) ≡ docs.total_time jobs
flat_steps-time [] = refl
flat_steps-time (row ∷ jobs) = omega (arith, sum_by-append (λ (step : Step). step.time) row (flat_steps jobs), flat_steps-time jobs, sum_by-cons docs.time_of row jobs)

-- the shop of a file is within the limits
pub small_shop : (doc : docs.Shop) → docs.IsShop doc → IsSmallShop (shop_of doc)
small_shop doc is = record {
  shop = record {
    some_machine = omega (arith, is.machines.0);
    all_steps = flat_steps-length doc.machines doc.jobs rows;
    on_machines = All-from_recursion (λ (w : Step). w.machine < doc.machines) (flat_steps doc.jobs) (flat_steps-all (λ (w : Step). w.machine < doc.machines) doc.jobs (each doc.jobs rows));
  };
  few_jobs = is.jobs.1;
  few_machines = is.machines.1;
  short = All-from_recursion (λ (w : Step). w.time ≤ greatest) (flat_steps doc.jobs) (flat_steps-all (λ (w : Step). w.time ≤ greatest) doc.jobs (shorts doc.jobs rows));
  total = rw (flat_steps-time doc.jobs) is.total;
} where
  rows : AllByRecursion (docs.IsJob doc.machines) doc.jobs
  rows = recursion_from_All (docs.IsJob doc.machines) doc.jobs is.steps

  each : (jobs : List (List Step)) → AllByRecursion (docs.IsJob doc.machines) jobs → AllByRecursion (λ (steps : List Step). All (λ (w : Step). w.machine < doc.machines) steps) jobs
  each [] p = tt
  each (row ∷ jobs) p = (λ k d inside. (p.0.1 k d inside).0, each jobs p.1)

  shorts : (jobs : List (List Step)) → AllByRecursion (docs.IsJob doc.machines) jobs → AllByRecursion (λ (steps : List Step). All (λ (w : Step). w.time ≤ greatest) steps) jobs
  shorts [] p = tt
  shorts (row ∷ jobs) p = (λ k d inside. (p.0.1 k d inside).1, shorts jobs p.1)
