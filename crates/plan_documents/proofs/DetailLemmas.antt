-- The causes of errors with names.
use Rattle.std.proofs.Common.{◌≡◌, ℕ, ◌-◌, List, [], Option, Some, None, String, get_or, refl, sym, ap, ◌∙◌, subst, arith}
use Rattle.std.specs.Prelude.{IfSome, slice_get, string_bytes}
use Rattle.std.specs.Global.{Global}
use Rattle.std.proofs.lemmas.Option.{get_or_from_slice_get}
use Rattle.plan_net.specs.Network.{IsActivity}
use Rattle.plan_psplib.specs.Project.{Project}
use Rattle.plan_sgs.specs.Instances.{Planned, planned, problem_of}
use Rattle.plan_sgs.specs.Problem.{IsFirstTooMuch}
use Rattle.plan_sgs.proofs.InstanceLemmas.{count-problem}
use Rattle.plan_errors.specs.Faults.{with_detail}
use Rattle.plan_errors.specs.Output.{Refuses}
use Rattle.plan_errors.specs.declared.fault.CliFault.{CliFault}
use Rattle.plan_errors.specs.declared.fault.CliFault.TheVariants as cli
use Rattle.plan_errors.proofs.RefusalLemmas.{detail_refuses}
use Rattle.plan_documents.specs.Details.{need_of, capacity_of, need_text, NamesNeed}

-- the first activity with a need above a capacity is one of the project
pub first_activity : (p : Project) (capacities : List ℕ) (activity resource : ℕ)
    → IsFirstTooMuch (problem_of (planned p capacities)) activity resource → IsActivity p.network activity
unfolding problem_of
first_activity p capacities activity resource (i, k, is_i, is_k, (within, inside, lasts, above), least) =
    (omega (arith, is_i), omega (arith, is_i, within, count-problem (planned p capacities)))

-- its need is that of its row
pub need_is : (p : Project) (capacities row : List ℕ) (activity resource k n : ℕ)
    → slice_get p.needs (activity - 1) ≡ Some row → n ≡ get_or row k 0 → k ≡ resource - 1
    → n ≡ need_of (planned p capacities) activity resource
unfolding problem_of
need_is p capacities row activity resource k n is_row is_n is_k =
    is_n
    ∙ ap (λ (place : ℕ). get_or row place 0) is_k
    ∙ ap (λ (amounts : List ℕ). get_or amounts (resource - 1) 0) (sym (get_or_from_slice_get p.needs (activity - 1) row [] is_row))

pub capacity_is : (p : Project) (capacities : List ℕ) (resource k n : ℕ)
    → n ≡ get_or capacities k 0 → k ≡ resource - 1 → n ≡ capacity_of (planned p capacities) resource
unfolding problem_of
capacity_is p capacities resource k n is_n is_k =
    is_n ∙ ap (λ (place : ℕ). get_or capacities place 0) is_k

-- the detail of a need doesn't change its line
pub need_told : (IsLine : List ℕ → Type 0) (detail : Option (String Global)) (plain e : CliFault)
    → e ≡ with_detail detail plain → Refuses IsLine plain → Refuses IsLine e
need_told IsLine detail plain e is refuses = subst (λ (f : CliFault). Refuses IsLine f) (sym is) (detail_refuses IsLine detail plain refuses)

with_names : (file : List ℕ) (i : Planned) (activity resource : ℕ) (detail : Option (String Global)) (plain : CliFault)
    → IsFirstTooMuch (problem_of i) activity resource
    → IfSome detail (λ text. string_bytes text ≡ need_text file i activity resource)
    → NamesNeed file i (with_detail detail plain)
with_names file i activity resource None (cli.Refused refusal) first named = tt
with_names file i activity resource (Some text) (cli.Refused refusal) first named = (activity, resource, first, named)
with_names file i activity resource detail cli.Memory first named = tt
with_names file i activity resource detail (cli.Input unread) first named = tt
with_names file i activity resource detail cli.Output first named = tt

-- it names the first need above a capacity
pub need_named : (file : List ℕ) (i : Planned) (activity resource : ℕ) (detail : Option (String Global)) (plain e : CliFault)
    → e ≡ with_detail detail plain → IsFirstTooMuch (problem_of i) activity resource
    → IfSome detail (λ text. string_bytes text ≡ need_text file i activity resource)
    → NamesNeed file i e
need_named file i activity resource detail plain e is first named =
    subst (λ (f : CliFault). NamesNeed file i f) (sym is) (with_names file i activity resource detail plain first named)
