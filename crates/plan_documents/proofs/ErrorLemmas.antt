-- Refusals by lines of one kind, and the first errors of files.
use Rattle.std.proofs.Common.{◌≡◌, ◌⊎◌, inl, inr, ℕ, List, Result, Ok, Err, subst}
use Rattle.std.specs.Prelude.{IfOk, IfErr}
use Rattle.plan_psplib.specs.declared.text.fault.FileFault.{FileFault}
use Rattle.plan_psplib.specs.Faults.{IsWantOfMemory}
use Rattle.plan_psplib.specs.Project.{IsFirstFailing}
use Rattle.plan_orlib.specs.ShopText as reading
use Rattle.plan_gantt.specs.FirstFaults.{TellsFirstFailing, TellsFirstShopFault}
use Rattle.plan_errors.specs.declared.fault.CliFault.{CliFault}
use Rattle.plan_errors.specs.declared.fault.CliFault.TheVariants as cli
use Rattle.plan_errors.specs.Faults.{refusal_line}
use Rattle.plan_errors.specs.Output.{Refuses}
use Rattle.plan_documents.specs.Lines.{Tells}

-- a refusal by lines of one kind is one by lines of another kind that has them too
pub refuses_as : (IsLine IsOther : List ℕ → Type 0) (e : CliFault)
    → ((line : List ℕ) → IsLine line → IsOther line) → Refuses IsLine e → Refuses IsOther e
refuses_as IsLine IsOther (cli.Refused refusal) same r = same (refusal_line refusal) r
refuses_as IsLine IsOther cli.Memory same r = tt
refuses_as IsLine IsOther (cli.Input unread) same r = absurd r
refuses_as IsLine IsOther cli.Output same r = absurd r

-- a fact on an error implies another
pub if_err_weaker : {T E : Type 0} (r : Result T E) (P Q : E → Type 0) → ((e : E) → P e → Q e) → IfErr r P → IfErr r Q
if_err_weaker (Ok x) P Q implies p = tt
if_err_weaker (Err e) P Q implies p = implies e p

-- a fact on the value of a result that is fine
pub if_was_ok : {T E : Type 0} (r : Result T E) (x : T) (P : T → Type 0) → r ≡ Ok x → IfOk r P → P x
if_was_ok r x P was holds = subst (λ q. IfOk q P) was holds

-- the reported error is the first of the file
pub told_refuses : (file : List ℕ) (first : FileFault) (e : CliFault)
    → IsWantOfMemory first ⊎ IsFirstFailing file first → Refuses (Tells first) e
    → Refuses (TellsFirstFailing file) e
told_refuses file first e (inl memory) t = refuses_as (Tells first) (TellsFirstFailing file) e (λ line tells. absurd (tells.0 memory.0)) t
told_refuses file first e (inr failing) t = refuses_as (Tells first) (TellsFirstFailing file) e (λ line tells. (first, failing, tells.1)) t

-- the reported error is the first of the shop file
pub told_no_shop : (instance file : List ℕ) (first : FileFault) (e : CliFault)
    → IsWantOfMemory first ⊎ reading.FailsWith (reading.shop instance file) first → Refuses (Tells first) e
    → Refuses (TellsFirstShopFault instance file) e
told_no_shop instance file first e (inl memory) t = refuses_as (Tells first) (TellsFirstShopFault instance file) e (λ line tells. absurd (tells.0 memory.0)) t
told_no_shop instance file first e (inr failing) t = refuses_as (Tells first) (TellsFirstShopFault instance file) e (λ line tells. (first, failing, tells.1)) t
