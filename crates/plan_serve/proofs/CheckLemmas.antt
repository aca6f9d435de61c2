-- The written part of a summary.
use Rattle.std.proofs.Common.{◌≡◌, ◌⊎◌, inl, inr, Option, Result, Ok, Err, sym, subst}
use Rattle.std.specs.Prelude.{IfErr, OnOk, IsErrOf}
use Rattle.plan_rows.specs.World.{Text}
use Rattle.plan_rows.specs.Books.{Shelf}
use Rattle.plan_desk.specs.BookSteps.{Quiet}
use Rattle.plan_door.specs.declared.fault.ServeFault.{ServeFault}
use Rattle.plan_door.specs.declared.fault.ServeFault.TheVariants as fault
use Rattle.plan_serve.specs.CheckRun.{Writes, ChecksFrom, IsPrinted, IsPrintedInPart}
use Rattle.plan_serve.specs.Reports.{IsWriteFault}

module _ {B : Type 0} (shelf : Shelf B) (old new : B) (taken after : Option Text) where
  -- nothing was written
  pub none_written : (e : ServeFault) → (e ≡ fault.Memory) ⊎ (e ≡ fault.Store) → after ≡ taken → Writes shelf old new taken after (Err e)
  none_written e (inl is) same = subst (λ f. Writes shelf old new taken after (Err f)) (sym is) same
  none_written e (inr is) same = subst (λ f. Writes shelf old new taken after (Err f)) (sym is) same

  -- a complete output is the text of some summary
  pub printed : (r : Result (Unit {0}) ServeFault) → Writes shelf old new taken after r → OnOk r (IsPrinted taken after)
  printed (Ok done) w = (w.0, w.2)
  printed (Err e) w = tt

  pub printed_in_part : (r : Result (Unit {0}) ServeFault) → Writes shelf old new taken after r → IsErrOf r fault.Output → IsPrintedInPart taken after
  printed_in_part r w is = let it = subst (Writes shelf old new taken after) is w in (it.0, it.1, it.3, it.4)

  -- a complete output is the summary of the book
  pub checks : (r : Result (Unit {0}) ServeFault) → Quiet shelf old new → Writes shelf old new taken after r → OnOk r (ChecksFrom shelf old taken after)
  checks (Ok done) quiet w = (new, quiet, w)
  checks (Err e) quiet w = tt

  -- the faults without a complete output
  pub checks_not : (r : Result (Unit {0}) ServeFault) → Writes shelf old new taken after r → IfErr r IsWriteFault
  checks_not (Ok done) w = tt
  checks_not (Err fault.Memory) w = tt
  checks_not (Err fault.Store) w = tt
  checks_not (Err fault.NotOurs) w = absurd w
  checks_not (Err fault.Version) w = absurd w
  checks_not (Err fault.Key) w = absurd w
  checks_not (Err fault.Input) w = absurd w
  checks_not (Err fault.Socket) w = absurd w
  checks_not (Err fault.Output) w = tt
  checks_not (Err fault.Locked) w = absurd w
  checks_not (Err fault.Missing) w = absurd w
  checks_not (Err fault.Denied) w = absurd w
  checks_not (Err fault.Taken) w = absurd w
  checks_not (Err fault.PortTaken) w = absurd w
  checks_not (Err fault.PortDenied) w = absurd w
