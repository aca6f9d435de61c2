-- The result of settling, by the result of the check and the closed files.
use Rattle.std.proofs.Common.{Option, Result, Some, None, Ok, Err, inl, inr, sym, subst}
use Rattle.std.specs.Prelude.{IfErr, OnOk}
use Rattle.plan_door.specs.declared.fault.ServeFault.{ServeFault}
use Rattle.plan_serve.specs.Reports.{IsReportFault}
use Rattle.plan_copies.specs.Settling.{AreClosed, IsSettled}

-- a success means that the files were closed
pub settled_closed : {A E : Type 0} (done : Result (Unit {0}) ServeFault)
    (files : Option (Result A E)) (told : Result (Unit {0}) ServeFault) →
    IsSettled done files told → OnOk told (AreClosed files)
settled_closed {A} {E} (Err e) files told is =
    subst (λ r. OnOk r (AreClosed {A = A} {E = E} files)) (sym is) tt
settled_closed {A} {E} (Ok u) (Some (Ok closed)) told is =
    subst (λ r. OnOk r (AreClosed {A = A} {E = E} (Some (Ok closed)))) (sym is) tt
settled_closed {A} {E} (Ok u) (Some (Err e)) told (inl is) =
    subst (λ r. OnOk r (AreClosed {A = A} {E = E} (Some (Err e)))) (sym is) tt
settled_closed {A} {E} (Ok u) (Some (Err e)) told (inr is) =
    subst (λ r. OnOk r (AreClosed {A = A} {E = E} (Some (Err e)))) (sym is) tt
settled_closed {A} {E} (Ok u) None told is =
    subst (λ r. OnOk r (AreClosed {A = A} {E = E} None)) (sym is) tt

-- the errors are those of a report
pub settled_which : {A E : Type 0} (done : Result (Unit {0}) ServeFault)
    (files : Option (Result A E)) (told : Result (Unit {0}) ServeFault) →
    IsSettled done files told → IfErr done IsReportFault → IfErr told IsReportFault
settled_which (Err e) files told is which = subst (λ r. IfErr r IsReportFault) (sym is) which
settled_which (Ok u) (Some (Ok closed)) told is which =
    subst (λ r. IfErr r IsReportFault) (sym is) tt
settled_which (Ok u) (Some (Err e)) told (inl is) which =
    subst (λ r. IfErr r IsReportFault) (sym is) tt
settled_which (Ok u) (Some (Err e)) told (inr is) which =
    subst (λ r. IfErr r IsReportFault) (sym is) tt
settled_which (Ok u) None told is which = subst (λ r. IfErr r IsReportFault) (sym is) tt
