-- The fault that is reported for a fault of the system is a fault of each command that meets it.
use Rattle.std.proofs.Common.{◌≢◌, ◌≡◌, ◌⊎◌, Option, Result, Some, None, Ok, Err, inl, inr, refl, sym, subst, ◌∙◌}
use Rattle.std.specs.Prelude.{IfErr, IsErrOf, OnOk, MatchResult}
use Rattle.std.specs.IoError.{error_kind}
use Rattle.std.specs.declared.fs.attrs.Metadata.{Metadata}
use Rattle.std_io.specs.declared.io.error.Error.{Error}
use Rattle.std_io.specs.declared.io.kind.ErrorKind.{ErrorKind}
use Rattle.sqlite_std_file.specs.declared.pair.OpenError.{OpenError}
use Rattle.sqlite_std_file.specs.declared.pair.OpenError.TheVariants as opening
use Rattle.plan_door.specs.declared.fault.ServeFault.{ServeFault}
use Rattle.plan_door.specs.declared.fault.ServeFault.TheVariants as fault
use Rattle.plan_door.specs.Ports.{IsPortFault}
use Rattle.sqlite_disk.specs.declared.start.Start as start
use Rattle.sqlite_trees.specs.declared.store.Store.{Ghosts}
use Rattle.plan_store.specs.declared.fault.StoreFault.{StoreFault}
use Rattle.plan_store.specs.declared.fault.StoreFault.TheVariants as store
use Rattle.plan_store.specs.declared.leftover.Leftover.{Leftover}
use Rattle.plan_store.specs.OnDisk.{IsRefusedFrom}
use Rattle.plan_serve.specs.Faults.{fault_of}
use Rattle.plan_serve.specs.Causes.{IsFileCause, IsOpenCause, IsToldAnew, IsFileFault, IsServeFault, IsShort, IsLookFault, IsOfTables, IsOfOpenedTables, IsOfTablesAtName}
use Rattle.plan_serve.specs.InitRun.{IsInitFault, IsOfTablesThere}
use Rattle.plan_serve.specs.Reports.{IsWriteFault, IsReportFault}

-- ---- facts about each fault of a kind

-- a fact about each fault of opening files
pub of_files : (P : ServeFault → Type 0) → P fault.Memory → P fault.Store → P fault.Locked → P fault.Missing → P fault.Denied
    → (e : ServeFault) → IsFileFault e → P e
of_files P memory store locked missing denied fault.Memory is = memory
of_files P memory store locked missing denied fault.Store is = store
of_files P memory store locked missing denied fault.NotOurs is = absurd is
of_files P memory store locked missing denied fault.Version is = absurd is
of_files P memory store locked missing denied fault.Key is = absurd is
of_files P memory store locked missing denied fault.Input is = absurd is
of_files P memory store locked missing denied fault.Socket is = absurd is
of_files P memory store locked missing denied fault.Output is = absurd is
of_files P memory store locked missing denied fault.Locked is = locked
of_files P memory store locked missing denied fault.Missing is = missing
of_files P memory store locked missing denied fault.Denied is = denied
of_files P memory store locked missing denied fault.Taken is = absurd is
of_files P memory store locked missing denied fault.PortTaken is = absurd is
of_files P memory store locked missing denied fault.PortDenied is = absurd is

-- a fact about each fault of writing a report
pub of_write : (P : ServeFault → Type 0) → P fault.Memory → P fault.Store → P fault.Output
    → (e : ServeFault) → IsWriteFault e → P e
of_write P memory store output fault.Memory is = memory
of_write P memory store output fault.Store is = store
of_write P memory store output fault.NotOurs is = absurd is
of_write P memory store output fault.Version is = absurd is
of_write P memory store output fault.Key is = absurd is
of_write P memory store output fault.Input is = absurd is
of_write P memory store output fault.Socket is = absurd is
of_write P memory store output fault.Output is = output
of_write P memory store output fault.Locked is = absurd is
of_write P memory store output fault.Missing is = absurd is
of_write P memory store output fault.Denied is = absurd is
of_write P memory store output fault.Taken is = absurd is
of_write P memory store output fault.PortTaken is = absurd is
of_write P memory store output fault.PortDenied is = absurd is

-- a fact about each fault of serving on a port
pub of_port : (P : ServeFault → Type 0) → P fault.Memory → P fault.Socket → P fault.PortTaken → P fault.PortDenied
    → (e : ServeFault) → IsPortFault e → P e
of_port P memory socket taken denied fault.Memory is = memory
of_port P memory socket taken denied fault.Store is = absurd is
of_port P memory socket taken denied fault.NotOurs is = absurd is
of_port P memory socket taken denied fault.Version is = absurd is
of_port P memory socket taken denied fault.Key is = absurd is
of_port P memory socket taken denied fault.Input is = absurd is
of_port P memory socket taken denied fault.Socket is = socket
of_port P memory socket taken denied fault.Output is = absurd is
of_port P memory socket taken denied fault.Locked is = absurd is
of_port P memory socket taken denied fault.Missing is = absurd is
of_port P memory socket taken denied fault.Denied is = absurd is
of_port P memory socket taken denied fault.Taken is = absurd is
of_port P memory socket taken denied fault.PortTaken is = taken
of_port P memory socket taken denied fault.PortDenied is = denied

-- ---- files

pub file_serves : (e : ServeFault) → IsFileFault e → IsServeFault e
file_serves = of_files IsServeFault tt tt tt tt tt

pub file_inits : (e : ServeFault) → IsFileFault e → IsInitFault e
file_inits = of_files IsInitFault tt tt tt tt tt

pub file_reports : (e : ServeFault) → IsFileFault e → IsReportFault e
file_reports = of_files IsReportFault tt tt tt tt tt

pub file_silent : (e : ServeFault) → IsFileFault e → e ≢ fault.Output
file_silent = of_files (λ e. e ≢ fault.Output) (λ same. absurd cc) (λ same. absurd cc) (λ same. absurd cc) (λ same. absurd cc) (λ same. absurd cc)

-- the fault of a file, from the system's error
pub file_fault : (k : ErrorKind) (e : ServeFault) → IsFileCause k e → IsFileFault e
file_fault k fault.Memory is = tt
file_fault k fault.Store is = tt
file_fault k fault.NotOurs is = absurd is
file_fault k fault.Version is = absurd is
file_fault k fault.Key is = absurd is
file_fault k fault.Input is = absurd is
file_fault k fault.Socket is = absurd is
file_fault k fault.Output is = absurd is
file_fault k fault.Locked is = absurd is
file_fault k fault.Missing is = tt
file_fault k fault.Denied is = tt
file_fault k fault.Taken is = absurd is
file_fault k fault.PortTaken is = absurd is
file_fault k fault.PortDenied is = absurd is

-- the fault of opening files once more
pub open_fault : {T : Type 0} (opened : Result T OpenError) (e : ServeFault) → IsOpenCause opened e → IsFileFault e
open_fault (Err opening.Busy) e is = subst IsFileFault (sym is) tt
open_fault (Err opening.OutOfMemory) e is = subst IsFileFault (sym is) tt
open_fault (Err (opening.Io error)) e is = file_fault (error_kind error) e is
open_fault (Err opening.HotJournal) e is = subst IsFileFault (sym is) tt
open_fault (Ok files) e is = subst IsFileFault (sym is) tt

-- ---- the system's answer for a name

-- a file that is too short, or the system's error
of_look : (P : ServeFault → Type 0) → (looked : Result Metadata Error) → (IsShort looked → P fault.NotOurs) → ((e : ServeFault) → IsFileFault e → P e)
    → (e : ServeFault) → IsLookFault looked e → P e
of_look P (Ok found) short files e (same, is) = subst P (sym same) (short is)
of_look P (Err error) short files e is = files e (file_fault (error_kind error) e is)

pub look_serves : (looked : Result Metadata Error) (e : ServeFault) → IsLookFault looked e → IsServeFault e
look_serves looked = of_look IsServeFault looked (λ short. tt) file_serves

pub look_reports : (looked : Result Metadata Error) (e : ServeFault) → IsLookFault looked e → IsReportFault e
look_reports looked = of_look IsReportFault looked (λ short. tt) file_reports

pub look_silent : (looked : Result Metadata Error) (e : ServeFault) → IsLookFault looked e → e ≢ fault.Output
look_silent looked = of_look (λ e. e ≢ fault.Output) looked (λ short same. absurd cc) file_silent

-- ---- the tables in files

module _ {F S : Type 0} (first : start.Ghosts F) (g : Ghosts S) (looked : Result Metadata Error) where
  pub file_tables : (e : ServeFault) → IsFileFault e → IsOfTables first g looked e
  file_tables = of_files (IsOfTables first g looked) tt tt tt tt tt

  pub look_tables : (e : ServeFault) → IsLookFault looked e → IsOfTables first g looked e
  look_tables = of_look (IsOfTables first g looked) looked (λ short. inl short) file_tables

  pub write_tables : (e : ServeFault) → IsWriteFault e → IsOfTables first g looked e
  write_tables = of_write (IsOfTables first g looked) tt tt tt

  pub port_tables : (e : ServeFault) → IsPortFault e → IsOfTables first g looked e
  port_tables = of_port (IsOfTables first g looked) tt tt tt tt

  -- the tables were refused
  of_refused : (cause : StoreFault) (back : Option (Leftover S)) → IsRefusedFrom first cause back g → IsOfTables first g looked (fault_of cause)
  of_refused store.NotOurs None refused = absurd (refused.0 refl)
  of_refused store.NotOurs (Some left) refused = inr (left, refused)
  of_refused store.Version None refused = absurd (refused.1 refl)
  of_refused store.Version (Some left) refused = (left, refused)
  of_refused store.NoMemory back refused = tt
  of_refused store.Store back refused = tt

  -- the tables were opened and something else failed, or they weren't opened
  pub opened_tables : {B : Type 0} (Over : ServeFault → Type 0) → ((e : ServeFault) → Over e → IsOfTables first g looked e)
      → (opened : Result B (StoreFault × Option (Leftover S))) (done : Result (Unit {0}) ServeFault) → IfErr opened (λ e. IsRefusedFrom first e.0 e.1 g)
      → IfErr done (λ told. MatchResult opened (λ _. Over told) (λ e. told ≡ fault_of e.0)) → IfErr done (IsOfTables first g looked)
  opened_tables Over over opened (Ok done) refused is = tt
  opened_tables Over over (Ok book) (Err told) refused is = over told is
  opened_tables Over over (Err (cause, back)) (Err told) refused is = subst (IsOfTables first g looked) (sym is) (of_refused cause back refused)

  -- the same for one answer of the system
  pub at_look : (r : Result (Unit {0}) ServeFault) → IfErr r (IsOfOpenedTables first g) → IfErr r (IsOfTables first g looked)
  at_look (Ok done) is = tt
  at_look (Err e) is = is looked

  -- the same for some answer of the system
  pub tables_at_name : (r : Result (Unit {0}) ServeFault) → IfErr r (IsOfTables first g looked) → IfErr r (IsOfTablesAtName first g)
  tables_at_name (Ok done) is = tt
  tables_at_name (Err e) is = (looked, is)

-- the same for each answer of the system
pub each_look : {F S : Type 0} (first : start.Ghosts F) (g : Ghosts S) (r : Result (Unit {0}) ServeFault)
    → ((looked : Result Metadata Error) → IfErr r (IsOfTables first g looked)) → IfErr r (IsOfOpenedTables first g)
each_look first g (Ok done) is = tt
each_look first g (Err e) is = is

pub file_tables_there : {F S : Type 0} (first : start.Ghosts F) (g : Ghosts S) (e : ServeFault) → IsFileFault e → IsOfTablesThere first g e
file_tables_there first g = of_files (IsOfTablesThere first g) tt tt tt tt tt

-- ---- an equal result

pub same_ok : (r done : Result (Unit {0}) ServeFault) → r ≡ done → (P : Type 0) → OnOk done P → OnOk r P
same_ok r done same P h = subst (λ x. OnOk x P) (sym same) h

pub same_err : (r done : Result (Unit {0}) ServeFault) → r ≡ done → (P : ServeFault → Type 0) → IfErr done P → IfErr r P
same_err r done same P h = subst (λ x. IfErr x P) (sym same) h

-- ---- a result after the cause was found

-- a fact that always holds
pub if_ok : {P : Type 0} (r : Result (Unit {0}) ServeFault) → P → OnOk r P
if_ok (Ok done) h = h
if_ok (Err e) h = tt

module _ (ended done told : Result (Unit {0}) ServeFault) (closed : done ≡ ended) (is : IsToldAnew done told) where
  ways : (told ≡ ended)
      ⊎ ((ended ≡ Err fault.Store) × ((e : ServeFault) × (told ≡ Err e) × IsFileFault e))
  ways = elim is [ inl same ↦ inl (same ∙ closed) | inr (store, anew) ↦ inr (sym closed ∙ store, anew) ]

  -- a success remains a success
  pub told_ok : (P : Type 0) → OnOk ended P → OnOk told P
  told_ok P h = elim ways [
    | inl same ↦ subst (λ r. OnOk r P) (sym same) h
    | inr (store, (e, anew, files)) ↦ subst (λ r. OnOk r P) (sym anew) tt
  ]

  -- a fact about each fault, and about another cause of the store's refusal
  pub told_err : (P : ServeFault → Type 0) → IfErr ended P
      → ((e : ServeFault) → P fault.Store → IsFileFault e → P e) → IfErr told P
  told_err P h other = elim ways [
    | inl same ↦ subst (λ r. IfErr r P) (sym same) h
    | inr (store, (e, anew, files)) ↦
        subst (λ r. IfErr r P) (sym anew) (other e (subst (λ r. IfErr r P) store h) files)
  ]

  -- nothing was written unless the output failed
  pub told_quiet : (Q : Type 0) → IfErr ended (λ e. (e ≡ fault.Output) ⊎ Q) → IfErr told (λ e. (e ≡ fault.Output) ⊎ Q)
  told_quiet Q h = told_err (λ e. (e ≡ fault.Output) ⊎ Q) h (λ e was files. elim was [ inl out ↦ absurd cc | inr same ↦ inr same ])

  -- the fault of the output is reported unchanged
  pub told_output : IsErrOf told fault.Output → IsErrOf ended fault.Output
  told_output h = elim ways [
    | inl same ↦ subst (λ r. IsErrOf r fault.Output) same h
    | inr (store, (e, anew, files)) ↦ absurd (file_silent e files (cc))
  ]
