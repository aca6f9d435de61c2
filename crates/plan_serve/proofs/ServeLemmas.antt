-- The faults of serving, and the tables that are served.
use Rattle.std.proofs.Common.{◌≡◌, ℕ, Result, Ok, Err, sym, subst}
use Rattle.std.specs.Prelude.{IfOk, IfErr, OnOk, MatchResult}
use Rattle.sqlite_disk.specs.declared.start.Start as start
use Rattle.sqlite_trees.specs.declared.store.Store.{Ghosts}
use Rattle.plan_store.specs.SqlBooks.{Counted, sql_shelf}
use Rattle.plan_store.specs.OnDisk.{IsTakenFrom}
use Rattle.plan_store.specs.declared.fault.StoreFault.{StoreFault}
use Rattle.plan_store.specs.declared.fault.StoreFault.TheVariants as store
use Rattle.plan_serve.specs.Faults.{fault_of}
use Rattle.plan_door.specs.declared.fault.ServeFault.{ServeFault}
use Rattle.plan_door.specs.Ports.{IsPortFault, ServesFrom}
use Rattle.plan_serve.specs.Ports.{ServesOnFiles}
use Rattle.plan_serve.specs.Causes.{IsServeFault}
use Rattle.plan_serve.proofs.CauseLemmas.{of_port}

-- a fault of the store is a fault of serving
of_store : (f : StoreFault) → IsServeFault (fault_of f)
of_store store.NotOurs = tt
of_store store.Version = tt
of_store store.NoMemory = tt
of_store store.Store = tt

-- a fault of the tables or of the port is a fault of serving
pub opened_serves : {B E : Type 0} (opened : Result B (StoreFault × E)) (done : Result (Unit {0}) ServeFault)
    → IfErr done (λ told. MatchResult opened (λ _. IsPortFault told) (λ e. told ≡ fault_of e.0)) → IfErr done IsServeFault
opened_serves opened (Ok done) is = tt
opened_serves (Ok book) (Err told) is = of_port IsServeFault tt tt tt tt told is
opened_serves (Err e) (Err told) is = subst IsServeFault (sym is) (of_store e.0)

-- the tables in files were served
pub serves_on_files : {F S E : Type 0} (first : start.Ghosts F) (g : Ghosts S) (count : ℕ) (opened : Result (Counted S) E) (done r : Result (Unit {0}) ServeFault)
    → r ≡ done → IfOk opened (λ b. IsTakenFrom first b.conn g) → OnOk done (MatchResult opened (λ b. ServesFrom (sql_shelf g) b count) (λ _. ⊥))
    → OnOk r (ServesOnFiles first g count)
serves_on_files first g count (Ok book) (Ok done) r same taken serves = subst (λ x. OnOk x (ServesOnFiles first g count)) (sym same) (book, taken, serves)
serves_on_files first g count (Err e) (Ok done) r same taken serves = absurd serves
serves_on_files first g count opened (Err e) r same taken serves = subst (λ x. OnOk x (ServesOnFiles first g count)) (sym same) tt
