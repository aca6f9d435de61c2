-- The connection that a command returns, and its closing.
use Rattle.std.proofs.Common.{◌≡◌, Option, Some, None, Result, Ok, Err, refl, sym, ap, ◌∙◌, subst}
use Rattle.std.specs.Prelude.{IfOk, IfErr, IfSome, MatchOption, MatchResult, option_map}
use Rattle.sqlite_disk.specs.declared.Disk as disk
use Rattle.sqlite_wal.specs.Reads.{AreClean}
use Rattle.sqlite_store.specs.declared.store.FileStore.{FileStore}
use Rattle.sqlite.specs.declared.error.Error.{Error}
use Rattle.sqlite.specs.Held.{Held}
use Rattle.sqlite.specs.Files.{IsClosed}
use Rattle.sqlite.specs.Closing.{IsCopied}
use Rattle.plan_store.specs.SqlBooks.{Counted}
use Rattle.plan_store.specs.declared.fault.StoreFault.{StoreFault}
use Rattle.plan_door.specs.declared.fault.ServeFault.{ServeFault}
use Rattle.plan_serve.specs.Faults.{fault_of}
use Rattle.plan_serve.specs.Returned.{Closed, IsConnOf, IsShut}

-- a fact about a book that is returned
pub if_some : {B : Type 0} (next : Option B) (Q : Type 0) (P : B → Type 0) → MatchOption next Q P → IfSome next P
if_some None Q P is = tt
if_some (Some book) Q P is = is

-- the connection that is returned is that of the book
conn_of : {S : Type 0} (Is : Counted S → Type 0) (next : Option (Counted S)) (back : Option (Held S))
    → IfSome next Is → back ≡ option_map (λ b. b.conn) next → IsConnOf Is back
conn_of Is None back is same = subst (IsConnOf Is) (sym same) tt
conn_of Is (Some book) back is same = subst (IsConnOf Is) (sym same) (book, refl, is)

-- the same for a book that was opened
pub opened_conn : {S E : Type 0} (opened : Result (Counted S) E) (book : Counted S) (Is : Counted S → Counted S → Type 0) (Q : E → Type 0)
    (next : Option (Counted S)) (back : Option (Held S)) → opened ≡ Ok book
    → IfSome next (Is book) → back ≡ option_map (λ b. b.conn) next → MatchResult opened (λ b. IsConnOf (Is b) back) Q
opened_conn opened book Is Q next back same is conn =
    subst (λ o. MatchResult o (λ b. IsConnOf (Is b) back) Q) (sym same) (conn_of (Is book) next back is conn)

-- no connection is returned if the book can't be opened
pub unopened : {A H E : Type 0} (opened : Result A (StoreFault × E)) (Q : A → Type 0) (told : ServeFault) (back : Option H) (done : Result (Unit {0}) ServeFault)
    → IfOk opened (λ _. ⊥) → IfErr opened (λ e. told ≡ fault_of e.0) → back ≡ None → done ≡ Err told
    → MatchResult opened Q (λ e. (back ≡ None) × (done ≡ Err (fault_of e.0)))
unopened (Ok book) Q told back done none is gone same = absurd none
unopened (Err e) Q told back done none is gone same = (gone, same ∙ ap Err is)

-- a fact about both results of opening
pub both_ways : {A E : Type 0} (opened : Result A E) (P : A → Type 0) (Q : E → Type 0) → IfOk opened P → IfErr opened Q → MatchResult opened P Q
both_ways (Ok a) P Q ok err = ok
both_ways (Err e) P Q ok err = err

-- how a database was closed
pub is_shut : {D : Type 0} {g : disk.Ghosts D} (conn : Held (FileStore D g)) (closed : Closed D g) (Q : Error × FileStore D g → Type 0)
    → IfOk closed (λ files. AreClean g files.log files.db → IsCopied conn files)
    → IfErr closed (λ e. IsClosed conn e.1 × Q e) → IsShut conn closed
is_shut conn (Ok files) Q copied err = copied
is_shut conn (Err e) Q copied err = err.0
