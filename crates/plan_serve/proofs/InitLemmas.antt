-- The faults of creating the tables of a new office.
use Rattle.std.proofs.Common.{◌≡◌, ◌≢◌, ◌⊎◌, ◌↔◌, inl, inr, ℕ, Option, Some, None, Result, Ok, Err, refl, sym, ap, subst}
use Rattle.std.specs.Prelude.{OnOk, IfErr}
use Rattle.sqlite_disk.specs.declared.start.Start as start
use Rattle.sqlite_trees.specs.declared.store.Store.{Ghosts}
use Rattle.sqlite.specs.Held.{Held, state}
use Rattle.plan_rows.specs.World.{Text, Digest}
use Rattle.plan_store.specs.declared.fault.StoreFault.{StoreFault}
use Rattle.plan_store.specs.declared.fault.StoreFault.TheVariants as store
use Rattle.plan_store.specs.Tables.{no_schema}
use Rattle.plan_store.specs.Offices.{HasOfficeTables}
use Rattle.plan_serve.specs.Faults.{fault_of}
use Rattle.plan_store.specs.SqlBooks.{Counted}
use Rattle.plan_door.specs.Keys.{ReadsKey, TakesKey, first_line}
use Rattle.plan_door.specs.declared.fault.ServeFault.{ServeFault}
use Rattle.plan_door.specs.declared.fault.ServeFault.TheVariants as fault
use Rattle.plan_serve.specs.InitRun.{IsTold, IsLeft, MakesNone, MakesOffice, Inits, HasMade, HasMadeIn, IsInitFault, IsToldThere, IsOpenedFrom, IsOpenedOnce}
use Rattle.plan_serve.specs.InitRun.{InitsOnFiles, IsOfTablesThere, IsLeftThere, IsRefused}

module _ {S : Type 0} (g : Ghosts S) (Opens : Held S → Type 0) (Refuses : StoreFault → Type 0) (Unopened : Type 0) (remaining rest : Option Text) (digest : Digest)
    (reads : ReadsKey remaining rest (Ok digest)) where
  -- no database was opened
  pub unopened : (fault : StoreFault) → Refuses fault → (fault ≡ store.NoMemory) ⊎ (fault ≡ store.Store)
      → MakesNone g Opens Refuses Unopened remaining rest (fault_of fault) None
  unopened store.NotOurs refuses (inl e) = absurd cc
  unopened store.NotOurs refuses (inr e) = absurd cc
  unopened store.Version refuses (inl e) = absurd cc
  unopened store.Version refuses (inr e) = absurd cc
  unopened store.NoMemory refuses which = inl (refl, inr (digest, reads, refuses))
  unopened store.Store refuses which = (digest, reads, inl (refuses, refl))

  -- a database was opened, and no tables made
  pub unmade : (conn left : Held S) (cause : StoreFault) (told : ServeFault) → Opens conn → (cause ≡ store.NotOurs) ↔ ((state g conn).now.schema ≢ no_schema) → cause ≢ store.Version
      → (cause ≡ store.NotOurs → left ≡ conn) → IsLeft (state g conn) (state g left) digest → IsTold cause (state g left).now told
      → MakesNone g Opens Refuses Unopened remaining rest told (Some left)
  unmade conn left cause told opens ours known same kept (inl (taken, foreign, office)) =
      subst (λ e. MakesNone g Opens Refuses Unopened remaining rest e (Some left)) (sym taken)
      (digest, reads, (conn, ap Some (same foreign), opens, subst (λ c. HasOfficeTables (state g c).now.schema) (same foreign) office))
  unmade conn left cause told opens ours known same kept (inr (is, none)) =
      subst (λ e. MakesNone g Opens Refuses Unopened remaining rest e (Some left)) (sym is) (as_told cause ours known same none)
    where
      as_told : (f : StoreFault) → (f ≡ store.NotOurs) ↔ ((state g conn).now.schema ≢ no_schema) → f ≢ store.Version → (f ≡ store.NotOurs → left ≡ conn)
          → (f ≡ store.NotOurs → ¬ HasOfficeTables (state g left).now.schema) → MakesNone g Opens Refuses Unopened remaining rest (fault_of f) (Some left)
      as_told store.NotOurs ours known same none =
          (digest, reads, (conn, ap Some (same refl), opens, ours.0 refl, subst (λ c. ¬ HasOfficeTables (state g c).now.schema) (same refl) (none refl)))
      as_told store.Version ours known same none = absurd (known refl)
      as_told store.NoMemory ours known same none =
          inr (digest, reads, (conn, left, refl, opens, (λ used. let e = ours.1 used in absurd cc), kept))
      as_told store.Store ours known same none =
          (digest, reads, inr (conn, left, refl, opens, (λ used. let e = ours.1 used in absurd cc), kept))

-- a key that wasn't read
pub unread : {S : Type 0} (g : Ghosts S) (Opens : Held S → Type 0) (Refuses : StoreFault → Type 0) (Unopened : Type 0) (free : Unopened) (remaining rest : Option Text) (e : ServeFault)
    → TakesKey remaining rest (Err e) → MakesNone g Opens Refuses Unopened remaining rest e None
unread g Opens Refuses Unopened free remaining rest fault.Key takes = (takes, refl, free)
unread g Opens Refuses Unopened free remaining rest fault.Memory takes = inl (refl, inl free)
unread g Opens Refuses Unopened free remaining rest fault.Input takes = (refl, free)
unread g Opens Refuses Unopened free remaining rest fault.Store takes = absurd takes
unread g Opens Refuses Unopened free remaining rest fault.NotOurs takes = absurd takes
unread g Opens Refuses Unopened free remaining rest fault.Version takes = absurd takes
unread g Opens Refuses Unopened free remaining rest fault.Socket takes = absurd takes
unread g Opens Refuses Unopened free remaining rest fault.Output takes = absurd takes
unread g Opens Refuses Unopened free remaining rest fault.Locked takes = absurd takes
unread g Opens Refuses Unopened free remaining rest fault.Missing takes = absurd takes
unread g Opens Refuses Unopened free remaining rest fault.Denied takes = absurd takes
unread g Opens Refuses Unopened free remaining rest fault.Taken takes = absurd takes
unread g Opens Refuses Unopened free remaining rest fault.PortTaken takes = absurd takes
unread g Opens Refuses Unopened free remaining rest fault.PortDenied takes = absurd takes

-- the faults of creating the tables of a new office
pub init_faults : {S : Type 0} (g : Ghosts S) (Opens : Held S → Type 0) (Refuses : StoreFault → Type 0) (Unopened : Type 0) (remaining rest : Option Text) (e : ServeFault) (back : Option (Held S))
    → MakesNone g Opens Refuses Unopened remaining rest e back → IsInitFault e
init_faults g Opens Refuses Unopened remaining rest fault.Memory back i = tt
init_faults g Opens Refuses Unopened remaining rest fault.Store back i = tt
init_faults g Opens Refuses Unopened remaining rest fault.NotOurs back i = tt
init_faults g Opens Refuses Unopened remaining rest fault.Version back i = absurd i
init_faults g Opens Refuses Unopened remaining rest fault.Key back i = tt
init_faults g Opens Refuses Unopened remaining rest fault.Input back i = tt
init_faults g Opens Refuses Unopened remaining rest fault.Socket back i = absurd i
init_faults g Opens Refuses Unopened remaining rest fault.Output back i = absurd i
init_faults g Opens Refuses Unopened remaining rest fault.Locked back i = tt
init_faults g Opens Refuses Unopened remaining rest fault.Missing back i = tt
init_faults g Opens Refuses Unopened remaining rest fault.Denied back i = tt
init_faults g Opens Refuses Unopened remaining rest fault.Taken back i = tt
init_faults g Opens Refuses Unopened remaining rest fault.PortTaken back i = absurd i
init_faults g Opens Refuses Unopened remaining rest fault.PortDenied back i = absurd i

-- a fault about existing tables is about those of a database that was opened
pub told_there : {S : Type 0} (g : Ghosts S) (Opens : Held S → Type 0) (Refuses : StoreFault → Type 0) (Unopened : Type 0) (remaining rest : Option Text) (e : ServeFault) (back : Option (Held S))
    → MakesNone g Opens Refuses Unopened remaining rest e back → IsToldThere g Opens e
told_there g Opens Refuses Unopened remaining rest fault.Memory back i = tt
told_there g Opens Refuses Unopened remaining rest fault.Store back i = tt
told_there g Opens Refuses Unopened remaining rest fault.NotOurs back i = (back, i.2)
told_there g Opens Refuses Unopened remaining rest fault.Version back i = tt
told_there g Opens Refuses Unopened remaining rest fault.Key back i = tt
told_there g Opens Refuses Unopened remaining rest fault.Input back i = tt
told_there g Opens Refuses Unopened remaining rest fault.Socket back i = tt
told_there g Opens Refuses Unopened remaining rest fault.Output back i = tt
told_there g Opens Refuses Unopened remaining rest fault.Locked back i = tt
told_there g Opens Refuses Unopened remaining rest fault.Missing back i = tt
told_there g Opens Refuses Unopened remaining rest fault.Denied back i = tt
told_there g Opens Refuses Unopened remaining rest fault.Taken back i = (back, i.2)
told_there g Opens Refuses Unopened remaining rest fault.PortTaken back i = tt
told_there g Opens Refuses Unopened remaining rest fault.PortDenied back i = tt

-- the tables of a new office were made
pub has_made : {S : Type 0} (g : Ghosts S) (Opens : Held S → Type 0) (Refuses : StoreFault → Type 0) (Unopened : Type 0) (remaining rest : Option Text) (book : Counted S)
    → Inits g Opens Refuses Unopened remaining rest (Ok book) → HasMade g Opens
has_made g Opens Refuses Unopened remaining rest book (digest, reads, empty, office) =
    (digest, (first_line reads.0, reads.2), empty, (book.conn, office))

-- the tables of a new office were made in the database of the returned connection
pub has_made_in : {S : Type 0} (g : Ghosts S) (Opens : Held S → Type 0) (Refuses : StoreFault → Type 0) (Unopened : Type 0) (remaining rest : Option Text) (book : Counted S) (after : Held S)
    → after ≡ book.conn → Inits g Opens Refuses Unopened remaining rest (Ok book) → HasMadeIn g Opens remaining rest (Some after)
has_made_in g Opens Refuses Unopened remaining rest book after same made = subst (λ c. HasMadeIn g Opens remaining rest (Some c)) (sym same) made

-- the result of creating an office, by its cases
pub makes_office : {S : Type 0} (g : Ghosts S) (Opens : Held S → Type 0) (Refuses : StoreFault → Type 0) (Unopened : Type 0) (remaining rest : Option Text)
    (r : Result (Unit {0}) ServeFault) (back : Option (Held S)) → OnOk r (HasMadeIn g Opens remaining rest back)
    → IfErr r (λ e. MakesNone g Opens Refuses Unopened remaining rest e back) → MakesOffice g Opens Refuses Unopened remaining rest r back
makes_office g Opens Refuses Unopened remaining rest (Ok done) back made none = made
makes_office g Opens Refuses Unopened remaining rest (Err e) back made none = none

module _ {S : Type 0} (g : Ghosts S) (A B : Held S → Type 0) (weaker : (conn : Held S) → A conn → B conn) where
  -- the same for more connections
  more_made : HasMade g A → HasMade g B
  more_made (digest, key, (conn, opens, empty), after) = (digest, key, (conn, weaker conn opens, empty), after)

  more_told : (e : ServeFault) → IsToldThere g A e → IsToldThere g B e
  more_told fault.Memory is = tt
  more_told fault.Store is = tt
  more_told fault.NotOurs (back, (conn, same, opens, used, foreign)) = (back, (conn, same, weaker conn opens, used, foreign))
  more_told fault.Version is = tt
  more_told fault.Key is = tt
  more_told fault.Input is = tt
  more_told fault.Socket is = tt
  more_told fault.Output is = tt
  more_told fault.Locked is = tt
  more_told fault.Missing is = tt
  more_told fault.Denied is = tt
  more_told fault.Taken (back, (conn, same, opens, is)) = (back, (conn, same, weaker conn opens, is))
  more_told fault.PortTaken is = tt
  more_told fault.PortDenied is = tt

module _ {F S : Type 0} (first : start.Ghosts F) (g : Ghosts S) (old new : ℕ) where
  -- the same for files that were opened once
  pub made_once : (r : Result (Unit {0}) ServeFault) → OnOk r (HasMade g (IsOpenedOnce first g old new)) → OnOk r (InitsOnFiles first g)
  made_once (Ok done) made = more_made g (IsOpenedOnce first g old new) (IsOpenedFrom first g) (λ conn opens. opens.1) made
  made_once (Err e) made = tt

  pub told_once : (r : Result (Unit {0}) ServeFault) → IfErr r (IsToldThere g (IsOpenedOnce first g old new)) → IfErr r (IsOfTablesThere first g)
  told_once (Ok done) told = tt
  told_once (Err e) told = more_told g (IsOpenedOnce first g old new) (IsOpenedFrom first g) (λ conn opens. opens.1) e told

module _ {S : Type 0} (g : Ghosts S) (A B : Held S → Type 0) (R Q : StoreFault → Type 0) (U V : Type 0) (opened : (conn : Held S) → A conn → B conn)
    (refused : (cause : StoreFault) → R cause → Q cause) (free : U → V) (remaining rest : Option Text) where
  -- the same for more connections, and for more causes
  more_left : (back : Option (Held S)) (digest : Digest) → IsLeftThere g A R U back digest → IsLeftThere g B Q V back digest
  more_left back digest (conn, left, same, opens, empty, kept) = (conn, left, same, opened conn opens, empty, kept)

  more_refused : (cause : StoreFault) → IsRefused g A R U remaining rest cause → IsRefused g B Q V remaining rest cause
  more_refused cause (digest, reads, refuses) = (digest, reads, refused cause refuses)

  more_none : (e : ServeFault) (back : Option (Held S)) → MakesNone g A R U remaining rest e back → MakesNone g B Q V remaining rest e back
  more_none fault.Key back (reads, none, unopened) = (reads, none, free unopened)
  more_none fault.Store back (digest, reads, inl (refuses, none)) = (digest, reads, inl (refused store.Store refuses, none))
  more_none fault.Store back (digest, reads, inr left) = (digest, reads, inr (more_left back digest left))
  more_none fault.NotOurs back (digest, reads, (conn, same, opens, used, foreign)) = (digest, reads, (conn, same, opened conn opens, used, foreign))
  more_none fault.Taken back (digest, reads, (conn, same, opens, is)) = (digest, reads, (conn, same, opened conn opens, is))
  more_none fault.Memory back (inl (none, inl unopened)) = inl (none, inl (free unopened))
  more_none fault.Memory back (inl (none, inr is)) = inl (none, inr (more_refused store.NoMemory is))
  more_none fault.Memory back (inr (digest, reads, left)) = inr (digest, reads, more_left back digest left)
  more_none fault.Input back (none, unopened) = (none, free unopened)
  more_none fault.Version back none = absurd none
  more_none fault.Socket back none = absurd none
  more_none fault.Output back none = absurd none
  more_none fault.Locked back none = absurd none
  more_none fault.Missing back none = absurd none
  more_none fault.Denied back none = absurd none
  more_none fault.PortTaken back none = absurd none
  more_none fault.PortDenied back none = absurd none

  pub more_makes : (r : Result (Unit {0}) ServeFault) (back : Option (Held S)) → MakesOffice g A R U remaining rest r back → MakesOffice g B Q V remaining rest r back
  more_makes (Ok done) None made = absurd made
  more_makes (Ok done) (Some after) (digest, reads, (conn, opens, empty), office) = (digest, reads, (conn, opened conn opens, empty), office)
  more_makes (Err e) back none = more_none e back none
