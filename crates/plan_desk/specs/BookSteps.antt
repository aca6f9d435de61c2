-- The steps of an office over a book: lookups, decisions, writing calls, and the handling of a
-- request (docs/definitions.md, "Books").
use Rattle.std.specs.Prelude.{◌≡◌, ◌⊎◌, ◌+◌, ◌≤◌, true, false, Option, Some, None, Result, IfOk, IfErr, IfSome, IsSome, OnOk, OnErr, string_bytes, codes}
use Rattle.plan_rows.specs.declared.fault.BookFault.{BookFault}
use Rattle.plan_rows.specs.declared.fault.BookFault.TheVariants.{NoMemory, Store}
use Rattle.plan_desk.specs.declared.change.Change as rows
use Rattle.plan_desk.specs.declared.change.Change.TheVariants as made
use Rattle.plan_desk.specs.declared.change.Decision.{Decision}
use Rattle.plan_desk.specs.declared.admission.Admission.{Admission}
use Rattle.plan_desk.specs.declared.admission.Lock.{Lock}
use Rattle.plan_rows.specs.World.{Text, Desk, World, code_in, desk_in, plan_in}
use Rattle.plan_rows.specs.Changes.{Change, Keep, Publish, OpenDesk, SetKey, AddPlan, RemovePlan, BindPlace, SetCalendar, SetLag, apply}
use Rattle.plan_rows.specs.Views.{View, view, alone}
use Rattle.plan_desk.specs.Calls.{Call, Request, Reply, refusal, subject, writes, is_of_office, is_accepted, admits}
use Rattle.plan_desk.specs.Requests.{path_of}
use Rattle.plan_desk.specs.Stories.{IsWant, belongs}
use Rattle.plan_desk.specs.Decisions.{IsStep}
use Rattle.plan_desk.specs.Outcomes.{Outcome}
use Rattle.plan_rows.specs.Rules.{IsWorld}
use Rattle.plan_desk.specs.Replies.{reply_of}
use Rattle.plan_rows.specs.declared.rows.DeskRow.{DeskRow}
use Rattle.plan_rows.specs.Books.{Shelf, MoreFaults, Writes, Matches, IsDeskAnswer}

-- the change of rows that a decision stands for
abbrev pub change_in : rows.Change → Change
change_in made.Keep = Keep
change_in (made.Publish code kind capacity) = Publish (string_bytes code) kind capacity
change_in (made.OpenDesk name digest) = OpenDesk digest
change_in (made.SetKey digest) = SetKey digest
change_in (made.AddPlan kind name body) = AddPlan kind name.now body.now
change_in (made.RemovePlan n) = RemovePlan n
change_in (made.BindPlace n place code) = BindPlace n place (string_bytes code)
change_in (made.SetCalendar n start days) = SetCalendar n (string_bytes start) (string_bytes days)
change_in (made.SetLag n from to lag) = SetLag n from to lag

-- the desk that a change is made for: the desk on the path, or the desk that is opened
abbrev pub owner_of : Text → rows.Change → Text
owner_of path made.Keep = path
owner_of path (made.Publish code kind capacity) = path
owner_of path (made.OpenDesk name digest) = string_bytes name
owner_of path (made.SetKey digest) = path
owner_of path (made.AddPlan kind name body) = path
owner_of path (made.RemovePlan n) = path
owner_of path (made.BindPlace n place code) = path
owner_of path (made.SetCalendar n start days) = path
owner_of path (made.SetLag n from to lag) = path

-- the rows that a change needs exist
abbrev pub HasRows : Text → World → Change → Type 0
HasRows s w Keep = Unit {0}
HasRows s w (Publish code kind capacity) =
    IfSome (code_in w.published code) (λ row. row.kind ≡ kind)
HasRows s w (OpenDesk digest) = desk_in w s ≡ None
HasRows s w (SetKey digest) = IsSome (desk_in w s)
HasRows s w (AddPlan kind name body) = IsSome (desk_in w s)
HasRows s w (RemovePlan n) = IsSome (plan_in w s n)
HasRows s w (BindPlace n place code) = IsSome (plan_in w s n) × IsSome (code_in w.published code)
HasRows s w (SetCalendar n start days) = IsSome (plan_in w s n)
HasRows s w (SetLag n from to lag) = IsSome (plan_in w s n)

-- the rows that a change needs exist, and the tables keep their rules after it
abbrev pub Allows : Text → World → Change → Type 0
Allows s w c = HasRows s w c × IsWorld (apply s c w)

-- the route gives this decision in the view, and the change is for the desk of the view
pub record IsDecided (path s : Text) (Route : View → Outcome) (v : View) (d : Decision)
    : Type 0 where
  pub answer : Route v (reply_of d.reply) (change_in d.change)
  pub owner : (change_in d.change ≡ Keep) ⊎ (owner_of path d.change ≡ s)

-- The decision follows from what was found, in each view that contains it. The store is blamed only
-- for rows that break the rules of rows.
pub record MakesDecision (path s : Text) (IsSeen : View → Type 0) (Route : View → Outcome)
    (result : Result Decision BookFault) : Type 0 where
  pub decided : IfOk result (λ d. (v : View) → IsSeen v → IsDecided path s Route v d)
  pub blamed : IfErr result (λ fault. fault ≡ Store
      → (v : View) → IsSeen v → IsWorld (alone v) → ⊥)

-- the row that was read with the key of a call of a desk: the row of the desk on the path
abbrev pub IsRowFor : Call → Option DeskRow → World → Type 0
IsRowFor call row w =
    is_of_office call ≡ false → Matches IsDeskAnswer (desk_in w (path_of call)) row

-- the row of a desk, and its digest if there is a row
pub record IsLock (desk : Option Desk) (lock : Lock) : Type 0 where
  pub row : Matches IsDeskAnswer desk lock.row
  pub digest : IfSome lock.row (λ row. row.digest ≡ lock.digest)

-- whether a request has the key that its call needs, and the row that was read with the key
pub record IsAdmission (r : Request) (w : World) (admission : Admission) : Type 0 where
  pub admits : admission.is_admitted ≡ admits (view (subject r) w) r
  pub row : IsRowFor r.call admission.row w

-- the fact holds for the tables of a book, if they are readable and the disk returned what was
-- written
abbrev pub Knows : {B : Type 0} → Shelf B → B → (World → Type 0) → Type 0
Knows shelf book Is = shelf.honest book → shelf.stands book → Is (shelf.world book)

-- the reply to a request that failed with a fault of the book
abbrev pub want_of : BookFault → Reply
want_of NoMemory = refusal 503 (codes "E90 memory")
want_of Store = refusal 507 (codes "E91 store")

module _ {B : Type 0} (shelf : Shelf B) (old new : B) where
  -- nothing was written: the tables are unchanged, and a crash may leave nothing new
  pub record Quiet : Type 0 where
    pub honesty : shelf.honest new → shelf.honest old
    pub stood : shelf.honest new → shelf.stands new → shelf.stands old
    pub same : shelf.honest new → shelf.stands new → shelf.world new ≡ shelf.world old
    pub crash : shelf.honest new
        → (w : Option World) → shelf.may_leave new w → shelf.may_leave old w
    pub made : shelf.made new ≡ shelf.made old
    pub refused : shelf.refused new ≡ shelf.refused old
    -- only a counted fault closes the tables
    pub counts : shelf.faults old ≤ shelf.faults new
    pub closes : shelf.honest new → shelf.stands old
        → shelf.stands new ⊎ MoreFaults (shelf.faults old) (shelf.faults new)

  -- a fact about the rows was found, and nothing was written
  pub record Finds {X : Type 0} (Is : World → X → Type 0) (result : Result X BookFault)
      : Type 0 where
    pub quiet : Quiet
    pub found : IfOk result (λ x. shelf.honest new → shelf.stands old
        → shelf.stands new × Is (shelf.world old) x)
    pub blamed : IfErr result (λ fault. fault ≡ Store → shelf.honest new → shelf.stands old
        → shelf.can_refuse)
    -- the result is the store's refusal exactly if a call of the book was refused
    pub told : OnOk result (shelf.denials new ≡ shelf.denials old)
    pub wanted : IfErr result (λ fault. fault ≡ NoMemory → shelf.denials new ≡ shelf.denials old)
    pub denied : IfErr result (λ fault. fault ≡ Store → shelf.honest new → shelf.stands old
        → shelf.denials new ≡ shelf.denials old + 1)

  -- the route's decision for the view of a desk is found, and nothing was written
  abbrev pub Decides : (path desk : Text) → (View → Outcome) → Result Decision BookFault → Type 0
  Decides path desk Route result = Finds (λ w. IsDecided path desk Route (view desk w)) result

  -- nothing was written if nothing changes, else one writing call was made
  abbrev pub CarriesOut : {X : Type 0} → Text → Change → Result X BookFault → Type 0
  CarriesOut s Keep result =
      Quiet × (shelf.stands old → shelf.stands new) × OnErr result ⊥
      × (shelf.denials new ≡ shelf.denials old)
  CarriesOut s (Publish code kind capacity) result =
      Writes shelf old new result (apply s (Publish code kind capacity))
  CarriesOut s (OpenDesk digest) result = Writes shelf old new result (apply s (OpenDesk digest))
  CarriesOut s (SetKey digest) result = Writes shelf old new result (apply s (SetKey digest))
  CarriesOut s (AddPlan kind name body) result =
      Writes shelf old new result (apply s (AddPlan kind name body))
  CarriesOut s (RemovePlan n) result = Writes shelf old new result (apply s (RemovePlan n))
  CarriesOut s (BindPlace n place code) result =
      Writes shelf old new result (apply s (BindPlace n place code))
  CarriesOut s (SetCalendar n start days) result =
      Writes shelf old new result (apply s (SetCalendar n start days))
  CarriesOut s (SetLag n from to lag) result =
      Writes shelf old new result (apply s (SetLag n from to lag))

  -- A request was handled by a real step. An accepted command, and nothing else, made one writing
  -- call, which a crash leaves whole. No desk sees a request that isn't part of its story.
  pub record Handled (r : Request) (reply : Reply) : Type 0 where
    pub honesty : shelf.honest new → shelf.honest old
    pub stood : shelf.honest new → shelf.stands new → shelf.stands old
    -- a step, or a refusal for lack of memory or by the store that leaves the rows unchanged
    pub step : shelf.honest new
        → (shelf.stands new × IsStep (shelf.world old) r reply (shelf.world new))
        ⊎ (IsWant reply × (shelf.stands new → shelf.world new ≡ shelf.world old))
    -- an accepted command made one writing call, and a crash leaves the rows after it
    pub made : shelf.honest new → is_accepted r reply ≡ true
        → (shelf.made new ≡ shelf.made old + 1) × (shelf.refused new ≡ shelf.refused old)
    pub durable : shelf.honest new → is_accepted r reply ≡ true
        → (left : Option World) → shelf.may_leave new left → left ≡ Some (shelf.world new)
    -- anything else made none; if a writing call was refused, a crash may leave the rows that it
    -- would have made
    pub unmade : shelf.honest new → is_accepted r reply ≡ false → shelf.made new ≡ shelf.made old
    pub refused : shelf.honest new → is_accepted r reply ≡ false
        → (shelf.refused new ≡ shelf.refused old)
        ⊎ (IsWant reply × (writes r.call ≡ true) × (shelf.refused new ≡ shelf.refused old + 1))
    pub crash : shelf.honest new → is_accepted r reply ≡ false
        → (left : Option World) → shelf.may_leave new left → shelf.may_leave old left
        ⊎ (IsWant reply × (writes r.call ≡ true) × (shelf.refused new ≡ shelf.refused old + 1)
        × shelf.stands old × ((other : Reply) × (after : World)
        × IsStep (shelf.world old) r other after × (left ≡ Some after)))
    -- the store is blamed only if it can refuse
    pub store : reply ≡ want_of Store → shelf.honest new → shelf.stands old → shelf.can_refuse
    -- the reply blames the store only if the store refused one call of the book; no other reply
    -- hides such a refusal
    pub denied : reply ≡ want_of Store → shelf.honest new → shelf.stands old
        → shelf.denials new ≡ shelf.denials old + 1
    pub told : (reply ≡ want_of Store → ⊥) → shelf.denials new ≡ shelf.denials old
    -- only a counted fault of the disk closes the tables
    pub counts : shelf.faults old ≤ shelf.faults new
    pub closes : shelf.honest new → shelf.stands old
        → shelf.stands new ⊎ MoreFaults (shelf.faults old) (shelf.faults new)
    -- a desk doesn't see a request that isn't part of its story
    pub outside : shelf.honest new → shelf.stands new
        → (desk : Text) → belongs desk (view desk (shelf.world old)) r ≡ false
        → view desk (shelf.world new) ≡ view desk (shelf.world old)
