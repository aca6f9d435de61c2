-- The turns in which no connection could be accepted.
use Rattle.std.proofs.Common.{◌≡◌, ◌≤◌, ◌+◌, ℕ, List, [], ◌∷◌, Option, Result, Ok, Err, OnOk, ap, arith}
use Rattle.plan_io.specs.declared.traits.DeviceFault.{DeviceFault}
use Rattle.plan_rows.specs.World.{Text}
use Rattle.plan_rows.specs.Books.{Shelf}
use Rattle.plan_http.specs.declared.connection.ConnEnd.{ConnEnd}
use Rattle.plan_http.specs.Clients.{Known}
use Rattle.plan_door.specs.Turns.{Turn, missed, visited, misses_in, AreVisited, Visiting}

module _ {V R W : Type 0} (known : R → Known) (taken : W → Option Text)
    (Admits : V → V → Result (R × W) DeviceFault → Type 0) (Dismisses : V → V → R → W → ConnEnd → Type 0) (failures : V → ℕ)
    (admitted : (old new : V) (r : Result (R × W) DeviceFault) → Admits old new r
    → (failures new ≤ failures old + 1) × OnOk r (failures new ≤ failures old))
    (dismissed : (old new : V) (reader : R) (writer : W) (e : ConnEnd) → Dismisses old new reader writer e → failures new ≡ failures old) where
  failed_in : (came went : V) (turns : List Turn) → AreVisited known taken Admits Dismisses came turns went
      → failures went ≤ failures came + misses_in turns
  failed_in came went [] same = omega (arith, ap failures same)
  failed_in came went (missed ∷ turns) (between, (e, admits), rest) =
      let first = admitted came between (Err e) admits in
      omega (arith, first.0, failed_in between went turns rest)
  failed_in came went (visited v ∷ turns) (between, visit, rest) =
      let first = admitted came visit.between (Ok (visit.reader, visit.writer)) visit.admitted in
      let same = dismissed visit.between between visit.heard visit.told v.ending visit.dismissed in
      omega (arith, first.1, same, failed_in between went turns rest)

-- failures are counted in turns that brought no connection, at most one in each
pub failed_in_turns : {V R W B : Type 0} {known : R → Known} {taken : W → Option Text}
    {Admits : V → V → Result (R × W) DeviceFault → Type 0} {Dismisses : V → V → R → W → ConnEnd → Type 0}
    {shelf : Shelf B} {old new : B} {came went : V} {count : ℕ}
    (visiting : Visiting known taken Admits Dismisses shelf old new came went count) (failures : V → ℕ)
    → ((old new : V) (r : Result (R × W) DeviceFault) → Admits old new r
    → (failures new ≤ failures old + 1) × OnOk r (failures new ≤ failures old))
    → ((old new : V) (reader : R) (writer : W) (e : ConnEnd) → Dismisses old new reader writer e → failures new ≡ failures old)
    → failures went ≤ failures came + misses_in visiting.turns
failed_in_turns {known = known} {taken = taken} {Admits = Admits} {Dismisses = Dismisses} {came = came} {went = went} visiting failures admitted dismissed =
    failed_in known taken Admits Dismisses failures admitted dismissed came went visiting.turns visiting.visits
