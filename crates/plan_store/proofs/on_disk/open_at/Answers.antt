use Rattle.std.proofs.Common.{ℕ, Bool, cond, List, ap₂, subst}
use Rattle.sqlite_disk.specs.Events.{Event, replay}
use Rattle.sqlite_wal.specs.Recovery.{Image}
use Rattle.sqlite.specs.Files.{file_state}
use Rattle.sqlite.specs.Start.{FindsIn}
use Rattle.plan_store.proofs.TransactionLemmas.{mapped_if_ok}
use Rattle.plan_store.proofs.FoundLemmas.{in_order, both_if_ok}
use Rattle.plan_store.proofs.on_disk.open_at.Goals as goal

abbrev image : List ℕ → List ℕ → Image
image log db = record { log = log; db = db }

abbrev seen : List ℕ → List ℕ → Bool → List Event → List ℕ
seen log db is_log history = (replay (cond is_log log db) history).seen

pub returns-clause-found : goal.returns-clause-found
returns-clause-found g c = mapped_if_ok c.open_files.result c.map_err.result _ _ _ c.map_err.ensures.cases c.open_files.ensures.found (λ conn opened clean.
    let (log, db) = c.in_ok-files.ensures.fresh in
    let found = opened clean in
    let same = ap₂ image (ap₂ (seen g.F.Start.log g.F.Start.db) log.0 log.1) (ap₂ (seen g.F.Start.log g.F.Start.db) db.0 db.1) in
    subst (λ i. FindsIn i (file_state conn)) same (record { holds = found.holds; reads = found.reads }))

pub returns-clause-in_order : goal.returns-clause-in_order
returns-clause-in_order g c = mapped_if_ok c.open_files.result c.map_err.result _ _ _ c.map_err.ensures.cases
    (both_if_ok c.open_files.result _ _ c.open_files.ensures.found c.open_files.ensures.opened)
    (λ conn both clean. in_order _ (file_state conn) (both.0 clean).reads (both.1 clean).0 (both.1 clean).1)
