-- From the rows that are read from each table to the rows of all tables, or to no office.
use Rattle.std.proofs.Common.{◌≡◌, inl, inr, ℤ, [], map, Some, None, Vec, Global, sym, ap, ◌∙◌}
use Rattle.sqlite.specs.Effect.{Database}
use Rattle.plan_rows.specs.declared.rows.CodeRow.{CodeRow}
use Rattle.plan_rows.specs.declared.tables.records.DeskRecord.{DeskRecord}
use Rattle.plan_rows.specs.declared.tables.records.BindRecord.{BindRecord}
use Rattle.plan_rows.specs.declared.tables.records.LagRecord.{LagRecord}
use Rattle.plan_rows.specs.Tables.{lag_kept}
use Rattle.plan_rows.specs.World.{Digest}
use Rattle.plan_store.specs.declared.layout.Layout.{Layout}
use Rattle.plan_store.specs.declared.untrusted_tables.OtherRows.{OtherRows}
use Rattle.plan_store.specs.declared.layout.Layout.TheVariants.{First, Second}
use Rattle.plan_store.specs.Rows.{office_in}
use Rattle.plan_store.specs.Stores.{world_of}
use Rattle.plan_store.specs.Layouts.{world_in, KeepsLags, IsOfficeAt}
use Rattle.plan_store.specs.TableTests.{HoldsOthers, world_others}
use Rattle.plan_store.specs.UntrustedRows.{TakesMeta, TakesCodes, TakesDesks, TakesBinds, TakesLags, TakesBoth}
use Rattle.plan_store.proofs.CodecLemmas.{digest_back}
use Rattle.plan_store.proofs.HoldsLemmas.{codes_hold, desks_hold, binds_hold, lags_hold}

-- ---- no office

pub no_meta : (layout : Layout) (db : Database) → TakesMeta (db.trees 0) None → (version : ℤ) → IsOfficeAt layout version db → ⊥
no_meta First db none version it = none version (world_of db.trees).office it.rules.office it.meta
no_meta Second db none version it = none version (world_of db.trees).office it.rules.office it.meta

no_codes : (layout : Layout) (db : Database) → TakesCodes db.trees None → (version : ℤ) → IsOfficeAt layout version db → ⊥
no_codes First db none version it = none it.published (codes_hold (world_in First db.trees) it.rules it.names)
no_codes Second db none version it = none it.published (codes_hold (world_in Second db.trees) it.rules it.names)

no_desks : (layout : Layout) (db : Database) → TakesDesks db.trees None → (version : ℤ) → IsOfficeAt layout version db → ⊥
no_desks First db none version it = none it.desks (desks_hold (world_in First db.trees) it.rules it.names)
no_desks Second db none version it = none it.desks (desks_hold (world_in Second db.trees) it.rules it.names)

no_binds : (layout : Layout) (db : Database) → TakesBinds db.trees None → (version : ℤ) → IsOfficeAt layout version db → ⊥
no_binds First db none version it = none it.binds (binds_hold (world_in First db.trees) it.rules it.names)
no_binds Second db none version it = none it.binds (binds_hold (world_in Second db.trees) it.rules it.names)

no_lags : (layout : Layout) (db : Database) → TakesLags layout db.trees None → (version : ℤ) → IsOfficeAt layout version db → ⊥
no_lags First db none version it = cc
no_lags Second db none version it = none it.lags (lags_hold (world_in Second db.trees) it.rules it.names)

pub no_open : (layout : Layout) (db : Database) → TakesBoth (TakesCodes db.trees) (TakesDesks db.trees) None → (version : ℤ) → IsOfficeAt layout version db → ⊥
no_open layout db (inl none) = no_codes layout db none
no_open layout db (inr none) = no_desks layout db none

pub no_placed : (layout : Layout) (db : Database) → TakesBoth (TakesBinds db.trees) (TakesLags layout db.trees) None → (version : ℤ) → IsOfficeAt layout version db → ⊥
no_placed layout db (inl none) = no_binds layout db none
no_placed layout db (inr none) = no_lags layout db none

-- ---- all rows

module _ (db : Database) (version : ℤ) (office : Digest) (meta : TakesMeta (db.trees 0) (Some (version, office))) where
  office_is : office ≡ (world_of db.trees).office
  office_is = sym (ap office_in meta.0 ∙ digest_back office meta.1)

  module _ (codes : Vec CodeRow Global) (desks : Vec DeskRecord Global) (binds : Vec BindRecord Global) (lags : Vec LagRecord Global)
      (published : TakesCodes db.trees (Some codes)) (opened : TakesDesks db.trees (Some desks)) (bound : TakesBinds db.trees (Some binds)) where
    abbrev taken : OtherRows
    taken = record { version = version; office = office; published = codes; desks = desks; binds = binds; lags = lags }

    same_world : (layout : Layout) → TakesLags layout db.trees (Some lags) → world_others taken (world_in layout db.trees).plans ≡ world_in layout db.trees
    same_world First lagged =
        let none : map lag_kept lags.items ≡ [] = cc in
        λ i. record { office = office_is i; published = published.1 i; desks = opened.1 i; plans = (world_of db.trees).plans; binds = bound.1 i; lags = none i }
    same_world Second lagged =
        λ i. record { office = office_is i; published = published.1 i; desks = opened.1 i; plans = (world_of db.trees).plans; binds = bound.1 i; lags = lagged.1 i }

    keeps_lags : (layout : Layout) → TakesLags layout db.trees (Some lags) → KeepsLags layout db.trees
    keeps_lags First lagged = tt
    keeps_lags Second lagged = lagged.0

    pub all_others : (layout : Layout) → TakesLags layout db.trees (Some lags) → HoldsOthers layout db taken
    all_others layout lagged = record {
      meta = meta.0;
      published = published.0;
      desks = opened.0;
      binds = bound.0;
      lags = keeps_lags layout lagged;
      world = same_world layout lagged;
    }
