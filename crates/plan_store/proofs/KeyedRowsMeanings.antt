-- The meaning of each statement that lists a table, under the schema of a store.
use Rattle.std.proofs.Common.{◌≡◌, ℕ, List, [], ◌∷◌, codes, false, refl}
use Rattle.sqlite_sql.specs.Term.{col}
use Rattle.sqlite_sql.specs.Query.{Query}
use Rattle.sqlite_schema.specs.declared.command.Command.TheVariants.{Select}
use Rattle.sqlite.specs.Listing.{understood, reads_listing}
use Rattle.sqlite.proofs.Callers.{IsPlain, command_of}
use Rattle.sqlite_tied.specs.Compute.{everything}
use Rattle.plan_store.specs.Tables.{store_schema}
use Rattle.plan_store.proofs.QueryForms.{of_table, alone, by}

abbrev pub desks_text : List ℕ
desks_text = codes "SELECT desk, digest, next FROM desks ORDER BY desk, rowid"

abbrev pub desks_query : Query
desks_query = of_table 3 [] (col 1 1 ∷ col 1 2 ∷ col 1 3 ∷ []) (by 1 ∷ by 0 ∷ [])

pub desks_is : command_of (understood store_schema desks_text) ≡ Select (alone desks_query) (codes "desk" ∷ codes "digest" ∷ codes "next" ∷ [])
unfolding understood everything
desks_is = refl

pub desks_plain : IsPlain (understood store_schema desks_text)
unfolding understood everything
desks_plain = (refl, refl)

pub desks_listed : reads_listing store_schema desks_text ≡ false
unfolding understood everything
desks_listed = refl

abbrev pub plan_keys_text : List ℕ
plan_keys_text = codes "SELECT desk, n FROM plans ORDER BY desk, n, rowid"

abbrev pub plan_keys_query : Query
plan_keys_query = of_table 5 [] (col 1 1 ∷ col 1 2 ∷ []) (by 1 ∷ by 2 ∷ by 0 ∷ [])

pub plan_keys_is : command_of (understood store_schema plan_keys_text) ≡ Select (alone plan_keys_query) (codes "desk" ∷ codes "n" ∷ [])
unfolding understood everything
plan_keys_is = refl

pub plan_keys_plain : IsPlain (understood store_schema plan_keys_text)
unfolding understood everything
plan_keys_plain = (refl, refl)

pub plan_keys_listed : reads_listing store_schema plan_keys_text ≡ false
unfolding understood everything
plan_keys_listed = refl

abbrev pub all_binds_text : List ℕ
all_binds_text = codes "SELECT desk, n, place, code FROM binds ORDER BY desk, n, place, rowid"

abbrev pub all_binds_query : Query
all_binds_query = of_table 7 [] (col 1 1 ∷ col 1 2 ∷ col 1 3 ∷ col 1 4 ∷ []) (by 1 ∷ by 2 ∷ by 3 ∷ by 0 ∷ [])

pub all_binds_is : command_of (understood store_schema all_binds_text) ≡ Select (alone all_binds_query) (codes "desk" ∷ codes "n" ∷ codes "place" ∷ codes "code" ∷ [])
unfolding understood everything
all_binds_is = refl

pub all_binds_plain : IsPlain (understood store_schema all_binds_text)
unfolding understood everything
all_binds_plain = (refl, refl)

pub all_binds_listed : reads_listing store_schema all_binds_text ≡ false
unfolding understood everything
all_binds_listed = refl

abbrev pub all_lags_text : List ℕ
all_lags_text = codes "SELECT desk, n, src, dst, lag FROM lags ORDER BY desk, n, src, dst, rowid"

abbrev pub all_lags_query : Query
all_lags_query = of_table 9 [] (col 1 1 ∷ col 1 2 ∷ col 1 3 ∷ col 1 4 ∷ col 1 5 ∷ []) (by 1 ∷ by 2 ∷ by 3 ∷ by 4 ∷ by 0 ∷ [])

pub all_lags_is : command_of (understood store_schema all_lags_text) ≡ Select (alone all_lags_query) (codes "desk" ∷ codes "n" ∷ codes "src" ∷ codes "dst" ∷ codes "lag" ∷ [])
unfolding understood everything
all_lags_is = refl

pub all_lags_plain : IsPlain (understood store_schema all_lags_text)
unfolding understood everything
all_lags_plain = (refl, refl)

pub all_lags_listed : reads_listing store_schema all_lags_text ≡ false
unfolding understood everything
all_lags_listed = refl
