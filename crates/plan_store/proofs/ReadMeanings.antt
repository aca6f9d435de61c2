-- The meaning of each statement that reads, under the schema of a store.
use Rattle.std.proofs.Common.{◌≡◌, ℕ, List, [], ◌∷◌, codes, false, refl}
use Rattle.sqlite_sql.specs.Term.{col}
use Rattle.sqlite_sql.specs.Query.{Query}
use Rattle.sqlite_schema.specs.declared.command.Command.TheVariants.{Select}
use Rattle.sqlite.specs.Listing.{understood, reads_listing}
use Rattle.sqlite.proofs.Callers.{IsPlain, command_of}
use Rattle.sqlite_tied.specs.Compute.{everything}
use Rattle.plan_store.specs.Tables.{store_schema}
use Rattle.plan_store.proofs.QueryForms.{of_table, alone, is_given, by}

abbrev pub office_text : List ℕ
office_text = codes "SELECT office FROM meta ORDER BY rowid"

abbrev pub office_query : Query
office_query = of_table 0 ([]) (col 1 3 ∷ []) (by 0 ∷ [])

pub office_is : command_of (understood store_schema office_text) ≡ Select (alone office_query) (codes "office" ∷ [])
unfolding understood everything
office_is = refl

pub office_plain : IsPlain (understood store_schema office_text)
unfolding understood everything
office_plain = (refl, refl)

pub office_listed : reads_listing store_schema office_text ≡ false
unfolding understood everything
office_listed = refl

abbrev pub desk_text : List ℕ
desk_text = codes "SELECT digest, next FROM desks WHERE desk = ?1 ORDER BY rowid"

abbrev pub desk_query : Query
desk_query = of_table 3 (is_given 1 0 ∷ []) (col 1 2 ∷ col 1 3 ∷ []) (by 0 ∷ [])

pub desk_is : command_of (understood store_schema desk_text) ≡ Select (alone desk_query) (codes "digest" ∷ codes "next" ∷ [])
unfolding understood everything
desk_is = refl

pub desk_plain : IsPlain (understood store_schema desk_text)
unfolding understood everything
desk_plain = (refl, refl)

pub desk_listed : reads_listing store_schema desk_text ≡ false
unfolding understood everything
desk_listed = refl

abbrev pub capacity_text : List ℕ
capacity_text = codes "SELECT kind, capacity FROM published WHERE code = ?1 ORDER BY rowid"

abbrev pub capacity_query : Query
capacity_query = of_table 1 (is_given 1 0 ∷ []) (col 1 2 ∷ col 1 3 ∷ []) (by 0 ∷ [])

pub capacity_is : command_of (understood store_schema capacity_text) ≡ Select (alone capacity_query) (codes "kind" ∷ codes "capacity" ∷ [])
unfolding understood everything
capacity_is = refl

pub capacity_plain : IsPlain (understood store_schema capacity_text)
unfolding understood everything
capacity_plain = (refl, refl)

pub capacity_listed : reads_listing store_schema capacity_text ≡ false
unfolding understood everything
capacity_listed = refl

abbrev pub capacities_text : List ℕ
capacities_text = codes "SELECT code, kind, capacity FROM published ORDER BY code, rowid"

abbrev pub capacities_query : Query
capacities_query = of_table 1 ([]) (col 1 1 ∷ col 1 2 ∷ col 1 3 ∷ []) (by 1 ∷ by 0 ∷ [])

pub capacities_is : command_of (understood store_schema capacities_text) ≡ Select (alone capacities_query) (codes "code" ∷ codes "kind" ∷ codes "capacity" ∷ [])
unfolding understood everything
capacities_is = refl

pub capacities_plain : IsPlain (understood store_schema capacities_text)
unfolding understood everything
capacities_plain = (refl, refl)

pub capacities_listed : reads_listing store_schema capacities_text ≡ false
unfolding understood everything
capacities_listed = refl

abbrev pub plan_text : List ℕ
plan_text = codes "SELECT kind, name, body, start, days FROM plans WHERE desk = ?1 AND n = ?2 ORDER BY rowid"

abbrev pub plan_query : Query
plan_query = of_table 5 (is_given 1 0 ∷ is_given 2 1 ∷ []) (col 1 3 ∷ col 1 4 ∷ col 1 5 ∷ col 1 6 ∷ col 1 7 ∷ []) (by 0 ∷ [])

pub plan_is : command_of (understood store_schema plan_text) ≡ Select (alone plan_query) (codes "kind" ∷ codes "name" ∷ codes "body" ∷ codes "start" ∷ codes "days" ∷ [])
unfolding understood everything
plan_is = refl

pub plan_plain : IsPlain (understood store_schema plan_text)
unfolding understood everything
plan_plain = (refl, refl)

pub plan_listed : reads_listing store_schema plan_text ≡ false
unfolding understood everything
plan_listed = refl

abbrev pub binds_text : List ℕ
binds_text = codes "SELECT place, code FROM binds WHERE desk = ?1 AND n = ?2 ORDER BY place, rowid"

abbrev pub binds_query : Query
binds_query = of_table 7 (is_given 1 0 ∷ is_given 2 1 ∷ []) (col 1 3 ∷ col 1 4 ∷ []) (by 3 ∷ by 0 ∷ [])

pub binds_is : command_of (understood store_schema binds_text) ≡ Select (alone binds_query) (codes "place" ∷ codes "code" ∷ [])
unfolding understood everything
binds_is = refl

pub binds_plain : IsPlain (understood store_schema binds_text)
unfolding understood everything
binds_plain = (refl, refl)

pub binds_listed : reads_listing store_schema binds_text ≡ false
unfolding understood everything
binds_listed = refl

abbrev pub lags_text : List ℕ
lags_text = codes "SELECT src, dst, lag FROM lags WHERE desk = ?1 AND n = ?2 ORDER BY src, dst, rowid"

abbrev pub lags_query : Query
lags_query = of_table 9 (is_given 1 0 ∷ is_given 2 1 ∷ []) (col 1 3 ∷ col 1 4 ∷ col 1 5 ∷ []) (by 3 ∷ by 4 ∷ by 0 ∷ [])

pub lags_is : command_of (understood store_schema lags_text) ≡ Select (alone lags_query) (codes "src" ∷ codes "dst" ∷ codes "lag" ∷ [])
unfolding understood everything
lags_is = refl

pub lags_plain : IsPlain (understood store_schema lags_text)
unfolding understood everything
lags_plain = (refl, refl)

pub lags_listed : reads_listing store_schema lags_text ≡ false
unfolding understood everything
lags_listed = refl

abbrev pub known_text : List ℕ
known_text = codes "SELECT code FROM published WHERE code = ?1 ORDER BY rowid"

abbrev pub known_query : Query
known_query = of_table 1 (is_given 1 0 ∷ []) (col 1 1 ∷ []) (by 0 ∷ [])

pub known_is : command_of (understood store_schema known_text) ≡ Select (alone known_query) (codes "code" ∷ [])
unfolding understood everything
known_is = refl

pub known_plain : IsPlain (understood store_schema known_text)
unfolding understood everything
known_plain = (refl, refl)

pub known_listed : reads_listing store_schema known_text ≡ false
unfolding understood everything
known_listed = refl

abbrev pub bound_text : List ℕ
bound_text = codes "SELECT code FROM binds WHERE desk = ?1 AND n = ?2 AND place = ?3 ORDER BY rowid"

abbrev pub bound_query : Query
bound_query = of_table 7 (is_given 1 0 ∷ is_given 2 1 ∷ is_given 3 2 ∷ []) (col 1 4 ∷ []) (by 0 ∷ [])

pub bound_is : command_of (understood store_schema bound_text) ≡ Select (alone bound_query) (codes "code" ∷ [])
unfolding understood everything
bound_is = refl

pub bound_plain : IsPlain (understood store_schema bound_text)
unfolding understood everything
bound_plain = (refl, refl)

pub bound_listed : reads_listing store_schema bound_text ≡ false
unfolding understood everything
bound_listed = refl

abbrev pub lagged_text : List ℕ
lagged_text = codes "SELECT lag FROM lags WHERE desk = ?1 AND n = ?2 AND src = ?3 AND dst = ?4 ORDER BY rowid"

abbrev pub lagged_query : Query
lagged_query = of_table 9 (is_given 1 0 ∷ is_given 2 1 ∷ is_given 3 2 ∷ is_given 4 3 ∷ []) (col 1 5 ∷ []) (by 0 ∷ [])

pub lagged_is : command_of (understood store_schema lagged_text) ≡ Select (alone lagged_query) (codes "lag" ∷ [])
unfolding understood everything
lagged_is = refl

pub lagged_plain : IsPlain (understood store_schema lagged_text)
unfolding understood everything
lagged_plain = (refl, refl)

pub lagged_listed : reads_listing store_schema lagged_text ≡ false
unfolding understood everything
lagged_listed = refl
