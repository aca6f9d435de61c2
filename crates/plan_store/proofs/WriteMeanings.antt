-- The meaning of each statement that writes, under the schema of a store.
use Rattle.std.proofs.Common.{◌≡◌, ℕ, pos, List, [], ◌∷◌, codes, refl}
use Rattle.sqlite_value.specs.declared.value.Value.TheVariants.{Null, Int, Text}
use Rattle.sqlite_sql.specs.Term.{Term, lit, col}
use Rattle.sqlite_sql.specs.Query.{Query}
use Rattle.sqlite_schema.specs.declared.command.Command.TheVariants.{Insert, Update, Delete}
use Rattle.sqlite_schema.specs.declared.command.Source.TheVariants.{Values}
use Rattle.sqlite.specs.Listing.{understood}
use Rattle.sqlite.proofs.Callers.{IsPlain, command_of}
use Rattle.sqlite_tied.specs.Compute.{everything}
use Rattle.plan_store.specs.Tables.{store_schema}
use Rattle.plan_store.proofs.QueryForms.{of_table, alone, is_given}

abbrev pub publish_text : List ℕ
publish_text = codes "INSERT INTO published (code, kind, capacity) VALUES (?1, ?2, ?3)"

abbrev pub publish_terms : List Term
publish_terms = lit Null ∷ col 0 0 ∷ col 0 1 ∷ col 0 2 ∷ []

pub publish_is : command_of (understood store_schema publish_text) ≡ Insert 1 (Values publish_terms 4)
unfolding understood everything
publish_is = refl

pub publish_plain : IsPlain (understood store_schema publish_text)
unfolding understood everything
publish_plain = (refl, refl)

abbrev pub republish_text : List ℕ
republish_text = codes "UPDATE published SET capacity = ?2 WHERE code = ?1"

abbrev pub republish_query : Query
republish_query = of_table 1 (is_given 1 0 ∷ []) (col 1 0 ∷ col 1 0 ∷ col 1 1 ∷ col 1 2 ∷ col 0 1 ∷ []) []

pub republish_is : command_of (understood store_schema republish_text) ≡ Update 1 (alone republish_query)
unfolding understood everything
republish_is = refl

pub republish_plain : IsPlain (understood store_schema republish_text)
unfolding understood everything
republish_plain = (refl, refl)

abbrev pub open_desk_text : List ℕ
open_desk_text = codes "INSERT INTO desks (desk, digest, next) VALUES (?1, ?2, 1)"

abbrev pub open_desk_terms : List Term
open_desk_terms = lit Null ∷ col 0 0 ∷ col 0 1 ∷ lit (Int (pos 1)) ∷ []

pub open_desk_is : command_of (understood store_schema open_desk_text) ≡ Insert 2 (Values open_desk_terms 4)
unfolding understood everything
open_desk_is = refl

pub open_desk_plain : IsPlain (understood store_schema open_desk_text)
unfolding understood everything
open_desk_plain = (refl, refl)

abbrev pub set_key_text : List ℕ
set_key_text = codes "UPDATE desks SET digest = ?2 WHERE desk = ?1"

abbrev pub set_key_query : Query
set_key_query = of_table 3 (is_given 1 0 ∷ []) (col 1 0 ∷ col 1 0 ∷ col 1 1 ∷ col 0 1 ∷ col 1 3 ∷ []) []

pub set_key_is : command_of (understood store_schema set_key_text) ≡ Update 2 (alone set_key_query)
unfolding understood everything
set_key_is = refl

pub set_key_plain : IsPlain (understood store_schema set_key_text)
unfolding understood everything
set_key_plain = (refl, refl)

abbrev pub raise_text : List ℕ
raise_text = codes "UPDATE desks SET next = ?6 WHERE desk = ?1"

abbrev pub raise_query : Query
raise_query = of_table 3 (is_given 1 0 ∷ []) (col 1 0 ∷ col 1 0 ∷ col 1 1 ∷ col 1 2 ∷ col 0 5 ∷ []) []

pub raise_is : command_of (understood store_schema raise_text) ≡ Update 2 (alone raise_query)
unfolding understood everything
raise_is = refl

pub raise_plain : IsPlain (understood store_schema raise_text)
unfolding understood everything
raise_plain = (refl, refl)

abbrev pub add_plan_text : List ℕ
add_plan_text = codes "INSERT INTO plans (desk, n, kind, name, body, start, days) VALUES (?1, ?2, ?3, ?4, ?5, '', '')"

abbrev pub add_plan_terms : List Term
add_plan_terms = lit Null ∷ col 0 0 ∷ col 0 1 ∷ col 0 2 ∷ col 0 3 ∷ col 0 4 ∷ lit (Text []) ∷ lit (Text []) ∷ []

pub add_plan_is : command_of (understood store_schema add_plan_text) ≡ Insert 3 (Values add_plan_terms 8)
unfolding understood everything
add_plan_is = refl

pub add_plan_plain : IsPlain (understood store_schema add_plan_text)
unfolding understood everything
add_plan_plain = (refl, refl)

abbrev pub set_calendar_text : List ℕ
set_calendar_text = codes "UPDATE plans SET start = ?3, days = ?4 WHERE desk = ?1 AND n = ?2"

abbrev pub set_calendar_query : Query
set_calendar_query = of_table 5 (is_given 1 0 ∷ is_given 2 1 ∷ []) (col 1 0 ∷ col 1 0 ∷ col 1 1 ∷ col 1 2 ∷ col 1 3 ∷ col 1 4 ∷ col 1 5 ∷ col 0 2 ∷ col 0 3 ∷ []) []

pub set_calendar_is : command_of (understood store_schema set_calendar_text) ≡ Update 3 (alone set_calendar_query)
unfolding understood everything
set_calendar_is = refl

pub set_calendar_plain : IsPlain (understood store_schema set_calendar_text)
unfolding understood everything
set_calendar_plain = (refl, refl)

abbrev pub remove_plan_text : List ℕ
remove_plan_text = codes "DELETE FROM plans WHERE desk = ?1 AND n = ?2"

abbrev pub remove_plan_query : Query
remove_plan_query = of_table 5 (is_given 1 0 ∷ is_given 2 1 ∷ []) (col 1 0 ∷ []) []

pub remove_plan_is : command_of (understood store_schema remove_plan_text) ≡ Delete 3 (alone remove_plan_query)
unfolding understood everything
remove_plan_is = refl

pub remove_plan_plain : IsPlain (understood store_schema remove_plan_text)
unfolding understood everything
remove_plan_plain = (refl, refl)

abbrev pub remove_binds_text : List ℕ
remove_binds_text = codes "DELETE FROM binds WHERE desk = ?1 AND n = ?2"

abbrev pub remove_binds_query : Query
remove_binds_query = of_table 7 (is_given 1 0 ∷ is_given 2 1 ∷ []) (col 1 0 ∷ []) []

pub remove_binds_is : command_of (understood store_schema remove_binds_text) ≡ Delete 4 (alone remove_binds_query)
unfolding understood everything
remove_binds_is = refl

pub remove_binds_plain : IsPlain (understood store_schema remove_binds_text)
unfolding understood everything
remove_binds_plain = (refl, refl)

abbrev pub remove_lags_text : List ℕ
remove_lags_text = codes "DELETE FROM lags WHERE desk = ?1 AND n = ?2"

abbrev pub remove_lags_query : Query
remove_lags_query = of_table 9 (is_given 1 0 ∷ is_given 2 1 ∷ []) (col 1 0 ∷ []) []

pub remove_lags_is : command_of (understood store_schema remove_lags_text) ≡ Delete 5 (alone remove_lags_query)
unfolding understood everything
remove_lags_is = refl

pub remove_lags_plain : IsPlain (understood store_schema remove_lags_text)
unfolding understood everything
remove_lags_plain = (refl, refl)

abbrev pub bind_text : List ℕ
bind_text = codes "INSERT INTO binds (desk, n, place, code) VALUES (?1, ?2, ?3, ?4)"

abbrev pub bind_terms : List Term
bind_terms = lit Null ∷ col 0 0 ∷ col 0 1 ∷ col 0 2 ∷ col 0 3 ∷ []

pub bind_is : command_of (understood store_schema bind_text) ≡ Insert 4 (Values bind_terms 5)
unfolding understood everything
bind_is = refl

pub bind_plain : IsPlain (understood store_schema bind_text)
unfolding understood everything
bind_plain = (refl, refl)

abbrev pub rebind_text : List ℕ
rebind_text = codes "UPDATE binds SET code = ?4 WHERE desk = ?1 AND n = ?2 AND place = ?3"

abbrev pub rebind_query : Query
rebind_query = of_table 7 (is_given 1 0 ∷ is_given 2 1 ∷ is_given 3 2 ∷ []) (col 1 0 ∷ col 1 0 ∷ col 1 1 ∷ col 1 2 ∷ col 1 3 ∷ col 0 3 ∷ []) []

pub rebind_is : command_of (understood store_schema rebind_text) ≡ Update 4 (alone rebind_query)
unfolding understood everything
rebind_is = refl

pub rebind_plain : IsPlain (understood store_schema rebind_text)
unfolding understood everything
rebind_plain = (refl, refl)

abbrev pub set_lag_text : List ℕ
set_lag_text = codes "INSERT INTO lags (desk, n, src, dst, lag) VALUES (?1, ?2, ?3, ?4, ?5)"

abbrev pub set_lag_terms : List Term
set_lag_terms = lit Null ∷ col 0 0 ∷ col 0 1 ∷ col 0 2 ∷ col 0 3 ∷ col 0 4 ∷ []

pub set_lag_is : command_of (understood store_schema set_lag_text) ≡ Insert 5 (Values set_lag_terms 6)
unfolding understood everything
set_lag_is = refl

pub set_lag_plain : IsPlain (understood store_schema set_lag_text)
unfolding understood everything
set_lag_plain = (refl, refl)

abbrev pub reset_lag_text : List ℕ
reset_lag_text = codes "UPDATE lags SET lag = ?5 WHERE desk = ?1 AND n = ?2 AND src = ?3 AND dst = ?4"

abbrev pub reset_lag_query : Query
reset_lag_query = of_table 9 (is_given 1 0 ∷ is_given 2 1 ∷ is_given 3 2 ∷ is_given 4 3 ∷ []) (col 1 0 ∷ col 1 0 ∷ col 1 1 ∷ col 1 2 ∷ col 1 3 ∷ col 1 4 ∷ col 0 4 ∷ []) []

pub reset_lag_is : command_of (understood store_schema reset_lag_text) ≡ Update 5 (alone reset_lag_query)
unfolding understood everything
reset_lag_is = refl

pub reset_lag_plain : IsPlain (understood store_schema reset_lag_text)
unfolding understood everything
reset_lag_plain = (refl, refl)

abbrev pub remove_lag_text : List ℕ
remove_lag_text = codes "DELETE FROM lags WHERE desk = ?1 AND n = ?2 AND src = ?3 AND dst = ?4"

abbrev pub remove_lag_query : Query
remove_lag_query = of_table 9 (is_given 1 0 ∷ is_given 2 1 ∷ is_given 3 2 ∷ is_given 4 3 ∷ []) (col 1 0 ∷ []) []

pub remove_lag_is : command_of (understood store_schema remove_lag_text) ≡ Delete 5 (alone remove_lag_query)
unfolding understood everything
remove_lag_is = refl

pub remove_lag_plain : IsPlain (understood store_schema remove_lag_text)
unfolding understood everything
remove_lag_plain = (refl, refl)
