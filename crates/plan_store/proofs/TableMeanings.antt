-- The meaning of each statement that reads a whole table, under the schemas of both layouts.
use Rattle.std.proofs.Common.{◌≡◌, ℕ, List, [], ◌∷◌, codes, refl}
use Rattle.sqlite_sql.specs.Term.{col}
use Rattle.sqlite_sql.specs.Query.{Query}
use Rattle.sqlite_schema.specs.declared.command.Command.TheVariants.{Select}
use Rattle.sqlite.specs.Listing.{understood}
use Rattle.sqlite_tied.specs.Compute.{everything}
use Rattle.plan_store.specs.declared.layout.Layout.{Layout}
use Rattle.plan_store.specs.declared.layout.Layout.TheVariants.{First, Second}
use Rattle.plan_store.specs.QueryEffect.{meaning_under, IsQueryUnder}
use Rattle.plan_store.specs.Layouts.{schema_of}
use Rattle.plan_store.proofs.QueryForms.{of_table, alone, by}

abbrev pub meta_text : List ℕ
meta_text = codes "SELECT id, version, office FROM meta ORDER BY rowid"

abbrev pub meta_query : Query
meta_query = of_table 0 [] (col 1 0 ∷ col 1 2 ∷ col 1 3 ∷ []) (by 0 ∷ [])

pub meta_is : (layout : Layout) → meaning_under (schema_of layout) meta_text ≡ Select (alone meta_query) (codes "id" ∷ codes "version" ∷ codes "office" ∷ [])
unfolding understood everything
meta_is First = refl
meta_is Second = refl

pub meta_asks : (layout : Layout) → IsQueryUnder (schema_of layout) meta_text
unfolding understood everything
meta_asks First = record { plain = (refl, refl); ours = refl }
meta_asks Second = record { plain = (refl, refl); ours = refl }

abbrev pub codes_text : List ℕ
codes_text = codes "SELECT code, kind, capacity FROM published ORDER BY rowid"

abbrev pub codes_query : Query
codes_query = of_table 1 [] (col 1 1 ∷ col 1 2 ∷ col 1 3 ∷ []) (by 0 ∷ [])

pub codes_is : (layout : Layout) → meaning_under (schema_of layout) codes_text ≡ Select (alone codes_query) (codes "code" ∷ codes "kind" ∷ codes "capacity" ∷ [])
unfolding understood everything
codes_is First = refl
codes_is Second = refl

pub codes_asks : (layout : Layout) → IsQueryUnder (schema_of layout) codes_text
unfolding understood everything
codes_asks First = record { plain = (refl, refl); ours = refl }
codes_asks Second = record { plain = (refl, refl); ours = refl }

abbrev pub desks_text : List ℕ
desks_text = codes "SELECT desk, digest, next FROM desks ORDER BY rowid"

abbrev pub desks_query : Query
desks_query = of_table 3 [] (col 1 1 ∷ col 1 2 ∷ col 1 3 ∷ []) (by 0 ∷ [])

pub desks_is : (layout : Layout) → meaning_under (schema_of layout) desks_text ≡ Select (alone desks_query) (codes "desk" ∷ codes "digest" ∷ codes "next" ∷ [])
unfolding understood everything
desks_is First = refl
desks_is Second = refl

pub desks_asks : (layout : Layout) → IsQueryUnder (schema_of layout) desks_text
unfolding understood everything
desks_asks First = record { plain = (refl, refl); ours = refl }
desks_asks Second = record { plain = (refl, refl); ours = refl }

abbrev pub plans_text : List ℕ
plans_text = codes "SELECT desk, n, kind, name, body, start, days FROM plans ORDER BY rowid"

abbrev pub plans_query : Query
plans_query = of_table 5 [] (col 1 1 ∷ col 1 2 ∷ col 1 3 ∷ col 1 4 ∷ col 1 5 ∷ col 1 6 ∷ col 1 7 ∷ []) (by 0 ∷ [])

pub plans_is : (layout : Layout) → meaning_under (schema_of layout) plans_text ≡ Select (alone plans_query)
    (codes "desk" ∷ codes "n" ∷ codes "kind" ∷ codes "name" ∷ codes "body" ∷ codes "start" ∷ codes "days"
    ∷ [])
unfolding understood everything
plans_is First = refl
plans_is Second = refl

pub plans_asks : (layout : Layout) → IsQueryUnder (schema_of layout) plans_text
unfolding understood everything
plans_asks First = record { plain = (refl, refl); ours = refl }
plans_asks Second = record { plain = (refl, refl); ours = refl }

abbrev pub binds_text : List ℕ
binds_text = codes "SELECT desk, n, place, code FROM binds ORDER BY rowid"

abbrev pub binds_query : Query
binds_query = of_table 7 [] (col 1 1 ∷ col 1 2 ∷ col 1 3 ∷ col 1 4 ∷ []) (by 0 ∷ [])

pub binds_is : (layout : Layout) → meaning_under (schema_of layout) binds_text ≡ Select (alone binds_query) (codes "desk" ∷ codes "n" ∷ codes "place" ∷ codes "code" ∷ [])
unfolding understood everything
binds_is First = refl
binds_is Second = refl

pub binds_asks : (layout : Layout) → IsQueryUnder (schema_of layout) binds_text
unfolding understood everything
binds_asks First = record { plain = (refl, refl); ours = refl }
binds_asks Second = record { plain = (refl, refl); ours = refl }

abbrev pub lags_text : List ℕ
lags_text = codes "SELECT desk, n, src, dst, lag FROM lags ORDER BY rowid"

abbrev pub lags_query : Query
lags_query = of_table 9 [] (col 1 1 ∷ col 1 2 ∷ col 1 3 ∷ col 1 4 ∷ col 1 5 ∷ []) (by 0 ∷ [])

pub lags_is : meaning_under (schema_of Second) lags_text ≡ Select (alone lags_query) (codes "desk" ∷ codes "n" ∷ codes "src" ∷ codes "dst" ∷ codes "lag" ∷ [])
unfolding understood everything
lags_is = refl

pub lags_asks : IsQueryUnder (schema_of Second) lags_text
unfolding understood everything
lags_asks = record { plain = (refl, refl); ours = refl }
