-- The change of the office that each writing statement makes (docs/definitions.md, "Tables").
use Rattle.std.specs.Prelude.{ℕ, [], ◌∷◌, ◌++◌}
use Rattle.plan_rows.specs.declared.kinds.Kind.{Kind}
use Rattle.plan_rows.specs.World.{Text, World, is_code, is_bind, is_lag}
use Rattle.plan_rows.specs.Changes.{changed, put, without, with_capacity, new_code, with_code, new_bind, with_lag, new_lag}

abbrev pub set_capacity : Text → ℕ → World → World
set_capacity code capacity w =
    record w { published = changed (is_code code) (with_capacity capacity) w.published }

abbrev pub add_code : Text → Kind → ℕ → World → World
add_code code kind capacity w =
    record w { published = w.published ++ new_code code kind capacity ∷ [] }

abbrev pub set_bind : Text → ℕ → ℕ → Text → World → World
set_bind desk n place code w =
    record w { binds = changed (is_bind desk n place) (with_code code) w.binds }

abbrev pub add_bind : Text → ℕ → ℕ → Text → World → World
add_bind desk n place code w =
    record w { binds = w.binds ++ new_bind desk n place code ∷ [] }

abbrev pub drop_lag : Text → ℕ → ℕ → ℕ → World → World
drop_lag desk n from to w = record w { lags = without (is_lag desk n from to) w.lags }

abbrev pub change_lag : Text → ℕ → ℕ → ℕ → ℕ → World → World
change_lag desk n from to lag w =
    record w { lags = changed (is_lag desk n from to) (with_lag lag) w.lags }

abbrev pub add_lag : Text → ℕ → ℕ → ℕ → ℕ → World → World
add_lag desk n from to lag w =
    record w { lags = w.lags ++ new_lag desk n from to lag ∷ [] }

-- the lag of an arc above 0, in the place of the one that it has
abbrev pub put_lag : Text → ℕ → ℕ → ℕ → ℕ → World → World
put_lag desk n from to lag w =
    record w {
      lags = put (is_lag desk n from to) (with_lag lag) (new_lag desk n from to lag) w.lags;
    }
