-- The words for the predecessors of activities: ids, and `A+2` for a wait of 2 behind A
-- (docs/definitions.md, "Tables and charts").
use Rattle.std.specs.Prelude.{ℕ, ◌-◌, if◌then◌else◌, List, [], ◌++◌, Option, Some, None}
use Rattle.std.specs.Prelude.{codes, decimal, map, option_map}
use Rattle.std.specs.List.{range_with_len}
use Rattle.plan_net.specs.Network.{Net, count_of, duration_of}
use Rattle.plan_table.specs.Names.{Name, first_name}
use Rattle.plan_report.specs.IdSheets.{first_behind}
use Rattle.plan_report.specs.Waits.{is_wait, only_predecessor}
use Rattle.plan_views.specs.declared.predecessors.PredecessorWord as declared

-- an id with a lag behind it, such as `A+2`; empty if there is no id
abbrev pub with_lag : Option (List ℕ) → ℕ → List ℕ
with_lag None lag = []
with_lag (Some id) lag = id ++ codes "+" ++ decimal lag

-- the id of a predecessor, with a lag behind it; empty if there is no predecessor
abbrev pub lag_word : List Name → Option ℕ → ℕ → List ℕ
lag_word ids None lag = []
lag_word ids (Some i) lag = with_lag (option_map (λ id. id.name) (first_name i ids)) lag

-- the word for a wait: the id of its predecessor, and its duration as lag
abbrev pub wait_word : List Name → Net → ℕ → List ℕ
wait_word ids net j = lag_word ids (only_predecessor net j) (duration_of net j)

-- the word for an activity behind the rows, empty if it is no wait
abbrev pub text_behind : List Name → Net → ℕ → ℕ → List ℕ
text_behind ids net behind j = if is_wait behind net j then wait_word ids net j else []

-- the same, with the number of the activity
abbrev pub word_behind : List Name → Net → ℕ → ℕ → Name
word_behind ids net behind j = record { number = j; name = text_behind ids net behind j }

abbrev pub words_from : List Name → Net → ℕ → List Name
words_from ids net behind =
    map (word_behind ids net behind) (range_with_len behind (count_of net - behind))

-- the words for activities: their ids, and behind them those for the waits
unfoldable pub predecessor_words : List Name → Net → List Name
predecessor_words ids net = ids ++ words_from ids net (first_behind ids net)

-- a word by the number of its activity, as the program keeps it
abbrev pub word_of : declared.PredecessorWord → Name
word_of w = record { number = w.number; name = w.word.items }
