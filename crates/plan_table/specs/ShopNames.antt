-- The names in a job shop file: plus lines of an instance before its description.
use Rattle.std.specs.Prelude.{◌≡◌, ℕ, if◌then◌else◌, List, [], ◌∷◌, codes, not}
use Rattle.std.specs.List.{filter_map}
use Rattle.plan_psplib.specs.Lines.{NumberedLine, lines}
use Rattle.plan_psplib.specs.Streams.{before_end}
use Rattle.plan_orlib.specs.Instances.{instance_name, is_before_description, is_name}
use Rattle.plan_table.specs.Names.{Name, named}
use Rattle.plan_table.specs.Numbered.{numbered}
use Rattle.plan_table.specs.ShopTable.{ShopTable}
use Rattle.plan_table.specs.ShopText.{instance}

-- the lines behind the first instance line of a name
abbrev pub behind_instance : List ℕ → List NumberedLine → List NumberedLine
behind_instance name [] = []
behind_instance name (line ∷ lines) = if is_name name (instance_name line.text) then lines else behind_instance name lines

-- the lines before the description
abbrev pub before_description : List NumberedLine → List NumberedLine
before_description lines = before_end (λ text. not (is_before_description text)) lines

-- the names behind a key in an instance, in the order of their lines
abbrev pub instance_names : List ℕ → List ℕ → List ℕ → List Name
instance_names key name text = filter_map (λ line. named key line.text) (before_description (behind_instance name (lines text)))

abbrev pub machine_key : List ℕ
machine_key = codes "+ machine "

abbrev pub order_key : List ℕ
order_key = codes "+ job "

-- the names in a text are those of a list of orders: machines are numbered from 0, orders from 1
pub record SaysShopNames (text : List ℕ) (t : ShopTable) : Type 0 where
  pub machines : instance_names machine_key instance text ≡ numbered (λ k name. record { number = k; name = name } ∷ []) 0 t.machines
  pub orders : instance_names order_key instance text ≡ numbered (λ j name. record { number = j; name = name } ∷ []) 1 t.orders
