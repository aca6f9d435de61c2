-- The `jobshop1` text of a list of orders: one instance, named `shop`, with the names of its machines
-- and orders on plus lines before its description.
use Rattle.std.specs.Prelude.{ℕ, List, [], ◌∷◌, ◌++◌, length, codes}
use Rattle.std.specs.Fmt.{decimal}
use Rattle.plan_orlib.specs.Says.{job_numbers}
use Rattle.plan_table.specs.Columns.{columns}
use Rattle.plan_table.specs.Numbered.{numbered}
use Rattle.plan_table.specs.ShopTable.{ShopTable, shop_job}

-- the name of the instance
abbrev pub instance : List ℕ
instance = codes "shop"

-- the line of a machine's name
unfoldable pub machine_line : ℕ → List ℕ → List ℕ
machine_line k name = codes "+ machine " ++ decimal k ++ codes " " ++ name ++ codes "\n"

-- the line of an order's name
unfoldable pub order_line : ℕ → List ℕ → List ℕ
order_line j name = codes "+ job " ++ decimal j ++ codes " " ++ name ++ codes "\n"

-- a line of numbers
unfoldable pub number_line : List ℕ → List ℕ
number_line ns = columns 2 4 ns ++ codes "\n"

-- the line of order k: the machine and the time of each step of its job
abbrev pub job_line : ShopTable → ℕ → List ℕ
job_line t k = number_line (job_numbers (shop_job t k))

-- the names
abbrev pub shop_names_text : ShopTable → List ℕ
shop_names_text t = numbered machine_line 0 t.machines ++ numbered order_line 1 t.orders

-- the numbers
abbrev pub shop_numbers_text : ShopTable → List ℕ
shop_numbers_text t = number_line (length t.orders ∷ length t.machines ∷ []) ++ numbered (λ k _. job_line t k) 0 t.orders

-- the text
abbrev pub shop_text : ShopTable → List ℕ
shop_text t = codes "instance shop\n" ++ shop_names_text t ++ codes "plan import\n" ++ shop_numbers_text t
