-- The names that the text of a list of orders gives.
use Rattle.std.proofs.Common.{◌≡◌, ℕ, ◌+◌, ◌≤◌, ◌<◌, false, List, [], ◌∷◌, ◌++◌, length, codes, refl, ap, ◌∙◌, append-nil, arith, cond}
use Rattle.std.specs.Prelude.{not}
use Rattle.std.specs.List.{AllByRecursion, filter_map}
use Rattle.std.specs.Fmt.{decimal}
use Rattle.std.proofs.lemmas.List.Elements.{filter_map-append}
use Rattle.plan_psplib.specs.Lines.{NumberedLine, numbered_from, trim}
use Rattle.plan_orlib.specs.Instances.{is_before_description}
use Rattle.plan_table.specs.Limits.{IsName}
use Rattle.plan_table.specs.Names.{Name, named}
use Rattle.plan_table.specs.Numbered.{numbered}
use Rattle.plan_table.specs.ShopNames.{SaysShopNames, before_description, behind_instance, instance_names, machine_key, order_key}
use Rattle.plan_table.specs.ShopTable.{IsShopName, IsShopTable, ShopTable}
use Rattle.plan_table.specs.ShopText.{instance, shop_text}
use Rattle.plan_table.proofs.LineLemmas.{trim_end-before}
use Rattle.plan_table.proofs.NameLemmas.{behind_key, gives, names_of_lines, no_name, one_name, solid_name}
use Rattle.plan_table.proofs.ShopTextLemmas.{IsPlus, description, machine_row, names_of, numbers_of, order_row, rows_of, block_plus, block_raw}

-- the lines before a description
lines_before : (n : ℕ) (ls : List (List ℕ)) (l : List ℕ) (rest : List (List ℕ)) → AllByRecursion IsPlus ls → is_before_description (trim l) ≡ false →
    before_description (numbered_from n (ls ++ l ∷ rest)) ≡ numbered_from n ls
lines_before n [] l rest h other = ap (λ b. cond (not b) [] (record { number = n; text = trim l } ∷ before_description (numbered_from (n + 1) rest))) other
lines_before n (p ∷ ls) l rest h other =
    let line : NumberedLine = record { number = n; text = trim p } in
    ap (λ b. cond (not b) [] (line ∷ before_description (numbered_from (n + 1) (ls ++ l ∷ rest)))) h.0.before
    ∙ ap (λ kept. line ∷ kept) (lines_before (n + 1) ls l rest h.1 other)

section_of : (t : ShopTable) → IsShopTable t → (key : List ℕ) → instance_names key instance (shop_text t) ≡ gives key (names_of t)
section_of t is key =
    let names = names_of t in
    let rows = rows_of (numbers_of t) in
    ap (λ ls. filter_map (λ (line : NumberedLine). named key line.text) (before_description (behind_instance instance (numbered_from 1 ls)))) (block_raw t is)
    ∙ ap (filter_map (λ (line : NumberedLine). named key line.text)) (lines_before 2 names description rows (block_plus t is) refl)
    ∙ names_of_lines key 2 names

-- the lines of names
machine_trimmed : (k b : ℕ) (name : List ℕ) → IsName (b ∷ name) → trim (machine_row k (b ∷ name)) ≡ machine_row k (b ∷ name)
machine_trimmed k b name is = trim_end-before (codes "+ machine " ++ decimal k ++ codes " ") (b ∷ name) (solid_name b name is)

order_trimmed : (j b : ℕ) (name : List ℕ) → IsName (b ∷ name) → trim (order_row j (b ∷ name)) ≡ order_row j (b ∷ name)
order_trimmed j b name is = trim_end-before (codes "+ job " ++ decimal j ++ codes " ") (b ∷ name) (solid_name b name is)

machine_name : (k : ℕ) (name : List ℕ) → k < 1000000000 → IsShopName name → gives machine_key (machine_row k name ∷ []) ≡ record { number = k; name = name } ∷ []
machine_name k [] small is = absurd (let some = is.some in omega (arith, some))
machine_name k (b ∷ name) small is =
    one_name machine_key (machine_row k (b ∷ name)) (record { number = k; name = b ∷ name })
    (ap (named machine_key) (machine_trimmed k b name is.name) ∙ behind_key k b name small is.name)

machine_no_order : (k : ℕ) (name : List ℕ) → IsShopName name → gives order_key (machine_row k name ∷ []) ≡ []
machine_no_order k [] is = absurd (let some = is.some in omega (arith, some))
machine_no_order k (b ∷ name) is = no_name order_key (machine_row k (b ∷ name)) (ap (named order_key) (machine_trimmed k b name is.name))

order_name : (j : ℕ) (name : List ℕ) → j < 1000000000 → IsShopName name → gives order_key (order_row j name ∷ []) ≡ record { number = j; name = name } ∷ []
order_name j [] small is = absurd (let some = is.some in omega (arith, some))
order_name j (b ∷ name) small is =
    one_name order_key (order_row j (b ∷ name)) (record { number = j; name = b ∷ name })
    (ap (named order_key) (order_trimmed j b name is.name) ∙ behind_key j b name small is.name)

order_no_machine : (j : ℕ) (name : List ℕ) → IsShopName name → gives machine_key (order_row j name ∷ []) ≡ []
order_no_machine j [] is = absurd (let some = is.some in omega (arith, some))
order_no_machine j (b ∷ name) is = no_name machine_key (order_row j (b ∷ name)) (ap (named machine_key) (order_trimmed j b name is.name))

-- rows of names
rows_give : (key : List ℕ) (row : ℕ → List ℕ → List ℕ) → ((k : ℕ) (name : List ℕ) → k < 1000000000 → IsShopName name → gives key (row k name ∷ []) ≡ record { number = k; name = name } ∷ []) →
    (k : ℕ) (names : List (List ℕ)) → k + length names ≤ 1000 → AllByRecursion IsShopName names →
    gives key (numbered (λ i name. row i name ∷ []) k names) ≡ numbered (λ i name. record { number = i; name = name } ∷ []) k names
rows_give key row one k [] few h = refl
rows_give key row one k (name ∷ names) few h =
    let rest = numbered (λ i name. row i name ∷ []) (k + 1) names in
    filter_map-append (λ l. named key (trim l)) (row k name ∷ []) rest
    ∙ ap (λ ns. ns ++ gives key rest) (one k name (omega (arith, few)) h.0)
    ∙ ap (λ ns. record { number = k; name = name } ∷ ns) (rows_give key row one (k + 1) names (omega (arith, few)) h.1)

rows_give_none : (key : List ℕ) (row : ℕ → List ℕ → List ℕ) → ((k : ℕ) (name : List ℕ) → IsShopName name → gives key (row k name ∷ []) ≡ []) →
    (k : ℕ) (names : List (List ℕ)) → AllByRecursion IsShopName names → gives key (numbered (λ i name. row i name ∷ []) k names) ≡ []
rows_give_none key row none k [] h = refl
rows_give_none key row none k (name ∷ names) h =
    let rest = numbered (λ i name. row i name ∷ []) (k + 1) names in
    filter_map-append (λ l. named key (trim l)) (row k name ∷ []) rest
    ∙ ap (λ ns. ns ++ gives key rest) (none k name h.0)
    ∙ rows_give_none key row none (k + 1) names h.1

both_give : (key : List ℕ) (a b : List (List ℕ)) (x y : List Name) → gives key a ≡ x → gives key b ≡ y → gives key (a ++ b) ≡ x ++ y
both_give key a b x y p q = filter_map-append (λ l. named key (trim l)) a b ∙ ap (λ ns. ns ++ gives key b) p ∙ ap (λ ns. x ++ ns) q

pub shop_names_said : (t : ShopTable) → IsShopTable t → SaysShopNames (shop_text t) t
shop_names_said t is =
    let machines = numbered (λ k name. machine_row k name ∷ []) 0 t.machines in
    let orders = numbered (λ j name. order_row j name ∷ []) 1 t.orders in
    let few_machines = is.machines.1 in
    let few_orders = is.orders.1 in
    let machine_names = rows_give machine_key machine_row machine_name 0 t.machines (omega (arith, few_machines)) is.machine_names in
    let order_names = rows_give order_key order_row order_name 1 t.orders (omega (arith, few_orders)) is.order_names in
    record {
      machines = section_of t is machine_key ∙ both_give machine_key machines orders _ [] machine_names (rows_give_none machine_key order_row order_no_machine 1 t.orders is.order_names) ∙ append-nil _;
      orders = section_of t is order_key ∙ both_give order_key machines orders [] _ (rows_give_none order_key machine_row machine_no_order 0 t.machines is.machine_names) order_names;
    }
