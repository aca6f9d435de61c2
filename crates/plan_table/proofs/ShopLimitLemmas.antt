-- The list of orders that a text says is within the limits.
use Rattle.std.proofs.Common.{◌≡◌, ◌≢◌, ℕ, ◌+◌, ◌≤◌, ◌<◌, ◌==◌, ◌&&◌, Bool, true, false, List, [], ◌∷◌, ◌++◌, Ok, length, refl, subst, arith, cond}
use Rattle.std.specs.Prelude.{nat_le, nat_lt, count_by, drop}
use Rattle.std.specs.List.{AllByRecursion, sum_by}
use Rattle.std.proofs.lemmas.Bool.{eqb-true, eqb-false, leb-true, ltb-false, ltb-true}
use Rattle.std.proofs.lemmas.List.Sums.{sum_by_push}
use Rattle.plan_psplib.specs.Lines.{trim}
use Rattle.plan_table.specs.declared.fault.TableCode.TheVariants as code
use Rattle.plan_table.specs.declared.shop_header.ShopColumn.TheVariants as columns
use Rattle.plan_table.specs.declared.shop_table.ShopStep.{ShopStep}
use Rattle.plan_table.specs.Csv.{Row}
use Rattle.plan_table.specs.Cells.{amount, name, same}
use Rattle.plan_table.specs.Entries.{is_blank_row}
use Rattle.plan_table.specs.Reading.{fault, check}
use Rattle.plan_table.specs.Rows.{first_cell}
use Rattle.plan_table.specs.ShopReading.{ShopEntries, filled_row, name_added, no_shop_entries, order_fits, order_read, orders_fit, place_from, place_of, shop_finished, shop_header, shop_in, shop_name, shop_row, shop_rows, step_added, step_read, steps_read, table_of, with_name}
use Rattle.plan_table.specs.ShopTable.{IsShopName, IsShopStep, IsShopTable, ShopTable, is_of}
use Rattle.plan_table.proofs.LimitLemmas.{then_ok, same_ok, check_ok, all_push, push_length, amount_small, name_good, name_is}
use Rattle.plan_table.proofs.TrimLemmas.{trim_trim}

-- ---- names

shop_name_good : (line : ℕ) (cell text : List ℕ) → shop_name line cell ≡ Ok text → trim cell ≡ cell → IsShopName text
unfolding shop_name
shop_name_good line cell text is trimmed = by_test (length cell == 0) refl is
  where
    by_test : (b : Bool) → (length cell == 0) ≡ b → cond b (fault code.BadId line []) (name line cell) ≡ Ok text → IsShopName text
    by_test true empty is = absurd (cc)
    by_test false filled is =
        let other : length cell ≡ 0 → ⊥ = eqb-false (length cell) 0 filled in
        record {
          name = name_good line cell text is trimmed;
          some = subst (λ (t : List ℕ). 0 < length t) (name_is line cell text is) (omega (arith, other));
        }

-- names with one that is added
record AreAdded (most : ℕ) (before after : List (List ℕ)) (k : ℕ) : Type 0 where
  few : length after ≤ most
  place : k < length after
  more : length before ≤ length after
  names : AllByRecursion IsShopName after

place_low : (n : ℕ) (names : List (List ℕ)) (text : List ℕ) → place_from n names text ≤ n + length names
place_low n [] text = omega arith
place_low n (other ∷ others) text = by_test (place_low (n + 1) others text) (same other text)
  where
    by_test : place_from (n + 1) others text ≤ n + 1 + length others → (b : Bool) → cond b n (place_from (n + 1) others text) ≤ n + length (other ∷ others)
    by_test rest true = omega arith
    by_test rest false = omega (arith, rest)

added_good : (most line : ℕ) (names : List (List ℕ)) (text : List ℕ) (found : List (List ℕ) × ℕ) → name_added most line names text ≡ Ok found →
    length names ≤ most → AllByRecursion IsShopName names → IsShopName text → AreAdded most names found.0 found.1
unfolding name_added
added_good most line names text found is few good named =
    then_ok (check (nat_lt (place_of names text) most) code.Limit line) _ found is (λ u room is.
    subst (λ (x : List (List ℕ) × ℕ). AreAdded most names x.0 x.1) (same_ok (with_name names text, place_of names text) found is)
    (by_test (ltb-true (place_of names text) most (check_ok _ code.Limit line u room)) (place_low 0 names text) (nat_lt (place_of names text) (length names)) refl))
  where
    by_test : place_of names text < most → place_of names text ≤ 0 + length names → (b : Bool) → nat_lt (place_of names text) (length names) ≡ b →
        AreAdded most names (cond b names (names ++ text ∷ [])) (place_of names text)
    by_test room low true old = record { few = few; place = ltb-true (place_of names text) (length names) old; more = omega arith; names = good }
    by_test room low false new =
        let size = push_length names text in
        let high = ltb-false (place_of names text) (length names) new in
        record { few = omega (arith, size, room, high, low); place = omega (arith, size, low); more = omega (arith, size); names = all_push IsShopName names text good named }

-- ---- entries

record AreGood (e : ShopEntries) : Type 0 where
  orders : length e.orders ≤ 50
  machines : length e.machines ≤ 20
  order_names : AllByRecursion IsShopName e.orders
  machine_names : AllByRecursion IsShopName e.machines
  steps : AllByRecursion (IsShopStep (length e.orders) (length e.machines)) e.steps
  total : e.total ≡ sum_by (λ (s : ShopStep). s.time) e.steps
  limit : e.total ≤ 1000000

-- steps of more orders on more machines
steps_within : (n m p q : ℕ) (steps : List ShopStep) → n ≤ p → m ≤ q → AllByRecursion (IsShopStep n m) steps → AllByRecursion (IsShopStep p q) steps
steps_within n m p q [] a b h = tt
steps_within n m p q (s ∷ steps) a b h = ((omega (arith, h.0.0, a), omega (arith, h.0.1, b), h.0.2), steps_within n m p q steps a b h.1)

-- the entries with what a row adds have at least as many orders
abbrev Goes : ShopEntries → ShopEntries → Type 0
Goes e f = AreGood f × (length e.orders ≤ length f.orders)

step_added_good : (line k : ℕ) (e f : ShopEntries) (machine time : List ℕ) → step_added line k e machine time ≡ Ok f → trim machine ≡ machine →
    k < length e.orders → AreGood e → Goes e f
unfolding step_added
step_added_good line k e f machine time is trimmed below good =
    then_ok (shop_name line machine) _ f is (λ text named is.
    then_ok (amount code.BadDuration line time time) _ f is (λ n low is.
    then_ok (name_added 20 line e.machines text) _ f is (λ found added is.
    then_ok (check (nat_le (e.total + n) 1000000) code.Limit line) _ f is (λ u fits is.
    let s : ShopStep = record { order = k; machine = found.1; time = n } in
    let a = added_good 20 line e.machines text found added good.machines good.machine_names (shop_name_good line machine text named trimmed) in
    let sums = sum_by_push (λ (x : ShopStep). x.time) e.steps s in
    let total = good.total in
    subst (Goes e) (same_ok (record { orders = e.orders; machines = found.0; steps = e.steps ++ s ∷ []; total = e.total + n }) f is) (
      record {
        orders = good.orders;
        machines = a.few;
        order_names = good.order_names;
        machine_names = a.names;
        steps = all_push (IsShopStep (length e.orders) (length found.0)) e.steps s
            (steps_within (length e.orders) (length e.machines) (length e.orders) (length found.0) e.steps (omega arith) a.more good.steps)
            (below, a.place, amount_small code.BadDuration line time time n low);
        total = omega (arith, sums, total);
        limit = leb-true (e.total + n) 1000000 (check_ok _ code.Limit line u fits);
      },
      omega arith,
    )))))

stays : (e f : ShopEntries) → e ≡ f → AreGood e → Goes e f
stays e f is good = subst (Goes e) is (good, omega arith)

step_good : (line k : ℕ) (e f : ShopEntries) (machine time : List ℕ) → step_read line k e machine time ≡ Ok f → trim machine ≡ machine →
    k < length e.orders → AreGood e → Goes e f
unfolding step_read
step_good line k e f machine time is trimmed below good = by_test (length machine == 0 && length time == 0) is
  where
    by_test : (b : Bool) → cond b (Ok e) (step_added line k e machine time) ≡ Ok f → Goes e f
    by_test true is = stays e f (same_ok e f is) good
    by_test false is = step_added_good line k e f machine time is trimmed below good

steps_good : (line k : ℕ) (e f : ShopEntries) (cells : List (List ℕ)) → steps_read line k e cells ≡ Ok f → k < length e.orders → AreGood e → Goes e f
unfolding steps_read
steps_good line k e f [] is below good = stays e f (same_ok e f is) good
steps_good line k e f (machine ∷ []) is below good = step_good line k e f (trim machine) [] is (trim_trim machine) below good
steps_good line k e f (machine ∷ time ∷ cells) is below good =
    then_ok (step_read line k e (trim machine) (trim time)) _ f is (λ g one is.
    let first = step_good line k e g (trim machine) (trim time) one (trim_trim machine) below good in
    let rest = steps_good line k g f cells is (omega (arith, below, first.1)) first.0 in
    (rest.0, omega (arith, first.1, rest.1)))

order_good : (line : ℕ) (e : ShopEntries) (cell : List ℕ) (found : ShopEntries × ℕ) → order_read line e cell ≡ Ok found → trim cell ≡ cell → AreGood e →
    AreGood found.0 × (found.1 < length found.0.orders)
unfolding order_read
order_good line e cell found is trimmed good =
    then_ok (shop_name line cell) _ found is (λ text named is.
    then_ok (name_added 50 line e.orders text) _ found is (λ more added is.
    let a = added_good 50 line e.orders text more added good.orders good.order_names (shop_name_good line cell text named trimmed) in
    let f : ShopEntries = record { orders = more.0; machines = e.machines; steps = e.steps; total = e.total } in
    subst (λ (x : ShopEntries × ℕ). AreGood x.0 × (x.1 < length x.0.orders)) (same_ok (f, more.1) found is) (
      record {
        orders = a.few;
        machines = good.machines;
        order_names = a.names;
        machine_names = good.machine_names;
        steps = steps_within (length e.orders) (length e.machines) (length more.0) (length e.machines) e.steps a.more (omega arith) good.steps;
        total = good.total;
        limit = good.limit;
      },
      a.place,
    )))

filled_good : (count : ℕ) (e f : ShopEntries) (row : Row) → filled_row count e row ≡ Ok f → AreGood e → AreGood f
unfolding filled_row
filled_good count e f row is good =
    then_ok (order_read row.line e (trim (first_cell row.cells))) _ f is (λ found order is.
    then_ok (steps_read row.line found.1 found.0 (drop 1 row.cells)) _ f is (λ g steps is.
    then_ok (check (nat_le (length row.cells) count) code.Cells row.line) _ f is (λ u whole is.
    let a = order_good row.line e (trim (first_cell row.cells)) found order (trim_trim (first_cell row.cells)) good in
    subst AreGood (same_ok g f is) (steps_good row.line found.1 found.0 g (drop 1 row.cells) steps a.1 a.0).0)))

row_good : (count : ℕ) (e f : ShopEntries) (row : Row) → shop_row count e row ≡ Ok f → AreGood e → AreGood f
unfolding shop_row
row_good count e f row is good = by_test (is_blank_row row.cells) is
  where
    by_test : (b : Bool) → cond b (Ok e) (filled_row count e row) ≡ Ok f → AreGood f
    by_test true is = subst AreGood (same_ok e f is) good
    by_test false is = filled_good count e f row is good

rows_good : (count : ℕ) (e f : ShopEntries) (rows : List Row) → shop_rows count e rows ≡ Ok f → AreGood e → AreGood f
unfolding shop_rows
rows_good count e f [] is good = subst AreGood (same_ok e f is) good
rows_good count e f (row ∷ rows) is good =
    then_ok (shop_row count e row) _ f is (λ g one is. rows_good count g f rows is (row_good count e g row one good))

-- ---- the table

orders_good : (most : ℕ) (steps : List ShopStep) (n : ℕ) (orders : List (List ℕ)) (u : Unit {0}) → orders_fit most steps n orders ≡ Ok u →
    (k : ℕ) → n ≤ k → k < n + length orders → count_by (is_of k) steps ≤ most
unfolding orders_fit
orders_good most steps n [] u is k from to = absurd (omega (arith, from, to))
orders_good most steps n (order ∷ orders) u is k from to =
    then_ok (order_fits (nat_le (count_by (is_of n) steps) most) order) _ u is (λ v one is.
    by_place (n == k) refl (fits (nat_le (count_by (is_of n) steps) most) refl v one) (orders_good most steps (n + 1) orders u is k))
  where
    fits : (b : Bool) → nat_le (count_by (is_of n) steps) most ≡ b → (v : Unit {0}) → order_fits b order ≡ Ok v → count_by (is_of n) steps ≤ most
    fits true low v is = leb-true (count_by (is_of n) steps) most low
    fits false low v is = absurd (cc)

    by_place : (b : Bool) → (n == k) ≡ b → count_by (is_of n) steps ≤ most → (n + 1 ≤ k → k < n + 1 + length orders → count_by (is_of k) steps ≤ most) → count_by (is_of k) steps ≤ most
    by_place true at first rest = let is : n ≡ k = eqb-true n k at in subst (λ i. count_by (is_of i) steps ≤ most) is first
    by_place false at first rest = let other : n ≢ k = eqb-false n k at in rest (omega (arith, from, other)) (omega (arith, to))

finished_good : (e : ShopEntries) (t : ShopTable) → shop_finished e ≡ Ok t → AreGood e → IsShopTable t
unfolding shop_finished
finished_good e t is good =
    then_ok (check (nat_le 1 (length e.orders)) code.Limit 0) _ t is (λ u order is.
    then_ok (check (nat_le 1 (length e.machines)) code.Limit 0) _ t is (λ v machine is.
    then_ok (orders_fit (length e.machines) e.steps 0 e.orders) _ t is (λ w fit is.
    let total = good.total in
    let limit = good.limit in
    subst IsShopTable (same_ok (table_of e) t is) (record {
      orders = (leb-true 1 (length e.orders) (check_ok _ code.Limit 0 u order), good.orders);
      machines = (leb-true 1 (length e.machines) (check_ok _ code.Limit 0 v machine), good.machines);
      order_names = good.order_names;
      machine_names = good.machine_names;
      steps = good.steps;
      fit = λ k below. orders_good (length e.machines) e.steps 0 e.orders w fit k (omega arith) (omega (arith, below));
      total = omega (arith, total, limit);
    }))))

pub shop_good : (rows : List Row) (t : ShopTable) → shop_in rows ≡ Ok t → IsShopTable t
unfolding shop_in
shop_good [] t is = absurd (cc)
shop_good (first ∷ rows) t is =
    then_ok (shop_header columns.Order first.cells) _ t is (λ u header is.
    then_ok (shop_rows (length first.cells) no_shop_entries rows) _ t is (λ e entries is.
    finished_good e t is (rows_good (length first.cells) no_shop_entries e rows entries
    (record { orders = omega arith; machines = omega arith; order_names = tt; machine_names = tt; steps = tt; total = refl; limit = omega arith }))))
