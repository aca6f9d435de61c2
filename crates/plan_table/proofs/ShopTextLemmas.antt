-- The text of a list of orders says the shop of the list.
use Rattle.std.proofs.Common.{◌≡◌, ℕ, ◌+◌, ◌≤◌, ◌<◌, ◌==◌, Bool, true, false, List, [], ◌∷◌, ◌++◌, Option, Some, None, Ok, length, map, codes, refl, sym, ap, ◌∙◌, subst, append_assoc, append-nil, arith, cond}
use Rattle.std.specs.Prelude.{not, count_by, is_some, nat_eq, nat_le, nat_lt, take}
use Rattle.std.specs.List.{AllByRecursion, flat_map, list_all, position, position_or_len}
use Rattle.std.specs.Option.{option_map}
use Rattle.std.specs.Fmt.{decimal}
use Rattle.std.specs.Str.{bytes_eq}
use Rattle.std.proofs.lemmas.Bool.{and_parts, ne_eqb, not-true, le-leb, le-ltb, leb-true}
use Rattle.std.proofs.lemmas.List.{map-append}
use Rattle.std.proofs.lemmas.List.Elements.{recursion_from_All}
use Rattle.std.proofs.lemmas.Slice.Eq.{bytes_eq-Decides}
use Rattle.plan_psplib.specs.Lines.{NumberedLine, before_trimmed, is_line_feed, lines, numbered_from, raw_lines, trim, trim_end, words}
use Rattle.plan_psplib.specs.Numbers.{number}
use Rattle.plan_psplib.specs.Plain.{is_zero, no_zero, plain, zero_line}
use Rattle.plan_psplib.specs.Streams.{LineWord, Stream, before_end, words_at, words_of}
use Rattle.plan_psplib.specs.Tokens as tokens
use Rattle.plan_psplib.specs.declared.text.fault.FileCode.TheVariants as file_code
use Rattle.plan_orlib.specs.declared.steps.Step.{Step}
use Rattle.plan_orlib.specs.Instances.{behind_description, begins_with_two_numbers, block, block_lines, is_bare, is_before_description, is_instance, is_plus, name_of_words, nonblank, stream_of}
use Rattle.plan_orlib.specs.Shop.{IsJob, IsStep}
use Rattle.plan_orlib.specs.Says.{BeginsWith, Says, job_numbers, shop_numbers}
use Rattle.plan_table.specs.Columns.{columns, number_column, places_at, spaced}
use Rattle.plan_table.specs.Numbered.{numbered}
use Rattle.plan_table.specs.ShopTable.{IsShopName, IsShopTable, ShopTable, shop_job, shop_of}
use Rattle.plan_table.specs.ShopText.{instance, job_line, machine_line, number_line, order_line, shop_text}
use Rattle.plan_table.proofs.DigitLemmas.{digit_passes}
use Rattle.plan_table.proofs.LineLemmas.{IsPlain, plain_append, plain_decimal, word_then}
use Rattle.plan_table.proofs.LawLemmas.{is_some_byte}
use Rattle.plan_table.proofs.RowLemmas.{IsRow, blank_row, row_is, tail_columns}
use Rattle.plan_table.proofs.SectionLemmas.{words_at_number}
use Rattle.plan_table.proofs.ShopJobLemmas.{count_jobs, is_shop, job_good}
use Rattle.plan_table.proofs.TableTextLemmas.{lines_bytes}
use Rattle.plan_table.proofs.TextLineLemmas.{IsLines, lines_both, numbered_lines, one_line, raw_lines-before}

all_both : {A : Type 0} (P : A → Type 0) (xs ys : List A) → AllByRecursion P xs → AllByRecursion P ys → AllByRecursion P (xs ++ ys)
all_both P [] ys h k = k
all_both P (x ∷ xs) ys h k = (h.0, all_both P xs ys h.1 k)

all_along : {A : Type 0} (P Q : A → Type 0) → ((x : A) → P x → Q x) → (xs : List A) → AllByRecursion P xs → AllByRecursion Q xs
all_along P Q f [] h = tt
all_along P Q f (x ∷ xs) h = (f x h.0, all_along P Q f xs h.1)

-- ---- plus lines

pub record IsPlus (l : List ℕ) : Type 0 where
  pub before : is_before_description (trim l) ≡ true
  pub inside : is_instance (trim l) ≡ false
  pub plain : IsPlain l

plus_before : (o : List ℕ) → is_before_description (before_trimmed 43 (before_trimmed 32 o)) ≡ true
plus_before [] = refl
plus_before (c ∷ cs) = refl

plus_inside : (o : List ℕ) → is_instance (before_trimmed 43 (before_trimmed 32 o)) ≡ false
plus_inside [] = refl
plus_inside (c ∷ cs) = ap (λ ws. is_some (name_of_words ws)) (word_then 43 [] (32 ∷ c ∷ cs) refl refl) ∙ by_words (words (32 ∷ c ∷ cs))
  where
    by_words : (ws : List (List ℕ)) → is_some (name_of_words ((43 ∷ []) ∷ ws)) ≡ false
    by_words [] = refl
    by_words (w ∷ []) = refl
    by_words (w ∷ v ∷ ws) = refl

plus_line : (rest : List ℕ) → IsPlain rest → IsPlus (43 ∷ 32 ∷ rest)
plus_line rest plain = record { before = plus_before (trim_end rest); inside = plus_inside (trim_end rest); plain = plain }

-- the lines of the names
abbrev pub machine_row : ℕ → List ℕ → List ℕ
machine_row k name = codes "+ machine " ++ decimal k ++ codes " " ++ name

abbrev pub order_row : ℕ → List ℕ → List ℕ
order_row j name = codes "+ job " ++ decimal j ++ codes " " ++ name

machine_is : (k : ℕ) (name : List ℕ) → machine_line k name ≡ machine_row k name ++ 10 ∷ []
unfolding machine_line
machine_is k name = refl

order_is : (j : ℕ) (name : List ℕ) → order_line j name ≡ order_row j name ++ 10 ∷ []
unfolding order_line
order_is j name = refl

numbered_plain : (front : List ℕ) (k : ℕ) (name : List ℕ) → IsPlain front → k < 1000000000 → IsPlain name → IsPlain (front ++ decimal k ++ codes " " ++ name)
numbered_plain front k name p small q =
    plain_append (front ++ decimal k ++ codes " ") name (plain_append (front ++ decimal k) (codes " ") (plain_append front (decimal k) p (plain_decimal k small)) refl) q

machines_plus : (k : ℕ) (names : List (List ℕ)) → k + length names ≤ 1000 → AllByRecursion IsShopName names → AllByRecursion IsPlus (numbered (λ k name. machine_row k name ∷ []) k names)
machines_plus k [] few h = tt
machines_plus k (name ∷ names) few h = (
  plus_line (codes "machine " ++ decimal k ++ codes " " ++ name) (numbered_plain (codes "machine ") k name refl (omega (arith, few)) h.0.name.plain),
  machines_plus (k + 1) names (omega (arith, few)) h.1,
)

orders_plus : (j : ℕ) (names : List (List ℕ)) → j + length names ≤ 1000 → AllByRecursion IsShopName names → AllByRecursion IsPlus (numbered (λ j name. order_row j name ∷ []) j names)
orders_plus j [] few h = tt
orders_plus j (name ∷ names) few h = (
  plus_line (codes "job " ++ decimal j ++ codes " " ++ name) (numbered_plain (codes "job ") j name refl (omega (arith, few)) h.0.name.plain),
  orders_plus (j + 1) names (omega (arith, few)) h.1,
)

-- ---- lines of numbers

record AreNumbers (ns : List ℕ) : Type 0 where
  some : 0 < length ns
  small : AllByRecursion (λ n. n < 1000000000) ns

numbers_row : (ns : List ℕ) → AreNumbers ns → IsRow (columns 2 4 ns) ns
numbers_row [] h = absurd (let some = h.some in omega (arith, some))
numbers_row (n ∷ ns) h =
    let text = numbered (λ i m. spaced (places_at 2 4 i) m) 1 ns in
    blank_row (number_column 2 n ++ text) (n ∷ ns) (row_is 2 n text ns h.small.0 (tail_columns (places_at 2 4) 1 ns h.small.1))

row_plus : (line ns : List ℕ) → IsRow line ns → is_plus (trim line) ≡ false
row_plus line ns row =
    let b = row.begins in
    ap is_plus b.2 ∙ not-true (nat_eq b.0 43) (digit_passes (λ c. not (nat_eq c 43)) refl b.0 b.3)

row_inside : (line ns : List ℕ) → IsRow line ns → 0 < length ns → is_instance (trim line) ≡ false
row_inside line [] row some = absurd (omega (arith, some))
row_inside line (n ∷ ns) row some = by_words (words (trim line)) row.reads
  where
    by_word : (w v : List ℕ) → number w ≡ Some n → (b : Bool) → bytes_eq w (codes "instance") ≡ b → is_some (cond b (Some v) None) ≡ false
    by_word w v is true same =
        let text : w ≡ codes "instance" = (bytes_eq-Decides w (codes "instance")).0 same in
        let none : number (codes "instance") ≡ Some n = ap number (sym text) ∙ is in
        absurd (cc)
    by_word w v is false other = refl

    by_words : (ws : List (List ℕ)) → map number ws ≡ map Some (n ∷ ns) → is_some (name_of_words ws) ≡ false
    by_words [] e = refl
    by_words (w ∷ []) e = refl
    by_words (w ∷ v ∷ []) e = let first : number w ≡ Some n = cc in by_word w v first (bytes_eq w (codes "instance")) refl
    by_words (w ∷ v ∷ u ∷ ws) e = refl

-- the lines of lists of numbers
abbrev pub rows_of : List (List ℕ) → List (List ℕ)
rows_of nss = map (columns 2 4) nss

rows_hold : (P : List ℕ → Type 0) → ((ns : List ℕ) → AreNumbers ns → P (columns 2 4 ns)) → (nss : List (List ℕ)) → AllByRecursion AreNumbers nss → AllByRecursion P (rows_of nss)
rows_hold P f [] h = tt
rows_hold P f (ns ∷ nss) h = (f ns h.0, rows_hold P f nss h.1)

-- the numbers of the words of lines
rows_words : (n : ℕ) (nss : List (List ℕ)) → AllByRecursion AreNumbers nss →
    map (λ (word : LineWord). number word.text) (words_of (numbered_from n (rows_of nss))) ≡ map Some (flat_map (λ ns. ns) nss)
rows_words n [] h = refl
rows_words n (ns ∷ nss) h =
    let row = numbers_row ns h.0 in
    let rest = words_of (numbered_from (n + 1) (rows_of nss)) in
    map-append (λ (word : LineWord). number word.text) (words_at n (words (trim (columns 2 4 ns)))) rest
    ∙ ap (λ os. os ++ map (λ (word : LineWord). number word.text) rest) (words_at_number n (words (trim (columns 2 4 ns))) ∙ row.reads)
    ∙ ap (λ os. map Some ns ++ os) (rows_words (n + 1) nss h.1)
    ∙ sym (map-append Some ns (flat_map (λ ns. ns) nss))

-- ---- a text as a block

-- lines none of which is an end
none_ends : (ends : List ℕ → Bool) (n : ℕ) (ls : List (List ℕ)) → AllByRecursion (λ l. ends (trim l) ≡ false) ls → before_end ends (numbered_from n ls) ≡ numbered_from n ls
none_ends ends n [] h = refl
none_ends ends n (l ∷ ls) h =
    let rest = numbered_from (n + 1) ls in
    let line : NumberedLine = record { number = n; text = trim l } in
    ap (λ b. cond b [] (line ∷ before_end ends rest)) h.0 ∙ ap (λ kept. line ∷ kept) (none_ends ends (n + 1) ls h.1)

-- plus lines before a description
description_at : (n : ℕ) (ls : List (List ℕ)) (l : List ℕ) (rest : List (List ℕ)) → AllByRecursion IsPlus ls → is_before_description (trim l) ≡ false →
    (m : ℕ) × (behind_description (numbered_from n (ls ++ l ∷ rest)) ≡ numbered_from m rest)
description_at n [] l rest h other = (n + 1, ap (λ b. cond b (behind_description (numbered_from (n + 1) rest)) (numbered_from (n + 1) rest)) other)
description_at n (p ∷ ls) l rest h other =
    let further = description_at (n + 1) ls l rest h.1 other in
    let more = numbered_from (n + 1) (ls ++ l ∷ rest) in
    (further.0, ap (λ b. cond b (behind_description more) more) h.0.before ∙ further.1)

abbrev pub title : List ℕ
title = codes "instance shop"

abbrev pub description : List ℕ
description = codes "plan import"

-- a text of one instance
record IsBlock (text : List ℕ) (nss : List (List ℕ)) : Type 0 where
  names : List (List ℕ)
  raw : raw_lines text ≡ title ∷ (names ++ description ∷ rows_of nss)
  plus : AllByRecursion IsPlus names
  numbers : AllByRecursion AreNumbers nss

block_stream : (text : List ℕ) (nss : List (List ℕ)) → IsBlock text nss → (m : ℕ) × (stream_of instance text ≡ Some (record { last = 1; words = words_of (numbered_from m (rows_of nss)) }))
block_stream text nss p =
    let rows = rows_of nss in
    let behind = p.names ++ description ∷ rows in
    let bare : is_bare text ≡ false = ap (λ ls. begins_with_two_numbers (nonblank (numbered_from 1 ls))) p.raw in
    let inside = all_both (λ l. is_instance (trim l) ≡ false) p.names (description ∷ rows)
    (all_along IsPlus (λ l. is_instance (trim l) ≡ false) (λ l h. h.inside) p.names p.plus)
    (refl, rows_hold (λ l. is_instance (trim l) ≡ false) (λ ns h. row_inside (columns 2 4 ns) ns (numbers_row ns h) h.some) nss p.numbers) in
    let whole : block_lines (numbered_from 2 behind) ≡ numbered_from 2 behind = none_ends is_instance 2 behind inside in
    let at = description_at 2 p.names description rows p.plus refl in
    let no_plus = none_ends is_plus at.0 rows (rows_hold (λ l. is_plus (trim l) ≡ false) (λ ns h. row_plus (columns 2 4 ns) ns (numbers_row ns h)) nss p.numbers) in
    let StreamOf : List NumberedLine → Option Stream = λ ls. Some (record { last = 1; words = words_of ls }) in (
      at.0,
      ap (λ b. cond b (cond (bytes_eq instance (codes "-")) (Some (record { last = 0; words = words_of (lines text) })) None) (block instance (lines text))) bare
          ∙ ap (λ ls. block instance (numbered_from 1 ls)) p.raw
          ∙ ap (λ ls. StreamOf (before_end is_plus (behind_description ls))) whole
          ∙ ap (λ ls. StreamOf (before_end is_plus ls)) at.1
          ∙ ap StreamOf no_plus,
    )

block_begins : (text : List ℕ) (nss : List (List ℕ)) → IsBlock text nss → (s : Stream) × (stream_of instance text ≡ Some s) × BeginsWith s.words (flat_map (λ ns. ns) nss)
block_begins text nss p =
    let stream = block_stream text nss p in
    let ws = words_of (numbered_from stream.0 (rows_of nss)) in
    (record { last = 1; words = ws }, stream.1, (ws, [], sym (append-nil ws), rows_words stream.0 nss p.numbers))

-- ---- no zero bytes

zero_nowhere : (text : List ℕ) → list_all is_some_byte text ≡ true → position_or_len is_zero text ≡ length text
zero_nowhere [] h = refl
zero_nowhere (b ∷ bs) h =
    let parts = and_parts (nat_le 1 b) (list_all is_some_byte bs) h in
    let some = leb-true 1 b parts.0 in
    let other : (b == 0) ≡ false = ne_eqb b 0 (λ e. omega (arith, e, some)) in
    let one : 1 + length bs ≡ length (b ∷ bs) = omega arith in
    ap (λ t. cond (not t) (1 + position_or_len is_zero bs) 0) other ∙ ap (λ n. 1 + n) (zero_nowhere bs parts.1) ∙ one

pub plain_text : (text : List ℕ) → length text ≤ 1048576 → list_all is_some_byte text ≡ true → plain text ≡ Ok tt
unfolding plain
plain_text text short bytes =
    let nowhere : position is_zero text ≡ None =
    ap (λ k. cond (nat_lt k (length text)) (Some k) None) (zero_nowhere text bytes)
    ∙ ap (λ b. cond b (Some (length text)) None) (le-ltb (length text) (length text) (omega arith)) in
    ap (λ b. tokens.◌>>=◌ (tokens.check b file_code.TooLong 0) (λ u. no_zero (zero_line text))) (le-leb (length text) 1048576 short)
    ∙ ap (λ o. no_zero (option_map (λ i. count_by is_line_feed (take i text) + 1) o)) nowhere

-- ---- the text of a list of orders

-- the numbers of its lines
abbrev pub numbers_of : ShopTable → List (List ℕ)
numbers_of t = (length t.orders ∷ length t.machines ∷ []) ∷ numbered (λ k _. job_numbers (shop_job t k) ∷ []) 0 t.orders

number_line_is : (ns : List ℕ) → IsLines (number_line ns) (columns 2 4 ns ∷ [])
unfolding number_line
number_line_is ns = one_line (columns 2 4 ns)

job_lines_are : (t : ShopTable) (i : ℕ) (xs : List (List ℕ)) → IsLines (numbered (λ k _. job_line t k) i xs) (rows_of (numbered (λ k _. job_numbers (shop_job t k) ∷ []) i xs))
job_lines_are t i [] = record { before = λ rest. refl }
job_lines_are t i (x ∷ xs) = lines_both _ _ _ _ (number_line_is (job_numbers (shop_job t i))) (job_lines_are t (i + 1) xs)

abbrev pub names_of : ShopTable → List (List ℕ)
names_of t = numbered (λ k name. machine_row k name ∷ []) 0 t.machines ++ numbered (λ j name. order_row j name ∷ []) 1 t.orders

regroup : {A : Type 0} (a : A) (b : List A) (c : A) (d : List A) → ((a ∷ []) ++ b ++ c ∷ []) ++ d ≡ a ∷ (b ++ c ∷ d)
regroup a b c d = ap (λ xs. a ∷ xs) (append_assoc b (c ∷ []) d)

text_lines : (t : ShopTable) → IsLines (shop_text t) (title ∷ (names_of t ++ description ∷ rows_of (numbers_of t)))
text_lines t =
    let first : IsLines (codes "instance shop\n") (title ∷ []) = record { before = λ rest. refl } in
    let third : IsLines (codes "plan import\n") (description ∷ []) = record { before = λ rest. refl } in
    let names = lines_both _ _ _ _ (numbered_lines machine_line machine_row machine_is 0 t.machines) (numbered_lines order_line order_row order_is 1 t.orders) in
    let numbers = lines_both _ _ _ _ (number_line_is (length t.orders ∷ length t.machines ∷ [])) (job_lines_are t 0 t.orders) in
    subst (IsLines (shop_text t)) (regroup title (names_of t) description (rows_of (numbers_of t)))
    (lines_both _ _ _ _ (lines_both _ _ _ _ (lines_both _ _ _ _ first names) third) numbers)

small_steps : (m : ℕ) (steps : List Step) → m ≤ 20 → AllByRecursion (IsStep m) steps → AllByRecursion (λ n. n < 1000000000) (job_numbers steps)
small_steps m [] few h = tt
small_steps m (s ∷ steps) few h = (omega (arith, h.0.0, few), (omega (arith, h.0.1), small_steps m steps few h.1))

some_numbers : (steps : List Step) → 0 < length steps → 0 < length (job_numbers steps)
some_numbers [] some = absurd (omega (arith, some))
some_numbers (s ∷ steps) some = omega arith

job_are_numbers : (m : ℕ) (steps : List Step) → 1 ≤ m → m ≤ 20 → IsJob m steps → AreNumbers (job_numbers steps)
job_are_numbers m steps least few job =
    let size = job.0 in
    record { some = some_numbers steps (omega (arith, size, least)); small = small_steps m steps few (recursion_from_All (IsStep m) steps job.1) }

jobs_are_numbers : (t : ShopTable) → IsShopTable t → (i : ℕ) (xs : List (List ℕ)) → i + length xs ≤ length t.orders →
    AllByRecursion AreNumbers (numbered (λ k _. job_numbers (shop_job t k) ∷ []) i xs)
jobs_are_numbers t is i [] fits = tt
jobs_are_numbers t is i (x ∷ xs) fits = (
  job_are_numbers (length t.machines) (shop_job t i) is.machines.0 is.machines.1 (job_good t is i (omega (arith, fits))),
  jobs_are_numbers t is (i + 1) xs (omega (arith, fits)),
)

all_numbers : (t : ShopTable) → IsShopTable t → AllByRecursion AreNumbers (numbers_of t)
all_numbers t is =
    let orders = is.orders.1 in
    let machines = is.machines.1 in
    (record { some = omega arith; small = (omega (arith, orders), (omega (arith, machines), tt)) }, jobs_are_numbers t is 0 t.orders (omega arith))

pub block_plus : (t : ShopTable) → IsShopTable t → AllByRecursion IsPlus (names_of t)
block_plus t is =
    let orders = is.orders.1 in
    let machines = is.machines.1 in
    all_both IsPlus (numbered (λ k name. machine_row k name ∷ []) 0 t.machines) (numbered (λ j name. order_row j name ∷ []) 1 t.orders)
    (machines_plus 0 t.machines (omega (arith, machines)) is.machine_names) (orders_plus 1 t.orders (omega (arith, orders)) is.order_names)

all_plain : (t : ShopTable) → IsShopTable t → AllByRecursion IsPlain (title ∷ (names_of t ++ description ∷ rows_of (numbers_of t)))
all_plain t is = (
  refl,
  all_both IsPlain (names_of t) (description ∷ rows_of (numbers_of t)) (all_along IsPlus IsPlain (λ l h. h.plain) (names_of t) (block_plus t is))
      (refl, rows_hold IsPlain (λ ns h. (numbers_row ns h).plain) (numbers_of t) (all_numbers t is)),
)

text_block : (t : ShopTable) → IsShopTable t → IsBlock (shop_text t) (numbers_of t)
text_block t is =
    let ls = title ∷ (names_of t ++ description ∷ rows_of (numbers_of t)) in
    record {
      names = names_of t;
      raw = ap raw_lines (sym (append-nil (shop_text t)) ∙ (text_lines t).before []) ∙ raw_lines-before ls [] (all_plain t is) ∙ append-nil ls;
      plus = block_plus t is;
      numbers = all_numbers t is;
    }

pub block_raw : (t : ShopTable) → IsShopTable t → raw_lines (shop_text t) ≡ title ∷ (names_of t ++ description ∷ rows_of (numbers_of t))
block_raw t is =
    let ls = title ∷ (names_of t ++ description ∷ rows_of (numbers_of t)) in
    ap raw_lines (sym (append-nil (shop_text t)) ∙ (text_lines t).before []) ∙ raw_lines-before ls [] (all_plain t is) ∙ append-nil ls

jobs_flat : (t : ShopTable) (i : ℕ) (xs : List (List ℕ)) →
    flat_map (λ ns. ns) (numbered (λ k _. job_numbers (shop_job t k) ∷ []) i xs) ≡ flat_map job_numbers (numbered (λ k _. shop_job t k ∷ []) i xs)
jobs_flat t i [] = refl
jobs_flat t i (x ∷ xs) = ap (λ ns. job_numbers (shop_job t i) ++ ns) (jobs_flat t (i + 1) xs)

numbers_are : (t : ShopTable) → flat_map (λ ns. ns) (numbers_of t) ≡ shop_numbers (shop_of t)
numbers_are t =
    ap (λ ns. length t.orders ∷ length t.machines ∷ ns) (jobs_flat t 0 t.orders)
    ∙ ap (λ n. n ∷ length t.machines ∷ flat_map job_numbers (shop_of t).jobs) (sym (count_jobs t))

-- the text of a list of orders says its shop
pub shop_said : (t : ShopTable) → IsShopTable t → length (shop_text t) ≤ 1048576 → Says instance (shop_text t) (shop_of t)
shop_said t is short =
    let ls = title ∷ (names_of t ++ description ∷ rows_of (numbers_of t)) in
    let lines_are = sym (append-nil (shop_text t)) ∙ (text_lines t).before [] in
    let begins = block_begins (shop_text t) (numbers_of t) (text_block t is) in
    record {
      readable = plain_text (shop_text t) short (ap (list_all is_some_byte) lines_are ∙ lines_bytes ls [] (all_plain t is) refl);
      stream = (begins.0, begins.1, subst (BeginsWith begins.0.words) (numbers_are t) begins.2);
      limits = is_shop t is;
    }
