-- Lists in JSON, one text after another.
use Rattle.std.proofs.Common.{◌≡◌, ℕ, suc, ◌+◌, ◌<◌, ◌≤◌, List, [], ◌∷◌, ◌++◌, take, length, get_or, refl, sym, ap, ◌∙◌, arith}
use Rattle.std.specs.Prelude.{map, codes}
use Rattle.std.proofs.lemmas.List.{map-append, append_assoc, length-map, length-take-le}
use Rattle.std.proofs.Math.Seq.{take-suc}
use Rattle.plan_rows.specs.declared.kinds.PlanKind.{PlanKind}
use Rattle.plan_rows.specs.declared.rows.CodeRow.{CodeRow}
use Rattle.plan_rows.specs.declared.rows.PlanEntry.{PlanEntry}
use Rattle.plan_rows.specs.World.{Text, Published, Plan}
use Rattle.plan_rows.specs.Plans.{in_order}
use Rattle.plan_desk.specs.JsonTexts.{separated, code_text, plan_text, codes_text, plans_text}
use Rattle.plan_rows.specs.Plans.{plan_before}
use Rattle.plan_rows.specs.Books.{ListsCodes, ListsPlans, published_in, entry_in, entry_of}
use Rattle.plan_desk.specs.Answers.{comma_before, text_of_code, text_of_entry, list_of_codes, list_of_plans}

-- one more text
separated_more : (texts : List Text) (text : Text) → separated (texts ++ text ∷ []) ≡ separated texts ++ comma_before (length texts) ++ text
separated_more [] text = refl
separated_more (first ∷ []) text = refl
separated_more (first ∷ second ∷ texts) text =
    let front = first ++ codes "," in
    let rest = separated (second ∷ texts) in
    ap (λ l. front ++ l) (separated_more (second ∷ texts) text)
    ∙ sym (append_assoc front (rest ++ codes ",") text)
    ∙ ap (λ l. l ++ text) (sym (append_assoc front rest (codes ",")))

-- one step of the loop that writes them
pub next_text : {A : Type 0} (text_of : A → Text) (rows : List A) (k : ℕ) (row : A) (before done comma now : Text) → k < length rows → row ≡ get_or rows k row
    → done ≡ before ++ separated (map text_of (take k rows)) → comma ≡ done ++ comma_before k → now ≡ comma ++ text_of row
    → now ≡ before ++ separated (map text_of (take (k + 1) rows))
next_text text_of rows k row before done comma now small at is with_comma with_text =
    let next : suc k ≡ k + 1 = omega arith in
    let many : length (map text_of (take k rows)) ≡ k = length-map (take k rows) text_of ∙ length-take-le k rows (below small) in
    let split : map text_of (take (k + 1) rows) ≡ map text_of (take k rows) ++ text_of row ∷ [] =
    ap (λ (m : ℕ). map text_of (take m rows)) (sym next) ∙ ap (map text_of) (take-suc rows k row small)
    ∙ map-append text_of (take k rows) (get_or rows k row ∷ []) ∙ ap (λ x. map text_of (take k rows) ++ text_of x ∷ []) (sym at) in
    let texts = separated (map text_of (take k rows)) in
    with_text ∙ ap (λ t. t ++ text_of row) (with_comma ∙ ap (λ t. t ++ comma_before k) is)
    ∙ ap (λ t. t ++ text_of row) (append_assoc before texts (comma_before k))
    ∙ append_assoc before (texts ++ comma_before k) (text_of row)
    ∙ ap (λ l. before ++ l) (
    ap (λ (m : ℕ). texts ++ comma_before m ++ text_of row) (sym many)
    ∙ sym (separated_more (map text_of (take k rows)) (text_of row))
    ∙ ap separated (sym split))
  where
    below : {k n : ℕ} → k < n → k ≤ n
    below h = omega (arith, h)

all_mapped : {A B : Type 0} (f : A → Text) (g : B → Text) (h : A → B) → ((x : A) → f x ≡ g (h x)) → (xs : List A) → map f xs ≡ map g (map h xs)
all_mapped f g h same [] = refl
all_mapped f g h same (x ∷ xs) = ap (λ t. t ∷ map f xs) (same x) ∙ ap (λ l. g (h x) ∷ l) (all_mapped f g h same xs)

-- the published codes that a book lists, as a text
pub listed_codes : (rows : List Published) (answer : List CodeRow) → ListsCodes rows answer → list_of_codes answer ≡ codes_text rows
listed_codes rows answer is =
    ap (λ l. codes "{\"capacities\":[" ++ separated l ++ codes "]}")
    (all_mapped text_of_code (λ row. code_text row.code row.kind row.capacity) published_in (λ row. refl) answer
    ∙ ap (map (λ row. code_text row.code row.kind row.capacity)) is)

-- the plans that a book lists, as a text
pub listed_plans : (rows : List Plan) (answer : List PlanEntry) → ListsPlans rows answer → list_of_plans answer ≡ plans_text rows
listed_plans rows answer is =
    ap (λ l. codes "{\"plans\":[" ++ separated l ++ codes "]}")
    (all_mapped text_of_entry told entry_in (λ row. refl) answer
    ∙ ap (map told) is
    ∙ sym (all_mapped (λ row. plan_text row.n row.kind) told entry_of (λ row. refl) (in_order plan_before rows)))
  where
    told : ℕ × PlanKind → Text
    told entry = plan_text entry.0 entry.1
