-- The markup of a chart doesn't depend on names.
use Rattle.std.proofs.Common.{◌≡◌, ℕ, ◌+◌, ◌*◌, ◌==◌, Bool, true, false, if◌then◌else◌, nat_lt, List, [], ◌∷◌, ◌++◌, flat_map, codes, refl, sym, ap, ap₂, ◌∙◌, cond}
use Rattle.std.specs.List.{filter, list_any, range_with_len}
use Rattle.std.specs.Fmt.{decimal}
use Rattle.std.proofs.lemmas.List.Elements.{filter-append}
use Rattle.plan_table.specs.Names.{Name}
use Rattle.plan_sheet.specs.Cuts.{cut}
use Rattle.plan_sheet.specs.Escape.{is_markup, markup_of, escaped}
use Rattle.plan_sheet.specs.Marks.{marks}
use Rattle.plan_sheet.specs.Names.{id_label}
use Rattle.plan_sheet.specs.Place.{extent}
use Rattle.plan_sheet.specs.Chart.{Chart, renamed, left_of, right_of, tip_of, diamond, rectangle_head, rectangle, slack_of, tight_class, tail_of, number_of}
use Rattle.plan_sheet.specs.Chart.{milestone_of, block_of, bar_of, bar_in, bars_of, label_room, line_head, line_of, lines_of, number_at, image_tag, image_head}
use Rattle.plan_sheet.specs.Chart.{image_of}
use Rattle.plan_sheet.specs.declared.bars.Bar.{Bar}
use Rattle.plan_sheet.proofs.EscapeLemmas.{no_markup, or_left, or_right}

none_kept : (p : ℕ → Bool) (bytes : List ℕ) → list_any p bytes ≡ false → filter p bytes ≡ []
none_kept p [] none = refl
none_kept p (b ∷ bytes) none = ap (λ keep. cond keep (b ∷ filter p bytes) (filter p bytes)) (or_left (p b) _ none) ∙ none_kept p bytes (or_right (p b) _ none)

-- texts with the same markup, one after another
pub same_append : (a b c d : List ℕ) → markup_of a ≡ markup_of c → markup_of b ≡ markup_of d → markup_of (a ++ b) ≡ markup_of (c ++ d)
same_append a b c d left right =
    filter-append is_markup a b ∙ ap₂ (λ x y. x ++ y) left right ∙ sym (filter-append is_markup c d)

-- escaped texts
pub same_escaped : (a b : List ℕ) → markup_of (escaped a) ≡ markup_of (escaped b)
same_escaped a b = none_kept is_markup (escaped a) (no_markup a) ∙ sym (none_kept is_markup (escaped b) (no_markup b))

-- an escaped text in a document
pub same_shown : (front tail a b : List ℕ) → markup_of (front ++ escaped a ++ tail) ≡ markup_of (front ++ escaped b ++ tail)
same_shown front tail a b =
    same_append (front ++ escaped a) tail (front ++ escaped b) tail
    (same_append front (escaped a) front (escaped b) refl (same_escaped a b)) refl

pub same_if : (b : Bool) (x y z w : List ℕ) → markup_of x ≡ markup_of z → markup_of y ≡ markup_of w →
    markup_of (if b then x else y) ≡ markup_of (if b then z else w)
same_if true x y z w first second = first
same_if false x y z w first second = second

pub same_flat_map : {A : Type 0} (f g : A → List ℕ) (xs : List A) → ((x : A) → markup_of (f x) ≡ markup_of (g x)) →
    markup_of (flat_map f xs) ≡ markup_of (flat_map g xs)
same_flat_map f g [] each = refl
same_flat_map f g (x ∷ xs) each = same_append (f x) (flat_map f xs) (g x) (flat_map g xs) (each x) (same_flat_map f g xs each)

same_diamond : (x : ℕ) (a b : List ℕ) → markup_of (diamond x (escaped a)) ≡ markup_of (diamond x (escaped b))
unfolding diamond
same_diamond x a b =
    same_shown (codes "<path class=\"bar\" d=\"M" ++ decimal x ++ codes " 3l7 7-7 7-7-7z\"><title>") (codes "</title></path>\n") a b

same_rectangle : (tight : List ℕ) (x width : ℕ) (a b : List ℕ) →
    markup_of (rectangle tight x width (escaped a)) ≡ markup_of (rectangle tight x width (escaped b))
unfolding rectangle
same_rectangle tight x width a b =
    same_shown (rectangle_head tight x width) (codes "</title></rect>\n") a b

same_block : (chart : Chart) (ids rows names : List Name) (bar : Bar) → markup_of (block_of chart bar) ≡ markup_of (block_of (renamed chart ids rows names) bar)
unfolding block_of left_of right_of
same_block chart ids rows names bar =
    let other = renamed chart ids rows names in
    let one = tip_of chart.ids chart.names bar in
    let two = tip_of ids names bar in
    let x = left_of chart bar in
    let width = extent x (right_of chart bar) in
    let tight = tight_class (slack_of chart bar) in
    let a = rectangle tight x width (escaped one) in
    let b = rectangle tight x width (escaped two) in
    same_append (a ++ tail_of chart bar) (number_of chart bar) (b ++ tail_of other bar) (number_of other bar)
    (same_append a (tail_of chart bar) b (tail_of other bar) (same_rectangle tight x width one two) refl) refl

same_bar : (chart : Chart) (ids rows names : List Name) (bar : Bar) → markup_of (bar_of chart bar) ≡ markup_of (bar_of (renamed chart ids rows names) bar)
unfolding bar_of left_of right_of
same_bar chart ids rows names bar =
    let other = renamed chart ids rows names in
    let one = diamond (right_of chart bar) (escaped (tip_of chart.ids chart.names bar)) in
    let two = diamond (right_of chart bar) (escaped (tip_of ids names bar)) in
    same_if (bar.from == bar.to) (milestone_of chart bar) (block_of chart bar) (milestone_of other bar) (block_of other bar)
    (same_if (nat_lt bar.step 1) one [] two [] (same_diamond (right_of chart bar) (tip_of chart.ids chart.names bar) (tip_of ids names bar)) refl)
    (same_block chart ids rows names bar)

same_bars : (chart : Chart) (ids rows names : List Name) (n : ℕ) → markup_of (bars_of chart n) ≡ markup_of (bars_of (renamed chart ids rows names) n)
same_bars chart ids rows names n =
    let other = renamed chart ids rows names in
    same_flat_map (bar_in chart n) (bar_in other n) chart.bars (λ bar.
    same_if (bar.line == n) (bar_of chart bar) [] (bar_of other bar) [] (same_bar chart ids rows names bar) refl)

same_head : (y : ℕ) (a b : List ℕ) → markup_of (line_head y (escaped a)) ≡ markup_of (line_head y (escaped b))
unfolding line_head
same_head y a b =
    same_shown
    (codes "<g transform=\"translate(0," ++ decimal y ++ codes ")\"><svg width=\"322\" height=\"20\"><text x=\"4\" y=\"15\">")
    (codes "</text></svg>\n") a b

same_line : (chart : Chart) (ids rows names : List Name) (k n : ℕ) → markup_of (line_of chart k n) ≡ markup_of (line_of (renamed chart ids rows names) k n)
unfolding line_of
same_line chart ids rows names k n =
    let other = renamed chart ids rows names in
    let one = line_head (20 * k + 22) (escaped (cut label_room (id_label chart.ids chart.rows n))) in
    let two = line_head (20 * k + 22) (escaped (cut label_room (id_label ids rows n))) in
    same_append (one ++ bars_of chart n) (codes "</g>\n") (two ++ bars_of other n) (codes "</g>\n")
    (same_append one (bars_of chart n) two (bars_of other n) (same_head (20 * k + 22) (cut label_room (id_label chart.ids chart.rows n)) (cut label_room (id_label ids rows n)))
    (same_bars chart ids rows names n)) refl

same_lines : (chart : Chart) (ids rows names : List Name) (first count : ℕ) →
    markup_of (lines_of chart first count) ≡ markup_of (lines_of (renamed chart ids rows names) first count)
same_lines chart ids rows names first count =
    let other = renamed chart ids rows names in
    same_flat_map (λ k. line_of chart k (number_at chart (first + k))) (λ k. line_of other k (number_at chart (first + k))) (range_with_len 0 count)
    (λ k. same_line chart ids rows names k (number_at chart (first + k)))

pub same_image_head : (height : ℕ) (opening a b : List ℕ) → markup_of (image_head height opening (escaped a)) ≡ markup_of (image_head height opening (escaped b))
unfolding image_head
same_image_head height opening a b =
    same_shown (image_tag height ++ opening ++ codes "<title>") (codes "</title>\n") a b

-- an image has the same markup whatever its title and its names are
pub same_image : (opening a b : List ℕ) (chart : Chart) (ids rows names : List Name) (first count : ℕ) →
    markup_of (image_of opening a chart first count) ≡ markup_of (image_of opening b (renamed chart ids rows names) first count)
unfolding image_of
same_image opening a b chart ids rows names first count =
    let other = renamed chart ids rows names in
    let one = image_head (20 * count + 26) opening (escaped a) in
    let two = image_head (20 * count + 26) opening (escaped b) in
    let axis = marks chart.span chart.days (20 * count + 5) in
    same_append (one ++ axis ++ lines_of chart first count) (codes "</svg>\n") (two ++ axis ++ lines_of other first count) (codes "</svg>\n")
    (same_append (one ++ axis) (lines_of chart first count) (two ++ axis) (lines_of other first count)
    (same_append one axis two axis (same_image_head (20 * count + 26) opening a b) refl) (same_lines chart ids rows names first count)) refl
