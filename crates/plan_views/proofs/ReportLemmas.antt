-- The texts of slacks and comparisons are the texts that plan_report defines.
use Rattle.std.proofs.Common.{◌≡◌, ℕ, ◌+◌, ◌-◌, ◌/◌, ◌%◌, ◌==◌, Bool, true, false, if◌then◌else◌, nat_lt, List, [], ◌∷◌, ◌++◌, Option, Some, None, Vec, map}
use Rattle.std.proofs.Common.{codes, get_or, slice_index, refl, sym, ap, ◌∙◌, arith}
use Rattle.std.specs.Fmt.{decimal}
use Rattle.std.proofs.lemmas.Fmt.{decimal_digit}
use Rattle.std.specs.Global.{Global}
use Rattle.std.specs.Option.{IfSome, IfNone}
use Rattle.std.proofs.lemmas.List.{append_assoc, append-nil}
use Rattle.plan_net.specs.Network.{Net}
use Rattle.plan_net.specs.Network as networks
use Rattle.plan_shop.specs.Shop.{JobShop, idle}
use Rattle.plan_sgs.specs.Problem.{makespan}
use Rattle.plan_sgs.specs.Instances.{Planned}
use Rattle.plan_sgs.specs.Instances as projects
use Rattle.plan_gantt.specs.Column.{column, lines_from, number_column, number_columns}
use Rattle.plan_gantt.specs.ScheduleTable.{start_of}
use Rattle.plan_report.specs.Chain.{IsChain, NoChain}
use Rattle.plan_report.specs.Comparison.{comparison_heading, shift_line, shift_text}
use Rattle.plan_report.specs.ShopComparison.{shop_comparison_heading, shop_shift_line}
use Rattle.plan_report.specs.SlackText.{IsChainAnswer, IsSlackText, chain_line, slack_heading, slack_line, slack_table_text, times_of}
use Rattle.plan_formats.specs.Cells.{Cell, above, below, empty, flag, number}
use Rattle.plan_formats.specs.Cells as cells
use Rattle.plan_formats.specs.Columns.{Column, mark_of}
use Rattle.plan_formats.specs.TableLines.{Line, chain, chain_of, line_text, lines_text}
use Rattle.plan_formats.specs.TableText.{heading_row, row_line, row_of, rows_text, text_of}
use Rattle.plan_formats.specs.Tables.{Table}
use Rattle.plan_views.specs.Rows.{rows_from}
use Rattle.plan_views.specs.SlackTables.{IsSlackView, slack_columns, slack_row, slack_view_of}
use Rattle.plan_views.specs.ComparisonTables.{Compares, IsComparisonView, comparison_columns, comparison_row, shift_of, summary_of}
use Rattle.plan_views.specs.Plans.{Plan, project, shop, count_of, problem_of}
use Rattle.plan_views.proofs.TextLemmas.{IsPlainly, at_index, body_text, ended_line, lines_by_index, mark_end, nested, one_below}

slack_plainly : (net : Net) (starts slacks : List ℕ) → IsPlainly slack_columns slack_heading (slack_row net starts slacks) (slack_line net starts slacks)
unfolding slack_row slack_line number_column
slack_plainly net starts slacks place =
    (refl, λ j. ended_line place j (times_of net starts slacks j) (mark_of (flag (start_of slacks j == 0)) ++ []) _ (mark_end (start_of slacks j == 0)))

chain_end : (found : Option (List ℕ)) → line_text (chain found) ≡ chain_line found
chain_end None = refl
chain_end (Some js) = refl

slack_table : (net : Net) (starts slacks : List ℕ) (found : Option (List ℕ)) → text_of (slack_view_of net starts slacks found) ≡ slack_table_text net starts slacks found
slack_table net starts slacks found =
    one_below slack_columns slack_heading (slack_row net starts slacks) (slack_line net starts slacks) (slack_plainly net starts slacks) 1 (networks.count_of net) (chain found)
    ∙ ap (λ last. slack_heading ++ lines_from (slack_line net starts slacks) 1 (networks.count_of net) ++ last) (chain_end found)

-- the table of slacks
pub slack_text : (i : Planned) (starts : List ℕ) (table : Table) → IsSlackView i starts table → IsSlackText i starts (text_of table)
slack_text i starts table is = record {
  slacks = is.slacks;
  are = is.are;
  chain = is.chain;
  answer = is.answer;
  shown = ap text_of is.shown ∙ slack_table i.project.network starts is.slacks is.chain;
}

-- a chain that was found, or none
pub answer_of : (i : Planned) (s slacks : List ℕ) (o : Option (Vec ℕ Global)) → IfSome o (λ found. IsChain (projects.problem_of i) s slacks found.items) → IfNone o (NoChain (projects.problem_of i) s slacks)
    → IsChainAnswer i s slacks (chain_of o)
answer_of i s slacks None some none = none
answer_of i s slacks (Some found) some none = some

shift_cases : (later earlier : Bool) (a b : ℕ)
    → cells.text_of (if later then above (b - a) else if earlier then below (a - b) else number 0)
    ≡ (if later then codes "+" ++ decimal (b - a) else if earlier then codes "-" ++ decimal (a - b) else codes "0")
shift_cases true earlier a b = refl
shift_cases false true a b = refl
shift_cases false false a b = decimal_digit 0 (omega arith)

-- the text of a shift
shift_cell : (a b : ℕ) → cells.text_of (shift_of a b) ≡ shift_text a b
shift_cell a b = shift_cases (nat_lt a b) (nat_lt b a) a b

-- a row of numbers with a shift behind them
shifted_line : (place first : ℕ) (ns : List ℕ) (a b : ℕ)
    → row_line place (record { base = number_column 4 first ++ nested ns (column 8 (cells.text_of (shift_of a b)) ++ []); label = empty })
    ≡ number_column 4 first ++ number_columns ns ++ column 8 (shift_text a b) ++ codes "\n"
shifted_line place first ns a b =
    ended_line place first ns (column 8 (cells.text_of (shift_of a b)) ++ []) (column 8 (shift_text a b) ++ codes "\n")
    (ap (λ bytes. bytes ++ codes "\n") (append-nil (column 8 (cells.text_of (shift_of a b)))) ∙ ap (λ word. column 8 word ++ codes "\n") (shift_cell a b))
    ∙ sym (append_assoc (number_column 4 first ++ number_columns ns) (column 8 (shift_text a b)) (codes "\n"))

-- the text of a table without lines above and with two below
two_below : (columns : List Column) (heading : List ℕ) (row : ℕ → List Cell) (line : ℕ → List ℕ)
    → IsPlainly columns heading row line → (first count : ℕ) (a b : Line)
    → rows_text (heading_row columns ∷ map (row_of columns) (rows_from row first count)) ++ lines_text (a ∷ b ∷ [])
    ≡ heading ++ lines_from line first count ++ line_text a ++ line_text b
two_below columns heading row line plainly first count a b =
    ap (λ bytes. bytes ++ lines_text (a ∷ b ∷ [])) (body_text columns heading row line plainly first count)
    ∙ ap (λ bytes. heading ++ lines_from line first count ++ (line_text a ++ bytes)) (append-nil (line_text b))
    ∙ sym (append_assoc (heading ++ lines_from line first count) (line_text a) (line_text b))

-- the line of activity j with its starts
abbrev moved_line : ℕ → ℕ → ℕ → List ℕ
moved_line j before after = number_column 4 j ++ number_column 8 before ++ number_column 8 after ++ column 8 (shift_text before after) ++ codes "\n"

activity_moved : (place j before after : ℕ)
    → row_line place (record { base = number_column 4 j ++ nested (before ∷ after ∷ []) (column 8 (cells.text_of (shift_of before after)) ++ []); label = empty })
    ≡ moved_line j before after
activity_moved place j before after =
    shifted_line place j (before ∷ after ∷ []) before after
    ∙ ap (λ bytes. bytes ++ column 8 (shift_text before after) ++ codes "\n")
    (ap (λ bytes. number_column 4 j ++ (number_column 8 before ++ bytes)) (append-nil (number_column 8 after))
    ∙ sym (append_assoc (number_column 4 j) (number_column 8 before) (number_column 8 after)))

project_plainly : (i : Planned) (a b : List ℕ) → IsPlainly (comparison_columns (project i)) comparison_heading (comparison_row (project i) a b) (λ k. shift_line a b (k + 1))
unfolding comparison_row shift_line number_column
project_plainly i a b place = (
  refl,
  λ k. activity_moved place (k + 1) (slice_index a k) (slice_index b k)
      ∙ ap (λ (t : ℕ). moved_line (k + 1) t (slice_index b k)) (at_index a k)
      ∙ ap (λ (t : ℕ). moved_line (k + 1) (start_of a (k + 1)) t) (at_index b k),
)

shop_plainly : (s : JobShop) (a b : List ℕ) → IsPlainly (comparison_columns (shop s)) shop_comparison_heading (comparison_row (shop s) a b) (shop_shift_line s a b)
unfolding comparison_row shop_shift_line number_column
shop_plainly s a b place = (
  refl,
  λ x. shifted_line place (x / s.machines + 1) ((x % s.machines + 1) ∷ (get_or s.steps x idle).machine ∷ slice_index a x ∷ slice_index b x ∷ []) (slice_index a x) (slice_index b x),
)

-- the comparison of two schedules
pub comparison_text : (p : Plan) (a b : List ℕ) (table : Table) → IsComparisonView p a b table → Compares p a b (text_of table)
comparison_text (project i) a b table is =
    let line_a = summary_of (project i) (codes "A") (makespan (problem_of (project i)) a) is.verdict_a in
    let line_b = summary_of (project i) (codes "B") (makespan (problem_of (project i)) b) is.verdict_b in
    record {
      verdict_a = is.verdict_a;
      first_a = is.first_a;
      verdict_b = is.verdict_b;
      first_b = is.first_b;
      shown = ap text_of is.shown
          ∙ two_below (comparison_columns (project i)) comparison_heading (comparison_row (project i) a b) (λ k. shift_line a b (k + 1)) (project_plainly i a b) 0 (count_of (project i)) line_a line_b
          ∙ ap (λ bytes. comparison_heading ++ bytes ++ line_text line_a ++ line_text line_b) (lines_by_index (shift_line a b) (count_of (project i)));
    }
comparison_text (shop s) a b table is = record {
  verdict_a = is.verdict_a;
  first_a = is.first_a;
  verdict_b = is.verdict_b;
  first_b = is.first_b;
  shown = ap text_of is.shown
      ∙ two_below (comparison_columns (shop s)) shop_comparison_heading (comparison_row (shop s) a b) (shop_shift_line s a b) (shop_plainly s a b) 0 (count_of (shop s))
      (summary_of (shop s) (codes "A") (makespan (problem_of (shop s)) a) is.verdict_a) (summary_of (shop s) (codes "B") (makespan (problem_of (shop s)) b) is.verdict_b);
}
