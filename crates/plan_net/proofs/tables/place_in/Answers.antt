use Rattle.std.proofs.Common.{ℕ, ◌≡◌, ◌-◌, ◌<◌, List, length, slice_index, sym, ◌∙◌, subst, arith}
use Rattle.std.specs.List.{Contains}
use Rattle.std.specs.List.Sorted.{IsStrictlyIncreasing}
use Rattle.plan_net.specs.Indexed.{row_at}
use Rattle.plan_net.proofs.RowLemmas.{row_at-read}
use Rattle.plan_net.proofs.tables.place_in.Goals as goal

pub place_in_row-requires : goal.place_in_row-requires
place_in_row-requires c =
    let rows = c.args.rows.now in
    let within : c.args.j - 1 < length rows = omega arith in
    let read : row_at rows (c.args.j - 1) ≡ c.deref.result.now = row_at-read rows (c.args.j - 1) c.index-rows-row.result within c.index-rows-row.is ∙ sym c.deref.ensures.value in
    subst IsStrictlyIncreasing read (c.requires (c.args.j - 1) within)

pub returns-in-Some-clause-some : goal.returns-in-Some-clause-some
returns-in-Some-clause-some c =
    let rows = c.args.rows.now in
    let within : c.args.j - 1 < length rows = omega arith in
    let read : row_at rows (c.args.j - 1) ≡ c.deref.result.now = row_at-read rows (c.args.j - 1) c.index-rows-row.result within c.index-rows-row.is ∙ sym c.deref.ensures.value in
    let some = subst (λ (row : List ℕ). (c.in-Some.place < length row) × (slice_index row c.in-Some.place ≡ c.args.i)) (sym read) c.in-Some.ensures.some in
    (omega arith, within, some.0, some.1)

pub returns-in-None-clause-none : goal.returns-in-None-clause-none
returns-in-None-clause-none c low high has =
    let rows = c.args.rows.now in
    let within : c.args.j - 1 < length rows = omega arith in
    let read : row_at rows (c.args.j - 1) ≡ c.deref.result.now = row_at-read rows (c.args.j - 1) c.index-rows-row.result within c.index-rows-row.is ∙ sym c.deref.ensures.value in
    c.in-None.ensures.none (subst (λ (xs : List ℕ). Contains xs c.args.i) read has)
