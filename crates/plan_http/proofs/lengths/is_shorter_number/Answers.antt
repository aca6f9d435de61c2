use Rattle.std.proofs.Common.{◌≡◌, ◌+◌, ◌-◌, true, false, length, take, sym, ap, ◌∙◌, arith}
use Rattle.std.specs.List.{list_all}
use Rattle.std.specs.Str.{bytes_eq}
use Rattle.plan_http.specs.Lengths.{is_zero}
use Rattle.plan_http.proofs.DigitLemmas.{shorter_is}
use Rattle.plan_http.proofs.lengths.is_shorter_number.Goals as goal

pub returns-then-are_zeros : goal.returns-then-are_zeros
returns-then-are_zeros c =
    let k = length c.args.long.now - length c.args.short.now in
    let sum : k + length c.args.short.now ≡ length c.args.long.now = omega arith in
    let is = shorter_is c.args.long.now c.args.short.now k sum c.requires.long c.requires.short in
    let zeros : list_all is_zero (take k c.args.long.now) ≡ true =
    sym (ap (list_all is_zero) c.split_at.ensures.front) ∙ sym c.are_zeros.ensures ∙ c.if-are_zeros.true in
    c.eq.ensures ∙ ap (λ rest. bytes_eq rest c.args.short.now) c.split_at.ensures.back ∙ sym (rw zeros at is)

pub returns-else-are_zeros : goal.returns-else-are_zeros
returns-else-are_zeros c =
    let k = length c.args.long.now - length c.args.short.now in
    let sum : k + length c.args.short.now ≡ length c.args.long.now = omega arith in
    let is = shorter_is c.args.long.now c.args.short.now k sum c.requires.long c.requires.short in
    let other : list_all is_zero (take k c.args.long.now) ≡ false =
    sym (ap (list_all is_zero) c.split_at.ensures.front) ∙ sym c.are_zeros.ensures ∙ c.if-are_zeros.false in
    c.if-are_zeros.false ∙ sym (rw other at is)
