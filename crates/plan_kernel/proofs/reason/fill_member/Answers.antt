use Rattle.std.proofs.Common.{◌∙◌, ◌+◌, ◌-◌, ◌≤◌, ◌⊎◌, inl, inr, ℕ, List, Vec, ap, sym, subst, arith}
use Rattle.std.specs.List.{All}
use Rattle.std.specs.declared.alloc.Global.{Global}
use Rattle.plan_sgs.specs.Problem.{duration}
use Rattle.plan_kernel.specs.declared.literal.Literal.{Literal}
use Rattle.plan_kernel.specs.Inputs.{problem_of}
use Rattle.plan_kernel.specs.Literals.{at, Fails}
use Rattle.plan_kernel.specs.Reasons.{below}
use Rattle.plan_kernel.proofs.InputLemmas.{duration_is}
use Rattle.plan_kernel.proofs.ReasonLemmas.{fails_last, member_fills}
use Rattle.plan_kernel.proofs.reason.fill_member.Goals as goal
use Rattle.plan_kernel.proofs.reason.fill_member.Goals.{then-latest-duration+in_ok-push, else-latest-duration}

pub returns : goal.returns
returns c starts short fail =
    let input = c.args.input.now in
    let m = c.args.member in
    let from : ℕ = c.args.from in
    let old : List Literal = c.args.clause.now.items in
    let middle : List Literal = c.if-latest-duration.clause.items in
    let lasts = c.at-duration.ensures ∙ ap (λ (xs : List ℕ). at xs m.activity) c.deref.ensures.value ∙ sym (duration_is input m.activity) in
    let early : All (Fails input starts) middle → All (Fails input starts) old × ((from + m.time ≤ duration (problem_of input) m.activity)
    ⊎ Fails input starts (below m.activity (from + m.time - duration (problem_of input) m.activity))) = λ all.
    elim c.if-latest-duration.branch [
      | then-latest-duration+in_ok-push w ↦
          let items = ap (λ (v : Vec Literal Global). v.items) w.clause-is in
          let first = fails_last (Fails input starts) old middle w.below.result (items ∙ w.in_ok-push.ensures.items) all in
          (first.1, inr (rw lasts at (rw w.below.ensures at first.0)))
      | else-latest-duration w ↦
          (subst (λ (v : Vec Literal Global). All (Fails input starts) v.items) w.clause-is all, inl (omega (arith, w.if-latest-duration.false, lasts)))
    ] in
    member_fills input from c.args.until m starts old middle c.push-2.new.self.items c.at_least.result c.requires.member c.requires.window c.requires.limit short
    early c.at_least.ensures c.in_ok-push-2.ensures.items fail
