use Rattle.std.proofs.Common.{◌≡◌, ℕ, inl, sym, subst}
use Rattle.plan_kernel.specs.Kernels as kernels
use Rattle.plan_solve.specs.Progress.{Progress}
use Rattle.plan_solve.proofs.ProgressLemmas.{heard_of_best}
use Rattle.plan_solve.proofs.sessions.tell.Goals as goal
use Rattle.plan_solve.proofs.sessions.tell.Goals.{in-Some, in_default}

pub returns : goal.returns
returns g c p was = elim c.match-best.branch [
  | in-Some w ↦
      let input = c.args.kernel.now.known.input in
      let starts = w.in-Some._starts.now in
      let best : kernels.IsBest input starts w.upper.result = subst (λ (n : ℕ). kernels.IsBest input starts n) (sym w.upper.ensures.value) w.in-Some.ensures.some in
      heard_of_best input (g.S.Solvable.problem c.args.source.now) starts w.upper.result w.lower_bound-lower.result c.args.conflicts
      (g.W.Watcher.was_told c.args.watcher.now) (g.W.Watcher.was_told w.tell.new.self) c.requires.problem best w.lower_bound-lower.ensures.lower w.tell.ensures p
      (subst (λ x. g.W.Watcher.was_told x p) w.watcher-is (c.is_late.ensures p was))
  | in_default w ↦ inl (subst (λ x. g.W.Watcher.was_told x p) w.watcher-is (c.is_late.ensures p was))
]
