-- The limits of the problem of an instance, and the instant by which the activities of a list have
-- ended.
use Rattle.std.proofs.Common.{ℕ, ◌+◌, ◌*◌, ◌≡◌, ◌≤◌, List, length, cond}
use Rattle.std.specs.List.{All}
use Rattle.plan_sgs.specs.Problem.{Problem, count, duration, total, LinksInside, NeedsFit}
use Rattle.plan_sgs.specs.Rules.{is_member}

-- facts of the problem of every instance
pub record IsBounded (p : Problem) : Type 0 where
  pub inside : LinksInside p
  pub fit : NeedsFit p
  pub rows : length p.needs ≡ count p
  pub lags : All (λ a. a.lag ≤ 10000) p.links
  pub lasting : (i : ℕ) → duration p i ≤ 10000
  pub work : total (count p) (duration p) ≤ 1000000
  pub few : count p ≤ 502

-- the instant by which the activities of a list have ended: their durations, and a greatest lag for
-- each
abbrev pub bound_of : Problem → List ℕ → ℕ
bound_of p taken = total (count p) (λ i. cond (is_member i taken) (duration p i) 0) + length taken * 10000
