use Rattle.std.proofs.Common.{ℕ, ◌≡◌, subst}
use Rattle.std.specs.Result.{OnOk}
use Rattle.plan_net.specs.Network.{Net, lag_of}
use Rattle.plan_net.proofs.SoundLemmas.{sound_after, lag_after, lags_after}
use Rattle.plan_net.proofs.network.Network.set_lag.Goals as goal

pub invariant_of-self : goal.invariant_of-self
invariant_of-self c =
    sound_after c.self.inside.arcs c.set_lag.new.self c.self.inside.order.items c.args.i c.args.j c.args.lag c.set_lag.result c.set_lag.ensures.ok c.set_lag.ensures.err c.self.invariant

pub returns-clause-value : goal.returns-clause-value
returns-clause-value c =
    lag_after c.self.inside.arcs c.set_lag.new.self c.args.i c.args.j c.args.lag c.set_lag.result c.self.invariant.0 c.set_lag.ensures.ok

pub returns-clause-others : goal.returns-clause-others
returns-clause-others c =
    subst (λ (net : Net). OnOk c.set_lag.result ((h k : ℕ) → ((h ≡ c.args.i) × (k ≡ c.args.j) → ⊥) → lag_of c.set_lag.new.self h k ≡ lag_of net h k)) c.self.view_is
    (lags_after c.self.inside.arcs c.set_lag.new.self c.args.i c.args.j c.args.lag c.set_lag.result c.set_lag.ensures.ok)

pub returns-clause-sound : goal.returns-clause-sound
returns-clause-sound c =
    (sound_after c.self.inside.arcs c.set_lag.new.self c.self.inside.order.items c.args.i c.args.j c.args.lag c.set_lag.result c.set_lag.ensures.ok c.set_lag.ensures.err c.self.invariant).0
