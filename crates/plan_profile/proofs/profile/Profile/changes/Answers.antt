-- The kept changes are exactly those of the usage.
use Rattle.std.proofs.Common.{length, get_or}
use Rattle.std.proofs.lemmas.List.Elements.{Contains-get_or}
use Rattle.plan_profile.specs.InUse.{in_use, capacities}
use Rattle.plan_profile.specs.Steps.{lists}
use Rattle.plan_profile.specs.declared.profile.TheConstants.{END}
use Rattle.plan_profile.proofs.ChangeLemmas.{change_from_there, there_from_change, changes_end}
use Rattle.plan_profile.proofs.FlatLemmas.{first_wide}
use Rattle.plan_profile.proofs.profile.Profile.changes.Goals as goal

pub returns-clause-exact : goal.returns-clause-exact
unfolding in_use capacities
returns-clause-exact c =
    let rows = lists (length c.args.self.now.caps.items) c.args.self.now.changes.items c.args.self.now.rows.items in
    rw c.deref.ensures.value (λ t. (
      λ there. change_from_there c.args.self.now.changes.items rows
          (length c.args.self.now.caps.items) t c.args.self.now.steps
          (first_wide (length c.args.self.now.caps.items) c.args.self.now.changes.items
          c.args.self.now.rows.items c.args.self.now.wide) c.args.self.now.true_changes there,
      λ change. there_from_change c.args.self.now.changes.items rows (length c.args.self.now.caps.items) t c.args.self.now.steps change,
    ))

pub returns-clause-in_time : goal.returns-clause-in_time
unfolding in_use capacities
returns-clause-in_time c =
    let rows = lists (length c.args.self.now.caps.items) c.args.self.now.changes.items c.args.self.now.rows.items in
    rw c.deref.ensures.value (λ k d inside.
    changes_end END c.args.self.now.changes.items rows c.args.self.now.steps c.args.self.now.true_changes c.args.self.now.ended
    (get_or c.args.self.now.changes.items k d) (Contains-get_or c.args.self.now.changes.items k d inside))
