-- Schedules by a rule are within the limits of texts.
use Rattle.std.proofs.Common.{◌≡◌, ℕ, ◌+◌, ◌≤◌, ◌<◌, List, get_or, sym, ◌∙◌, subst, arith, []}
use Rattle.std.specs.Prelude.{All}
use Rattle.plan_sgs.specs.Problem.{IsActive, count, duration, makespan}
use Rattle.plan_sgs.specs.Instances.{Planned, problem_of}
use Rattle.plan_sgs.specs.Placement.{AllEndBy}
use Rattle.plan_sgs.specs.Placement as placing
use Rattle.plan_sgs.specs.declared.schedule.Schedule.{Schedule}
use Rattle.plan_sgs.proofs.InstanceLemmas.{count-problem}
use Rattle.plan_sgs.proofs.TotalLemmas.{greatest_least}
use Rattle.plan_shop.specs.Shop.{JobShop, count_steps, time_of, idle}
use Rattle.plan_shop.specs.Shop as shops
use Rattle.plan_shop.specs.Docs.{IsSmallShop}
use Rattle.plan_shop.proofs.ShopBasics.{count_is, duration_is}
use Rattle.plan_gantt.specs.Limits.{latest_end}
use Rattle.plan_net.specs.Network.{count_of}
use Rattle.plan_cli.specs.Scheduled.{CanBeShown, IsShowable}
use Rattle.plan_documents.specs.declared.documents.Plan.TheVariants as plan

-- texts can show an active schedule of which all activities end early
pub fits_early : (i : Planned) (s : Schedule) → IsActive (problem_of i) s.starts.items
    → AllEndBy (problem_of i) s.starts.items placing.latest_end
    → s.makespan ≡ makespan (problem_of i) s.starts.items → CanBeShown (count_of i.project.network) s
fits_early i s active ends is = record {
  each_started = active.feasible.each_started ∙ count-problem i;
  in_time = λ k inside.
      let below : k < count (problem_of i) = subst (λ n. k < n) active.feasible.each_started inside in
      let early = ends k below in
      omega (arith, early);
  ends =
      let few = greatest_least (count (problem_of i)) (λ x. get_or s.starts.items x 0 + duration (problem_of i) x) placing.latest_end ends in
      omega (arith, few, is);
}

-- the schedule of an instance by a rule can be shown
pub shown_by : (i : Planned) (s : Schedule) → IsActive (problem_of i) s.starts.items
    → AllEndBy (problem_of i) s.starts.items placing.latest_end
    → s.makespan ≡ makespan (problem_of i) s.starts.items → IsShowable (plan.Project i []) s
shown_by i s active ends is = record { makespan = is; fits = fits_early i s active ends is }

-- the duration of a step is within the limit of files
short_step : (s : JobShop) → IsSmallShop s → (x : ℕ) → x < count_steps s → time_of s x ≤ 10000
short_step s small x inside = small.short x idle inside

-- the makespan of starts within their limit is within the limit of texts
shop_ends : (s : JobShop) (starts : List ℕ) → IsSmallShop s → IsActive (shops.problem_of s) starts
    → All (λ t. t ≤ 10000000) starts → makespan (shops.problem_of s) starts ≤ latest_end
shop_ends s starts small active within =
    greatest_least (count (shops.problem_of s)) (λ x. get_or starts x 0 + duration (shops.problem_of s) x) latest_end each
  where
    each : (x : ℕ) → x < count (shops.problem_of s)
        → get_or starts x 0 + duration (shops.problem_of s) x ≤ latest_end
    each x below =
        let early = within x 0 (subst (λ n. x < n) (sym active.feasible.each_started) below) in
        let short = short_step s small x (subst (λ n. x < n) (count_is s) below) in
        let lasts = duration_is s x in
        omega (arith, early, short, lasts)

-- texts can show an active schedule of a job shop with early starts
pub fits_shop : (s : JobShop) (m : Schedule) → IsSmallShop s → IsActive (shops.problem_of s) m.starts.items
    → m.makespan ≡ makespan (shops.problem_of s) m.starts.items → All (λ t. t ≤ 10000000) m.starts.items
    → CanBeShown (count_steps s) m
fits_shop s m small active is within = record {
  each_started = active.feasible.each_started ∙ count_is s;
  in_time = λ k inside. within k 0 inside;
  ends = subst (λ n. n ≤ latest_end) (sym is) (shop_ends s m.starts.items small active within);
}

-- the schedule of a job shop by a rule can be shown
pub shop_shown_by : (s : JobShop) (m : Schedule) → IsSmallShop s → IsActive (shops.problem_of s) m.starts.items
    → m.makespan ≡ makespan (shops.problem_of s) m.starts.items → All (λ t. t ≤ 10000000) m.starts.items
    → IsShowable (plan.Shop s) m
shop_shown_by s m small active is within = record { makespan = is; fits = fits_shop s m small active is within }
