use Rattle.std.proofs.Common.{◌≡◌, List, ◌++◌, [], ◌∷◌, take, map, ap, ◌∙◌, arith, ℕ, ◌+◌}
use Rattle.std.proofs.lemmas.List.{map_push}
use Rattle.plan_table.specs.Table.{Activity, activity_of}
use Rattle.plan_table.specs.Jobs.{Job, job_in, job_of, dummy, numbers_where, is_first}
use Rattle.plan_table.proofs.NumberedLemmas.{next_written, numbered-more}
use Rattle.plan_table.proofs.JobLemmas.{jobs_so_far}
use Rattle.plan_table.proofs.jobs.jobs.Goals as goal

pub loop-k-preserved : goal.loop-k-preserved
loop-k-preserved c =
    let k = c.loop-k.k in
    let xs = c.args.activities.now in
    let all = map activity_of xs in
    let first = dummy (numbers_where is_first all) c.args.resources in
    let number : k + 2 ≡ 2 + k = omega arith in
    let a = c.index-activities-k.result in
    let so_far = jobs_so_far all (map activity_of (take k xs)) in
    let made = c.in_ok-next.next in
    let f : ℕ → Activity → List Job = λ j x. job_of all j x ∷ [] in
    next_written (first ∷ []) (map job_in c.loop-k.made.items) (map job_in c.push.new.self.items) so_far (f (2 + k) (activity_of a))
    (jobs_so_far all (map activity_of (take (k + 1) xs))) c.loop-k.invariant
    (ap (map job_in) c.in_ok-push.ensures.items ∙ map_push job_in c.loop-k.made.items made
    ∙ ap (λ (j : Job). map job_in c.loop-k.made.items ++ j ∷ []) (c.in_ok-next.ensures ∙ ap (λ j. job_of all j (activity_of a)) number))
    (numbered-more f activity_of 2 xs k a a (omega arith) c.index-activities-k.is)
