use Rattle.std.proofs.Common.{ℕ, List, [], length, map, sym, ap, ◌∙◌, subst}
use Rattle.plan_net.specs.Network.{unlagged}
use Rattle.plan_net.specs.Limits.{HasGoodSize, HasGoodDurations}
use Rattle.plan_net.specs.Successors.{AreRows}
use Rattle.plan_table.specs.Listing.{listing_of}
use Rattle.plan_table.specs.Jobs.{job_in, table_jobs, durations_of, rows_of}
use Rattle.plan_table.proofs.NetworkLemmas.{table_size, table_durations, table_rows}
use Rattle.plan_table.proofs.checked.check.Goals as goal

pub of_rows-requires-clause-size : goal.of_rows-requires-clause-size
of_rows-requires-clause-size c =
    let t = listing_of c.args.listing.now in
    let is = c.in_ok-durations.ensures ∙ ap (λ js. durations_of (map job_in js)) c.deref.ensures.value ∙ ap durations_of c.in_ok-jobs.ensures in
    subst (λ (ds : List ℕ). HasGoodSize (unlagged ds [])) (sym is) (table_size t c.requires)

pub of_rows-requires-clause-durations : goal.of_rows-requires-clause-durations
of_rows-requires-clause-durations c =
    let t = listing_of c.args.listing.now in
    let is = c.in_ok-durations.ensures ∙ ap (λ js. durations_of (map job_in js)) c.deref.ensures.value ∙ ap durations_of c.in_ok-jobs.ensures in
    subst (λ (ds : List ℕ). HasGoodDurations (unlagged ds [])) (sym is) (table_durations t c.requires)

pub of_rows-requires-clause-rows : goal.of_rows-requires-clause-rows
of_rows-requires-clause-rows c =
    let t = listing_of c.args.listing.now in
    let is = c.in_ok-durations.ensures ∙ ap (λ js. durations_of (map job_in js)) c.deref.ensures.value ∙ ap durations_of c.in_ok-jobs.ensures in
    let rows = c.in_ok-rows.ensures ∙ ap (λ js. rows_of (map job_in js)) c.deref-2.ensures.value ∙ ap rows_of c.in_ok-jobs.ensures in
    subst (λ (rs : List (List ℕ)). AreRows (length c.in_ok-durations.durations.items) rs) (sym rows)
    (subst (λ (ds : List ℕ). AreRows (length ds) (rows_of (table_jobs t))) (sym is) (table_rows t c.requires))
