use Rattle.std.proofs.Common.{subst}
use Rattle.plan_desk.proofs.DecidingLemmas.{quiet_reads, quiet_then}
use Rattle.plan_summary.specs.Digests.{IsDigestOf}
use Rattle.plan_summary.proofs.SummaryLemmas.{summed}
use Rattle.plan_summary.proofs.summary.summary_of.Goals as goal

pub returns : goal.returns
returns g c =
    let listed = c.in_ok-rows.ensures in
    let digested = c.in_ok-digest.ensures in record {
      quiet = quiet_then g.B.Book.shelf c.args.book.now c.list.new.self c.digest_of.new.book (quiet_reads g.B.Book.shelf c.args.book.now c.list.new.self _ _ listed) digested.quiet;
      found = λ h s.
          let clean = digested.quiet.honesty h in
          let rows = listed.answer clean in
          let rest = digested.found h rows.0 in (
            rest.0,
            summed (g.B.Book.shelf.world c.args.book.now) c.in_ok-rows.rows rows.1 c.in_ok-digest.digest c.summary_by.result (g.met.B.Book.whole c.args.book.now s)
                (subst (λ w. IsDigestOf c.in_ok-rows.rows w c.in_ok-digest.digest) (listed.same clean rows.0) rest.1) c.summary_by.ensures,
          );
    }
