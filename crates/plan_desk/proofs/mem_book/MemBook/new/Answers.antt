use Rattle.std.proofs.Common.{◌≡◌, true, subst, sym}
use Rattle.plan_rows.specs.Names.{is_digest}
use Rattle.plan_rows.specs.Rules.{IsWorld}
use Rattle.plan_desk.proofs.mem_book.MemBook.new.Goals as goal

pub invariant_of-result : goal.invariant_of-result
invariant_of-result c =
    let digest : is_digest c.args.digest ≡ true = c.known_digest.ensures in
    record {
      whole = ∣ subst IsWorld (sym c.new.ensures) (record {
        office = digest;
        published = tt;
        desks = tt;
        plans = tt;
        codes_differ = tt;
        desks_differ = tt;
        plans_differ = tt;
        binds_differ = tt;
        lags_differ = tt;
        few = tt;
        owned = tt;
        bound = tt;
        lagged = tt;
      }) ∣₁;
    }
