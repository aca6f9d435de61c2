use Rattle.std.proofs.Common.{map}
use Rattle.plan_table.specs.Overrides.{override_of}
use Rattle.plan_table.specs.Listing.{listing_of}
use Rattle.plan_table.proofs.TableLimitLemmas.{table_good}
use Rattle.plan_table.proofs.reading.read_sound_table.Goals as goal

pub check_cycle-requires : goal.check_cycle-requires
check_cycle-requires c = table_good (map override_of c.args.overrides.now) c.args.text.now (listing_of c.in_ok-listing.listing) c.in_ok-listing.ensures

pub invariant_of-result : goal.invariant_of-result
invariant_of-result c =
    record {
      limits = table_good (map override_of c.args.overrides.now) c.args.text.now (listing_of c.in_ok-listing.listing) c.in_ok-listing.ensures;
      sound = c.in_ok-check_cycle.ensures.sound;
    }
