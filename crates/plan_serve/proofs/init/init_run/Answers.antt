use Rattle.std.proofs.Common.{◌≡◌, subst, sym, refl, None, Ok, Err}
use Rattle.plan_serve.specs.InitRun.{MakesNone}
use Rattle.plan_serve.proofs.InitLemmas.{unread, unopened, unmade}
use Rattle.plan_serve.proofs.init.init_run.Goals as goal

pub returns-in-Err-clause-inits : goal.returns-in-Err-clause-inits
returns-in-Err-clause-inits g c =
    unread g.P.Kept.Store (λ conn. g.P.Place.connects c.args.place.now c.args.place.now (Ok conn))
    (λ cause. g.P.Place.connects c.args.place.now c.args.place.now (Err cause)) (c.args.place.now ≡ c.args.place.now) refl
    (g.R.Source.remaining c.args.reader.now) (g.R.Source.remaining c.read_key.new.reader) c.in-Err.fault
    c.in-Err.ensures.takes

pub returns-in-Err-connect-clause-inits : goal.returns-in-Err-connect-clause-inits
returns-in-Err-connect-clause-inits g c =
    subst (λ e. MakesNone g.P.Kept.Store (λ conn. g.P.Place.connects c.args.place.now c.connect.new.self (Ok conn))
    (λ cause. g.P.Place.connects c.args.place.now c.connect.new.self (Err cause)) (c.connect.new.self ≡ c.args.place.now)
    (g.R.Source.remaining c.args.reader.now) (g.R.Source.remaining c.read_key.new.reader) e None)
    (sym c.store_fault.ensures)
    (unopened g.P.Kept.Store (λ conn. g.P.Place.connects c.args.place.now c.connect.new.self (Ok conn))
    (λ cause. g.P.Place.connects c.args.place.now c.connect.new.self (Err cause)) (c.connect.new.self ≡ c.args.place.now)
    (g.R.Source.remaining c.args.reader.now) (g.R.Source.remaining c.read_key.new.reader) c.in-Ok.digest
    c.in-Ok.ensures.takes c.in-Err-connect.fault c.in-Err-connect.ensures.connected
    c.in-Err-connect.ensures.which)

pub returns-in-Ok-create_in-clause-inits : goal.returns-in-Ok-create_in-clause-inits
returns-in-Ok-create_in-clause-inits g c = (
  c.in-Ok.digest,
  c.in-Ok.ensures.takes,
  (c.in-Ok-connect.conn, c.in-Ok-connect.ensures.connected, c.in-Ok-create_in.ensures.empty),
  record {
    stands = λ clean. (c.in-Ok-create_in.ensures.made clean).0;
    world = λ clean. (c.in-Ok-create_in.ensures.made clean).1;
    durable = c.in-Ok-create_in.ensures.durable;
  },
)

pub returns-in-Err-create_in-clause-inits : goal.returns-in-Err-create_in-clause-inits
returns-in-Err-create_in-clause-inits g c =
    unmade g.P.Kept.Store (λ conn. g.P.Place.connects c.args.place.now c.connect.new.self (Ok conn))
    (λ cause. g.P.Place.connects c.args.place.now c.connect.new.self (Err cause)) (c.connect.new.self ≡ c.args.place.now)
    (g.R.Source.remaining c.args.reader.now) (g.R.Source.remaining c.read_key.new.reader) c.in-Ok.digest
    c.in-Ok.ensures.takes c.in-Ok-connect.conn c.in-Err-create_in.conn c.in-Err-create_in.fault
    c.init_fault.result c.in-Ok-connect.ensures.connected c.in-Err-create_in.ensures.ours
    c.in-Err-create_in.ensures.known c.in-Err-create_in.ensures.untouched
    (record { outside = c.in-Err-create_in.ensures.outside; kept = c.in-Err-create_in.ensures.kept; crash = c.in-Err-create_in.ensures.crash }) c.init_fault.ensures
