use Rattle.std.proofs.Common.{rules, ◌≡◌, List, ℕ, None, arith, sym, subst, [], ◌∷◌}
use Rattle.std.specs.Io.KnownBytes.{Consumes, IsAtEnd}
use Rattle.plan_door.specs.Keys.{IsFront}
use Rattle.plan_door.proofs.KeyLemmas.{at_end, with_feed, as_long, of_none, of_some}
use Rattle.plan_door.proofs.key.read_line.Goals as goal

pub returns-in_default-next-clause-front : goal.returns-in_default-next-clause-front
returns-in_default-next-clause-front g c =
    let had = g.R.Source.remaining c.loop.reader in
    let left = g.R.Source.remaining c.next_byte.new.reader in
    let is : c.in-Ok.next ≡ None = search rules in
    let end = of_none (IsAtEnd left × Consumes had left []) (λ byte. Consumes had left (byte ∷ [])) c.in-Ok.next c.in-Ok.ensures.byte is in
    at_end (g.R.Source.remaining c.args.reader.now) (g.R.Source.remaining c.loop.reader) (g.R.Source.remaining c.next_byte.new.reader) c.loop.line.items
    (omega (arith, c.loop.invariant.each, c.loop-test.true)) c.loop.invariant.read end.1 end.0

pub returns-then-byte-eq10-clause-front : goal.returns-then-byte-eq10-clause-front
returns-then-byte-eq10-clause-front g c =
    let had = g.R.Source.remaining c.loop.reader in
    let left = g.R.Source.remaining c.next_byte.new.reader in
    let read = of_some (IsAtEnd left × Consumes had left []) (λ byte. Consumes had left (byte ∷ [])) c.in-Ok.next c.in-Some.byte c.in-Ok.ensures.byte c.in-Some.is in
    subst (λ (text : List ℕ). IsFront (g.R.Source.remaining c.args.reader.now) (g.R.Source.remaining c.next_byte.new.reader) text) (sym {A = List ℕ} c.in_ok-push_byte.ensures.kept)
    (with_feed (g.R.Source.remaining c.args.reader.now) (g.R.Source.remaining c.loop.reader) (g.R.Source.remaining c.next_byte.new.reader) c.loop.line.items c.in-Some.byte
    (omega (arith, c.loop.invariant.each, c.loop-test.true)) c.loop.invariant.read read c.if-byte-eq10.true)

pub returns-clause-front : goal.returns-clause-front
returns-clause-front g c =
    as_long (g.R.Source.remaining c.args.reader.now) (g.R.Source.remaining c.loop.reader) c.loop.line.items
    (omega (arith, c.loop.invariant.each, c.loop-test.false, c.loop.auto.counter-end)) c.loop.invariant.read
