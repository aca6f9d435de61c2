use Rattle.std.proofs.Common.{ap, sym, ◌∙◌}
use Rattle.plan_desk.proofs.KeptLemmas.{middle_is}
use Rattle.plan_desk.proofs.file_keys.FileKeyHash.hash.Goals as goal

pub returns : goal.returns
returns g c =
    c.write.ensures
    ∙ ap (g.H.Hasher.write c.args.state.now)
    (middle_is c.args.self.now.body.items c.deref.result.now c.len.result c.min.result c.deref.ensures.value (c.len.ensures ∙ sym c.deref.ensures.len) c.min.ensures)
