use Rattle.std.proofs.Common.{rules, ◌∙◌, ◌<◌, List, ℕ, length, take, map, vec_items, subst, OnOk}
use Rattle.std.specs.Prelude.{IsErrOf}
use Rattle.std.proofs.lemmas.List.{length-map}
use Rattle.std.specs.Io.KnownBytes.{Appends}
use Rattle.plan_door.proofs.ResultLemmas.{mapped}
use Rattle.plan_door.specs.declared.fault.ServeFault.TheVariants.{Output}
use Rattle.plan_door.specs.ReplayRun.{AreAnswered, AreAnsweredInPart}
use Rattle.plan_door.proofs.ReplayLemmas.{served_each}
use Rattle.plan_door.proofs.replay.replay_run.Goals as goal

pub returns-clause-ok : goal.returns-clause-ok
returns-clause-ok g c =
    let out = c.in-Ok.ensures.ok in
    let taken = g.W.Sink.taken c.args.writer.now in
    let after = g.W.Sink.taken c.write_whole.new.writer in
    let written = c.write_whole.ensures.written in
    mapped c.write_whole.result c.map_err.result _ (λ told. OnOk told (AreAnswered (length c.args.conns.now) taken after)) c.map_err.ensures.cases
    (λ done is. (
      out.0,
      served_each g.B.Book.shelf c.args.office.now c.responses.new.office (map vec_items c.args.conns.now) out.0 out.1 ∙ length-map c.args.conns.now vec_items,
      subst (λ (text : List ℕ). Appends taken after text) (c.deref.ensures.value ∙ out.2) (search rules),
    ))
    (λ error fault is learnt. tt)

pub returns-clause-part : goal.returns-clause-part
returns-clause-part g c =
    let out = c.in-Ok.ensures.ok in
    let taken = g.W.Sink.taken c.args.writer.now in
    let after = g.W.Sink.taken c.write_whole.new.writer in
    let cut = c.write_whole.ensures.part in
    mapped c.write_whole.result c.map_err.result _ (λ told. IsErrOf told Output → AreAnsweredInPart (length c.args.conns.now) taken after) c.map_err.ensures.cases
    (λ done is. λ failed. absurd (search rules))
    (λ error fault is learnt. λ failed.
    let part = subst (λ (text : List ℕ). (error.sent < length text) × Appends taken after (take error.sent text))
    (c.deref.ensures.value ∙ out.2) (search rules) in (
      out.0,
      error.sent,
      served_each g.B.Book.shelf c.args.office.now c.responses.new.office (map vec_items c.args.conns.now) out.0 out.1 ∙ length-map c.args.conns.now vec_items,
      part.0,
      part.1,
    ))
