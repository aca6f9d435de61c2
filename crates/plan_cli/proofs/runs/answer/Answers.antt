use Rattle.std.proofs.Common.{List, ℕ, Err, sym, subst}
use Rattle.std.proofs.lemmas.Result.{err_from_is_err_and}
use Rattle.plan_cli.specs.Tasks.{RefusesRead, ShowsRead}
use Rattle.plan_cli.proofs.ListTaskLemmas.{read_front, refused_front}
use Rattle.plan_cli.proofs.RunLemmas.{writes_known, reads_front, sent_writes, refused_writes}
use Rattle.plan_cli.proofs.runs.answer.Goals as goal

pub returns-clause-text : goal.returns-clause-text
returns-clause-text g c =
    let file = c.deref.result.now in
    let task = c.args.task in
    let rows = c.args.rows in
    let taken = g.W.Sink.taken c.args.writer.now in
    let after = g.W.Sink.taken c.write_text.new.writer in
    let made = subst (λ (bytes : List ℕ). ShowsRead rows task file bytes) (sym c.deref-3.ensures.value) c.in_ok-text.ensures.made in
    let written = sent_writes (ShowsRead rows task file) (RefusesRead task file) c.deref-3.result.now taken after c.write_text.result made c.write_text.ensures.sent in
    writes_known (ShowsRead rows task) (RefusesRead task) (g.R.Source.remaining c.args.reader.now) c.in_ok-file.file.items file taken after c.write_text.result
    (read_front task rows) (refused_front task) c.deref.ensures.value c.in_ok-file.ensures.bytes written

pub returns-clause-front : goal.returns-clause-front
returns-clause-front g c =
    let file = c.deref.result.now in
    let task = c.args.task in
    let rows = c.args.rows in
    let taken = g.W.Sink.taken c.args.writer.now in
    let after = g.W.Sink.taken c.write_text.new.writer in
    let made = subst (λ (bytes : List ℕ). ShowsRead rows task file bytes) (sym c.deref-3.ensures.value) c.in_ok-text.ensures.made in
    let written = sent_writes (ShowsRead rows task file) (RefusesRead task file) c.deref-3.result.now taken after c.write_text.result made c.write_text.ensures.sent in
    reads_front (ShowsRead rows task) (RefusesRead task) (g.R.Source.remaining c.args.reader.now) (g.R.Source.remaining c.read_file.new.reader) c.in_ok-file.file.items file
    taken after c.write_text.result c.deref.ensures.value c.in_ok-file.ensures.short c.in_ok-file.ensures.bytes c.in_ok-file.ensures.consumed written

pub returns-in_err-text-clause-text : goal.returns-in_err-text-clause-text
returns-in_err-text-clause-text g c =
    let file = c.deref.result.now in
    let task = c.args.task in
    let rows = c.args.rows in
    let taken = g.W.Sink.taken c.args.writer.now in
    let e = c.in_err-text.field-0.0 in
    let refused = refused_writes (ShowsRead rows task file) (RefusesRead task file) taken e c.in_err-text.ensures.refused in
    let error = err_from_is_err_and c.from_residual-in_err-text.result c.from_residual-in_err-text.ensures.1 in
    rw (error.1, error.2) (writes_known (ShowsRead rows task) (RefusesRead task) (g.R.Source.remaining c.args.reader.now) c.in_ok-file.file.items file taken taken (Err e)
    (read_front task rows) (refused_front task) c.deref.ensures.value c.in_ok-file.ensures.bytes refused)

pub returns-in_err-text-clause-front : goal.returns-in_err-text-clause-front
returns-in_err-text-clause-front g c =
    let file = c.deref.result.now in
    let task = c.args.task in
    let rows = c.args.rows in
    let taken = g.W.Sink.taken c.args.writer.now in
    let e = c.in_err-text.field-0.0 in
    let refused = refused_writes (ShowsRead rows task file) (RefusesRead task file) taken e c.in_err-text.ensures.refused in
    let error = err_from_is_err_and c.from_residual-in_err-text.result c.from_residual-in_err-text.ensures.1 in
    rw (error.1, error.2) (reads_front (ShowsRead rows task) (RefusesRead task) (g.R.Source.remaining c.args.reader.now) (g.R.Source.remaining c.read_file.new.reader) c.in_ok-file.file.items file
    taken taken (Err e) c.deref.ensures.value c.in_ok-file.ensures.short c.in_ok-file.ensures.bytes c.in_ok-file.ensures.consumed refused)
