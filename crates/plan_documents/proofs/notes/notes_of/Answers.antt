use Rattle.plan_documents.proofs.notes.notes_of.Goals as goal

pub returns : goal.returns
returns c = (c.in_ok-plain.plain, c.in_ok-plain.ensures.plain, c.in_ok-note_line.ensures)
